-- The law, proved of the definitions.
use Rattle.osc_caches.proofs.StartAgrees.{starts_stand}
use Rattle.osc_caches.proofs.laws.starts_stand.Goals as goal

pub returns : goal.returns
returns c = starts_stand
