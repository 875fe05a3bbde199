-- The law, proved of the definitions.
use Rattle.osc_caches.proofs.KeptShown.{kept_shown}
use Rattle.osc_caches.proofs.laws.kept_shown.Goals as goal

pub returns : goal.returns
returns c = kept_shown
