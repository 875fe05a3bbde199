-- The law, proved of the definitions.
use Rattle.osc_caches.proofs.Going.{plans_go}
use Rattle.osc_caches.proofs.laws.pages_go.Goals as goal

pub returns : goal.returns
returns c = plans_go
