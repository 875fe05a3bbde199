-- The law, proved of the definitions.
use Rattle.osc_caches.proofs.ShowSteps.{steps_keep_showing, stores_show}
use Rattle.osc_caches.proofs.laws.steps_keep_showing.Goals as goal

pub returns-clause-steps : goal.returns-clause-steps
returns-clause-steps c = steps_keep_showing

pub returns-clause-stores : goal.returns-clause-stores
returns-clause-stores c = stores_show
