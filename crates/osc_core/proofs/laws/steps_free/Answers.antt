-- The law, proved of the definitions.
use Rattle.osc_core.proofs.Freeing.{steps_free}
use Rattle.osc_core.proofs.laws.steps_free.Goals as goal

pub returns : goal.returns
returns c = steps_free
