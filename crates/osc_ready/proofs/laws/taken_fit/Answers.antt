-- The law, proved of the definitions.
use Rattle.osc_ready.proofs.Taken.{taken_fit}
use Rattle.osc_ready.proofs.laws.taken_fit.Goals as goal

pub returns : goal.returns
returns c = taken_fit
