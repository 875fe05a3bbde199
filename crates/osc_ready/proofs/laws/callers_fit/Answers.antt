-- The law, proved of the definitions.
use Rattle.osc_ready.proofs.Found.{callers_fit}
use Rattle.osc_ready.proofs.laws.callers_fit.Goals as goal

pub returns : goal.returns
returns c = callers_fit
