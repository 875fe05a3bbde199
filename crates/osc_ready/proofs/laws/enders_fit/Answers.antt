-- The law, proved of the definitions.
use Rattle.osc_ready.proofs.Found.{enders_fit}
use Rattle.osc_ready.proofs.laws.enders_fit.Goals as goal

pub returns : goal.returns
returns c = enders_fit
