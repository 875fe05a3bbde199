-- The law, proved of the definitions.
use Rattle.osc_ready.proofs.Found.{askers_fit}
use Rattle.osc_ready.proofs.laws.askers_fit.Goals as goal

pub returns : goal.returns
returns c = askers_fit
