-- The law, proved of the definitions.
use Rattle.osc_ready.proofs.Found.{returners_fit}
use Rattle.osc_ready.proofs.laws.returners_fit.Goals as goal

pub returns : goal.returns
returns c = returners_fit
