-- The law, proved of the definitions.
use Rattle.osc_settled.proofs.Starting.{starts_fit}
use Rattle.osc_settled.proofs.laws.starts_fit.Goals as goal

pub returns : goal.returns
returns c = starts_fit
