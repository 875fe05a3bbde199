-- The law, proved of the definitions.
use Rattle.osc_core.proofs.Endings.{ends_fit}
use Rattle.osc_core.proofs.laws.ends_fit.Goals as goal

pub returns : goal.returns
returns c = ends_fit
