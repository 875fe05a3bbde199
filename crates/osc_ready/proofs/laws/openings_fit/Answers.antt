-- The law, proved of the definitions.
use Rattle.osc_ready.proofs.Opening.{openings_fit}
use Rattle.osc_ready.proofs.laws.openings_fit.Goals as goal

pub returns : goal.returns
returns c = openings_fit
