-- The law, proved of the definitions.
use Rattle.osc_parts.proofs.EndParts.{ends_fit}
use Rattle.osc_parts.proofs.laws.end_fits.Goals as goal

pub returns : goal.returns
returns c = ends_fit
