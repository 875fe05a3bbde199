-- The law, proved of the definitions.
use Rattle.osc_parts.proofs.FreeReturn.{frees_fit}
use Rattle.osc_parts.proofs.laws.free_fits.Goals as goal

pub returns : goal.returns
returns c = frees_fit
