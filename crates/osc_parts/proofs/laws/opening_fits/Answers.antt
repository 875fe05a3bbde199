-- The law, proved of the definitions.
use Rattle.osc_parts.proofs.OpenParts.{opening_fits}
use Rattle.osc_parts.proofs.laws.opening_fits.Goals as goal

pub returns : goal.returns
returns c = opening_fits
