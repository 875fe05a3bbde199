-- The law, proved of the definitions.
use Rattle.osc_parts.proofs.ShareParts.{shares_fit}
use Rattle.osc_parts.proofs.laws.share_fits.Goals as goal

pub returns : goal.returns
returns c = shares_fit
