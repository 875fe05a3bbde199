-- The law, proved of the definitions.
use Rattle.osc_parts.proofs.ForkParts.{forks_fit}
use Rattle.osc_parts.proofs.laws.fork_fits.Goals as goal

pub returns : goal.returns
returns c = forks_fit
