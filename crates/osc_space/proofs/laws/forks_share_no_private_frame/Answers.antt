-- The law, proved of the definitions.
use Rattle.osc_space.proofs.ForkLawProofs.{forks_apart}
use Rattle.osc_space.proofs.laws.forks_share_no_private_frame.Goals as goal

pub returns : goal.returns
returns c = forks_apart
