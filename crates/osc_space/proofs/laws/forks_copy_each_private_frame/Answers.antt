-- The law, proved of the definitions.
use Rattle.osc_space.proofs.ForkLawProofs.{forks_copy_each}
use Rattle.osc_space.proofs.laws.forks_copy_each_private_frame.Goals as goal

pub returns : goal.returns
returns c = forks_copy_each
