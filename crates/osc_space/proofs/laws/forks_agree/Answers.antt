-- The law, proved of the definitions.
use Rattle.osc_space.proofs.ForkAgreeProofs.{forks_agree}
use Rattle.osc_space.proofs.laws.forks_agree.Goals as goal

pub returns : goal.returns
returns c = forks_agree
