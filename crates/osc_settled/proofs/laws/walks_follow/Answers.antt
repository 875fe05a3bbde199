-- The law, proved of the definitions.
use Rattle.osc_settled.proofs.Following.{walks_follow}
use Rattle.osc_settled.proofs.laws.walks_follow.Goals as goal

pub returns : goal.returns
returns c = walks_follow
