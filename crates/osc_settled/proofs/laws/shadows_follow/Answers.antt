-- The law, proved of the definitions.
use Rattle.osc_settled.proofs.Shadows.{shadows_follow}
use Rattle.osc_settled.proofs.laws.shadows_follow.Goals as goal

pub returns : goal.returns
returns c = shadows_follow
