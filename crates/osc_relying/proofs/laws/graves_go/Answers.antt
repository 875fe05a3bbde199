-- The law, proved of the definitions.
use Rattle.osc_relying.proofs.Reached.{runs_reach_going}
use Rattle.osc_relying.proofs.laws.graves_go.Goals as goal

pub returns : goal.returns
returns c = runs_reach_going
