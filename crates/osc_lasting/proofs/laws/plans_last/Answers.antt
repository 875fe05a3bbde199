-- The law, proved of the definitions.
use Rattle.osc_lasting.proofs.PlanSteps.{plans_last}
use Rattle.osc_lasting.proofs.laws.plans_last.Goals as goal

pub returns : goal.returns
returns c = plans_last
