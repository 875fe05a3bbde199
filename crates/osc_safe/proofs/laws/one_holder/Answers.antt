-- The laws, proved of the definitions.
use Rattle.osc_safe.proofs.HoldingSteps.{steps_hold}
use Rattle.osc_safe.proofs.HoldingRuns.{runs_hold}
use Rattle.osc_safe.proofs.laws.one_holder.Goals as goal

pub returns-clause-steps : goal.returns-clause-steps
returns-clause-steps c = steps_hold

pub returns-clause-runs : goal.returns-clause-runs
returns-clause-runs c = runs_hold
