-- The laws, proved of the definitions.
use Rattle.osc_safe.proofs.StandingSteps.{steps_stand}
use Rattle.osc_safe.proofs.StandingRuns.{runs_stand}
use Rattle.osc_safe.proofs.laws.kernel_fits.Goals as goal

pub returns-clause-steps : goal.returns-clause-steps
returns-clause-steps c = steps_stand

pub returns-clause-runs : goal.returns-clause-runs
returns-clause-runs c = runs_stand
