-- The law, proved of the definitions.
use Rattle.osc_relying.proofs.ShutSteps.{steps_shut, runs_shut}
use Rattle.osc_relying.proofs.laws.calls_are_shut.Goals as goal

pub returns-clause-steps : goal.returns-clause-steps
returns-clause-steps c = steps_shut

pub returns-clause-runs : goal.returns-clause-runs
returns-clause-runs c = runs_shut
