-- The laws, proved of the definitions.
use Rattle.osc_machine.proofs.GrowthLaws.{grows_in_steps, grows_in_runs, grows_from_start}
use Rattle.osc_machine.proofs.laws.objects_grow.Goals as goal

pub returns-clause-steps : goal.returns-clause-steps
returns-clause-steps c = grows_in_steps

pub returns-clause-runs : goal.returns-clause-runs
returns-clause-runs c = grows_in_runs

pub returns-clause-start : goal.returns-clause-start
returns-clause-start c = grows_from_start
