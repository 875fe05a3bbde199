-- The laws, proved of the definitions.
use Rattle.osc_records.proofs.Steps.{steps_record}
use Rattle.osc_records.proofs.Runs.{runs_record}
use Rattle.osc_records.proofs.laws.harts_are_recorded.Goals as goal

pub returns-clause-steps : goal.returns-clause-steps
returns-clause-steps c = steps_record

pub returns-clause-runs : goal.returns-clause-runs
returns-clause-runs c = runs_record
