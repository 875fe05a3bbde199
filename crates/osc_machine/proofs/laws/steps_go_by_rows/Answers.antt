-- The laws, proved of the definitions.
use Rattle.osc_machine.proofs.RowLaws.{turns_by_row, steps_by_row}
use Rattle.osc_machine.proofs.laws.steps_go_by_rows.Goals as goal

pub returns-clause-turns : goal.returns-clause-turns
returns-clause-turns c = turns_by_row

pub returns-clause-steps : goal.returns-clause-steps
returns-clause-steps c = steps_by_row
