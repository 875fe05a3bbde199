-- The laws, proved of the definitions.
use Rattle.osc_machine.proofs.StepLaws.{nobody_stays, rest_stays, busy_keeps, taken_stays}
use Rattle.osc_machine.proofs.laws.stays_exactly.Goals as goal

pub returns-clause-nobody : goal.returns-clause-nobody
returns-clause-nobody c = nobody_stays

pub returns-clause-rest : goal.returns-clause-rest
returns-clause-rest c = rest_stays

pub returns-clause-busy : goal.returns-clause-busy
returns-clause-busy c = busy_keeps

pub returns-clause-taken : goal.returns-clause-taken
returns-clause-taken c = taken_stays
