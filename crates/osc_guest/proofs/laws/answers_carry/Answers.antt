-- The laws, proved of the definitions.
use Rattle.osc_guest.proofs.Shows.{done_shown, else_lost, touches_reach}
use Rattle.osc_guest.proofs.Carry.{carries}
use Rattle.osc_guest.specs.Carry.{InPages, InTables}
use Rattle.osc_guest.proofs.laws.answers_carry.Goals as goal

pub returns-clause-carries : goal.returns-clause-carries
returns-clause-carries c = λ pages tables. carries (InPages pages) (InTables tables)

pub returns-clause-done : goal.returns-clause-done
returns-clause-done c = done_shown

pub returns-clause-lost : goal.returns-clause-lost
returns-clause-lost c = else_lost

pub returns-clause-reached : goal.returns-clause-reached
returns-clause-reached c = λ pages tables. touches_reach (InPages pages) (InTables tables)
