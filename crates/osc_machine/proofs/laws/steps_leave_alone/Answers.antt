-- The laws, proved of the definitions.
use Rattle.osc_machine.proofs.StepLaws.{others_stay, one_thing_changes, sizes_stay}
use Rattle.osc_machine.proofs.laws.steps_leave_alone.Goals as goal

pub returns-clause-thing : goal.returns-clause-thing
returns-clause-thing c = one_thing_changes

pub returns-clause-others : goal.returns-clause-others
returns-clause-others c = others_stay

pub returns-clause-sizes : goal.returns-clause-sizes
returns-clause-sizes c = sizes_stay
