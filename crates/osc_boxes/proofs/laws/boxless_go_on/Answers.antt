-- The law, proved of the definitions.
use Rattle.osc_boxes.proofs.GoingOn.{begun_go_on, planned_go_on}
use Rattle.osc_boxes.proofs.laws.boxless_go_on.Goals as goal

pub returns-clause-begun : goal.returns-clause-begun
returns-clause-begun c = begun_go_on

pub returns-clause-planned : goal.returns-clause-planned
returns-clause-planned c = planned_go_on
