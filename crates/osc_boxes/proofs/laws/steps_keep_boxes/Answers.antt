-- The law, proved of the definitions.
use Rattle.osc_boxes.proofs.BoxSteps.{steps_keep_boxes}
use Rattle.osc_boxes.proofs.laws.steps_keep_boxes.Goals as goal

pub returns : goal.returns
returns c = steps_keep_boxes
