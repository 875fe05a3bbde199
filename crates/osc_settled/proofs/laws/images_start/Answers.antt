-- The law, proved of the definitions.
use Rattle.osc_settled.proofs.ImageStart.{images_start}
use Rattle.osc_settled.proofs.laws.images_start.Goals as goal

pub returns : goal.returns
returns c = images_start
