-- The law, proved of the definitions.
use Rattle.osc_settled.proofs.Following.{parts_hold}
use Rattle.osc_settled.proofs.laws.parts_hold.Goals as goal

pub returns : goal.returns
returns c = parts_hold
