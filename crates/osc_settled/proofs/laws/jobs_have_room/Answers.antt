-- The law, proved of the definitions.
use Rattle.osc_settled.proofs.Taking.{jobs_have_room}
use Rattle.osc_settled.proofs.laws.jobs_have_room.Goals as goal

pub returns : goal.returns
returns c = jobs_have_room
