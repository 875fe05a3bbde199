-- The law, proved of the definitions.
use Rattle.osc_settled.proofs.Totals.{frames_add_up}
use Rattle.osc_settled.proofs.laws.frames_add_up.Goals as goal

pub returns : goal.returns
returns c = frames_add_up
