-- The law is the lemma.
use Rattle.osc_slot.proofs.Bounds.{in_area}
use Rattle.osc_slot.proofs.laws.slots_lie_in_areas.Goals as goal

pub returns : goal.returns
returns c = in_area
