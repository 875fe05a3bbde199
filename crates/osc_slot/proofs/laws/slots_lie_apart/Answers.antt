-- The law is the lemma.
use Rattle.osc_slot.proofs.Bounds.{apart}
use Rattle.osc_slot.proofs.laws.slots_lie_apart.Goals as goal

pub returns : goal.returns
returns c = apart
