-- The law is the lemma.
use Rattle.osc_slot.proofs.Copying.{empty_is_heap}
use Rattle.osc_slot.proofs.laws.empty_is_heap.Goals as goal

pub returns : goal.returns
returns c = empty_is_heap
