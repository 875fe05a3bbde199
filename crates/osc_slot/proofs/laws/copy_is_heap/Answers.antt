-- The law is the lemma.
use Rattle.osc_slot.proofs.Copying.{copy_is_heap}
use Rattle.osc_slot.proofs.laws.copy_is_heap.Goals as goal

pub returns : goal.returns
returns c = copy_is_heap
