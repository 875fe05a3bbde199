-- The heap and the frames agree.
use Rattle.osc_slot.specs.Heap.{FramesAgree}
use Rattle.osc_heap.proofs.tests.alternate.Given as goal

abbrev pub invariant-loop-number : goal.invariant-loop-number
invariant-loop-number g l = FramesAgree l.heap l.frames
