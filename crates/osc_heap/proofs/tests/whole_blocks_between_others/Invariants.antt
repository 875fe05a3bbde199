-- The heap and the frames agree.
use Rattle.osc_slot.specs.Heap.{FramesAgree}
use Rattle.osc_heap.proofs.tests.whole_blocks_between_others.Given as goal

abbrev pub invariant-loop-start : goal.invariant-loop-start
invariant-loop-start g l = FramesAgree l.heap l.frames

abbrev pub invariant-loop-bytes : goal.invariant-loop-bytes
invariant-loop-bytes g l = FramesAgree l.heap l.frames
