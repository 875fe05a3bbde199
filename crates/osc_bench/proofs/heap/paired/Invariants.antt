-- The heap and the frames agree.
use Rattle.osc_slot.specs.Heap.{FramesAgree}
use Rattle.osc_bench.proofs.heap.paired.Given as goal

abbrev pub invariant-loop-number : goal.invariant-loop-number
invariant-loop-number l = FramesAgree l.heap l.frames
