-- The blocks from here on are still to be given back.
use Rattle.std.proofs.Common.{◌≡◌, drop}
use Rattle.osc_slot.specs.Heap.{FramesAgree}
use Rattle.osc_process.specs.Returns.{AreSmall, blocks_given, heap_and_free}
use Rattle.osc_process.proofs.ending.give_blocks.Given as goal

abbrev pub invariant-loop-block : goal.invariant-loop-block
invariant-loop-block l = record {
  left : blocks_given (drop l.block-index l.blocks) (heap_and_free l.heap l.frames) ≡ blocks_given l.blocks (heap_and_free l.fn.heap l.fn.frames);
  small : AreSmall (drop l.block-index l.blocks);
  agree : FramesAgree l.heap l.frames;
}
