-- The blocks of the objects so far.
use Rattle.std.proofs.Common.{◌≡◌, ◌≤◌, take}
use Rattle.std.specs.Vec.{vec_len, vec_capacity}
use Rattle.osc_process.specs.Given.{blocks_of}
use Rattle.osc_process.proofs.given.push_blocks.Given as goal

abbrev pub invariant-loop-object : goal.invariant-loop-object
invariant-loop-object l = record {
  blocks : l.blocks.items ≡ blocks_of l.marks.objects (take l.object-index l.objects);
  few : vec_len l.blocks ≤ l.object-index;
  capacity : vec_capacity l.fn.blocks ≤ vec_capacity l.blocks;
}
