-- One page more is looked at.
use Rattle.std.proofs.Common.{◌≡◌, ◌<◌, ◌+◌, Some, arith, length}
use Rattle.osc_slot.specs.Heap.{frame_of}
use Rattle.osc_fork.proofs.Marks.{frame_small, one_more, found_one}
use Rattle.osc_fork.proofs.marking.mark_block.Goals as goal

pub bounds-names-frame : goal.bounds-names-frame
bounds-names-frame c =
    let e : frame_of c.args.heap.now.pages (c.args.first + c.loop-k.k) ≡ Some c.in-Some.frame = (let f = c.in-Some.ensures.frame in let k = c.from.ensures in cc) in
    let small = frame_small c.args.heap.now.frames c.args.heap.now.pages (c.args.first + c.loop-k.k) c.in-Some.frame c.in-Some.ensures.valid.frames_apart e in
    omega (arith, small, c.requires.size, c.loop-k.auto.names)

pub loop-k-preserved : goal.loop-k-preserved
loop-k-preserved c =
    let e : frame_of c.args.heap.now.pages (c.args.first + c.loop-k.k) ≡ Some c.in-Some.frame = (let f = c.in-Some.ensures.frame in let k = c.from.ensures in cc) in
    let small = frame_small c.args.heap.now.frames c.args.heap.now.pages (c.args.first + c.loop-k.k) c.in-Some.frame c.in-Some.ensures.valid.frames_apart e in
    let within : c.in-Some.frame < length c.loop-k.names = omega (arith, small, c.requires.size, c.loop-k.auto.names) in
    record {
      more = one_more c.args.heap.now.pages c.args.names.now c.loop-k.names (c.args.first + c.loop-k.k) c.in-Some.frame within e c.loop-k.invariant.more;
      found = found_one c.args.heap.now.pages c.args.first c.loop-k.k c.in-Some.frame c.loop-k.names within e c.loop-k.invariant.found;
    }
