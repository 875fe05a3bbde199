-- The area at the loop's place is the next that is copied.
use Rattle.std.proofs.Common.{arith, ap, ◌∙◌, get_or}
use Rattle.osc_heap.proofs.Whole.{copied_next, next_size}
use Rattle.osc_heap.proofs.area_list.copy_all.Goals as goal

pub copy_from-requires : goal.copy_from-requires
copy_from-requires c =
    next_size c.args.frames c.args.areas.now c.args.into.now.items c.loop-i.i c.index_mut.result.now c.index-areas-i.result c.requires.lengths c.requires.sizes.0 c.requires.sizes.1 c.loop-i-test.true
    (c.index_mut.ensures.value ∙ ap (λ ys. get_or ys c.loop-i.i c.index_mut.result.now) c.loop-i.invariant) c.index-areas-i.is

pub loop-i-preserved : goal.loop-i-preserved
loop-i-preserved c =
    let within = c.loop-i-test.true in
    let to = c.requires.lengths in
    copied_next c.args.areas.now c.args.into.now.items c.loop-i.into.items c.loop-i.i c.index-areas-i.result c.copy_from.new.self c.loop-i.invariant c.loop-i-test.true (omega arith) c.index-areas-i.is c.copy_from.ensures
