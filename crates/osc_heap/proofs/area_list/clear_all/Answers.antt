-- The area at the loop's place is the next that is cleared.
use Rattle.std.proofs.Common.{rules, ◌<◌, length}
use Rattle.osc_heap.proofs.Whole.{cleared_next}
use Rattle.osc_heap.proofs.area_list.clear_all.Goals as goal

pub loop-i-preserved : goal.loop-i-preserved
loop-i-preserved c =
    let within : c.loop-i.i < length c.args.areas.now.items = search rules in
    cleared_next c.args.areas.now.items c.loop-i.areas.items c.loop-i.i c.index_mut.result.now c.clear.new.self c.loop-i.invariant within c.index_mut.ensures.value c.clear.ensures
