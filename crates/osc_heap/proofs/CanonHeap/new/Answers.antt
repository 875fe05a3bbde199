-- The areas that were made are free, and the pages have room for all frames.
use Rattle.std.proofs.Common.{arith}
use Rattle.std.specs.Vec.{vec_capacity}
use Rattle.osc_heap.proofs.Tells.{none_told}
use Rattle.osc_heap.proofs.Whole.{empty_parts, empty_view}
use Rattle.osc_heap.proofs.CanonHeap.new.Goals as goal

pub invariant_of-result : goal.invariant_of-result
invariant_of-result c =
    let room = c.in_ok-pages.ensures.room in
    record {
      parts = rw c.in_ok-pages.ensures.none (empty_parts c.args.frames c.in_ok-areas.areas (vec_capacity c.in_ok-pages.pages.rest) c.requires c.in_ok-areas.ensures (omega arith));
      tell = none_told c.args.frames c.in_ok-areas.areas c.in_ok-told.told.items c.in_ok-areas.ensures.free c.in_ok-told.ensures;
      held = c.in_ok-pages.ensures.held;
      table = c.in_ok-pages.ensures.table;
    }

pub returns : goal.returns
returns c =
    let room = c.in_ok-pages.ensures.room in
    rw c.in_ok-pages.ensures.none
    (empty_view c.args.frames c.in_ok-areas.areas c.in_ok-areas.ensures, (empty_parts c.args.frames c.in_ok-areas.areas (vec_capacity c.in_ok-pages.pages.rest) c.requires c.in_ok-areas.ensures (omega arith)).is_heap)
