-- The areas so far are free.
use Rattle.std.proofs.Common.{ℕ, ◌≡◌, ◌<◌, [], false, length, get_or, replicate}
use Rattle.osc_slot.specs.Areas.{slots_in}
use Rattle.osc_heap.specs.Layout.{room_at}
use Rattle.osc_heap.proofs.area_list.wide_areas.Given as goal

abbrev pub invariant-loop-area : goal.invariant-loop-area
invariant-loop-area l = record {
  count : length l.areas.items ≡ l.area;
  free : (at : ℕ) → at < l.area → get_or l.areas.items at [] ≡ replicate (slots_in l.frames (room_at at)) false;
}
