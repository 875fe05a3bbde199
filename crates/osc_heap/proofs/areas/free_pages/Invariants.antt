-- The areas so far are told to hold no block.
use Rattle.std.proofs.Common.{◌≡◌, ◌<◌, ℕ, length, slice_index_or}
use Rattle.osc_heap.specs.declared.page_sets.PageSets.{PageSets}
use Rattle.osc_heap.specs.Layout.{room_at, page_count, no_block_on}
use Rattle.osc_heap.proofs.areas.free_pages.Given as goal

abbrev pub invariant-loop-area : goal.invariant-loop-area
invariant-loop-area l = record {
  count : length l.told.items ≡ l.area;
  each : (area : ℕ) (d : PageSets) → area < length l.told.items → slice_index_or l.told.items area d ≡ no_block_on (page_count l.frames (room_at area));
}
