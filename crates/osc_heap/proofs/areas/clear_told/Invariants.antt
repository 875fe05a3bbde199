-- The areas so far are told to hold no block, and so many pages are told of each.
use Rattle.std.proofs.Common.{◌≡◌, ◌<◌, ℕ, slice_index_or}
use Rattle.osc_heap.specs.declared.page_sets.PageSets.{PageSets}
use Rattle.osc_heap.specs.Layout.{AreTold, room_at, page_count, no_block_on}
use Rattle.osc_heap.proofs.areas.clear_told.Given as goal

abbrev pub invariant-loop-i : goal.invariant-loop-i
invariant-loop-i l = record {
  told : AreTold l.frames l.told.items;
  each : (area : ℕ) (d : PageSets) → area < l.i → slice_index_or l.told.items area d ≡ no_block_on (page_count l.frames (room_at area));
}
