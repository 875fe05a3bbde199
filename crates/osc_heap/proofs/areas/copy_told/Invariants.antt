-- The areas so far are told alike, and so many pages are told of each.
use Rattle.std.proofs.Common.{◌≡◌, ◌<◌, ℕ, slice_index_or}
use Rattle.osc_heap.specs.declared.page_sets.PageSets.{PageSets}
use Rattle.osc_heap.specs.Layout.{AreTold}
use Rattle.osc_heap.proofs.areas.copy_told.Given as goal

abbrev pub invariant-loop-i : goal.invariant-loop-i
invariant-loop-i l = record {
  told : AreTold l.frames l.into.items;
  each : (area : ℕ) (d : PageSets) → area < l.i → slice_index_or l.into.items area d ≡ slice_index_or l.told area d;
}
