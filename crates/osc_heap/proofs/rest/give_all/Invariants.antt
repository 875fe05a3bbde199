-- The pages that are left are still to be given back.
use Rattle.std.proofs.Common.{◌≡◌, drop}
use Rattle.osc_slot.specs.Heap.{give_back}
use Rattle.osc_heap.specs.Layout.{CanGiveBack}
use Rattle.osc_heap.proofs.rest.give_all.Given as goal

abbrev pub invariant-loop-page : goal.invariant-loop-page
invariant-loop-page l = record {
  given : give_back l.pages l.fn.frames ≡ give_back (drop l.page-index l.pages) l.frames;
  taken : CanGiveBack l.frames (drop l.page-index l.pages);
}
