-- The entries that are left are still to be given back.
use Rattle.std.proofs.Common.{◌≡◌, ◌+◌, [], drop}
use Rattle.osc_slot.specs.Areas.{first_page}
use Rattle.osc_slot.specs.Heap.{give_back}
use Rattle.osc_heap.specs.Layout.{CanGiveBack, pages_from}
use Rattle.osc_heap.proofs.pages.give_table.Given as goal

abbrev pub invariant-loop-at : goal.invariant-loop-at
invariant-loop-at l = record {
  given : give_back (pages_from first_page l.table []) l.fn.frames ≡ give_back (pages_from (first_page + l.at) (drop l.at l.table) []) l.frames;
  taken : CanGiveBack l.frames (pages_from (first_page + l.at) (drop l.at l.table) []);
}
