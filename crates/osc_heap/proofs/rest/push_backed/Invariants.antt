-- The pages so far stand behind the others.
use Rattle.std.proofs.Common.{◌≡◌, ◌≤◌, ◌+◌, ◌-◌, [], ◌++◌}
use Rattle.std.specs.Vec.{vec_len, vec_capacity}
use Rattle.osc_slot.specs.Heap.{back}
use Rattle.osc_heap.proofs.rest.push_backed.Given as goal

abbrev pub invariant-loop-page : goal.invariant-loop-page
invariant-loop-page l = record {
  from : l.first ≤ l.page;
  to : l.page ≤ l.page-end;
  pages : l.pages.items ≡ l.fn.pages.items ++ (back (l.page - l.first) l.first (record { pages = []; free = l.fn.frames })).pages;
  free : l.frames ≡ (back (l.page - l.first) l.first (record { pages = []; free = l.fn.frames })).free;
  left : vec_len l.pages + (l.page-end - l.page) ≤ vec_capacity l.pages;
  room : vec_capacity l.fn.pages ≤ vec_capacity l.pages;
}
