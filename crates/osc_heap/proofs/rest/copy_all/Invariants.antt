-- The pages so far are copied.
use Rattle.std.proofs.Common.{◌≡◌, ◌≤◌, map, take}
use Rattle.std.specs.Vec.{vec_len, vec_capacity}
use Rattle.osc_slot.specs.Heap.{rename}
use Rattle.osc_heap.proofs.rest.copy_all.Given as goal

abbrev pub invariant-loop-page : goal.invariant-loop-page
invariant-loop-page l = record {
  copied : l.into.items ≡ map (rename l.names) (take l.page-index l.pages);
  len : vec_len l.into ≡ l.page-index;
  room : vec_capacity l.fn.into ≤ vec_capacity l.into;
}
