-- The entries so far are copied.
use Rattle.std.proofs.Common.{◌≡◌, ◌≤◌, map, take}
use Rattle.std.specs.Vec.{vec_len, vec_capacity}
use Rattle.osc_heap.specs.Layout.{renamed}
use Rattle.osc_heap.proofs.page_table.copy_entries.Given as goal

abbrev pub invariant-loop-entry : goal.invariant-loop-entry
invariant-loop-entry l = record {
  copied : l.into.items ≡ map (renamed l.names) (take l.entry-index l.entries);
  count : vec_len l.into ≡ l.entry-index;
  room : vec_capacity l.fn.into ≤ vec_capacity l.into;
}
