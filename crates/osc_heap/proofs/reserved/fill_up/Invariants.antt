-- There is a place for each turn so far, and each place reads as before.
use Rattle.std.proofs.Common.{◌≡◌, ◌≤◌, ℕ, length, max, get_or}
use Rattle.std.specs.Vec.{vec_len, vec_capacity}
use Rattle.osc_heap.proofs.reserved.fill_up.Given as goal

abbrev pub invariant-loop-at : goal.invariant-loop-at
invariant-loop-at g l = record {
  same : (at : ℕ) → get_or l.items.items at l.unset ≡ get_or l.fn.items.items at l.unset;
  filled : vec_len l.items ≡ l._at;
  from : vec_len l.fn.items ≤ l._at;
  to : l._at ≤ max l.count (vec_len l.fn.items);
  room : vec_capacity l.fn.items ≤ vec_capacity l.items;
}
