-- What is past `len` is gaps.
use Rattle.std.proofs.Common.{◌≡◌, ◌≤◌, take, length}
use Rattle.osc_tables.specs.Slots.{pages_in}
use Rattle.osc_tables.proofs.page_list.drop_last_gaps.Given as goal

abbrev pub invariant-loop-len : goal.invariant-loop-len
invariant-loop-len l = record {
  pages : pages_in (take l.len l.slots.items) ≡ pages_in l.slots.items;
  within : l.len ≤ length l.slots.items;
}

abbrev pub decreases-loop-len : goal.decreases-loop-len
decreases-loop-len l = l.len
