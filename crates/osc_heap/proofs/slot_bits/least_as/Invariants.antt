-- The numbers that are left decide.
use Rattle.std.proofs.Common.{◌≡◌, ◌≤◌, ◌-◌}
use Rattle.osc_slot.specs.Least.{least}
use Rattle.osc_heap.specs.Layout.{has_as}
use Rattle.osc_heap.proofs.slot_bits.least_as.Given as goal

abbrev pub invariant-loop-at : goal.invariant-loop-at
invariant-loop-at l = record {
  at : l.at ≤ l.end;
  left : least (has_as l.words l.wanted) l.first l.count ≡ least (has_as l.words l.wanted) l.at (l.end - l.at);
}

abbrev pub decreases-loop-at : goal.decreases-loop-at
decreases-loop-at l = l.end - l.at
