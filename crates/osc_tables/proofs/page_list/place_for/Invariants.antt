-- The place is not yet passed.
use Rattle.std.proofs.Common.{◌≤◌, ◌-◌, length}
use Rattle.osc_tables.specs.Slots.{slot_place}
use Rattle.osc_tables.proofs.page_list.place_for.Given as goal

abbrev pub invariant-loop-low : goal.invariant-loop-low
invariant-loop-low l = record {
  from : l.low ≤ slot_place l.number l.slots;
  to : slot_place l.number l.slots ≤ l.high;
  within : l.high ≤ length l.slots;
}

abbrev pub decreases-loop-low : goal.decreases-loop-low
decreases-loop-low l = l.high - l.low
