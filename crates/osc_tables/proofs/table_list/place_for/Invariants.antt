-- The place is not yet passed.
use Rattle.std.proofs.Common.{◌≤◌, ◌-◌, length}
use Rattle.osc_tables.specs.Places.{table_place}
use Rattle.osc_tables.proofs.table_list.place_for.Given as goal

abbrev pub invariant-loop-low : goal.invariant-loop-low
invariant-loop-low l = record {
  from : l.low ≤ table_place l.piece l.tables;
  to : table_place l.piece l.tables ≤ l.high;
  within : l.high ≤ length l.tables;
}

abbrev pub decreases-loop-low : goal.decreases-loop-low
decreases-loop-low l = l.high - l.low
