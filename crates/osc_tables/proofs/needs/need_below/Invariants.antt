-- The levels below are still to be counted.
use Rattle.std.proofs.Common.{◌≡◌, ◌≤◌, ◌+◌, ◌*◌}
use Rattle.osc_paging.specs.KeptTables.{need_below}
use Rattle.osc_tables.proofs.needs.need_below.Given as goal

abbrev pub invariant-loop-level : goal.invariant-loop-level
invariant-loop-level l = record {
  left : l.total + need_below l.tables l.level l.first l.count ≡ need_below l.tables l.top l.first l.count;
  few : l.total + 68719476736 * l.level ≤ 68719476736 * l.top;
  level : l.level ≤ l.top;
}

abbrev pub decreases-loop-level : goal.decreases-loop-level
decreases-loop-level l = l.level
