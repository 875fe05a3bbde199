-- The pieces from here on are still to be counted.
use Rattle.std.proofs.Common.{◌≡◌, ◌≤◌, ◌+◌, ◌-◌}
use Rattle.osc_paging.specs.KeptTables.{missing}
use Rattle.osc_tables.proofs.needs.missing.Given as goal

abbrev pub invariant-loop-i : goal.invariant-loop-i
invariant-loop-i l = record {
  left : l.total + missing l.tables l.level (l.from + l.i) (l.count - l.i) ≡ missing l.tables l.level l.from l.count;
  few : l.total ≤ l.i;
}
