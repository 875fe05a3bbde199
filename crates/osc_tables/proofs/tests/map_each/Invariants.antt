-- The tables stay open, and their frames taken.
use Rattle.std.proofs.Common.{◌≤◌, ◌+◌}
use Rattle.osc_tables.specs.Calls.{IsOpen, HasTaken}
use Rattle.osc_tables.proofs.tests.map_each.Given as goal

abbrev pub invariant-loop-page : goal.invariant-loop-page
invariant-loop-page g l = record {
  opened : IsOpen l.tables;
  taken : HasTaken l.tables l.frames;
  frame : l.frame ≤ 40 + l.page-index;
}
