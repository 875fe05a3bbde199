-- The tables stay open, and at most so many pages were unmapped.
use Rattle.std.proofs.Common.{◌≡◌, ◌≤◌}
use Rattle.osc_tables.specs.Calls.{HasTaken, IsOpen}
use Rattle.osc_bench.proofs.tables.unmap_all.Given as goal

abbrev pub invariant-loop-number : goal.invariant-loop-number
invariant-loop-number l = record {
  levels : l.tables.top ≡ 2;
  opened : IsOpen l.tables;
  taken : HasTaken l.tables l.frames;
  room : l.jobs.room ≡ 7;
  few : l.sum ≤ l.number;
}
