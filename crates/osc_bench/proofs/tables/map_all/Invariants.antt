-- The tables stay open, and at most so many pages were mapped.
use Rattle.std.proofs.Common.{◌≡◌, ◌≤◌}
use Rattle.osc_tables.specs.Calls.{HasTaken, IsOpen}
use Rattle.osc_bench.proofs.tables.map_all.Given as goal

abbrev pub invariant-loop-page : goal.invariant-loop-page
invariant-loop-page l = record {
  levels : l.tables.top ≡ 2;
  opened : IsOpen l.tables;
  taken : HasTaken l.tables l.frames;
  room : l.jobs.room ≡ 7;
  few : l.sum ≤ l.page;
}
