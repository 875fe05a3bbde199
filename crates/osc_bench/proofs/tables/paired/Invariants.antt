-- The tables stay open.
use Rattle.std.proofs.Common.{◌≡◌}
use Rattle.osc_tables.specs.Calls.{HasTaken, IsOpen}
use Rattle.osc_bench.proofs.tables.paired.Given as goal

abbrev pub invariant-rounds : goal.invariant-rounds
invariant-rounds l = (l.tables.top ≡ 2) × IsOpen l.tables × HasTaken l.tables l.frames × (l.jobs.room ≡ 7)
