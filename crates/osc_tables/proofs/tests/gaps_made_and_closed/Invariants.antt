-- The tables stay open, and their frames taken.
use Rattle.osc_tables.specs.Calls.{HasTaken, IsOpen}
use Rattle.osc_tables.proofs.tests.gaps_made_and_closed.Given as goal

abbrev pub invariant-loop-stride : goal.invariant-loop-stride
invariant-loop-stride g l = record {
  opened : IsOpen l.tables;
  taken : HasTaken l.tables l.frames;
}
