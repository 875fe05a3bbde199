-- The tables stay open, and their frames taken.
use Rattle.osc_tables.specs.Calls.{HasTaken, IsOpen}
use Rattle.osc_tables.proofs.tests.toggle_in_strides.Given as goal

abbrev pub invariant-loop-step : goal.invariant-loop-step
invariant-loop-step g l = record {
  opened : IsOpen l.tables;
  taken : HasTaken l.tables l.frames;
}
