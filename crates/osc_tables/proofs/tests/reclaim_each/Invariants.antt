-- The frames stay taken.
use Rattle.osc_tables.specs.Calls.{HasTaken}
use Rattle.osc_tables.proofs.tests.reclaim_each.Given as goal

abbrev pub invariant-loop-leaf : goal.invariant-loop-leaf
invariant-loop-leaf g l = HasTaken l.tables l.frames
