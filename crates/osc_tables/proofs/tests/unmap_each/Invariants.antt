-- The frames stay taken.
use Rattle.osc_tables.specs.Calls.{HasTaken}
use Rattle.osc_tables.proofs.tests.unmap_each.Given as goal

abbrev pub invariant-loop-page : goal.invariant-loop-page
invariant-loop-page g l = HasTaken l.tables l.frames
