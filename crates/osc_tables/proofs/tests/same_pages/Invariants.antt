-- At most so many pages are mapped.
use Rattle.std.proofs.Common.{◌≤◌}
use Rattle.osc_tables.proofs.tests.same_pages.Given as goal

abbrev pub invariant-loop-passed : goal.invariant-loop-passed
invariant-loop-passed g l = l.mapped ≤ l.passed
