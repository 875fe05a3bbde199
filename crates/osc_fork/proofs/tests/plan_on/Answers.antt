-- The parts of a fresh process agree.
use Rattle.std.proofs.Common.{◌≡◌}
use Rattle.osc_fork.proofs.Fresh.{fresh_agrees}
use Rattle.osc_fork.proofs.tests.plan_on.Goals as goal

pub plan_fork-requires-clause-agrees : goal.plan_fork-requires-clause-agrees
plan_fork-requires-clause-agrees c = rw (c.requires.tables, c.requires.marks, c.requires.heap) (fresh_agrees c.args.levels c.args.frames.now c.requires.frames c.requires.taken)
