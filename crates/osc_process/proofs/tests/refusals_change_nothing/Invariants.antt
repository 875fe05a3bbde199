-- The process stands in its machine.
use Rattle.osc_process.specs.Stands.{Stands}
use Rattle.osc_process.proofs.tests.refusals_change_nothing.Given as goal

abbrev pub invariant-loop-at : goal.invariant-loop-at
invariant-loop-at g l = Stands l.m.config l.m.process l.m.regions l.m.frames l.m.jobs
