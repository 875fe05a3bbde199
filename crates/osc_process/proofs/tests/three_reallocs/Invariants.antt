-- The process stands in its machine.
use Rattle.osc_process.specs.Stands.{Stands}
use Rattle.osc_process.proofs.tests.three_reallocs.Given as goal

abbrev pub invariant-loop-old : goal.invariant-loop-old
invariant-loop-old g l = Stands l.m.config l.m.process l.m.regions l.m.frames l.m.jobs

abbrev pub invariant-loop-pointer : goal.invariant-loop-pointer
invariant-loop-pointer g l = Stands l.m.config l.m.process l.m.regions l.m.frames l.m.jobs
