-- The process stands in its machine.
use Rattle.osc_process.specs.Stands.{Stands}
use Rattle.osc_process.proofs.tests.leaf_table_goes_with_its_last_page.Given as goal

abbrev pub invariant-loop-i : goal.invariant-loop-i
invariant-loop-i g l = Stands l.m.config l.m.process l.m.regions l.m.frames l.m.jobs
