-- The jobs that are left make of the words what all jobs do.
use Rattle.std.proofs.Common.{length}
use Rattle.osc_core.proofs.Jobs.{Doing}
use Rattle.osc_core.proofs.laying.do_jobs.Given as goal

abbrev pub invariant-loop-job : goal.invariant-loop-job
invariant-loop-job l = Doing l.fn.kernel.kernel l.kernel.kernel l.fn.words l.words

abbrev pub decreases-loop-job : goal.decreases-loop-job
decreases-loop-job l = length l.kernel.kernel.jobs
