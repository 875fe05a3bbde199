-- One job, and the end.
use Rattle.std.proofs.Common.{◌∙◌, sym, subst}
use Rattle.osc_core.proofs.Jobs.{Doing, begins_doing, writes_next, fewer, goes_on, words_end, kernel_end}
use Rattle.osc_core.proofs.laying.do_jobs.Goals as goal

pub loop-job-init : goal.loop-job-init
loop-job-init c = begins_doing c.args.kernel.now.kernel c.args.words.now c.requires

pub do_job-requires-clause-writes : goal.do_job-requires-clause-writes
do_job-requires-clause-writes c =
    writes_next c.args.kernel.now.kernel c.loop-job.kernel.kernel c.loop-job.kernel.kernel c.args.words.now c.loop-job.words c.in-Some.job c.loop-job.invariant (sym c.next_job.ensures.next ∙ c.in-Some.is)

pub loop-job-smaller : goal.loop-job-smaller
loop-job-smaller c =
    fewer c.args.kernel.now.kernel c.loop-job.kernel.kernel c.job_done.new.self.kernel c.args.words.now c.loop-job.words c.in-Some.job c.loop-job.invariant (sym c.next_job.ensures.next ∙ c.in-Some.is) c.job_done.ensures.kernel

pub loop-job-preserved : goal.loop-job-preserved
loop-job-preserved c =
    subst (λ ws. Doing c.args.kernel.now.kernel c.job_done.new.self.kernel c.args.words.now ws) (sym c.do_job.ensures)
    (goes_on c.args.kernel.now.kernel c.loop-job.kernel.kernel c.job_done.new.self.kernel c.args.words.now c.loop-job.words c.in-Some.job c.loop-job.invariant (sym c.next_job.ensures.next ∙ c.in-Some.is) c.job_done.ensures.kernel)

pub returns-clause-words : goal.returns-clause-words
returns-clause-words c =
    words_end c.args.kernel.now.kernel c.loop-job.kernel.kernel c.args.words.now c.loop-job.words c.loop-job.invariant (sym c.next_job.ensures.next ∙ c.in_default.is)

pub returns-clause-kernel : goal.returns-clause-kernel
returns-clause-kernel c =
    kernel_end c.args.kernel.now.kernel c.loop-job.kernel.kernel c.args.words.now c.loop-job.words c.loop-job.invariant (sym c.next_job.ensures.next ∙ c.in_default.is)
