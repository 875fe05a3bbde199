-- No job is left.
use Rattle.std.proofs.Common.{drop, sym, ◌∙◌}
use Rattle.osc_kernel.proofs.Stepping.{no_first}
use Rattle.osc_kernel.proofs.test_world.begin.Goals as goal

pub begin-requires-clause-jobs : goal.begin-requires-clause-jobs
begin-requires-clause-jobs g c =
    no_first (drop c.match-matches.w-inside.0.0.state.value.done c.match-matches.w-inside.0.0.state.value.jobs.pushed) (sym c.next_job.ensures.next ∙ c.in-None.is)
