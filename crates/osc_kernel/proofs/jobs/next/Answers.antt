-- The next job.
use Rattle.std.proofs.Common.{sym, ◌∙◌}
use Rattle.osc_space.specs.WordLaws.{StaysInFrame}
use Rattle.osc_kernel.specs.Inside.{kernel_of}
use Rattle.osc_kernel.proofs.Stepping.{dropped_first}
use Rattle.osc_kernel.proofs.Showing.{if_some, next_stays}
use Rattle.osc_kernel.proofs.jobs.next.Goals as goal

pub returns-clause-next : goal.returns-clause-next
returns-clause-next c = c.get.ensures ∙ sym (dropped_first c.args.state.now.jobs.pushed c.args.state.now.done)

pub returns-clause-within : goal.returns-clause-within
returns-clause-within c = if_some c.get.result StaysInFrame (λ job e.
    next_stays (kernel_of c.args.state.now) job c.requires.sound.fits (dropped_first c.args.state.now.jobs.pushed c.args.state.now.done ∙ (sym c.get.ensures ∙ e)))
