-- A committed call without a job gives its boxes, or the kernel.
use Rattle.std.proofs.Common.{arith}
use Rattle.osc_turns.proofs.Jobs.{none_next}
use Rattle.osc_turns.proofs.Begun.{not_quiet}
use Rattle.osc_turns.proofs.calls.place_on.Goals as goal

pub returns-in-Some-first_held-clause-fits : goal.returns-in-Some-first_held-clause-fits
returns-in-Some-first_held-clause-fits c =
    (c.in-Some-first_held.ensures.within, (none_next c.args.kernel.now.kernel (grind (arith, c.in_default.not-Some, c.next_job.ensures.next)), c.requires.commits))

pub returns-in-None-clause-fits : goal.returns-in-None-clause-fits
returns-in-None-clause-fits c =
    (none_next c.args.kernel.now.kernel (grind (arith, c.in_default.not-Some, c.next_job.ensures.next)), not_quiet c.args.kernel.now.kernel c.requires.commits)
