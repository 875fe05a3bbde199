-- The end of a thread.
use Rattle.std.proofs.Common.{ap, ◌∙◌}
use Rattle.osc_calls.specs.Kernel.{is_last}
use Rattle.osc_kernel.specs.Inside.{kernel_of}
use Rattle.osc_kernel.proofs.Ends.{done_made}
use Rattle.osc_kernel.proofs.ending.plan_done.Goals as goal

pub returns-clause-made : goal.returns-clause-made
returns-clause-made c =
    let k = kernel_of c.args.state.now in
    c.end_thread.ensures.made
    ∙ done_made c.args.calling.now k c.args.value _ _ _ (c.is_last-is_last.ensures ∙ ap (is_last k.records) c.pid.ensures) c.thread.ensures c.leave_value.ensures
