-- What a call needs before it commits.
use Rattle.std.proofs.Common.{ap, sym, ◌∙◌}
use Rattle.osc_calls.specs.Begin.{boxes_where, first_step}
use Rattle.osc_calls.specs.Kernel.{is_last}
use Rattle.osc_kernel.specs.Inside.{kernel_of}
use Rattle.osc_kernel.proofs.beginning.first_step.Goals as goal

pub returns-in-Done-clause-begun : goal.returns-in-Done-clause-begun
returns-in-Done-clause-begun c = λ p at.
    c.boxes_where.ensures
    ∙ ap boxes_where (c.is_last.ensures ∙ ap (is_last c.args.state.now.records) c.pid-pid.ensures)
    ∙ ap (λ call. first_step c.args.calling.now p (kernel_of c.args.state.now) call) (sym c.in-Done.is)
