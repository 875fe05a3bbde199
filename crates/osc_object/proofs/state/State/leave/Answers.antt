use Rattle.std.proofs.Common.{◌∙◌}
use Rattle.osc_object.proofs.Applies.{left-is}
use Rattle.osc_object.proofs.state.State.leave.Goals as goal

pub returns : goal.returns
returns c = λ hart process h p.
    let named = rw c.deref.ensures.value at c.thread_of-thread.ensures in
    let lived = rw c.deref-2.ensures.value at c.status_in-status.ensures in
    c.change_by_leave.ensures
    ∙ left-is c.args.self.now c.args.number c.args.pid hart process h p c.thread_of-thread.result c.status_in-status.result c.args.value
    (rw (← c.self.view_is) named) (rw (← c.self.view_is) lived)
