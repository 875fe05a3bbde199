use Rattle.std.proofs.Common.{arith, ◌∙◌}
use Rattle.osc_object.proofs.Applies.{spawned-is}
use Rattle.osc_object.proofs.state.State.spawn.Goals as goal

pub returns : goal.returns
returns c = λ hart process h p.
    let size = c.self.inside.threads.ok.0 in
    let count = c.len.ensures in
    let thread = c.in_ok-thread.ensures in
    c.in_ok-begin_thread.ensures
    ∙ spawned-is c.args.self.now c.args.number c.args.pid hart process h p c.args.target c.in_ok-thread.thread c.args.pc c.args.sp c.args.arg c.in_ok-hart.hart
    (rw (← c.self.view_is) (omega (arith, size, count, thread))) c.in_ok-hart.ensures
