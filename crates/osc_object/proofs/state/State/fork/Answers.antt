use Rattle.std.proofs.Common.{arith, ◌∙◌}
use Rattle.osc_object.proofs.Applies.{forked-is}
use Rattle.osc_object.proofs.state.State.fork.Goals as goal

pub returns : goal.returns
returns c = λ hart process h p.
    let size = c.self.inside.processes.ok.0 in
    let count = c.len.ensures in
    let child = c.in_ok-child.ensures in
    let there = rw (← c.self.view_is) at h in
    let of = rw (← c.self.view_is) at p in
    c.in_ok-begin_child.ensures
    ∙ forked-is c.args.self.now c.args.number c.args.pid hart process h p c.args.target c.in_ok-child.child c.in_ok-hart.hart c.in_ok-process.process
    (rw (← c.self.view_is) (omega (arith, size, count, child)))
    (c.in_ok-hart.ensures hart (rw c.deref.ensures.value there)) (c.in_ok-process.ensures process (rw c.deref-2.ensures.value of))
