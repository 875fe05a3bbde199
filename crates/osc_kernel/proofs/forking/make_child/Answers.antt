-- A child is made.
use Rattle.std.proofs.Common.{◌++◌, ap, sym, ◌∙◌}
use Rattle.osc_space.specs.Fork.{fork_plan}
use Rattle.osc_calls.specs.Kernel.{Process}
use Rattle.osc_calls.specs.ProcessPlans.{child_process}
use Rattle.osc_settled.proofs.Lists.{some_same}
use Rattle.osc_kernel.proofs.Forks.{parent_at, parts, not_refused, last_unused, child_sized}
use Rattle.osc_kernel.proofs.forking.make_child.Goals as goal

pub fork_into-requires-clause-parts : goal.fork_into-requires-clause-parts
fork_into-requires-clause-parts c =
    parts c.args.state.now c.args.calling.now c.requires.can c.requires.granted c.index-parent.result.now
    (parent_at c.args.state.now c.args.calling.now _ _ _ c.requires.can c.pid-pid.ensures c.index-parent.ensures)

pub fork_into-requires-clause-granted : goal.fork_into-requires-clause-granted
fork_into-requires-clause-granted c =
    not_refused c.args.state.now c.args.calling.now c.requires.can c.requires.granted c.index-parent.result.now
    (parent_at c.args.state.now c.args.calling.now _ _ _ c.requires.can c.pid-pid.ensures c.index-parent.ensures)

pub fork_into-requires-clause-unused : goal.fork_into-requires-clause-unused
fork_into-requires-clause-unused c =
    last_unused c.args.state.now c.args.calling.now c.requires.can c.requires.granted c.index-parent.result.now
    (parent_at c.args.state.now c.args.calling.now _ _ _ c.requires.can c.pid-pid.ensures c.index-parent.ensures) _ _ c.take_room-child.ensures

pub returns-clause-child : goal.returns-clause-child
returns-clause-child c = λ p at.
    let there = parent_at c.args.state.now c.args.calling.now _ _ c.index-parent.result.now c.requires.can c.pid-pid.ensures c.index-parent.ensures in
    c.fork_into.ensures.child
    ∙ ap (λ n. child_process n (fork_plan c.index-parent.result.now.space c.args.state.now.frames).child) c.pid-pid.ensures
    ∙ ap (λ (q : Process). child_process c.args.calling.now.pid (fork_plan q.space c.args.state.now.frames).child) (some_same c.index-parent.result.now p (sym there ∙ at))

pub returns-clause-frames : goal.returns-clause-frames
returns-clause-frames c = λ p at.
    let there = parent_at c.args.state.now c.args.calling.now _ _ c.index-parent.result.now c.requires.can c.pid-pid.ensures c.index-parent.ensures in
    c.fork_into.ensures.free
    ∙ ap (λ (q : Process). (fork_plan q.space c.args.state.now.frames).free) (some_same c.index-parent.result.now p (sym there ∙ at))

pub returns-clause-pushed : goal.returns-clause-pushed
returns-clause-pushed c = λ p at.
    let there = parent_at c.args.state.now c.args.calling.now _ _ c.index-parent.result.now c.requires.can c.pid-pid.ensures c.index-parent.ensures in
    c.fork_into.ensures.jobs
    ∙ ap (λ (q : Process). c.args.state.now.jobs.pushed ++ (fork_plan q.space c.args.state.now.frames).jobs) (some_same c.index-parent.result.now p (sym there ∙ at))

pub returns-clause-sized : goal.returns-clause-sized
returns-clause-sized c =
    child_sized c.args.state.now c.args.calling.now c.requires.can c.requires.granted c.index-parent.result.now
    (parent_at c.args.state.now c.args.calling.now _ _ _ c.requires.can c.pid-pid.ensures c.index-parent.ensures) _ c.fork_into.ensures.sizes
