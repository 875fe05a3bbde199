-- The plan of a fork: the work space changes before it is granted.
use Rattle.std.proofs.Common.{Option, ap, sym, ◌∙◌}
use Rattle.osc_word.specs.declared.calls.Answer.{Answer}
use Rattle.osc_calls.specs.Kernel.{KernelState, process_at}
use Rattle.osc_calls.specs.Planned.{planned_unless}
use Rattle.osc_calls.specs.ProcessPlans.{fork_done}
use Rattle.osc_kernel.specs.Inside.{kernel_of}
use Rattle.osc_kernel.proofs.Forks.{can_named, rooms_named}
use Rattle.osc_kernel.proofs.forking.plan_fork.Goals as goal

pub fork-requires-clause-can : goal.fork-requires-clause-can
fork-requires-clause-can c =
    can_named c.args.state.now c.fork_refusal.new.state c.args.calling.now c.fork_refusal.ensures.state c.fork_refusal.ensures.names c.requires.can

pub returns-in-Some-clause-rooms : goal.returns-in-Some-clause-rooms
returns-in-Some-clause-rooms c =
    rooms_named c.args.state.now c.fork_refusal.new.state _ c.fork_refusal.ensures.state c.fork_refusal.ensures.names c.requires.can.rooms

pub returns-in-None-clause-made : goal.returns-in-None-clause-made
returns-in-None-clause-made c = λ p at.
    let k = kernel_of c.args.state.now in
    let same = ap kernel_of c.fork_refusal.ensures.state in
    let none = sym (c.fork_refusal.ensures.refusal p (ap (λ n. process_at k n) c.pid.ensures ∙ at)) ∙ c.in-None.is in
    c.fork.ensures.made p (ap (λ (x : KernelState). process_at x c.args.calling.now.pid) same ∙ at)
    ∙ ap (λ (x : KernelState). fork_done c.args.calling.now p x) same
    ∙ ap (λ (o : Option Answer). planned_unless o k (fork_done c.args.calling.now p k)) (sym none)
