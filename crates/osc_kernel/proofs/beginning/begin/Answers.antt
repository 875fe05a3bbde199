-- A hart that asks.
use Rattle.std.proofs.Common.{ap, sym, ◌∙◌}
use Rattle.std.specs.Option.{option_to_list}
use Rattle.osc_calls.specs.Begin.{Began, begin_as}
use Rattle.osc_calls.specs.Requests.{calling_of}
use Rattle.osc_kernel.specs.Inside.{kernel_of}
use Rattle.osc_kernel.proofs.Taking.{begins_call, begins_none, begun_is}
use Rattle.osc_kernel.proofs.beginning.begin.Goals as goal

pub returns-in-None-clause-begun : goal.returns-in-None-clause-begun
returns-in-None-clause-begun c =
    sym (ap (λ (x : Began). x.begun) (begins_none c.args.hart c.args.pc c.args.regs.now c.args.request (kernel_of c.args.state.now)
    (ap (calling_of c.args.hart c.args.regs.now c.args.pc c.args.request) (sym c.get-kept.ensures) ∙ sym c.of.ensures ∙ c.in-None.is)))

pub returns-in-None-clause-kernel : goal.returns-in-None-clause-kernel
returns-in-None-clause-kernel c =
    c.leave.ensures.kernel
    ∙ sym (ap (λ (x : Began). x.kernel) (begins_none c.args.hart c.args.pc c.args.regs.now c.args.request (kernel_of c.args.state.now)
    (ap (calling_of c.args.hart c.args.regs.now c.args.pc c.args.request) (sym c.get-kept.ensures) ∙ sym c.of.ensures ∙ c.in-None.is)))

pub returns-in-None-clause-shown : goal.returns-in-None-clause-shown
returns-in-None-clause-shown c =
    ap option_to_list c.leave.ensures.shown
    ∙ sym (ap (λ (x : Began). x.shows) (begins_none c.args.hart c.args.pc c.args.regs.now c.args.request (kernel_of c.args.state.now)
    (ap (calling_of c.args.hart c.args.regs.now c.args.pc c.args.request) (sym c.get-kept.ensures) ∙ sym c.of.ensures ∙ c.in-None.is)))

pub returns-in-Some-clause-begun : goal.returns-in-Some-clause-begun
returns-in-Some-clause-begun c =
    let k = kernel_of c.args.state.now in
    c.begin_call.ensures.begun
    ∙ sym (begun_is _ c.in-Some.calling k)
    ∙ sym (ap (λ (x : Began). x.begun) (begins_call c.args.hart c.args.pc c.args.regs.now c.args.request k c.in-Some.calling
    (ap (calling_of c.args.hart c.args.regs.now c.args.pc c.args.request) (sym c.get-kept.ensures) ∙ sym c.of.ensures ∙ c.in-Some.is)))

pub returns-in-Some-clause-kernel : goal.returns-in-Some-clause-kernel
returns-in-Some-clause-kernel c =
    let k = kernel_of c.args.state.now in
    c.begin_call.ensures.kernel
    ∙ ap (λ b. (begin_as b c.in-Some.calling k).kernel) c.begin_call.ensures.begun
    ∙ sym (ap (λ (x : Began). x.kernel) (begins_call c.args.hart c.args.pc c.args.regs.now c.args.request k c.in-Some.calling
    (ap (calling_of c.args.hart c.args.regs.now c.args.pc c.args.request) (sym c.get-kept.ensures) ∙ sym c.of.ensures ∙ c.in-Some.is)))

pub returns-in-Some-clause-shown : goal.returns-in-Some-clause-shown
returns-in-Some-clause-shown c =
    let k = kernel_of c.args.state.now in
    c.begin_call.ensures.shown
    ∙ ap (λ b. (begin_as b c.in-Some.calling k).shows) c.begin_call.ensures.begun
    ∙ sym (ap (λ (x : Began). x.shows) (begins_call c.args.hart c.args.pc c.args.regs.now c.args.request k c.in-Some.calling
    (ap (calling_of c.args.hart c.args.regs.now c.args.pc c.args.request) (sym c.get-kept.ensures) ∙ sym c.of.ensures ∙ c.in-Some.is)))
