-- A call that goes ahead.
use Rattle.std.proofs.Common.{◌≡◌, ap, sym, ◌∙◌, subst}
use Rattle.osc_calls.specs.Begin.{Began, began, stands}
use Rattle.osc_calls.specs.Kernel.{Waiting}
use Rattle.osc_kernel.specs.declared.state.State.{State}
use Rattle.osc_kernel.specs.declared.state.UnderWay.TheVariants as doing
use Rattle.osc_kernel.specs.Inside.{kernel_of}
use Rattle.osc_kernel.specs.Sound.{Sound}
use Rattle.osc_kernel.proofs.Taking.{asker, begins_waiting, names_sound, step_goes}
use Rattle.osc_kernel.proofs.beginning.go_ahead.Goals as goal

pub first_step-step-requires-clause-has : goal.first_step-step-requires-clause-has
first_step-step-requires-clause-has c = asker c.args.state.now c.args.calling.now c.requires.sound c.requires.quiet c.requires.jobs c.requires.runs

pub wait-requires-clause-sound : goal.wait-requires-clause-sound
wait-requires-clause-sound c =
    subst Sound (sym c.first_step-step.ensures.state) (names_sound c.args.state.now c.first_step-step.new.state.names c.first_step-step.ensures.names c.requires.sound)

pub returns-clause-kernel : goal.returns-clause-kernel
returns-clause-kernel c =
    let s = c.args.state.now in
    let calling = c.args.calling.now in
    let step = c.first_step-step.result in
    let has = asker s calling c.requires.sound c.requires.quiet c.requires.jobs c.requires.runs in
    let goes : stands step calling ≡ Waiting calling =
    ap (λ b. stands b calling) (c.first_step-step.ensures.begun has.process has.at) ∙ step_goes calling has.process (kernel_of s) c.meant.result in
    let taken : kernel_of c.wait.new.state ≡ record (kernel_of s) { under_way = Waiting calling } =
    ap kernel_of c.wait.ensures.state ∙ ap (λ (x : State). kernel_of (record x { under_way = doing.Waiting calling })) c.first_step-step.ensures.state in
    c.enter.ensures.kernel
    ∙ ap (λ k. (began step k).kernel) taken
    ∙ ap (λ (x : Began). x.kernel) (begins_waiting step calling (kernel_of s) goes)
