-- A call that begins.
use Rattle.std.proofs.Common.{Some, sym, ◌∙◌, ap}
use Rattle.std.specs.Option.{option_to_list}
use Rattle.osc_guest.specs.Asks.{ask}
use Rattle.osc_machine.specs.Parts.{HartState}
use Rattle.osc_machine.specs.Turns.{place_begun}
use Rattle.osc_turns.specs.Seen.{place_seen}
use Rattle.osc_word.specs.declared.settings.Config.{Config}
use Rattle.osc_calls.specs.Kernel.{KernelState}
use Rattle.osc_turns.proofs.Config.{begin_kept}
use Rattle.osc_calls.specs.Begin.{begin}
use Rattle.osc_turns.proofs.Begun.{begun_fits, planned_commits}
use Rattle.osc_turns.proofs.Labels.{begin_labelled}
use Rattle.osc_turns.proofs.Turning.{taken}
use Rattle.osc_turns.proofs.hart.Hart.take_kernel.Goals as goal

pub go_on-requires-clause-commits : goal.go_on-requires-clause-commits
go_on-requires-clause-commits c t =
    planned_commits c.begin-begun.result c.begin-begun.new.self.kernel (sym c.is_planned.ensures ∙ t)
    (rw (c.begin-begun.ensures.begun, c.begin-begun.ensures.kernel) (begun_fits _ _ _ c.in-Kernel.request c.args.kernel.kernel c.requires.free.jobs))

pub returns : goal.returns
returns c =
    c.go_on.ensures (begin c.self.inside.number c.regs.result.now c.pc.result c.in-Kernel.request c.args.kernel.kernel).shows (begin_labelled _ _ _ c.in-Kernel.request c.args.kernel.kernel c.label-label.result (ap option_to_list c.label-label.ensures ∙ c.begin-begun.ensures.shown))
    ∙ taken c.args.self.now (ask c.args.self.now.user) c.in-Kernel.request c.self.inside.number c.regs.result.now c.pc.result c.args.kernel.kernel c.begin-begun.new.self.kernel c.begin-begun.result (place_seen c.place_begun-place.result (Some c.begin-begun.new.self)) c.is_planned.result
    (ap (λ (h : HartState). ask h.user) (sym c.self.view_is) ∙ sym c.ask.ensures.asked ∙ c.in-Kernel.is)
    (ap (λ (h : HartState). h.number) c.self.view_is)
    (c.regs.ensures ∙ ap (λ (h : HartState). h.user.regs) c.self.view_is)
    (c.pc.ensures ∙ ap (λ (h : HartState). h.user.pc) c.self.view_is)
    c.begin-begun.ensures.begun c.begin-begun.ensures.kernel
    (c.place_begun-place.ensures.place ∙ ap (λ boxes. place_begun c.begin-begun.result c.begin-begun.new.self.kernel boxes) c.boxes.ensures.boxes)
    c.is_planned.ensures

pub go_on-requires-clause-counted : goal.go_on-requires-clause-counted
go_on-requires-clause-counted c =
    ap (λ (k : KernelState). k.config.harts) c.begin-begun.ensures.kernel
    ∙ ap (λ (f : Config). f.harts) (begin_kept c.self.inside.number c.regs.result.now c.pc.result c.in-Kernel.request c.args.kernel.kernel)
    ∙ c.requires.free.counted
