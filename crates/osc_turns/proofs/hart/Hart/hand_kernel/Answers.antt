-- The kernel that was finished is out of the hart's hand.
use Rattle.std.proofs.Common.{sym, ◌∙◌, ap, subst}
use Rattle.std.specs.Option.{option_to_list}
use Rattle.osc_machine.specs.Parts.{Returning, HartState}
use Rattle.osc_machine.specs.Turns.{return_of}
use Rattle.osc_turns.specs.Seen.{kernel_in}
use Rattle.osc_turns.specs.Places.{IsFree}
use Rattle.osc_turns.proofs.Labels.{finish_labelled}
use Rattle.osc_turns.proofs.Giving.{calls_giving, gives_free, handed}
use Rattle.osc_turns.proofs.hart.Hart.hand_kernel.Goals as goal

pub invariant_of-self : goal.invariant_of-self
invariant_of-self c =
    let out = finish_labelled c.unwrap-kernel.result.kernel c.label-label.result (ap option_to_list c.label-label.ensures ∙ c.finish-resume.ensures.shown) in (
      c.self.invariant.0,
      c.self.invariant.1,
      (c.take.ensures.after, rw c.of-before.ensures c.finish-resume.ensures.resume, rw c.of-before.ensures out),
      calls_giving c.args.self.now c.self.inside.place c.self.inside.kernel _ c.requires.asks (ap (λ (h : HartState). h.place) (sym c.self.view_is)) c.self.invariant.3,
      rw c.take.ensures.after tt,
    )

pub returns-clause-free : goal.returns-clause-free
returns-clause-free c =
    subst (λ (h : HartState). IsFree h.count c.finish-resume.new.self.kernel) c.self.view_is
    (rw c.finish-resume.ensures.kernel (gives_free c.self.inside.count c.args.self.now c.self.inside.place c.self.inside.kernel c.unwrap-kernel.result
    (sym c.take.ensures.value ∙ c.unwrap-kernel.ensures) c.requires.asks (ap (λ (h : HartState). h.place) (sym c.self.view_is)) c.self.invariant.2 c.self.invariant.4))

pub returns-clause-rest : goal.returns-clause-rest
returns-clause-rest c =
    ap (λ (h : HartState). record h { place = Returning (return_of c.journal_full-full.result c.of-before.result.value.kernel); kernel = kernel_in c.take.new.self }) c.self.view_is
    ∙ handed c.self.inside.count c.args.self.now c.self.inside.place c.self.inside.kernel c.take.new.self c.unwrap-kernel.result c.of-before.result.value c.journal_full-full.result
    (sym c.take.ensures.value ∙ c.unwrap-kernel.ensures) c.requires.asks (ap (λ (h : HartState). h.place) (sym c.self.view_is)) c.self.invariant.2 c.journal_full-full.ensures
    c.of-before.ensures c.take.ensures.after
