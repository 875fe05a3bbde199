-- A hart that goes on in a call.
use Rattle.std.proofs.Common.{Some, sym, ◌∙◌, ap, subst}
use Rattle.osc_machine.specs.Parts.{HartState}
use Rattle.osc_turns.specs.Places.{PlaceFits, Calls}
use Rattle.osc_turns.proofs.Outside.{calls_anywhere}
use Rattle.osc_turns.proofs.hart.Hart.go_on.Goals as goal

pub invariant_of-self : goal.invariant_of-self
invariant_of-self c =
    let same = c.self.view_is ∙ c.commit-commit.ensures.hart in
    let count = ap (λ (h : HartState). h.count) same in
    let user = ap (λ (h : HartState). h.user) same in (
      c.self.invariant.0,
      c.self.invariant.1,
      subst (λ n. PlaceFits n c.args.place (Some c.args.kernel)) (sym count) c.requires.place,
      calls_anywhere c.args.place c.self.inside.user.hart (subst Calls (sym user) c.requires.calls),
      c.requires.counted ∙ sym count,
    )
