use Rattle.std.proofs.Common.{◌∙◌, sym, ap, subst, ◌<◌, length}
use Rattle.osc_asm.proofs.Places.{skip-none_of, skip-some_of, hit_of, index-use_of}
use Rattle.osc_asm.specs.Layout.{is_far}
use Rattle.osc_asm.proofs.builder.Builder.far_use.Goals as goal
use Rattle.osc_asm.proofs.builder.Builder.far_use.Goals.{in-Some+else-is_far, in_default}

pub returns-then-is_far-clause-first : goal.returns-then-is_far-clause-first
returns-then-is_far-clause-first c =
    sym (hit_of (is_far c.args.self.now) c.loop-index.index _ c.args.self.now.code c.item-item.result c.in-Some.used _
    (c.deref-item-items.ensures.value ∙ ap (λ b. b.code) c.self.view_is) c.loop-index-test.true c.item-item.is
    (sym c.in-Some.is ∙ c.label_use.ensures) (sym c.is_far.ensures ∙ c.if-is_far.true) c.loop-index.invariant)

pub returns-then-is_far-clause-inside : goal.returns-then-is_far-clause-inside
returns-then-is_far-clause-inside c =
    subst (λ index. index < length c.args.self.now.code)
    (sym (index-use_of c.loop-index.index c.item-item.result c.in-Some.used (sym c.in-Some.is ∙ c.label_use.ensures)))
    (subst (λ xs. c.loop-index.index < length xs) (c.deref-item-items.ensures.value ∙ ap (λ b. b.code) c.self.view_is)
    c.loop-index-test.true)

pub loop-index-preserved : goal.loop-index-preserved
loop-index-preserved c =
    elim c.match-label_use.branch [
      | in-Some+else-is_far w ↦
          skip-some_of (is_far c.args.self.now) c.loop-index.index _ c.args.self.now.code c.item-item.result w.in-Some.used _
          (c.deref-item-items.ensures.value ∙ ap (λ b. b.code) c.self.view_is) c.loop-index-test.true c.item-item.is
          (sym w.in-Some.is ∙ c.label_use.ensures) (sym w.is_far.ensures ∙ w.if-is_far.false) c.loop-index.invariant
      | in_default w ↦
          skip-none_of (is_far c.args.self.now) c.loop-index.index _ c.args.self.now.code c.item-item.result _
          (c.deref-item-items.ensures.value ∙ ap (λ b. b.code) c.self.view_is) c.loop-index-test.true c.item-item.is
          (sym w.in_default.is ∙ c.label_use.ensures) c.loop-index.invariant
    ]
