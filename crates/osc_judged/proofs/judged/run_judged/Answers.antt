use Rattle.std.proofs.Common.{◌≡◌, length, arith, refl, sym, ap, ◌∙◌}
use Rattle.std.proofs.lemmas.Result.{err_from_is_err_and}
use Rattle.osc_machine.specs.Picks.{picked, next_seed}
use Rattle.osc_machine.specs.Step.{step}
use Rattle.osc_core.specs.Shared.{state_of}
use Rattle.osc_seed.proofs.Picking.{over_after}
use Rattle.osc_judged.proofs.Following.{starts, judges_on, stops_at, finished_over, finished_spent, ends_as}
use Rattle.osc_judged.proofs.judged.run_judged.Goals as goal

pub loop-made-init : goal.loop-made-init
loop-made-init c = record {
  sound = c.requires.sound;
  judges = starts _ _ _ _ _;
}

pub loop-made-preserved : goal.loop-made-preserved
loop-made-preserved c =
    let s = state_of c.loop-made.machine c.loop-made.harts in
    let pick : c.picked.result ≡ picked (length c.args.harts.now) (next_seed c.loop-made.seed) = rw (c.picked.ensures.is, c.loop-made.auto.harts, c.next_seed-seed.ensures) refl in
    record {
      sound = c.in_ok-judged_step.ensures.sound;
      judges = rw c.next_seed-seed.ensures (judges_on _ _ _ _ _ _ s _ _ _ _ c.loop-made-test.true
          (sym c.over.ensures ∙ c.if-over.false)
          (c.in_ok-judged_step.ensures.state ∙ ap (λ n. (step s n).state) pick)
          (rw pick at c.in_ok-judged_step.ensures.world)
          c.loop-made.invariant.judges);
    }

pub returns-then-over-clause-state : goal.returns-then-over-clause-state
returns-then-over-clause-state c = (finished_over _ _ _ _ _ _ _ _ _ (sym c.over.ensures ∙ c.if-over.true) c.loop-made.invariant.judges).state

pub returns-then-over-clause-end : goal.returns-then-over-clause-end
returns-then-over-clause-end c =
    c.told_of.ensures.end
    ∙ over_after _ _ _ (sym c.over.ensures ∙ c.if-over.true)
    (finished_over _ _ _ _ _ _ _ _ _ (sym c.over.ensures ∙ c.if-over.true) c.loop-made.invariant.judges).count

pub returns-then-over-clause-world : goal.returns-then-over-clause-world
returns-then-over-clause-world c = (finished_over _ _ _ _ _ _ _ _ _ (sym c.over.ensures ∙ c.if-over.true) c.loop-made.invariant.judges).world

pub returns-in_err-judged_step-clause-wanting : goal.returns-in_err-judged_step-clause-wanting
returns-in_err-judged_step-clause-wanting c =
    let s = state_of c.loop-made.machine c.loop-made.harts in
    let pick : c.picked.result ≡ picked (length c.args.harts.now) (next_seed c.loop-made.seed) = rw (c.picked.ensures.is, c.loop-made.auto.harts, c.next_seed-seed.ensures) refl in
    let back = c.from_residual in
    let p = err_from_is_err_and back.result back.ensures.1 in
    rw p.1 (stops_at _ _ _ _ _ _ s _ _ _ _ c.loop-made-test.true
    (sym c.over.ensures ∙ c.if-over.false)
    (c.in_err-judged_step.ensures.state ∙ ap (λ n. (step s n).state) pick)
    c.in_err-judged_step.ensures.lost
    c.loop-made.invariant.judges)

pub returns-clause-state : goal.returns-clause-state
returns-clause-state c = (finished_spent _ _ _ _ _ _ _ _ _ c.loop-made-test.false c.loop-made.invariant.judges).state

pub returns-clause-end : goal.returns-clause-end
returns-clause-end c =
    c.told_of-2.ensures.end ∙ c.end_after.ensures
    ∙ ends_as _ _ _ _ c.over-2.ensures
    (omega (arith, c.loop-made.auto.made-end, c.loop-made-test.false)
    ∙ (finished_spent _ _ _ _ _ _ _ _ _ c.loop-made-test.false c.loop-made.invariant.judges).count)

pub returns-clause-world : goal.returns-clause-world
returns-clause-world c = (finished_spent _ _ _ _ _ _ _ _ _ c.loop-made-test.false c.loop-made.invariant.judges).world
