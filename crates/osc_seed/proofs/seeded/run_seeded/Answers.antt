use Rattle.std.proofs.Common.{◌≡◌, length, arith, refl, sym, ap, ◌∙◌}
use Rattle.osc_machine.specs.Picks.{picked, next_seed}
use Rattle.osc_machine.specs.Step.{step}
use Rattle.osc_core.specs.Shared.{Seen, state_of}
use Rattle.osc_seed.proofs.Picking.{starts, goes_on, stops_over, stops_spent, over_after}
use Rattle.osc_seed.proofs.Safety.{safe-from-start}
use Rattle.osc_seed.proofs.Journal.{told-from-start, refused-from-start}
use Rattle.osc_seed.proofs.seeded.run_seeded.Goals as goal

pub loop-made-init : goal.loop-made-init
loop-made-init c = record {
  sound = c.requires.sound;
  stands = starts _ _ _ _;
}

pub loop-made-preserved : goal.loop-made-preserved
loop-made-preserved c =
    let s = state_of c.loop-made.machine c.loop-made.harts in
    let pick : c.picked.result ≡ picked (length c.args.harts.now) (next_seed c.loop-made.seed) = rw (c.picked.ensures.is, c.loop-made.auto.harts, c.next_seed-seed.ensures) refl in
    record {
      sound = c.step.ensures.sound;
      stands = rw c.next_seed-seed.ensures (goes_on _ _ _ _ s _ _ _ c.loop-made-test.true
          (sym c.over.ensures ∙ c.if-over.false)
          (ap (λ (x : Seen). x.state) c.step.ensures.step ∙ ap (λ n. (step s n).state) pick)
          c.loop-made.invariant.stands);
    }

pub returns-then-over-clause-state : goal.returns-then-over-clause-state
returns-then-over-clause-state c = (stops_over _ _ _ _ _ _ _ (sym c.over.ensures ∙ c.if-over.true) c.loop-made.invariant.stands).state

pub returns-then-over-clause-end : goal.returns-then-over-clause-end
returns-then-over-clause-end c =
    over_after _ _ _ (sym c.over.ensures ∙ c.if-over.true)
    (stops_over _ _ _ _ _ _ _ (sym c.over.ensures ∙ c.if-over.true) c.loop-made.invariant.stands).count

pub returns-then-over-2-clause-state : goal.returns-then-over-2-clause-state
returns-then-over-2-clause-state c = (stops_spent _ _ _ _ _ _ _ c.loop-made-test.false c.loop-made.invariant.stands).state

pub returns-then-over-2-clause-end : goal.returns-then-over-2-clause-end
returns-then-over-2-clause-end c =
    over_after _ _ _ (sym c.over-2.ensures ∙ c.if-over-2.true)
    (omega (arith, c.loop-made.auto.made-end, c.loop-made-test.false)
    ∙ (stops_spent _ _ _ _ _ _ _ c.loop-made-test.false c.loop-made.invariant.stands).count)

pub returns-else-over-2-clause-state : goal.returns-else-over-2-clause-state
returns-else-over-2-clause-state c = (stops_spent _ _ _ _ _ _ _ c.loop-made-test.false c.loop-made.invariant.stands).state

pub returns-then-over-clause-safe : goal.returns-then-over-clause-safe
returns-then-over-clause-safe c = safe-from-start _ _

pub returns-then-over-2-clause-safe : goal.returns-then-over-2-clause-safe
returns-then-over-2-clause-safe c = safe-from-start _ _

pub returns-else-over-2-clause-safe : goal.returns-else-over-2-clause-safe
returns-else-over-2-clause-safe c = safe-from-start _ _

pub returns-then-over-clause-journal : goal.returns-then-over-clause-journal
returns-then-over-clause-journal c = told-from-start _ _

pub returns-then-over-2-clause-journal : goal.returns-then-over-2-clause-journal
returns-then-over-2-clause-journal c = told-from-start _ _

pub returns-else-over-2-clause-journal : goal.returns-else-over-2-clause-journal
returns-else-over-2-clause-journal c = told-from-start _ _

pub returns-then-over-clause-refusals : goal.returns-then-over-clause-refusals
returns-then-over-clause-refusals c = refused-from-start _ _

pub returns-then-over-2-clause-refusals : goal.returns-then-over-2-clause-refusals
returns-then-over-2-clause-refusals c = refused-from-start _ _

pub returns-else-over-2-clause-refusals : goal.returns-else-over-2-clause-refusals
returns-else-over-2-clause-refusals c = refused-from-start _ _
