use Rattle.std.proofs.Common.{◌≡◌, ◌-◌, ◌∙◌, true, length, drop, sym, ap, arith, drop_of_length-le, take_all}
use Rattle.std.proofs.lemmas.List.{length-drop}
use Rattle.osc_line.proofs.Splits.{starts, passed, from-at, stopped}
use Rattle.osc_line.proofs.split.split.Goals as goal
use Rattle.osc_line.proofs.split.split.Goals.{else-loop-at-test, then-loop-at-test+then-text-at}

pub loop-at-preserved : goal.loop-at-preserved
loop-at-preserved c =
    let l = c.loop-at in (
      omega (arith, c.loop-at-test.true),
      passed c.args.byte l.at c.args.text.now c.loop-at-test.true (grind (arith, c.if-text-at.false)) ∙ l.invariant.1,
    )

pub returns-clause-rest : goal.returns-clause-rest
returns-clause-rest c =
    let l = c.loop-at in
    let at : starts c.args.byte (drop l.at c.args.text.now) ≡ true
    = elim c.loop-at-test.branch [
      | else-loop-at-test w ↦ ap (starts c.args.byte) (drop_of_length-le c.args.text.now {i = l.at} (omega (arith, w.loop-at-test.false)))
      | then-loop-at-test+then-text-at w ↦
          stopped c.args.byte l.at c.args.text.now w.loop-at-test.true (grind (arith, w.if-text-at.true))
    ] in
    take_all (length c.args.text.now - l.at) (drop l.at c.args.text.now) (omega (arith, length-drop l.at c.args.text.now))
    ∙ (sym (from-at c.args.byte (drop l.at c.args.text.now) at) ∙ l.invariant.1)
