use Rattle.std.proofs.Common.{◌≡◌, ◌-◌, ◌∙◌, true, false, length, get_or, drop, sym, ap, arith, drop_of_length-le, take_all}
use Rattle.std.proofs.lemmas.List.{length-drop}
use Rattle.std.specs.Char.{is_ascii_digit}
use Rattle.osc_text.specs.Digits.{starts_digit}
use Rattle.osc_text.proofs.Decimals.{more_value, more_after, no_more, value-end, after-end}
use Rattle.osc_text.proofs.front.digits.Goals as goal
use Rattle.osc_text.proofs.front.digits.Goals.{else-loop-at-test, then-loop-at-test+then-not-is_ascii_digit}

pub loop-at-preserved : goal.loop-at-preserved
loop-at-preserved c =
    let l = c.loop-at in
    let digit : is_ascii_digit (get_or c.args.text.now l.at 0) ≡ true
    = sym c.is_ascii_digit.ensures.value ∙ c.if-not-is_ascii_digit.false in (
      omega (arith, c.loop-at-test.true),
      c.with_digit-value.ensures.range,
      rw c.with_digit-value.ensures.value (more_value l.value l.at c.args.text.now c.loop-at-test.true digit ∙ l.invariant.2),
      more_after l.at c.args.text.now c.loop-at-test.true digit ∙ l.invariant.3,
    )

pub returns-clause-value : goal.returns-clause-value
returns-clause-value c =
    let l = c.loop-at in
    let none : starts_digit (drop l.at c.args.text.now) ≡ false
    = elim c.loop-at-test.branch [
      | else-loop-at-test w ↦ ap starts_digit (drop_of_length-le c.args.text.now {i = l.at} (omega (arith, w.loop-at-test.false)))
      | then-loop-at-test+then-not-is_ascii_digit w ↦
          no_more l.at c.args.text.now w.loop-at-test.true
          (sym w.is_ascii_digit.ensures.value ∙ w.if-not-is_ascii_digit.true)
    ] in
    sym (value-end l.value (drop l.at c.args.text.now) none) ∙ l.invariant.2

pub returns-clause-rest : goal.returns-clause-rest
returns-clause-rest c =
    let l = c.loop-at in
    let none : starts_digit (drop l.at c.args.text.now) ≡ false
    = elim c.loop-at-test.branch [
      | else-loop-at-test w ↦ ap starts_digit (drop_of_length-le c.args.text.now {i = l.at} (omega (arith, w.loop-at-test.false)))
      | then-loop-at-test+then-not-is_ascii_digit w ↦
          no_more l.at c.args.text.now w.loop-at-test.true
          (sym w.is_ascii_digit.ensures.value ∙ w.if-not-is_ascii_digit.true)
    ] in
    take_all (length c.args.text.now - l.at) (drop l.at c.args.text.now) (omega (arith, length-drop l.at c.args.text.now))
    ∙ (sym (after-end (drop l.at c.args.text.now) none) ∙ l.invariant.3)
