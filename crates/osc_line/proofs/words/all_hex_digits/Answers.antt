use Rattle.std.proofs.Common.{◌∙◌, sym, ap, arith, drop_of_length-le}
use Rattle.std.specs.List.{list_all}
use Rattle.osc_line.specs.Line.{is_hex_digit}
use Rattle.osc_line.proofs.EachByte.{all_passed, all_failed}
use Rattle.osc_line.proofs.words.all_hex_digits.Goals as goal

pub loop-at-preserved : goal.loop-at-preserved
loop-at-preserved c =
    let l = c.loop-at in (
      omega (arith, c.loop-at-test.true),
      all_passed is_hex_digit l.at c.args.word.now c.loop-at-test.true (sym c.is_hex_digit.ensures ∙ c.if-not-is_hex_digit.false) ∙ l.invariant.1,
    )

pub returns-then-not-is_hex_digit : goal.returns-then-not-is_hex_digit
returns-then-not-is_hex_digit c =
    let l = c.loop-at in
    sym (all_failed is_hex_digit l.at c.args.word.now c.loop-at-test.true (sym c.is_hex_digit.ensures ∙ c.if-not-is_hex_digit.true)) ∙ l.invariant.1

pub returns : goal.returns
returns c =
    let l = c.loop-at in
    sym (ap (list_all is_hex_digit) (drop_of_length-le c.args.word.now {i = l.at} (omega (arith, c.loop-at-test.false)))) ∙ l.invariant.1
