use Rattle.std.proofs.Common.{◌∙◌, sym, ap, arith, drop_of_length-le}
use Rattle.std.specs.List.{list_all}
use Rattle.osc_line.specs.Line.{is_name_byte}
use Rattle.osc_line.proofs.EachByte.{all_passed, all_failed}
use Rattle.osc_line.proofs.words.all_name_bytes.Goals as goal

pub loop-at-preserved : goal.loop-at-preserved
loop-at-preserved c =
    let l = c.loop-at in (
      omega (arith, c.loop-at-test.true),
      all_passed is_name_byte l.at c.args.word.now c.loop-at-test.true (sym c.is_name_byte.ensures ∙ c.if-not-is_name_byte.false) ∙ l.invariant.1,
    )

pub returns-then-not-is_name_byte : goal.returns-then-not-is_name_byte
returns-then-not-is_name_byte c =
    let l = c.loop-at in
    sym (all_failed is_name_byte l.at c.args.word.now c.loop-at-test.true (sym c.is_name_byte.ensures ∙ c.if-not-is_name_byte.true)) ∙ l.invariant.1

pub returns : goal.returns
returns c =
    let l = c.loop-at in
    sym (ap (list_all is_name_byte) (drop_of_length-le c.args.word.now {i = l.at} (omega (arith, c.loop-at-test.false)))) ∙ l.invariant.1
