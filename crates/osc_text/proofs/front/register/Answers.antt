use Rattle.std.proofs.Common.{◌≡◌, ◌∙◌, ◌++◌, drop, sym, ap, arith}
use Rattle.std.specs.Fmt.{decimal}
use Rattle.osc_text.specs.Digits.{front_value, after_digits}
use Rattle.osc_text.proofs.Decimals.{value_of, rest_of}
use Rattle.osc_text.proofs.front.register.Goals as goal

pub returns-in_err-new-clause-reads : goal.returns-in_err-new-clause-reads
returns-in_err-new-clause-reads c register rest fits no_digit is =
    let after : c.in_ok-after.field-0.now ≡ decimal register ++ rest = ap (drop 1) (sym c.in_ok-after.ensures.found ∙ is) in
    let value : c.digits-value.result.0 ≡ register
    = c.digits-value.ensures.value ∙ (ap (front_value 0) after ∙ value_of register rest (omega (arith, fits)) no_digit) in
    search (arith, value, fits)

pub returns-clause-reads : goal.returns-clause-reads
returns-clause-reads c register rest fits no_digit is =
    let after : c.in_ok-after.field-0.now ≡ decimal register ++ rest = ap (drop 1) (sym c.in_ok-after.ensures.found ∙ is) in
    let value : c.digits-value.result.0 ≡ register
    = c.digits-value.ensures.value ∙ (ap (front_value 0) after ∙ value_of register rest (omega (arith, fits)) no_digit) in (
      c.in_ok-new.ensures.value ∙ value,
      c.digits-value.ensures.rest ∙ (ap after_digits after ∙ rest_of register rest (omega (arith, fits)) no_digit),
    )
