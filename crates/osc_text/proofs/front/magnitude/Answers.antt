use Rattle.std.proofs.Common.{◌≡◌, ◌∙◌, ap, arith}
use Rattle.osc_text.specs.Digits.{front_value, after_digits}
use Rattle.osc_text.proofs.Decimals.{value_of, rest_of}
use Rattle.osc_text.proofs.front.magnitude.Goals as goal

pub returns-in_err-magnitude : goal.returns-in_err-magnitude
returns-in_err-magnitude c magnitude rest fits no_digit is =
    let value : c.digits-value.result.0 ≡ magnitude
    = c.digits-value.ensures.value ∙ (ap (front_value 0) is ∙ value_of magnitude rest (omega (arith, fits)) no_digit) in
    search (arith, value, fits)

pub returns : goal.returns
returns c magnitude rest fits no_digit is =
    let value : c.digits-value.result.0 ≡ magnitude
    = c.digits-value.ensures.value ∙ (ap (front_value 0) is ∙ value_of magnitude rest (omega (arith, fits)) no_digit) in (
      ap (λ number. record { negative = c.args.negative; magnitude = number }) (c.in_ok-magnitude.ensures.value ∙ value),
      c.digits-value.ensures.rest ∙ (ap after_digits is ∙ rest_of magnitude rest (omega (arith, fits)) no_digit),
    )
