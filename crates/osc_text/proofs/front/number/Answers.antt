use Rattle.std.proofs.Common.{◌∙◌, sym, subst, arith}
use Rattle.osc_text.specs.Digits.{Reads}
use Rattle.osc_text.proofs.Decimals.{signed_text}
use Rattle.osc_text.proofs.front.number.Goals as goal

pub returns-in-Some : goal.returns-in-Some
returns-in-Some c number rest fits no_digit is =
    let parts = signed_text number.negative number.magnitude rest c.in-Some.rest.now (omega (arith, fits)) (sym c.in-Some.ensures.found ∙ is) in
    subst (λ negative. Reads c.magnitude.result (record { negative = negative; magnitude = number.magnitude }) rest) (sym parts.0)
    (c.magnitude.ensures number.magnitude rest fits no_digit parts.1)
