use Rattle.std.proofs.Common.{◌≡◌, get_or, refl, arith}
use Rattle.osc_text.specs.Digits.{Reads}
use Rattle.osc_line.proofs.FirstBytes.{by_first, no_digit, no_number, first_of_none}
use Rattle.osc_line.proofs.operands.operand.Goals as goal

pub returns-then-is_empty : goal.returns-then-is_empty
returns-then-is_empty c operand rest fits ended is =
    let none : get_or c.args.text.now 0 0 ≡ 0 = first_of_none c.args.text.now (grind (arith, c.is_empty.ensures, c.if-is_empty.true)) in
    by_first operand rest c.args.text.now (λ _. ⊥) fits is
    (λ register small first from. omega (arith, none, first))
    (λ base small first from. omega (arith, none, first))
    (λ number small first from. no_number 0 _ none refl first)
    (λ offset base small below first from. no_number 0 _ none refl first)

pub returns-in-120 : goal.returns-in-120
returns-in-120 c operand rest fits ended is =
    by_first operand rest c.args.text.now (λ o. Reads c.register_operand.result o rest) fits is
    (λ register small first from. c.register_operand.ensures register rest small (no_digit rest ended) from)
    (λ base small first from. absurd (omega (arith, c.in-120.is, first)))
    (λ number small first from. absurd (no_number 120 _ c.in-120.is refl first))
    (λ offset base small below first from. absurd (no_number 120 _ c.in-120.is refl first))

pub returns-in-40 : goal.returns-in-40
returns-in-40 c operand rest fits ended is =
    by_first operand rest c.args.text.now (λ o. Reads c.address_operand.result o rest) fits is
    (λ register small first from. absurd (omega (arith, c.in-40.is, first)))
    (λ base small first from. c.address_operand.ensures base rest small from)
    (λ number small first from. absurd (no_number 40 _ c.in-40.is refl first))
    (λ offset base small below first from. absurd (no_number 40 _ c.in-40.is refl first))
