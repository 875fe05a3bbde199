use Rattle.std.proofs.Common.{◌≡◌, ◌++◌, ◌∙◌, [], length, codes, Some, refl, sym, ap, arith}
use Rattle.std.proofs.lemmas.List.{append-nil}
use Rattle.osc_text.specs.Text.{operand_text}
use Rattle.osc_text.specs.declared.spelling.Operands.TheVariants.{One}
use Rattle.osc_line.proofs.operands.some_operands.Goals as goal

pub returns-in_default-clause-one : goal.returns-in_default-clause-one
returns-in_default-clause-one c first fits is =
    absurd (c.in_default.ensures first [] fits refl (is ∙ sym (append-nil (operand_text first))))

pub returns-in-Some-after_front-clause-one : goal.returns-in-Some-after_front-clause-one
returns-in-Some-after_front-clause-one c first fits is =
    let same = c.in-Some.ensures first [] fits refl (is ∙ sym (append-nil (operand_text first))) in
    let contrary : 0 ≡ length (codes ", " ++ c.in-Some-after_front.text.now) = ap length (sym same.1 ∙ c.in-Some-after_front.ensures) in
    absurd (omega (arith, contrary))

pub returns-in-None-clause-one : goal.returns-in-None-clause-one
returns-in-None-clause-one c first fits is =
    let same = c.in-Some.ensures first [] fits refl (is ∙ sym (append-nil (operand_text first))) in
    ap (λ o. Some (One o)) same.0
