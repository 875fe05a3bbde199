use Rattle.std.proofs.Common.{◌≡◌, ◌++◌, ◌∙◌, [], length, codes, Some, refl, sym, ap, arith}
use Rattle.std.proofs.lemmas.List.{append-nil}
use Rattle.osc_text.specs.Text.{operand_text}
use Rattle.osc_text.specs.declared.spelling.Operands.TheVariants.{Two}
use Rattle.osc_line.proofs.operands.more_operands.Goals as goal

pub returns-in_default-clause-two : goal.returns-in_default-clause-two
returns-in_default-clause-two c second fits is =
    absurd (c.in_default.ensures second [] fits refl (is ∙ sym (append-nil (operand_text second))))

pub returns-in-Some-after_front-clause-two : goal.returns-in-Some-after_front-clause-two
returns-in-Some-after_front-clause-two c second fits is =
    let same = c.in-Some.ensures second [] fits refl (is ∙ sym (append-nil (operand_text second))) in
    let contrary : 0 ≡ length (codes ", " ++ c.in-Some-after_front.text.now) = ap length (sym same.1 ∙ c.in-Some-after_front.ensures) in
    absurd (omega (arith, contrary))

pub returns-in-None-clause-two : goal.returns-in-None-clause-two
returns-in-None-clause-two c second fits is =
    let same = c.in-Some.ensures second [] fits refl (is ∙ sym (append-nil (operand_text second))) in
    ap (λ o. Some (Two c.args.first o)) same.0
