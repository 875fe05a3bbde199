use Rattle.std.proofs.Common.{◌∙◌, [], Some, refl, sym, ap}
use Rattle.std.proofs.lemmas.List.{append-nil}
use Rattle.osc_text.specs.Text.{operand_text}
use Rattle.osc_text.specs.declared.spelling.Operands.TheVariants.{Three}
use Rattle.osc_line.proofs.operands.last_operand.Goals as goal

pub returns-in-Some : goal.returns-in-Some
returns-in-Some c third fits is =
    let same = c.in-Some.ensures third [] fits refl (is ∙ sym (append-nil (operand_text third))) in
    ap (λ o. Some (Three c.args.first c.args.second o)) same.0

pub returns-in-None : goal.returns-in-None
returns-in-None c third fits is = absurd (c.in-None.ensures third [] fits refl (is ∙ sym (append-nil (operand_text third))))
