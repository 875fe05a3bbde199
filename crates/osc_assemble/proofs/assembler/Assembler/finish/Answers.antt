use Rattle.std.proofs.Common.{◌∙◌, sym, ap, subst}
use Rattle.osc_asm.specs.Layout.{unbound_use, far_use}
use Rattle.osc_asm.specs.File.{file_of}
use Rattle.osc_asm.specs.Answer.{Refuses}
use Rattle.osc_assemble.specs.Answer.{answer_of, IsFaultOf}
use Rattle.osc_assemble.proofs.Faults.{answer-file, answer-refused}
use Rattle.osc_assemble.proofs.assembler.Assembler.finish.Goals as goal

pub returns-in-Ok-clause-answer : goal.returns-in-Ok-clause-answer
returns-in-Ok-clause-answer c =
    answer-file c.args.self.now c.in-Ok.file.items (sym (ap (λ p. p.again) c.self.view_is) ∙ c.in_default.is)
    (sym (ap (λ p. unbound_use p.program) c.self.view_is) ∙ (sym c.unbound_use.ensures.first ∙ c.in_default-unbound_use.is))
    (sym (ap (λ p. far_use p.program) c.self.view_is) ∙ (sym c.far_use.ensures.first ∙ c.in_default-far_use.is))
    (sym (ap (λ p. file_of p.program) c.self.view_is) ∙ c.in-Ok.ensures.file)

pub returns-in-Err-clause-answer : goal.returns-in-Err-clause-answer
returns-in-Err-clause-answer c =
    subst (λ found. IsFaultOf found (answer_of c.args.self.now)) (sym c.file_fault.ensures)
    (answer-refused c.args.self.now c.in-Err.fault (sym (ap (λ p. p.again) c.self.view_is) ∙ c.in_default.is)
    (sym (ap (λ p. unbound_use p.program) c.self.view_is) ∙ (sym c.unbound_use.ensures.first ∙ c.in_default-unbound_use.is))
    (sym (ap (λ p. far_use p.program) c.self.view_is) ∙ (sym c.far_use.ensures.first ∙ c.in_default-far_use.is))
    (subst (λ p. Refuses c.in-Err.fault (file_of p.program)) c.self.view_is c.in-Err.ensures.file))
