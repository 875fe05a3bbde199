-- The numbers of a spelling fit in its fields.
use Rattle.std.proofs.Common.{◌≡◌, ℕ, ◌+◌, ◌*◌, ◌<◌, ◌≤◌, refl, arith}
use Rattle.std.proofs.lemmas.Bool.Decides.{nat_tests}
use Rattle.osc_rv.specs.declared.instr.Instr.{Instr}
use Rattle.osc_rv.specs.declared.instr.Instr.TheVariants as instr
use Rattle.osc_rv.specs.Instr.{FieldsFit}
use Rattle.osc_text.specs.Spelling.{spelling_of, signed}
use Rattle.osc_text.specs.Text.{spelling_text, text_of}
use Rattle.osc_line.specs.Parts.{SpellingFits}

pub text_is : (i : Instr) → text_of i ≡ spelling_text (spelling_of i)
unfolding text_of
text_is i = refl

signed_fits : (reach field : ℕ) → field < 2 * reach → reach ≤ 1048576 → (signed reach field).magnitude < 4194304
signed_fits reach field below small = grind (arith, nat_tests, below, small)

pub spelling_fits : (i : Instr) → FieldsFit i → SpellingFits (spelling_of i)
spelling_fits (instr.Upper op rd imm) fit = (fit.0, omega (arith, fit.1))
spelling_fits (instr.Jal rd half) fit = (fit.0, signed_fits 1048576 (2 * half) (omega (arith, fit.1)) (omega arith))
spelling_fits (instr.Jalr rd rs1 imm) fit = (fit.0, (signed_fits 2048 imm (omega (arith, fit.2)) (omega arith), fit.1))
spelling_fits (instr.Branch kind rs1 rs2 half) fit = (fit.0, fit.1, signed_fits 4096 (2 * half) (omega (arith, fit.2)) (omega arith))
spelling_fits (instr.Load kind rd rs1 imm) fit = (fit.0, (signed_fits 2048 imm (omega (arith, fit.2)) (omega arith), fit.1))
spelling_fits (instr.Store kind rs1 rs2 imm) fit = (fit.1, (signed_fits 2048 imm (omega (arith, fit.2)) (omega arith), fit.0))
spelling_fits (instr.Imm op rd rs1 imm) fit = (fit.0, fit.1, signed_fits 2048 imm (omega (arith, fit.2)) (omega arith))
spelling_fits (instr.Shift op rd rs1 amount) fit = (fit.0, fit.1, omega (arith, fit.2))
spelling_fits (instr.ShiftW op rd rs1 amount) fit = (fit.0, fit.1, omega (arith, fit.2))
spelling_fits (instr.Op op rd rs1 rs2) fit = (fit.0, fit.1, fit.2)
spelling_fits (instr.Mul op rd rs1 rs2) fit = (fit.0, fit.1, fit.2)
spelling_fits (instr.Fence free) fit = fit
spelling_fits (instr.FenceI free) fit = fit
spelling_fits instr.Ecall fit = fit
spelling_fits instr.Ebreak fit = fit
spelling_fits (instr.Amo op width rd rs1 rs2 aq rl) fit = (fit.0, fit.2, fit.1)
spelling_fits (instr.Lr width rd rs1 aq rl) fit = (fit.0, fit.1)
spelling_fits (instr.Sc width rd rs1 rs2 aq rl) fit = (fit.0, fit.2, fit.1)
