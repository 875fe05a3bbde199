-- The table of spellings, read in the other direction, gives each instruction back.
use Rattle.std.proofs.Common.{◌≡◌, ℕ, ◌*◌, ◌/◌, ◌<◌, Some, refl, ap, arith}
use Rattle.std.proofs.lemmas.Bool.Decides.{nat_tests}
use Rattle.osc_rv.specs.declared.instr.Instr.{Instr}
use Rattle.osc_rv.specs.declared.instr.Instr.TheVariants as instr
use Rattle.osc_rv.specs.Instr.{FieldsFit}
use Rattle.osc_text.specs.Spelling.{spelling_of, natural, signed}
use Rattle.osc_text.specs.Reading.{wrapped, instr_at}

wrapped-natural : (limit number : ℕ) → number < limit → wrapped limit (natural number) ≡ number
wrapped-natural limit number fits = search (arith, fits)

wrapped-immediate : (field : ℕ) → field < 4096 → wrapped 4096 (signed 2048 field) ≡ field
wrapped-immediate field fits = grind (arith, nat_tests, fits)

wrapped-branch : (half : ℕ) → half < 4096 → wrapped 8192 (signed 4096 (2 * half)) / 2 ≡ half
wrapped-branch half fits = grind (arith, nat_tests, fits)

wrapped-jump : (half : ℕ) → half < 1048576 → wrapped 2097152 (signed 1048576 (2 * half)) / 2 ≡ half
wrapped-jump half fits = grind (arith, nat_tests, fits)

pub reads : (i : Instr) → FieldsFit i → instr_at (spelling_of i).mnemonic (spelling_of i).operands ≡ Some i
reads (instr.Upper op rd imm) fit = ap (λ n. Some (instr.Upper op rd n)) (wrapped-natural 1048576 imm fit.1)
reads (instr.Jal rd half) fit = ap (λ n. Some (instr.Jal rd n)) (wrapped-jump half fit.1)
reads (instr.Jalr rd rs1 imm) fit = ap (λ n. Some (instr.Jalr rd rs1 n)) (wrapped-immediate imm fit.2)
reads (instr.Branch kind rs1 rs2 half) fit = ap (λ n. Some (instr.Branch kind rs1 rs2 n)) (wrapped-branch half fit.2)
reads (instr.Load kind rd rs1 imm) fit = ap (λ n. Some (instr.Load kind rd rs1 n)) (wrapped-immediate imm fit.2)
reads (instr.Store kind rs1 rs2 imm) fit = ap (λ n. Some (instr.Store kind rs1 rs2 n)) (wrapped-immediate imm fit.2)
reads (instr.Imm op rd rs1 imm) fit = ap (λ n. Some (instr.Imm op rd rs1 n)) (wrapped-immediate imm fit.2)
reads (instr.Shift op rd rs1 amount) fit = ap (λ n. Some (instr.Shift op rd rs1 n)) (wrapped-natural 64 amount fit.2)
reads (instr.ShiftW op rd rs1 amount) fit = ap (λ n. Some (instr.ShiftW op rd rs1 n)) (wrapped-natural 32 amount fit.2)
reads (instr.Op op rd rs1 rs2) fit = refl
reads (instr.Mul op rd rs1 rs2) fit = refl
reads (instr.Fence free) fit = ap (λ n. Some (instr.Fence n)) (wrapped-natural 4194304 free fit)
reads (instr.FenceI free) fit = ap (λ n. Some (instr.FenceI n)) (wrapped-natural 4194304 free fit)
reads instr.Ecall fit = refl
reads instr.Ebreak fit = refl
reads (instr.Amo op width rd rs1 rs2 aq rl) fit = refl
reads (instr.Lr width rd rs1 aq rl) fit = refl
reads (instr.Sc width rd rs1 rs2 aq rl) fit = refl
