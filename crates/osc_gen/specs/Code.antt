-- The instructions of the guest by their names in the RISC-V Unprivileged manual. x8 is s0, x9 s1, x18
-- s2, x5 and x6 are t0 and t1, x10 to x12 and x17 are a0 to a2 and a7.
use Rattle.std.specs.Prelude.{ℕ, List, [], ◌∷◌}
use Rattle.osc_rv.specs.declared.instr.Instr.TheVariants as instr
use Rattle.osc_rv.specs.declared.instr.ImmOp.TheVariants.{Addi}
use Rattle.osc_rv.specs.declared.instr.RegOp.TheVariants as op
use Rattle.osc_rv.specs.declared.instr.LoadKind.TheVariants.{Ld}
use Rattle.osc_rv.specs.declared.instr.StoreKind.TheVariants.{Sd}
use Rattle.osc_asm.specs.declared.item.Item.{Item}
use Rattle.osc_asm.specs.declared.item.Item.TheVariants.{Plain}
use Rattle.osc_asm.specs.Numbers.{lui_of, addi_of}

abbrev pub addi : ℕ → ℕ → ℕ → Item
addi rd rs1 imm = Plain (instr.Imm Addi rd rs1 imm)

abbrev pub add : ℕ → ℕ → ℕ → Item
add rd rs1 rs2 = Plain (instr.Op op.Add rd rs1 rs2)

-- ld rd, offset(base)
abbrev pub ld : ℕ → ℕ → ℕ → Item
ld rd offset base = Plain (instr.Load Ld rd base offset)

-- sd source, offset(base)
abbrev pub sd : ℕ → ℕ → ℕ → Item
sd source offset base = Plain (instr.Store Sd base source offset)

-- a number below 2^31 - 2048, by lui and addi
abbrev pub li : ℕ → ℕ → List Item
li rd number = Plain (lui_of rd number) ∷ Plain (addi_of rd number) ∷ []

-- the environment call of a number
abbrev pub call : ℕ → List Item
call number = addi 17 0 number ∷ Plain instr.Ecall ∷ []
