-- The instruction of a mnemonic and its operands: the table of spellings, read in the other direction.
-- A number is taken without a test of its range; an instruction whose own spelling is another one is
-- none of that spelling.
use Rattle.std.specs.Prelude.{ℕ, ◌-◌, ◌/◌, ◌%◌, if◌then◌else◌, Option, Some, None}
use Rattle.osc_rv.specs.declared.instr.Instr.{Instr}
use Rattle.osc_rv.specs.declared.instr.Instr.TheVariants as instr
use Rattle.osc_text.specs.declared.spelling.Mnemonic.{Mnemonic}
use Rattle.osc_text.specs.declared.spelling.Mnemonic.TheVariants.{Upper, Jal, Jalr, Branch, Load, Store, Imm, Shift, ShiftW, Op, Mul, Fence, FenceI, Ecall, Ebreak, Amo, Lr, Sc}
use Rattle.osc_text.specs.declared.spelling.Number.{Number}
use Rattle.osc_text.specs.declared.spelling.Operand.TheVariants.{Register, Immediate, Indexed, Address}
use Rattle.osc_text.specs.declared.spelling.Operands.{Operands}
use Rattle.osc_text.specs.declared.spelling.Operands.TheVariants.{Nothing, One, Two, Three}

-- a number's two's complement, below a limit
abbrev pub wrapped : ℕ → Number → ℕ
wrapped limit number = (if number.negative then limit - number.magnitude % limit else number.magnitude) % limit

abbrev pub instr_at : Mnemonic → Operands → Option Instr
instr_at (Upper op) (Two (Register rd) (Immediate number)) = Some (instr.Upper op rd (wrapped 1048576 number))
instr_at Jal (Two (Register rd) (Immediate number)) = Some (instr.Jal rd (wrapped 2097152 number / 2))
instr_at Jalr (Two (Register rd) (Indexed offset base)) = Some (instr.Jalr rd base (wrapped 4096 offset))
instr_at (Branch kind) (Three (Register rs1) (Register rs2) (Immediate number)) =
    Some (instr.Branch kind rs1 rs2 (wrapped 8192 number / 2))
instr_at (Load kind) (Two (Register rd) (Indexed offset base)) = Some (instr.Load kind rd base (wrapped 4096 offset))
instr_at (Store kind) (Two (Register rs2) (Indexed offset base)) = Some (instr.Store kind base rs2 (wrapped 4096 offset))
instr_at (Imm op) (Three (Register rd) (Register rs1) (Immediate number)) =
    Some (instr.Imm op rd rs1 (wrapped 4096 number))
instr_at (Shift op) (Three (Register rd) (Register rs1) (Immediate number)) =
    Some (instr.Shift op rd rs1 (wrapped 64 number))
instr_at (ShiftW op) (Three (Register rd) (Register rs1) (Immediate number)) =
    Some (instr.ShiftW op rd rs1 (wrapped 32 number))
instr_at (Op op) (Three (Register rd) (Register rs1) (Register rs2)) = Some (instr.Op op rd rs1 rs2)
instr_at (Mul op) (Three (Register rd) (Register rs1) (Register rs2)) = Some (instr.Mul op rd rs1 rs2)
instr_at Fence (One (Immediate number)) = Some (instr.Fence (wrapped 4194304 number))
instr_at FenceI (One (Immediate number)) = Some (instr.FenceI (wrapped 4194304 number))
instr_at Ecall Nothing = Some instr.Ecall
instr_at Ebreak Nothing = Some instr.Ebreak
instr_at (Amo op width aq rl) (Three (Register rd) (Register rs2) (Address rs1)) =
    Some (instr.Amo op width rd rs1 rs2 aq rl)
instr_at (Lr width aq rl) (Two (Register rd) (Address rs1)) = Some (instr.Lr width rd rs1 aq rl)
instr_at (Sc width aq rl) (Three (Register rd) (Register rs2) (Address rs1)) = Some (instr.Sc width rd rs1 rs2 aq rl)
instr_at mnemonic operands = None
