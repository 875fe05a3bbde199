-- The mnemonic and the operands of an instruction, in the order of its text: RISC-V Unprivileged
-- manual, "RV32/64G Instruction Set Listings", and the "RISC-V Assembly Programmer's Handbook". A
-- number is in decimal where the manual's tools may write it otherwise, and an offset is one in bytes.
use Rattle.std.specs.Prelude.{ℕ, ◌-◌, ◌*◌, true, false, nat_lt, if◌then◌else◌}
use Rattle.osc_rv.specs.declared.instr.Instr.{Instr}
use Rattle.osc_rv.specs.declared.instr.Instr.TheVariants as instr
use Rattle.osc_rv.specs.declared.instr.UpperOp.{UpperOp}
use Rattle.osc_rv.specs.declared.instr.BranchKind.{BranchKind}
use Rattle.osc_text.specs.declared.spelling.Mnemonic.{Mnemonic}
use Rattle.osc_text.specs.declared.spelling.Mnemonic.TheVariants.{Upper, Jal, Jalr, Branch, Load, Store, Imm, Shift, ShiftW, Op, Mul, Fence, FenceI, Ecall, Ebreak, Amo, Lr, Sc}
use Rattle.osc_text.specs.declared.spelling.Number.{Number}
use Rattle.osc_text.specs.declared.spelling.Operand.TheVariants.{Register, Immediate, Indexed, Address}
use Rattle.osc_text.specs.declared.spelling.Operands.TheVariants.{Nothing, One, Two, Three}
use Rattle.osc_text.specs.declared.spelling.Spelling.{Spelling}

-- ---- numbers

abbrev pub natural : ℕ → Number
natural number = record { negative = false; magnitude = number }

-- the number from -reach to reach - 1 whose two's complement a field holds
abbrev pub signed : ℕ → ℕ → Number
signed reach field =
    if nat_lt field reach then natural field else record { negative = true; magnitude = 2 * reach - field }

-- ---- formats

abbrev pub upper : UpperOp → ℕ → ℕ → Spelling
upper op rd imm = record { mnemonic = Upper op; operands = Two (Register rd) (Immediate (natural imm)) }

-- the offset of a jal has 21 bits and that of a branch 13, and bit 0 is not in the field
abbrev pub jump : ℕ → ℕ → Spelling
jump rd half = record { mnemonic = Jal; operands = Two (Register rd) (Immediate (signed 1048576 (2 * half))) }

abbrev pub branch : BranchKind → ℕ → ℕ → ℕ → Spelling
branch kind rs1 rs2 half = record {
  mnemonic = Branch kind;
  operands = Three (Register rs1) (Register rs2) (Immediate (signed 4096 (2 * half)));
}

abbrev pub indexed : Mnemonic → ℕ → ℕ → ℕ → Spelling
indexed mnemonic register base imm =
    record { mnemonic = mnemonic; operands = Two (Register register) (Indexed (signed 2048 imm) base) }

abbrev pub with_number : Mnemonic → ℕ → ℕ → Number → Spelling
with_number mnemonic rd rs1 number =
    record { mnemonic = mnemonic; operands = Three (Register rd) (Register rs1) (Immediate number) }

abbrev pub registers : Mnemonic → ℕ → ℕ → ℕ → Spelling
registers mnemonic rd rs1 rs2 =
    record { mnemonic = mnemonic; operands = Three (Register rd) (Register rs1) (Register rs2) }

abbrev pub fence : Mnemonic → ℕ → Spelling
fence mnemonic free = record { mnemonic = mnemonic; operands = One (Immediate (natural free)) }

abbrev pub atomic : Mnemonic → ℕ → ℕ → ℕ → Spelling
atomic mnemonic rd rs1 rs2 =
    record { mnemonic = mnemonic; operands = Three (Register rd) (Register rs2) (Address rs1) }

abbrev pub reserved : Mnemonic → ℕ → ℕ → Spelling
reserved mnemonic rd rs1 = record { mnemonic = mnemonic; operands = Two (Register rd) (Address rs1) }

abbrev pub bare : Mnemonic → Spelling
bare mnemonic = record { mnemonic = mnemonic; operands = Nothing }

-- ---- instructions

abbrev pub spelling_of : Instr → Spelling
spelling_of (instr.Upper op rd imm) = upper op rd imm
spelling_of (instr.Jal rd half) = jump rd half
spelling_of (instr.Jalr rd rs1 imm) = indexed Jalr rd rs1 imm
spelling_of (instr.Branch kind rs1 rs2 half) = branch kind rs1 rs2 half
spelling_of (instr.Load kind rd rs1 imm) = indexed (Load kind) rd rs1 imm
spelling_of (instr.Store kind rs1 rs2 imm) = indexed (Store kind) rs2 rs1 imm
spelling_of (instr.Imm op rd rs1 imm) = with_number (Imm op) rd rs1 (signed 2048 imm)
spelling_of (instr.Shift op rd rs1 amount) = with_number (Shift op) rd rs1 (natural amount)
spelling_of (instr.ShiftW op rd rs1 amount) = with_number (ShiftW op) rd rs1 (natural amount)
spelling_of (instr.Op op rd rs1 rs2) = registers (Op op) rd rs1 rs2
spelling_of (instr.Mul op rd rs1 rs2) = registers (Mul op) rd rs1 rs2
spelling_of (instr.Fence free) = fence Fence free
spelling_of (instr.FenceI free) = fence FenceI free
spelling_of instr.Ecall = bare Ecall
spelling_of instr.Ebreak = bare Ebreak
spelling_of (instr.Amo op width rd rs1 rs2 aq rl) = atomic (Amo op width aq rl) rd rs1 rs2
spelling_of (instr.Lr width rd rs1 aq rl) = reserved (Lr width aq rl) rd rs1
spelling_of (instr.Sc width rd rs1 rs2 aq rl) = atomic (Sc width aq rl) rd rs1 rs2
