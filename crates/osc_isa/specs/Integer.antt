-- What an integer instruction does, on numbers. RISC-V Unprivileged manual, "RV32I Base Integer
-- Instruction Set" and "RV64I Base Integer Instruction Set"; products and quotients by "M Standard
-- Extension for Integer Multiplication and Division"; the address and operand of an atomic
-- instruction by "A Extension for Atomic Instructions". An instruction has 4 bytes, and the target of a
-- jump has to be divisible by 4.
use Rattle.std.specs.Prelude.{ℕ, ◌+◌, ◌-◌, ◌*◌, ◌/◌, ◌^◌, ◌%◌, ◌==◌, Bool, not, nat_lt, if◌then◌else◌, List, bit_and, bit_or, bit_xor, int_lt}
use Rattle.osc_rv.specs.declared.instr.Instr.{Instr}
use Rattle.osc_rv.specs.declared.instr.Instr.TheVariants as instr
use Rattle.osc_rv.specs.declared.instr.UpperOp.TheVariants.{Lui, Auipc}
use Rattle.osc_rv.specs.declared.instr.BranchKind.{BranchKind}
use Rattle.osc_rv.specs.declared.instr.BranchKind.TheVariants.{Beq, Bne, Blt, Bge, Bltu, Bgeu}
use Rattle.osc_rv.specs.declared.instr.LoadKind.{LoadKind}
use Rattle.osc_rv.specs.declared.instr.LoadKind.TheVariants.{Lb, Lh, Lw, Ld, Lbu, Lhu, Lwu}
use Rattle.osc_rv.specs.declared.instr.StoreKind.{StoreKind}
use Rattle.osc_rv.specs.declared.instr.StoreKind.TheVariants.{Sb, Sh, Sw, Sd}
use Rattle.osc_rv.specs.declared.instr.ImmOp.{ImmOp}
use Rattle.osc_rv.specs.declared.instr.ImmOp.TheVariants.{Addi, Slti, Sltiu, Xori, Ori, Andi, Addiw}
use Rattle.osc_rv.specs.declared.instr.ShiftOp.{ShiftOp}
use Rattle.osc_rv.specs.declared.instr.ShiftOp.TheVariants.{Left, Right, Signed}
use Rattle.osc_rv.specs.declared.instr.RegOp.{RegOp}
use Rattle.osc_rv.specs.declared.instr.RegOp.TheVariants.{Add, Sub, Sll, Slt, Sltu, Xor, Srl, Sra, Or, And, Addw, Subw, Sllw, Srlw, Sraw}
use Rattle.osc_word.specs.Registers.{register}
use Rattle.osc_isa.specs.declared.IntDone.{IntDone}
use Rattle.osc_isa.specs.declared.IntDone.TheVariants as done
use Rattle.osc_isa.specs.Multiply.{muldiv}
use Rattle.osc_isa.specs.Numbers.{wrapped, extended, word, signed, signed_shift, one_if}

-- the address of the instruction after the one at pc
abbrev pub next : ℕ → ℕ
next pc = wrapped (pc + 4)

-- what an operation gives for two registers; those that end in w work on the low 32 bits
abbrev pub operate : RegOp → ℕ → ℕ → ℕ
operate Add a b = wrapped (a + b)
operate Sub a b = wrapped (a + (18446744073709551616 - b))
operate Sll a b = wrapped (a * 2 ^ (b % 64))
operate Slt a b = one_if (int_lt (signed a) (signed b))
operate Sltu a b = one_if (nat_lt a b)
operate Xor a b = bit_xor a b
operate Srl a b = a / 2 ^ (b % 64)
operate Sra a b = signed_shift a (b % 64)
operate Or a b = bit_or a b
operate And a b = bit_and a b
operate Addw a b = word (a + b)
operate Subw a b = word (a + (18446744073709551616 - b))
operate Sllw a b = word (a * 2 ^ (b % 32))
operate Srlw a b = word (a % 4294967296 / 2 ^ (b % 32))
operate Sraw a b = signed_shift (word a) (b % 32)

-- an operation with an immediate is that with a register that holds it
abbrev pub op_of_imm : ImmOp → RegOp
op_of_imm Addi = Add
op_of_imm Slti = Slt
op_of_imm Sltiu = Sltu
op_of_imm Xori = Xor
op_of_imm Ori = Or
op_of_imm Andi = And
op_of_imm Addiw = Addw

-- and so is a shift by an amount
abbrev pub op_of_shift : ShiftOp → RegOp
op_of_shift Left = Sll
op_of_shift Right = Srl
op_of_shift Signed = Sra

abbrev pub op_of_shift_w : ShiftOp → RegOp
op_of_shift_w Left = Sllw
op_of_shift_w Right = Srlw
op_of_shift_w Signed = Sraw

-- whether a branch is taken
abbrev pub is_taken : BranchKind → ℕ → ℕ → Bool
is_taken Beq a b = a == b
is_taken Bne a b = not (a == b)
is_taken Blt a b = int_lt (signed a) (signed b)
is_taken Bge a b = not (int_lt (signed a) (signed b))
is_taken Bltu a b = nat_lt a b
is_taken Bgeu a b = not (nat_lt a b)

-- the bytes of a load
abbrev pub load_width : LoadKind → ℕ
load_width Lb = 1
load_width Lh = 2
load_width Lw = 4
load_width Ld = 8
load_width Lbu = 1
load_width Lhu = 2
load_width Lwu = 4

-- what a load puts into its register, by the number in its bytes
abbrev pub loaded : LoadKind → ℕ → ℕ
loaded Lb number = extended 8 number
loaded Lh number = extended 16 number
loaded Lw number = extended 32 number
loaded Ld number = number
loaded Lbu number = number
loaded Lhu number = number
loaded Lwu number = number

-- the bytes of a store
abbrev pub store_width : StoreKind → ℕ
store_width Sb = 1
store_width Sh = 2
store_width Sw = 4
store_width Sd = 8

-- a jump, which leaves the address to come back to in a register
abbrev pub jumped : ℕ → ℕ → ℕ → IntDone
jumped rd pc target = if target % 4 == 0 then done.Set rd (next pc) target else done.BadTarget target

-- a branch; one that is not taken may have any target
abbrev pub branched : Bool → ℕ → ℕ → IntDone
branched taken pc target =
    if taken then (if target % 4 == 0 then done.Go target else done.BadTarget target) else done.Go (next pc)

-- a register plus a signed field of 12 bits
abbrev pub offset_from : List ℕ → ℕ → ℕ → ℕ
offset_from regs rs1 imm = wrapped (register regs rs1 + extended 12 imm)

abbrev pub without_bit_0 : ℕ → ℕ
without_bit_0 number = number - number % 2

-- what the instruction at pc does, by what the registers hold
abbrev pub done_of : Instr → List ℕ → ℕ → IntDone
done_of (instr.Upper Lui rd imm) regs pc = done.Set rd (extended 32 (imm * 4096)) (next pc)
done_of (instr.Upper Auipc rd imm) regs pc = done.Set rd (wrapped (pc + extended 32 (imm * 4096))) (next pc)
done_of (instr.Jal rd half) regs pc = jumped rd pc (wrapped (pc + extended 21 (half * 2)))
done_of (instr.Jalr rd rs1 imm) regs pc = jumped rd pc (without_bit_0 (offset_from regs rs1 imm))
done_of (instr.Branch kind rs1 rs2 half) regs pc =
    branched (is_taken kind (register regs rs1) (register regs rs2)) pc (wrapped (pc + extended 13 (half * 2)))
done_of (instr.Load kind rd rs1 imm) regs pc = done.Load rd kind (offset_from regs rs1 imm)
done_of (instr.Store kind rs1 rs2 imm) regs pc =
    done.Store (store_width kind) (offset_from regs rs1 imm) (register regs rs2 % 256 ^ store_width kind)
done_of (instr.Imm op rd rs1 imm) regs pc =
    done.Set rd (operate (op_of_imm op) (register regs rs1) (extended 12 imm)) (next pc)
done_of (instr.Shift op rd rs1 amount) regs pc =
    done.Set rd (operate (op_of_shift op) (register regs rs1) amount) (next pc)
done_of (instr.ShiftW op rd rs1 amount) regs pc =
    done.Set rd (operate (op_of_shift_w op) (register regs rs1) amount) (next pc)
done_of (instr.Op op rd rs1 rs2) regs pc = done.Set rd (operate op (register regs rs1) (register regs rs2)) (next pc)
done_of (instr.Mul op rd rs1 rs2) regs pc = done.Set rd (muldiv op (register regs rs1) (register regs rs2)) (next pc)
done_of (instr.Fence bits) regs pc = done.Go (next pc)
done_of (instr.FenceI bits) regs pc = done.Go (next pc)
done_of instr.Ecall regs pc = done.Call
done_of instr.Ebreak regs pc = done.Break
done_of (instr.Amo op width rd rs1 rs2 aq rl) regs pc = done.Atomic (register regs rs1) (register regs rs2)
done_of (instr.Lr width rd rs1 aq rl) regs pc = done.Atomic (register regs rs1) 0
done_of (instr.Sc width rd rs1 rs2 aq rl) regs pc = done.Atomic (register regs rs1) (register regs rs2)
