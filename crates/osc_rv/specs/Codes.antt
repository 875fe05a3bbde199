-- The operation codes of the RISC-V Unprivileged manual's instruction listings ("RV32/64G
-- Instruction Set Listings"): one table for each kind of operation, read in both directions.
use Rattle.std.specs.Prelude.{ℕ, ◌==◌, ◌&&◌, Option, List, [], ◌∷◌}
use Rattle.std.specs.List.{find}
use Rattle.osc_rv.specs.declared.instr.UpperOp.{UpperOp}
use Rattle.osc_rv.specs.declared.instr.UpperOp.TheVariants.{Lui, Auipc}
use Rattle.osc_rv.specs.declared.instr.BranchKind.{BranchKind}
use Rattle.osc_rv.specs.declared.instr.BranchKind.TheVariants.{Beq, Bne, Blt, Bge, Bltu, Bgeu}
use Rattle.osc_rv.specs.declared.instr.LoadKind.{LoadKind}
use Rattle.osc_rv.specs.declared.instr.LoadKind.TheVariants.{Lb, Lh, Lw, Ld, Lbu, Lhu, Lwu}
use Rattle.osc_rv.specs.declared.instr.StoreKind.{StoreKind}
use Rattle.osc_rv.specs.declared.instr.StoreKind.TheVariants.{Sb, Sh, Sw, Sd}
use Rattle.osc_rv.specs.declared.instr.ImmOp.{ImmOp}
use Rattle.osc_rv.specs.declared.instr.ImmOp.TheVariants.{Addi, Slti, Sltiu, Xori, Ori, Andi, Addiw}
use Rattle.osc_rv.specs.declared.instr.ShiftOp.{ShiftOp}
use Rattle.osc_rv.specs.declared.instr.ShiftOp.TheVariants.{Left, Right, Signed}
use Rattle.osc_rv.specs.declared.instr.RegOp.{RegOp}
use Rattle.osc_rv.specs.declared.instr.RegOp.TheVariants.{Add, Sub, Sll, Slt, Sltu, Xor, Srl, Sra, Or, And, Addw, Subw, Sllw, Srlw, Sraw}
use Rattle.osc_rv.specs.declared.instr.MulOp.{MulOp}
use Rattle.osc_rv.specs.declared.instr.MulOp.TheVariants.{Mul, Mulh, Mulhsu, Mulhu, Div, Divu, Rem, Remu, Mulw, Divw, Divuw, Remw, Remuw}
use Rattle.osc_rv.specs.declared.instr.AmoOp.{AmoOp}
use Rattle.osc_rv.specs.declared.instr.AmoOp.TheVariants.{Add as AmoAdd, Swap as AmoSwap, Xor as AmoXor, Or as AmoOr, And as AmoAnd, Min as AmoMin, Max as AmoMax, Minu as AmoMinu, Maxu as AmoMaxu}
use Rattle.osc_rv.specs.declared.instr.Width.{Width}
use Rattle.osc_rv.specs.declared.instr.Width.TheVariants.{W, D}

-- the opcodes of format U
abbrev pub upper_opcode : UpperOp → ℕ
upper_opcode Lui = 0x37
upper_opcode Auipc = 0x17

-- opcode BRANCH: funct3
abbrev pub branch_funct3 : BranchKind → ℕ
branch_funct3 Beq = 0
branch_funct3 Bne = 1
branch_funct3 Blt = 4
branch_funct3 Bge = 5
branch_funct3 Bltu = 6
branch_funct3 Bgeu = 7

abbrev pub branch_kinds : List BranchKind
branch_kinds = Beq ∷ Bne ∷ Blt ∷ Bge ∷ Bltu ∷ Bgeu ∷ []

abbrev pub branch_at : ℕ → Option BranchKind
branch_at funct3 = find (λ kind. branch_funct3 kind == funct3) branch_kinds

-- opcode LOAD: funct3
abbrev pub load_funct3 : LoadKind → ℕ
load_funct3 Lb = 0
load_funct3 Lh = 1
load_funct3 Lw = 2
load_funct3 Ld = 3
load_funct3 Lbu = 4
load_funct3 Lhu = 5
load_funct3 Lwu = 6

abbrev pub load_kinds : List LoadKind
load_kinds = Lb ∷ Lh ∷ Lw ∷ Ld ∷ Lbu ∷ Lhu ∷ Lwu ∷ []

abbrev pub load_at : ℕ → Option LoadKind
load_at funct3 = find (λ kind. load_funct3 kind == funct3) load_kinds

-- opcode STORE: funct3
abbrev pub store_funct3 : StoreKind → ℕ
store_funct3 Sb = 0
store_funct3 Sh = 1
store_funct3 Sw = 2
store_funct3 Sd = 3

abbrev pub store_kinds : List StoreKind
store_kinds = Sb ∷ Sh ∷ Sw ∷ Sd ∷ []

abbrev pub store_at : ℕ → Option StoreKind
store_at funct3 = find (λ kind. store_funct3 kind == funct3) store_kinds

-- opcodes OP-IMM and OP-IMM-32: opcode and funct3
abbrev pub imm_opcode : ImmOp → ℕ
imm_opcode Addi = 0x13
imm_opcode Slti = 0x13
imm_opcode Sltiu = 0x13
imm_opcode Xori = 0x13
imm_opcode Ori = 0x13
imm_opcode Andi = 0x13
imm_opcode Addiw = 0x1B

abbrev pub imm_funct3 : ImmOp → ℕ
imm_funct3 Addi = 0
imm_funct3 Slti = 2
imm_funct3 Sltiu = 3
imm_funct3 Xori = 4
imm_funct3 Ori = 6
imm_funct3 Andi = 7
imm_funct3 Addiw = 0

abbrev pub imm_ops : List ImmOp
imm_ops = Addi ∷ Slti ∷ Sltiu ∷ Xori ∷ Ori ∷ Andi ∷ Addiw ∷ []

abbrev pub imm_at : ℕ → ℕ → Option ImmOp
imm_at opcode funct3 = find (λ op. (imm_opcode op == opcode) && (imm_funct3 op == funct3)) imm_ops

-- the shifts of the same opcodes: funct3, and bits 31 to 26
abbrev pub shift_funct3 : ShiftOp → ℕ
shift_funct3 Left = 1
shift_funct3 Right = 5
shift_funct3 Signed = 5

abbrev pub shift_funct6 : ShiftOp → ℕ
shift_funct6 Left = 0
shift_funct6 Right = 0
shift_funct6 Signed = 0x10

abbrev pub shift_ops : List ShiftOp
shift_ops = Left ∷ Right ∷ Signed ∷ []

abbrev pub shift_at : ℕ → ℕ → Option ShiftOp
shift_at funct3 funct6 = find (λ op. (shift_funct3 op == funct3) && (shift_funct6 op == funct6)) shift_ops

-- opcodes OP and OP-32: opcode, funct3 and funct7
abbrev pub reg_opcode : RegOp → ℕ
reg_opcode Add = 0x33
reg_opcode Sub = 0x33
reg_opcode Sll = 0x33
reg_opcode Slt = 0x33
reg_opcode Sltu = 0x33
reg_opcode Xor = 0x33
reg_opcode Srl = 0x33
reg_opcode Sra = 0x33
reg_opcode Or = 0x33
reg_opcode And = 0x33
reg_opcode Addw = 0x3B
reg_opcode Subw = 0x3B
reg_opcode Sllw = 0x3B
reg_opcode Srlw = 0x3B
reg_opcode Sraw = 0x3B

abbrev pub reg_funct3 : RegOp → ℕ
reg_funct3 Add = 0
reg_funct3 Sub = 0
reg_funct3 Sll = 1
reg_funct3 Slt = 2
reg_funct3 Sltu = 3
reg_funct3 Xor = 4
reg_funct3 Srl = 5
reg_funct3 Sra = 5
reg_funct3 Or = 6
reg_funct3 And = 7
reg_funct3 Addw = 0
reg_funct3 Subw = 0
reg_funct3 Sllw = 1
reg_funct3 Srlw = 5
reg_funct3 Sraw = 5

abbrev pub reg_funct7 : RegOp → ℕ
reg_funct7 Add = 0
reg_funct7 Sub = 0x20
reg_funct7 Sll = 0
reg_funct7 Slt = 0
reg_funct7 Sltu = 0
reg_funct7 Xor = 0
reg_funct7 Srl = 0
reg_funct7 Sra = 0x20
reg_funct7 Or = 0
reg_funct7 And = 0
reg_funct7 Addw = 0
reg_funct7 Subw = 0x20
reg_funct7 Sllw = 0
reg_funct7 Srlw = 0
reg_funct7 Sraw = 0x20

abbrev pub reg_ops : List RegOp
reg_ops = Add ∷ Sub ∷ Sll ∷ Slt ∷ Sltu ∷ Xor ∷ Srl ∷ Sra ∷ Or ∷ And ∷ Addw ∷ Subw ∷ Sllw ∷ Srlw ∷ Sraw ∷ []

abbrev pub reg_at : ℕ → ℕ → ℕ → Option RegOp
reg_at opcode funct3 funct7 = find (λ op. (reg_opcode op == opcode) && (reg_funct3 op == funct3) && (reg_funct7 op == funct7)) reg_ops

-- the products, quotients and remainders of opcodes OP and OP-32: funct7, opcode and funct3
abbrev pub muldiv_funct7 : ℕ
muldiv_funct7 = 1

abbrev pub mul_opcode : MulOp → ℕ
mul_opcode Mul = 0x33
mul_opcode Mulh = 0x33
mul_opcode Mulhsu = 0x33
mul_opcode Mulhu = 0x33
mul_opcode Div = 0x33
mul_opcode Divu = 0x33
mul_opcode Rem = 0x33
mul_opcode Remu = 0x33
mul_opcode Mulw = 0x3B
mul_opcode Divw = 0x3B
mul_opcode Divuw = 0x3B
mul_opcode Remw = 0x3B
mul_opcode Remuw = 0x3B

abbrev pub mul_funct3 : MulOp → ℕ
mul_funct3 Mul = 0
mul_funct3 Mulh = 1
mul_funct3 Mulhsu = 2
mul_funct3 Mulhu = 3
mul_funct3 Div = 4
mul_funct3 Divu = 5
mul_funct3 Rem = 6
mul_funct3 Remu = 7
mul_funct3 Mulw = 0
mul_funct3 Divw = 4
mul_funct3 Divuw = 5
mul_funct3 Remw = 6
mul_funct3 Remuw = 7

abbrev pub mul_ops : List MulOp
mul_ops = Mul ∷ Mulh ∷ Mulhsu ∷ Mulhu ∷ Div ∷ Divu ∷ Rem ∷ Remu ∷ Mulw ∷ Divw ∷ Divuw ∷ Remw ∷ Remuw ∷ []

abbrev pub mul_at : ℕ → ℕ → Option MulOp
mul_at opcode funct3 = find (λ op. (mul_opcode op == opcode) && (mul_funct3 op == funct3)) mul_ops

-- opcode AMO: funct5 of those that have an operation, and funct3
abbrev pub amo_funct5 : AmoOp → ℕ
amo_funct5 AmoAdd = 0b00000
amo_funct5 AmoSwap = 0b00001
amo_funct5 AmoXor = 0b00100
amo_funct5 AmoOr = 0b01000
amo_funct5 AmoAnd = 0b01100
amo_funct5 AmoMin = 0b10000
amo_funct5 AmoMax = 0b10100
amo_funct5 AmoMinu = 0b11000
amo_funct5 AmoMaxu = 0b11100

abbrev pub amo_ops : List AmoOp
amo_ops = AmoAdd ∷ AmoSwap ∷ AmoXor ∷ AmoOr ∷ AmoAnd ∷ AmoMin ∷ AmoMax ∷ AmoMinu ∷ AmoMaxu ∷ []

abbrev pub amo_at : ℕ → Option AmoOp
amo_at funct5 = find (λ op. amo_funct5 op == funct5) amo_ops

abbrev pub width_funct3 : Width → ℕ
width_funct3 W = 2
width_funct3 D = 3

abbrev pub widths : List Width
widths = W ∷ D ∷ []

abbrev pub width_at : ℕ → Option Width
width_at funct3 = find (λ width. width_funct3 width == funct3) widths
