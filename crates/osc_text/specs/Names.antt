-- The names of instructions in the RISC-V Unprivileged manual's listings ("RV32/64G Instruction Set
-- Listings"). The name of an atomic access ends with its width, and then with `.aq`, `.rl` or `.aqrl`
-- as its bits say ("A" Standard Extension, "Specifying Ordering of Atomic Instructions").
use Rattle.std.specs.Prelude.{ℕ, Bool, true, false, List, [], ◌++◌, codes}
use Rattle.osc_rv.specs.declared.instr.UpperOp.{UpperOp}
use Rattle.osc_rv.specs.declared.instr.UpperOp.TheVariants.{Lui, Auipc}
use Rattle.osc_rv.specs.declared.instr.BranchKind.{BranchKind}
use Rattle.osc_rv.specs.declared.instr.BranchKind.TheVariants.{Beq, Bne, Blt, Bge, Bltu, Bgeu}
use Rattle.osc_rv.specs.declared.instr.LoadKind.{LoadKind}
use Rattle.osc_rv.specs.declared.instr.LoadKind.TheVariants.{Lb, Lh, Lw, Ld, Lbu, Lhu, Lwu}
use Rattle.osc_rv.specs.declared.instr.StoreKind.{StoreKind}
use Rattle.osc_rv.specs.declared.instr.StoreKind.TheVariants.{Sb, Sh, Sw, Sd}
use Rattle.osc_rv.specs.declared.instr.ImmOp.{ImmOp}
use Rattle.osc_rv.specs.declared.instr.ImmOp.TheVariants.{Addi, Slti, Sltiu, Xori, Ori, Andi, Addiw}
use Rattle.osc_rv.specs.declared.instr.ShiftOp.{ShiftOp}
use Rattle.osc_rv.specs.declared.instr.ShiftOp.TheVariants.{Left, Right, Signed}
use Rattle.osc_rv.specs.declared.instr.RegOp.{RegOp}
use Rattle.osc_rv.specs.declared.instr.RegOp.TheVariants.{Add, Sub, Sll, Slt, Sltu, Xor, Srl, Sra, Or, And, Addw, Subw, Sllw, Srlw, Sraw}
use Rattle.osc_rv.specs.declared.instr.MulOp.{MulOp}
use Rattle.osc_rv.specs.declared.instr.MulOp.TheVariants.{Mul, Mulh, Mulhsu, Mulhu, Div, Divu, Rem, Remu, Mulw, Divw, Divuw, Remw, Remuw}
use Rattle.osc_rv.specs.declared.instr.AmoOp.{AmoOp}
use Rattle.osc_rv.specs.declared.instr.AmoOp.TheVariants.{Add as AmoAdd, Swap as AmoSwap, Xor as AmoXor, Or as AmoOr, And as AmoAnd, Min as AmoMin, Max as AmoMax, Minu as AmoMinu, Maxu as AmoMaxu}
use Rattle.osc_rv.specs.declared.instr.Width.{Width}
use Rattle.osc_rv.specs.declared.instr.Width.TheVariants.{W, D}
use Rattle.osc_text.specs.declared.spelling.Mnemonic.{Mnemonic}
use Rattle.osc_text.specs.declared.spelling.Mnemonic.TheVariants as mnemonic

-- the operations of format U
abbrev pub upper_name : UpperOp → List ℕ
upper_name Lui = codes "lui"
upper_name Auipc = codes "auipc"

-- branches
abbrev pub branch_name : BranchKind → List ℕ
branch_name Beq = codes "beq"
branch_name Bne = codes "bne"
branch_name Blt = codes "blt"
branch_name Bge = codes "bge"
branch_name Bltu = codes "bltu"
branch_name Bgeu = codes "bgeu"

-- loads
abbrev pub load_name : LoadKind → List ℕ
load_name Lb = codes "lb"
load_name Lh = codes "lh"
load_name Lw = codes "lw"
load_name Ld = codes "ld"
load_name Lbu = codes "lbu"
load_name Lhu = codes "lhu"
load_name Lwu = codes "lwu"

-- stores
abbrev pub store_name : StoreKind → List ℕ
store_name Sb = codes "sb"
store_name Sh = codes "sh"
store_name Sw = codes "sw"
store_name Sd = codes "sd"

-- the operations on a register and an immediate
abbrev pub imm_name : ImmOp → List ℕ
imm_name Addi = codes "addi"
imm_name Slti = codes "slti"
imm_name Sltiu = codes "sltiu"
imm_name Xori = codes "xori"
imm_name Ori = codes "ori"
imm_name Andi = codes "andi"
imm_name Addiw = codes "addiw"

-- shifts of 64 bits by an amount
abbrev pub shift_name : ShiftOp → List ℕ
shift_name Left = codes "slli"
shift_name Right = codes "srli"
shift_name Signed = codes "srai"

-- and of 32
abbrev pub shift_w_name : ShiftOp → List ℕ
shift_w_name Left = codes "slliw"
shift_w_name Right = codes "srliw"
shift_w_name Signed = codes "sraiw"

-- the operations on two registers
abbrev pub reg_name : RegOp → List ℕ
reg_name Add = codes "add"
reg_name Sub = codes "sub"
reg_name Sll = codes "sll"
reg_name Slt = codes "slt"
reg_name Sltu = codes "sltu"
reg_name Xor = codes "xor"
reg_name Srl = codes "srl"
reg_name Sra = codes "sra"
reg_name Or = codes "or"
reg_name And = codes "and"
reg_name Addw = codes "addw"
reg_name Subw = codes "subw"
reg_name Sllw = codes "sllw"
reg_name Srlw = codes "srlw"
reg_name Sraw = codes "sraw"

-- products, quotients and remainders
abbrev pub mul_name : MulOp → List ℕ
mul_name Mul = codes "mul"
mul_name Mulh = codes "mulh"
mul_name Mulhsu = codes "mulhsu"
mul_name Mulhu = codes "mulhu"
mul_name Div = codes "div"
mul_name Divu = codes "divu"
mul_name Rem = codes "rem"
mul_name Remu = codes "remu"
mul_name Mulw = codes "mulw"
mul_name Divw = codes "divw"
mul_name Divuw = codes "divuw"
mul_name Remw = codes "remw"
mul_name Remuw = codes "remuw"

-- atomic memory operations
abbrev pub amo_name : AmoOp → List ℕ
amo_name AmoAdd = codes "amoadd"
amo_name AmoSwap = codes "amoswap"
amo_name AmoXor = codes "amoxor"
amo_name AmoOr = codes "amoor"
amo_name AmoAnd = codes "amoand"
amo_name AmoMin = codes "amomin"
amo_name AmoMax = codes "amomax"
amo_name AmoMinu = codes "amominu"
amo_name AmoMaxu = codes "amomaxu"

-- the width of an atomic access
abbrev pub width_name : Width → List ℕ
width_name W = codes ".w"
width_name D = codes ".d"

-- the bits aq and rl
abbrev pub order_name : Bool → Bool → List ℕ
order_name false false = []
order_name true false = codes ".aq"
order_name false true = codes ".rl"
order_name true true = codes ".aqrl"

abbrev pub name_of : Mnemonic → List ℕ
name_of (mnemonic.Upper op) = upper_name op
name_of mnemonic.Jal = codes "jal"
name_of mnemonic.Jalr = codes "jalr"
name_of (mnemonic.Branch kind) = branch_name kind
name_of (mnemonic.Load kind) = load_name kind
name_of (mnemonic.Store kind) = store_name kind
name_of (mnemonic.Imm op) = imm_name op
name_of (mnemonic.Shift op) = shift_name op
name_of (mnemonic.ShiftW op) = shift_w_name op
name_of (mnemonic.Op op) = reg_name op
name_of (mnemonic.Mul op) = mul_name op
name_of mnemonic.Fence = codes "fence"
name_of mnemonic.FenceI = codes "fence.i"
name_of mnemonic.Ecall = codes "ecall"
name_of mnemonic.Ebreak = codes "ebreak"
name_of (mnemonic.Amo op width aq rl) = amo_name op ++ width_name width ++ order_name aq rl
name_of (mnemonic.Lr width aq rl) = codes "lr" ++ width_name width ++ order_name aq rl
name_of (mnemonic.Sc width aq rl) = codes "sc" ++ width_name width ++ order_name aq rl
