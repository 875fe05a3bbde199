-- The meaning of an instruction word of RV64IMA with fence.i, and the word of an instruction, by the
-- listings of the RISC-V Unprivileged manual ("RV32/64G Instruction Set Listings"). A word is a
-- number below 2 ^ 32.
use Rattle.std.specs.Prelude.{ℕ, ◌+◌, ◌*◌, ◌^◌, ◌<◌, ◌==◌, Bool, if◌then◌else◌, Option, None, Some}
use Rattle.std.specs.Option.{option_map, option_and_then, option_or}
use Rattle.osc_rv.specs.Bits.{bits}
use Rattle.osc_rv.specs.Codes.{upper_opcode, branch_funct3, branch_at, load_funct3, load_at, store_funct3, store_at, imm_opcode, imm_funct3, imm_at, shift_funct3, shift_funct6, shift_at, reg_opcode, reg_funct3, reg_funct7, reg_at, muldiv_funct7, mul_opcode, mul_funct3, mul_at, amo_funct5, amo_at, width_funct3, width_at}
use Rattle.osc_rv.specs.Formats.{r_word, i_word, s_word, b_word, u_word, j_word, fence_word, s_imm, b_half, j_half, fence_bits}
use Rattle.osc_rv.specs.declared.instr.Instr.{Instr}
use Rattle.osc_rv.specs.declared.instr.Instr.TheVariants.{Upper, Jal, Jalr, Branch, Load, Store, Imm, Shift, ShiftW, Op, Mul, Fence, FenceI, Ecall, Ebreak, Amo, Lr, Sc}
use Rattle.osc_rv.specs.declared.instr.UpperOp.{UpperOp}
use Rattle.osc_rv.specs.declared.instr.UpperOp.TheVariants.{Lui, Auipc}
use Rattle.osc_rv.specs.declared.instr.Width.{Width}

abbrev pub opcode_of : ℕ → ℕ
opcode_of word = bits 0 7 word

abbrev pub rd_of : ℕ → ℕ
rd_of word = bits 7 5 word

abbrev pub funct3_of : ℕ → ℕ
funct3_of word = bits 12 3 word

abbrev pub rs1_of : ℕ → ℕ
rs1_of word = bits 15 5 word

abbrev pub rs2_of : ℕ → ℕ
rs2_of word = bits 20 5 word

abbrev pub funct7_of : ℕ → ℕ
funct7_of word = bits 25 7 word

abbrev pub i_imm : ℕ → ℕ
i_imm word = bits 20 12 word

abbrev pub u_imm : ℕ → ℕ
u_imm word = bits 12 20 word

abbrev pub upper_of : UpperOp → ℕ → Instr
upper_of op word = Upper op (rd_of word) (u_imm word)

abbrev pub jal_of : ℕ → Instr
jal_of word = Jal (rd_of word) (j_half word)

abbrev pub jalr_of : ℕ → Option Instr
jalr_of word = if funct3_of word == 0 then Some (Jalr (rd_of word) (rs1_of word) (i_imm word)) else None

abbrev pub branch_of : ℕ → Option Instr
branch_of word =
    option_map (λ kind. Branch kind (rs1_of word) (rs2_of word) (b_half word)) (branch_at (funct3_of word))

abbrev pub load_of : ℕ → Option Instr
load_of word = option_map (λ kind. Load kind (rd_of word) (rs1_of word) (i_imm word)) (load_at (funct3_of word))

abbrev pub store_of : ℕ → Option Instr
store_of word = option_map (λ kind. Store kind (rs1_of word) (rs2_of word) (s_imm word)) (store_at (funct3_of word))

abbrev pub imm_of : ℕ → ℕ → Option Instr
imm_of opcode word =
    option_map (λ op. Imm op (rd_of word) (rs1_of word) (i_imm word)) (imm_at opcode (funct3_of word))

-- the amount is in bits 25 to 20
abbrev pub shift_of : ℕ → Option Instr
shift_of word =
    option_map (λ op. Shift op (rd_of word) (rs1_of word) (bits 20 6 word))
    (shift_at (funct3_of word) (bits 26 6 word))

-- the amount is in bits 24 to 20, and bit 25 is 0
abbrev pub shift_w_of : ℕ → Option Instr
shift_w_of word =
    if bits 25 1 word == 0
    then option_map (λ op. ShiftW op (rd_of word) (rs1_of word) (bits 20 5 word))
    (shift_at (funct3_of word) (bits 26 6 word))
    else None

abbrev pub reg_of : ℕ → ℕ → Option Instr
reg_of opcode word =
    option_map (λ op. Op op (rd_of word) (rs1_of word) (rs2_of word))
    (reg_at opcode (funct3_of word) (funct7_of word))

abbrev pub mul_of : ℕ → ℕ → Option Instr
mul_of opcode word =
    if funct7_of word == muldiv_funct7
    then option_map (λ op. Mul op (rd_of word) (rs1_of word) (rs2_of word)) (mul_at opcode (funct3_of word))
    else None

abbrev pub fence_of : ℕ → Option Instr
fence_of word =
    if funct3_of word == 0 then Some (Fence (fence_bits word))
    else if funct3_of word == 1 then Some (FenceI (fence_bits word))
    else None

abbrev pub system_of : ℕ → Option Instr
system_of word = if word == 0x73 then Some Ecall else if word == 0x100073 then Some Ebreak else None

abbrev pub aq_of : ℕ → Bool
aq_of word = bits 26 1 word == 1

abbrev pub rl_of : ℕ → Bool
rl_of word = bits 25 1 word == 1

-- funct5 stands in bits 31 to 27; lr has 0 in the place of rs2
abbrev pub atomic_of : ℕ → Width → Option Instr
atomic_of word width =
    if bits 27 5 word == 0b00010
    then (if rs2_of word == 0 then Some (Lr width (rd_of word) (rs1_of word) (aq_of word) (rl_of word)) else None)
    else if bits 27 5 word == 0b00011
    then Some (Sc width (rd_of word) (rs1_of word) (rs2_of word) (aq_of word) (rl_of word))
    else option_map (λ op. Amo op width (rd_of word) (rs1_of word) (rs2_of word) (aq_of word) (rl_of word))
    (amo_at (bits 27 5 word))

-- the instruction of a word: None where the listings have no such word
unfoldable pub instr_of : ℕ → Option Instr
instr_of word =
    if opcode_of word == 0x37 then Some (upper_of Lui word)
    else if opcode_of word == 0x17 then Some (upper_of Auipc word)
    else if opcode_of word == 0x6F then Some (jal_of word)
    else if opcode_of word == 0x67 then jalr_of word
    else if opcode_of word == 0x63 then branch_of word
    else if opcode_of word == 0x03 then load_of word
    else if opcode_of word == 0x23 then store_of word
    else if opcode_of word == 0x13 then option_or (imm_of 0x13 word) (shift_of word)
    else if opcode_of word == 0x1B then option_or (imm_of 0x1B word) (shift_w_of word)
    else if opcode_of word == 0x33 then option_or (reg_of 0x33 word) (mul_of 0x33 word)
    else if opcode_of word == 0x3B then option_or (reg_of 0x3B word) (mul_of 0x3B word)
    else if opcode_of word == 0x0F then fence_of word
    else if opcode_of word == 0x73 then system_of word
    else if opcode_of word == 0x2F then option_and_then (atomic_of word) (width_at (funct3_of word))
    else None

abbrev pub bit_of : Bool → ℕ
bit_of bit = if bit then 1 else 0

abbrev pub atomic_word : ℕ → Width → ℕ → ℕ → ℕ → Bool → Bool → ℕ
atomic_word funct5 width rd rs1 rs2 aq rl =
    r_word 0x2F rd (width_funct3 width) rs1 rs2 (bit_of rl + bit_of aq * 2 ^ 1 + funct5 * 2 ^ 2)

-- the word of an instruction
unfoldable pub word_of : Instr → ℕ
word_of (Upper op rd imm) = u_word (upper_opcode op) rd imm
word_of (Jal rd half) = j_word 0x6F rd half
word_of (Jalr rd rs1 imm) = i_word 0x67 rd 0 rs1 imm
word_of (Branch kind rs1 rs2 half) = b_word 0x63 (branch_funct3 kind) rs1 rs2 half
word_of (Load kind rd rs1 imm) = i_word 0x03 rd (load_funct3 kind) rs1 imm
word_of (Store kind rs1 rs2 imm) = s_word 0x23 (store_funct3 kind) rs1 rs2 imm
word_of (Imm op rd rs1 imm) = i_word (imm_opcode op) rd (imm_funct3 op) rs1 imm
word_of (Shift op rd rs1 amount) = i_word 0x13 rd (shift_funct3 op) rs1 (amount + shift_funct6 op * 2 ^ 6)
word_of (ShiftW op rd rs1 amount) = i_word 0x1B rd (shift_funct3 op) rs1 (amount + shift_funct6 op * 2 ^ 6)
word_of (Op op rd rs1 rs2) = r_word (reg_opcode op) rd (reg_funct3 op) rs1 rs2 (reg_funct7 op)
word_of (Mul op rd rs1 rs2) = r_word (mul_opcode op) rd (mul_funct3 op) rs1 rs2 muldiv_funct7
word_of (Fence free) = fence_word 0x0F 0 free
word_of (FenceI free) = fence_word 0x0F 1 free
word_of Ecall = 0x73
word_of Ebreak = 0x100073
word_of (Amo op width rd rs1 rs2 aq rl) = atomic_word (amo_funct5 op) width rd rs1 rs2 aq rl
word_of (Lr width rd rs1 aq rl) = atomic_word 0b00010 width rd rs1 0 aq rl
word_of (Sc width rd rs1 rs2 aq rl) = atomic_word 0b00011 width rd rs1 rs2 aq rl

-- what an instruction keeps by the types of its fields
abbrev pub FieldsFit : Instr → Type 0
FieldsFit (Upper op rd imm) = (rd < 2 ^ 5) × (imm < 2 ^ 20)
FieldsFit (Jal rd half) = (rd < 2 ^ 5) × (half < 2 ^ 20)
FieldsFit (Jalr rd rs1 imm) = (rd < 2 ^ 5) × (rs1 < 2 ^ 5) × (imm < 2 ^ 12)
FieldsFit (Branch kind rs1 rs2 half) = (rs1 < 2 ^ 5) × (rs2 < 2 ^ 5) × (half < 2 ^ 12)
FieldsFit (Load kind rd rs1 imm) = (rd < 2 ^ 5) × (rs1 < 2 ^ 5) × (imm < 2 ^ 12)
FieldsFit (Store kind rs1 rs2 imm) = (rs1 < 2 ^ 5) × (rs2 < 2 ^ 5) × (imm < 2 ^ 12)
FieldsFit (Imm op rd rs1 imm) = (rd < 2 ^ 5) × (rs1 < 2 ^ 5) × (imm < 2 ^ 12)
FieldsFit (Shift op rd rs1 amount) = (rd < 2 ^ 5) × (rs1 < 2 ^ 5) × (amount < 2 ^ 6)
FieldsFit (ShiftW op rd rs1 amount) = (rd < 2 ^ 5) × (rs1 < 2 ^ 5) × (amount < 2 ^ 5)
FieldsFit (Op op rd rs1 rs2) = (rd < 2 ^ 5) × (rs1 < 2 ^ 5) × (rs2 < 2 ^ 5)
FieldsFit (Mul op rd rs1 rs2) = (rd < 2 ^ 5) × (rs1 < 2 ^ 5) × (rs2 < 2 ^ 5)
FieldsFit (Fence free) = free < 2 ^ 22
FieldsFit (FenceI free) = free < 2 ^ 22
FieldsFit Ecall = Unit {0}
FieldsFit Ebreak = Unit {0}
FieldsFit (Amo op width rd rs1 rs2 aq rl) = (rd < 2 ^ 5) × (rs1 < 2 ^ 5) × (rs2 < 2 ^ 5)
FieldsFit (Lr width rd rs1 aq rl) = (rd < 2 ^ 5) × (rs1 < 2 ^ 5)
FieldsFit (Sc width rd rs1 rs2 aq rl) = (rd < 2 ^ 5) × (rs1 < 2 ^ 5) × (rs2 < 2 ^ 5)
