-- The instruction formats R, I, S, B, U and J of the RISC-V Unprivileged manual ("Base Instruction
-- Formats", "Immediate Encoding Variants"): the word of its fields, from bit 0 on, and the
-- immediates of a word. An offset's `half` lacks its bit 0: bit k of the offset is bit k - 1 here.
use Rattle.std.specs.Prelude.{ℕ, ◌+◌, ◌*◌, ◌^◌}
use Rattle.osc_rv.specs.Bits.{bits}

abbrev pub r_word : ℕ → ℕ → ℕ → ℕ → ℕ → ℕ → ℕ
r_word opcode rd funct3 rs1 rs2 funct7 =
    opcode + rd * 2 ^ 7 + funct3 * 2 ^ 12 + rs1 * 2 ^ 15 + rs2 * 2 ^ 20 + funct7 * 2 ^ 25

abbrev pub i_word : ℕ → ℕ → ℕ → ℕ → ℕ → ℕ
i_word opcode rd funct3 rs1 imm = opcode + rd * 2 ^ 7 + funct3 * 2 ^ 12 + rs1 * 2 ^ 15 + imm * 2 ^ 20

abbrev pub s_word : ℕ → ℕ → ℕ → ℕ → ℕ → ℕ
s_word opcode funct3 rs1 rs2 imm =
    opcode + bits 0 5 imm * 2 ^ 7 + funct3 * 2 ^ 12 + rs1 * 2 ^ 15 + rs2 * 2 ^ 20 + bits 5 7 imm * 2 ^ 25

abbrev pub b_word : ℕ → ℕ → ℕ → ℕ → ℕ → ℕ
b_word opcode funct3 rs1 rs2 half =
    opcode + bits 10 1 half * 2 ^ 7 + bits 0 4 half * 2 ^ 8 + funct3 * 2 ^ 12 + rs1 * 2 ^ 15 + rs2 * 2 ^ 20
    + bits 4 6 half * 2 ^ 25 + bits 11 1 half * 2 ^ 31

abbrev pub u_word : ℕ → ℕ → ℕ → ℕ
u_word opcode rd imm = opcode + rd * 2 ^ 7 + imm * 2 ^ 12

abbrev pub j_word : ℕ → ℕ → ℕ → ℕ
j_word opcode rd half =
    opcode + rd * 2 ^ 7 + bits 11 8 half * 2 ^ 12 + bits 10 1 half * 2 ^ 20 + bits 0 10 half * 2 ^ 21
    + bits 19 1 half * 2 ^ 31

-- opcode MISC-MEM: every bit but those of opcode and funct3 is free
abbrev pub fence_word : ℕ → ℕ → ℕ → ℕ
fence_word opcode funct3 free = opcode + bits 0 5 free * 2 ^ 7 + funct3 * 2 ^ 12 + bits 5 17 free * 2 ^ 15

-- imm[11:5] and imm[4:0]
abbrev pub s_imm : ℕ → ℕ
s_imm word = bits 7 5 word + bits 25 7 word * 2 ^ 5

-- imm[12], imm[10:5], imm[4:1] and imm[11]
abbrev pub b_half : ℕ → ℕ
b_half word = bits 8 4 word + bits 25 6 word * 2 ^ 4 + bits 7 1 word * 2 ^ 10 + bits 31 1 word * 2 ^ 11

-- imm[20], imm[10:1], imm[11] and imm[19:12]
abbrev pub j_half : ℕ → ℕ
j_half word = bits 21 10 word + bits 20 1 word * 2 ^ 10 + bits 12 8 word * 2 ^ 11 + bits 31 1 word * 2 ^ 19

abbrev pub fence_bits : ℕ → ℕ
fence_bits word = bits 7 5 word + bits 15 17 word * 2 ^ 5
