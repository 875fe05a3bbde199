-- What a product, a quotient or a remainder is, on numbers. RISC-V Unprivileged manual, "M Standard
-- Extension for Integer Multiplication and Division". An operand is read as a whole number, signed or
-- unsigned as the operation says, and the register gets bits of the whole number that comes out, negative
-- ones in two's complement.
use Rattle.std.specs.Prelude.{ℕ, ◌-◌, ◌%◌, ◌^◌, ◌==◌, if◌then◌else◌, ℤ, pos, ◌*ℤ◌, unsigned_abs, int_div, int_rem}
use Rattle.std.specs.Int.{int_rem_euclid, int_shr}
use Rattle.osc_rv.specs.declared.instr.MulOp.{MulOp}
use Rattle.osc_rv.specs.declared.instr.MulOp.TheVariants.{Mul, Mulh, Mulhsu, Mulhu, Div, Divu, Rem, Remu, Mulw, Divw, Divuw, Remw, Remuw}
use Rattle.osc_isa.specs.Numbers.{signed, word}

-- bits 63 to 0 of a whole number
abbrev pub low_bits : ℤ → ℕ
low_bits whole = unsigned_abs (int_rem_euclid whole (pos (2 ^ 64)))

-- bits 127 to 64
abbrev pub high_bits : ℤ → ℕ
high_bits whole = low_bits (int_shr whole 64)

-- the low 32 bits of a register as a signed number, and as an unsigned one
abbrev pub signed_word : ℕ → ℤ
signed_word number = signed (word number)

abbrev pub unsigned_word : ℕ → ℤ
unsigned_word number = pos (number % 2 ^ 32)

-- rounded towards zero; by zero all bits are set. The least signed number by -1 has a quotient that is one
-- too large for a signed register: its bits are those of the least number again
abbrev pub quotient : ℤ → ℤ → ℕ
quotient a b = if unsigned_abs b == 0 then 2 ^ 64 - 1 else low_bits (int_div a b)

-- what that quotient leaves over; by zero the dividend
abbrev pub remainder : ℤ → ℤ → ℕ
remainder a b = low_bits (if unsigned_abs b == 0 then a else int_rem a b)

-- what an operation gives for two registers; those that end in w work on the low 32 bits, and extend
-- what comes out by its sign, also where it is unsigned
abbrev pub muldiv : MulOp → ℕ → ℕ → ℕ
muldiv Mul a b = low_bits (signed a *ℤ signed b)
muldiv Mulh a b = high_bits (signed a *ℤ signed b)
muldiv Mulhsu a b = high_bits (signed a *ℤ pos b)
muldiv Mulhu a b = high_bits (pos a *ℤ pos b)
muldiv Div a b = quotient (signed a) (signed b)
muldiv Divu a b = quotient (pos a) (pos b)
muldiv Rem a b = remainder (signed a) (signed b)
muldiv Remu a b = remainder (pos a) (pos b)
muldiv Mulw a b = word (low_bits (signed_word a *ℤ signed_word b))
muldiv Divw a b = word (quotient (signed_word a) (signed_word b))
muldiv Divuw a b = word (quotient (unsigned_word a) (unsigned_word b))
muldiv Remw a b = word (remainder (signed_word a) (signed_word b))
muldiv Remuw a b = word (remainder (unsigned_word a) (unsigned_word b))
