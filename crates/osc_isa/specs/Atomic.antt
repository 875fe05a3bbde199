-- What an atomic memory operation makes of two numbers: RISC-V Unprivileged manual, "A Extension for
-- Atomic Instructions". Those of 32 bits leave the upper half of the register out, and extend by its sign
-- what they load.
use Rattle.std.specs.Prelude.{ℕ, ◌+◌, ◌%◌, ◌^◌, nat_lt, if◌then◌else◌, bit_and, bit_or, bit_xor, int_lt, ℤ}
use Rattle.osc_rv.specs.declared.instr.AmoOp.{AmoOp}
use Rattle.osc_rv.specs.declared.instr.AmoOp.TheVariants.{Add, Swap, Xor, Or, And, Min, Max, Minu, Maxu}
use Rattle.osc_rv.specs.declared.instr.Width.{Width}
use Rattle.osc_rv.specs.declared.instr.Width.TheVariants.{W, D}
use Rattle.osc_isa.specs.Numbers.{extended, signed}

-- the bytes of a width
abbrev pub width_of : Width → ℕ
width_of W = 4
width_of D = 8

-- the low bits of a number that a width takes
abbrev pub narrowed : Width → ℕ → ℕ
narrowed W number = number % 2 ^ 32
narrowed D number = number % 2 ^ 64

-- what goes into the register for a number that was read
abbrev pub widened : Width → ℕ → ℕ
widened W number = extended 32 number
widened D number = number

-- a number of this width as a signed number
abbrev pub signed_of : Width → ℕ → ℤ
signed_of width number = signed (widened width number)

-- two numbers of one width
abbrev pub combined : AmoOp → Width → ℕ → ℕ → ℕ
combined Add width a b = narrowed width (a + b)
combined Swap width a b = b
combined Xor width a b = bit_xor a b
combined Or width a b = bit_or a b
combined And width a b = bit_and a b
combined Min width a b = if int_lt (signed_of width b) (signed_of width a) then b else a
combined Max width a b = if int_lt (signed_of width a) (signed_of width b) then b else a
combined Minu width a b = if nat_lt b a then b else a
combined Maxu width a b = if nat_lt a b then b else a

-- what is stored, by what was in memory and what the register holds
abbrev pub amo_of : AmoOp → Width → ℕ → ℕ → ℕ
amo_of op width old operand = combined op width (narrowed width old) (narrowed width operand)

-- what SC puts into its register
abbrev pub sc_success : ℕ
sc_success = 0

abbrev pub sc_failure : ℕ
sc_failure = 1
