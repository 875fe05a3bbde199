-- Numbers of 64 bits, as the RISC-V Unprivileged manual keeps them in registers: a sum wraps round, a
-- register read as a signed number is in two's complement, and a field that is extended by its sign has
-- its highest bit in all bits above ("Immediate Encoding Variants").
use Rattle.std.specs.Prelude.{ℕ, ◌+◌, ◌-◌, ◌^◌, ◌%◌, nat_lt, Bool, if◌then◌else◌, ℤ}
use Rattle.std.specs.Int.{w64, cast_signed, cast_unsigned, int_shr}

-- the low 64 bits
abbrev pub wrapped : ℕ → ℕ
wrapped number = number % 18446744073709551616

-- a field of this many bits, with its sign bit in all bits above
abbrev pub extended : ℕ → ℕ → ℕ
extended width field =
    if nat_lt field (2 ^ (width - 1)) then field else field + (18446744073709551616 - 2 ^ width)

-- the low 32 bits, extended by their sign
abbrev pub word : ℕ → ℕ
word number = extended 32 (number % 4294967296)

-- a register as a signed number
abbrev pub signed : ℕ → ℤ
signed number = cast_signed w64 number

-- a register divided by 2 ^ amount, both signed and rounded down
abbrev pub signed_shift : ℕ → ℕ → ℕ
signed_shift number amount = cast_unsigned w64 (int_shr (signed number) amount)

abbrev pub one_if : Bool → ℕ
one_if test = if test then 1 else 0
