-- The low 32 bits of a number, after it was cut to 64 bits or not.
use Rattle.std.proofs.Common.{◌≡◌, ℕ, ◌%◌, ap, arith}
use Rattle.osc_isa.specs.Numbers.{extended, word}

low-wrapped : (number : ℕ) → number % 18446744073709551616 % 4294967296 ≡ number % 4294967296
low-wrapped number = omega arith

pub word_wrapped : (number : ℕ) → word (number % 18446744073709551616) ≡ word number
word_wrapped number = ap (extended 32) (low-wrapped number)
