-- The fields of an instruction word: runs of bits, as the manual's format tables draw them.
use Rattle.std.specs.Prelude.{ℕ, ◌/◌, ◌%◌, ◌^◌}

-- the bits of a word from bit `low` on, `count` of them, as a number
abbrev pub bits : ℕ → ℕ → ℕ → ℕ
bits low count word = word / 2 ^ low % 2 ^ count
