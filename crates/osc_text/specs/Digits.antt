-- What stands at the front of a text, and what follows it.
use Rattle.std.specs.Prelude.{◌≡◌, ℕ, ◌+◌, ◌-◌, ◌*◌, ◌%◌, Bool, false, if◌then◌else◌, List, [], ◌∷◌, Option, None, Some}
use Rattle.std.specs.Borrow.{Bor}
use Rattle.std.specs.Char.{is_ascii_digit}

-- a number with one more digit, of which the last seven digits are kept
abbrev pub with_digit : ℕ → ℕ → ℕ
with_digit value digit = (value * 10 + (digit - 48)) % 10000000

-- the number of the digits at the front, after those of a value
unfoldable pub front_value : ℕ → List ℕ → ℕ
front_value value [] = value
front_value value (byte ∷ rest) = if is_ascii_digit byte then front_value (with_digit value byte) rest else value

-- what follows the digits at the front
unfoldable pub after_digits : List ℕ → List ℕ
after_digits [] = []
after_digits (byte ∷ rest) = if is_ascii_digit byte then after_digits rest else byte ∷ rest

abbrev pub starts_digit : List ℕ → Bool
starts_digit [] = false
starts_digit (byte ∷ rest) = is_ascii_digit byte

-- a value was read at the front, and what follows it is the rest
abbrev pub Reads : {A : Type 0} → Option (A × Bor (List ℕ)) → A → List ℕ → Type 0
Reads None value rest = ⊥
Reads (Some found) value rest = (found.0 ≡ value) × (found.1.now ≡ rest)
