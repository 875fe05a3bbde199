-- What quotient and remainder have to do with each other: RISC-V Unprivileged manual, "M Standard
-- Extension for Integer Multiplication and Division".
use Rattle.std.specs.Prelude.{◌≡◌, ◌<◌, ◌⊎◌, ℤ, pos, ◌+ℤ◌, ◌*ℤ◌, unsigned_abs}
use Rattle.std.specs.Int.{is_negative}

-- a number over another, rounded towards zero
pub record Divided (a b quotient remainder : ℤ) : Type 0 where
  pub whole : quotient *ℤ b +ℤ remainder ≡ a
  pub smaller : unsigned_abs remainder < unsigned_abs b
  pub sign : (remainder ≡ pos 0) ⊎ (is_negative remainder ≡ is_negative a)
