-- The least number that passes a test, and how many pass. This project's own.
use Rattle.std.specs.Prelude.{ℕ, zero, suc, ◌+◌, Bool, false, ◌||◌, if◌then◌else◌, Option, Some, None}

-- the least number from this one on, among so many, that passes
unfoldable pub least : (ℕ → Bool) → ℕ → ℕ → Option ℕ
least test from zero = None
least test from (suc count) = if test from then Some from else least test (from + 1) count

-- whether one of these passes
unfoldable pub any : (ℕ → Bool) → ℕ → ℕ → Bool
any test from zero = false
any test from (suc count) = test from || any test (from + 1) count

-- how many of these pass
unfoldable pub passing : (ℕ → Bool) → ℕ → ℕ → ℕ
passing test from zero = 0
passing test from (suc count) = (if test from then 1 else 0) + passing test (from + 1) count
