-- A segment gets the borders that have no owner yet.
use Rattle.std.proofs.Common.{ℕ, ◌≡◌, ◌<◌, ◌≤◌, List, length, get_or, Option, None}
use Rattle.osc_elf.specs.Painting.{painted}

-- those below `at` are done, and those from there on are as they were
pub record Painted (from to owner at : ℕ) (old now : List (Option ℕ)) (were skips : List ℕ) : Type 0 where
  pub past : from ≤ at
  pub len : length now ≡ length old
  pub skips_len : length skips ≡ length old
  pub done : (k : ℕ) → k < at → k < length old → get_or now k None ≡ painted from to owner (get_or old k None) k
  pub left : (k : ℕ) → at ≤ k → get_or now k None ≡ get_or old k None
  pub same : (k : ℕ) → at ≤ k → get_or skips k 0 ≡ get_or were k 0
  pub on : (k : ℕ) → k < length old → k < get_or skips k 0
  pub within : (k : ℕ) → k < length old → get_or skips k 0 ≤ length old
  pub ahead : (k m : ℕ) → k < length old → k < m → m < get_or skips k 0 → get_or now m None ≡ None → (at ≤ m) × (m < to)
