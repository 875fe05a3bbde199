-- The owners of borders are set from the last segment to the first, and what has one is passed over.
-- This project's own.
use Rattle.std.specs.Prelude.{◌≡◌, ℕ, ◌<◌, ◌≤◌, ◌&&◌, nat_le, nat_lt, if◌then◌else◌, List, length, slice_index, slice_index_or, Option, Some, None}
use Rattle.std.specs.Option.{option_or}

-- a border's owner once those from one border to another that had none got one
abbrev pub painted : ℕ → ℕ → ℕ → Option ℕ → ℕ → Option ℕ
painted from to owner was k = option_or was (if nat_le from k && nat_lt k to then Some owner else None)

-- all borders after a border and before its skip have an owner
pub record AreSkips (owners : List (Option ℕ)) (skips : List ℕ) : Type 0 where
  pub len : length skips ≡ length owners
  pub on : (k : ℕ) → k < length owners → k < slice_index skips k
  pub within : (k : ℕ) → k < length owners → slice_index skips k ≤ length owners
  pub owned : (k m : ℕ) → k < length owners → k < m → m < slice_index skips k → slice_index_or owners m None ≡ None → ⊥
