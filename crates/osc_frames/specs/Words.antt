-- A set of numbers below 4096 as two levels of words: 64 groups of 64 bits, and a top word with a bit for each group. The set itself is a truth value for each number. This project's own.
use Rattle.std.specs.Prelude.{ℕ, suc, zero, ◌≡◌, ◌+◌, ◌*◌, ◌/◌, ◌%◌, ◌^◌, ◌<◌, ◌≤◌, ◌==◌, if◌then◌else◌, Bool, true, false, List, [], ◌∷◌, length, slice_index_or, nat_lt}
use Rattle.std.specs.Int.{bit_at}

-- a number past the end of the list is not in the set
abbrev pub is_in : List Bool → ℕ → Bool
is_in numbers n = slice_index_or numbers n false

abbrev pub digit : Bool → ℕ
digit b = if b then 1 else 0

-- bit j of group i is 1 exactly where 64 i + j is in the set
abbrev pub IsGroup : List Bool → ℕ → ℕ → Type 0
IsGroup numbers i word = (j : ℕ) → j < 64 → bit_at word j ≡ digit (is_in numbers (64 * i + j))

-- bit i of the top word is 1 exactly where group i has a bit that is 1
pub record IsTop (numbers : List Bool) (top : ℕ) : Type 0 where
  pub some : (i : ℕ) → i < 64 → bit_at top i ≡ 1 → (j : ℕ) × (j < 64) × (is_in numbers (64 * i + j) ≡ true)
  pub every : (n : ℕ) → n < 4096 → is_in numbers n ≡ true → bit_at top (n / 64) ≡ 1

-- whether the words of the groups say that the number is in the set
abbrev pub has : List ℕ → ℕ → Bool
has groups n = bit_at (slice_index_or groups (n / 64) 0) (n % 64) == 1

-- a truth value for each of so many numbers from one on
abbrev pub told_from : (ℕ → Bool) → ℕ → ℕ → List Bool
told_from test from zero = []
told_from test from (suc count) = test from ∷ told_from test (from + 1) count

-- the numbers below the count that are in the set
abbrev pub numbers_of : List ℕ → ℕ → List Bool
numbers_of groups count = told_from (λ n. has groups n) 0 count

-- there are 64 groups, the top word tells which of them are not 0, and no number from the count on is in the set
pub record IsRow (count top : ℕ) (groups : List ℕ) : Type 0 where
  pub below : count ≤ 4096
  pub words : length groups ≡ 64
  pub fit : (i : ℕ) → slice_index_or groups i 0 < 2 ^ 64
  pub tops : (i : ℕ) → i < 64 → bit_at top i ≡ (if slice_index_or groups i 0 == 0 then 0 else 1)
  pub past : (n : ℕ) → count ≤ n → has groups n ≡ false

-- the 64 groups say that all numbers below the count are in the set
pub record AreBelow (count : ℕ) (groups : List ℕ) : Type 0 where
  pub words : length groups ≡ 64
  pub fit : (i : ℕ) → slice_index_or groups i 0 < 2 ^ 64
  pub bits : (i j : ℕ) → i < 64 → j < 64 → bit_at (slice_index_or groups i 0) j ≡ digit (nat_lt (64 * i + j) count)
