-- A row of bits as a list of truth values, and what a write of one bit makes of it.
use Rattle.std.proofs.Common.{ℕ, zero, suc, ◌≡◌, ◌<◌, ◌≤◌, ◌+◌, ◌-◌, ◌*◌, ◌/◌, ◌%◌, ◌^◌, ◌==◌, Bool, true, false, not, cond, nat_lt, ◌↔◌, ⊎_elim, min, List, [], ◌∷◌, Some, slice_get, length, replicate, set, get_or, w64, arith, refl, ap, sym, ◌∙◌}
use Rattle.std.specs.Int.{bit_at, trailing_zeros}
use Rattle.std.proofs.lemmas.Bool.Decides.{nat_tests}
use Rattle.std.proofs.lemmas.List.{length-set, length-replicate, get_or-replicate, get_or_past, get_or-set_same, get_or-set_other}
use Rattle.std.proofs.lemmas.Nat.Bits.{bit_at-zero, bit_at-lt, bit_at-trailing_zeros, same_from_bits_below}
use Rattle.std.proofs.lemmas.Bool.{cases_lt}
use Rattle.std.proofs.lemmas.Option.{slice_get-get_or}
use Rattle.osc_frames.specs.Words.{AreBelow, IsGroup, IsTop, IsRow, is_in, digit, has, told_from, numbers_of}

length-told : (test : ℕ → Bool) (from count : ℕ) → length (told_from test from count) ≡ count
length-told test from zero = refl
length-told test from (suc count) = let e = length-told test (from + 1) count in omega arith

pub length-numbers : (groups : List ℕ) (count : ℕ) → length (numbers_of groups count) ≡ count
length-numbers groups count = length-told (λ n. has groups n) 0 count

told_at : (test : ℕ → Bool) (from count k : ℕ) → get_or (told_from test from count) k false ≡ cond (nat_lt k count) (test (from + k)) false
told_at test from zero k = grind (arith, nat_tests)
told_at test from (suc count) zero = rw (from-zero from) (grind (arith, nat_tests))
  where
    from-zero : (n : ℕ) → n + 0 ≡ n
    from-zero n = omega arith
told_at test from (suc count) (suc k) =
    let later = told_at test (from + 1) count k in
    let e : from + 1 + k ≡ from + suc k = omega arith in
    let at = ap test e in
    grind (arith, nat_tests, later, at)

pub same_lists : (xs ys : List Bool) → length xs ≡ length ys → ((k : ℕ) → k < length xs → get_or xs k false ≡ get_or ys k false) → xs ≡ ys
same_lists [] [] e same = refl
same_lists [] (y ∷ ys) e same = absurd (omega arith)
same_lists (x ∷ xs) [] e same = absurd (omega arith)
same_lists (x ∷ xs) (y ∷ ys) e same =
    let head : x ≡ y = same 0 (omega arith) in
    let tail = same_lists xs ys (omega arith) (λ k l. same (suc k) (omega arith)) in
    rw (head, tail) refl

pub is_in_row : {count top : ℕ} {groups : List ℕ} → IsRow count top groups → (n : ℕ) → is_in (numbers_of groups count) n ≡ has groups n
is_in_row {count} {top} {groups} row n = let at = told_at (λ m. has groups m) 0 count n in let past = row.past n in grind (arith, nat_tests, at, past)

pub has_at : (groups : List ℕ) (i j : ℕ) → j < 64 → has groups (64 * i + j) ≡ (bit_at (get_or groups i 0) j == 1)
has_at groups i j l =
    let group : (64 * i + j) / 64 ≡ i = omega arith in
    let place : (64 * i + j) % 64 ≡ j = omega arith in
    rw (group, place) refl

pub group_of_row : {count top : ℕ} {groups : List ℕ} → IsRow count top groups → (i : ℕ) → IsGroup (numbers_of groups count) i (get_or groups i 0)
group_of_row {count} {top} {groups} row i j l =
    let known = is_in_row row (64 * i + j) in
    let at = has_at groups i j l in
    let bit = bit_at-lt (get_or groups i 0) j in
    rw (known, at) (grind (arith, nat_tests, bit))

pub top_of_row : {count top : ℕ} {groups : List ℕ} → IsRow count top groups → IsTop (numbers_of groups count) top
top_of_row {count} {top} {groups} row = record { some = some; every = every }
  where
    some : (i : ℕ) → i < 64 → bit_at top i ≡ 1 → (j : ℕ) × (j < 64) × (is_in (numbers_of groups count) (64 * i + j) ≡ true)
    some i l e =
        let word = get_or groups i 0 in
        let kept = row.tops i l in
        let full : 0 < word = grind (arith, nat_tests, kept, e) in
        let bit = bit_at-trailing_zeros w64 word full (row.fit i) in
        let known = is_in_row row (64 * i + trailing_zeros w64 word) in
        let at = has_at groups i (trailing_zeros w64 word) bit.0 in
        let one = bit.1 in
        (trailing_zeros w64 word, bit.0, rw (known, at, one) refl)

    every : (n : ℕ) → n < 4096 → is_in (numbers_of groups count) n ≡ true → bit_at top (n / 64) ≡ 1
    every n l e =
        let known = is_in_row row n in
        let kept = row.tops (n / 64) (omega arith) in
        grind (arith, nat_tests, known, kept, e, bit_at-zero (n % 64))

-- the bit of one number is written
pub record IsWritten (groups : List ℕ) (i word : ℕ) (value : Bool) : Type 0 where
  pub within : i / 64 < length groups
  pub bits : (j : ℕ) → j < 64 → bit_at word j ≡ cond (j == i % 64) (digit value) (bit_at (get_or groups (i / 64) 0) j)

pub has_written : (groups : List ℕ) (i word : ℕ) (value : Bool) → IsWritten groups i word value → (n : ℕ) → has (set groups (i / 64) word) n ≡ cond (n == i) value (has groups n)
has_written groups i word value w n =
    let same = get_or-set_same groups (i / 64) word 0 w.within in
    let other = get_or-set_other groups (i / 64) (n / 64) word 0 in
    let bit = w.bits (n % 64) (omega arith) in
    let whole : n / 64 ≡ i / 64 → n % 64 ≡ i % 64 → n ≡ i = λ a b. omega arith in
    grind (arith, nat_tests, same, other, bit, whole)

pub numbers_written : (groups : List ℕ) (count i word : ℕ) (value : Bool) → IsWritten groups i word value → i < count → numbers_of (set groups (i / 64) word) count ≡ set (numbers_of groups count) i value
numbers_written groups count i word value w l =
    let new = numbers_of (set groups (i / 64) word) count in
    let old = numbers_of groups count in
    let long = length-numbers (set groups (i / 64) word) count in
    let was = length-numbers groups count in
    let kept = length-set old i value in
    let same = get_or-set_same old i value false (omega arith) in
    same_lists new (set old i value) (omega arith) (λ k m.
    let at = told_at (λ n. has (set groups (i / 64) word) n) 0 count k in
    let before = told_at (λ n. has groups n) 0 count k in
    let other = get_or-set_other old i k value false in
    let bit = has_written groups i word value w k in
    grind (arith, nat_tests, at, before, same, other, bit))

pub row_written : {count top : ℕ} {groups : List ℕ} → IsRow count top groups → (i word now : ℕ) (value : Bool) → IsWritten groups i word value → i < count → word < 2 ^ 64 → ((j : ℕ) → j < 64 → bit_at now j ≡ cond (j == i / 64) (digit (not (word == 0))) (bit_at top j)) → IsRow count now (set groups (i / 64) word)
row_written {count} {top} {groups} row i word now value w l fits topped = record { below = row.below; words = length-set groups (i / 64) word ∙ row.words; fit = fit; tops = tops; past = past }
  where
    fit : (k : ℕ) → get_or (set groups (i / 64) word) k 0 < 2 ^ 64
    fit k =
        let same = get_or-set_same groups (i / 64) word 0 w.within in
        let other = get_or-set_other groups (i / 64) k word 0 in
        let kept = row.fit k in
        grind (arith, nat_tests, same, other, kept)

    tops : (k : ℕ) → k < 64 → bit_at now k ≡ cond (get_or (set groups (i / 64) word) k 0 == 0) 0 1
    tops k m =
        let same = get_or-set_same groups (i / 64) word 0 w.within in
        let other = get_or-set_other groups (i / 64) k word 0 in
        let kept = row.tops k m in
        let new = topped k m in
        grind (arith, nat_tests, same, other, kept, new)

    past : (n : ℕ) → count ≤ n → has (set groups (i / 64) word) n ≡ false
    past n m = let bit = has_written groups i word value w n in let kept = row.past n m in grind (arith, nat_tests, bit, kept)

-- ---- a new row
has_below : (within : ℕ) (groups : List ℕ) → AreBelow within groups → within ≤ 4096 → (n : ℕ) → has groups n ≡ nat_lt n within
has_below within groups below short n =
    ⊎_elim (λ l. inside l) (λ l. outside l) (cases_lt n 4096)
  where
    inside : n < 4096 → has groups n ≡ nat_lt n within
    inside l =
        let bit = below.bits (n / 64) (n % 64) (omega arith) (omega arith) in
        let whole : 64 * (n / 64) + n % 64 ≡ n = omega arith in
        grind (arith, nat_tests, bit, whole)

    outside : 4096 ≤ n → has groups n ≡ nat_lt n within
    outside l =
        let none = get_or_past groups (n / 64) 0 (let long = below.words in omega arith) in
        grind (arith, nat_tests, none, bit_at-zero (n % 64))

pub row_below : (count within top : ℕ) (groups : List ℕ) → AreBelow within groups → within ≤ count → count ≤ 4096 → ((j : ℕ) → j < 64 → bit_at top j ≡ digit (nat_lt j (within / 64 + min 1 (within % 64)))) → IsRow count top groups
row_below count within top groups below within_count short topped = record { below = short; words = below.words; fit = below.fit; tops = tops; past = past }
  where
    empty : (i : ℕ) → i < 64 → within ≤ 64 * i → get_or groups i 0 ≡ 0
    empty i l past = same_from_bits_below 64 (get_or groups i 0) 0 (below.fit i) (omega arith) (λ j m. let bit = below.bits i j l m in grind (arith, nat_tests, bit, bit_at-zero j))

    tops : (i : ℕ) → i < 64 → bit_at top i ≡ cond (get_or groups i 0 == 0) 0 1
    tops i l =
        let first = below.bits i 0 l (omega arith) in
        let none = empty i l in
        let new = topped i l in
        let reach : (i < within / 64 + min 1 (within % 64)) ↔ (64 * i < within) = (λ a. omega arith, λ a. omega arith) in
        grind (arith, nat_tests, first, none, new, reach, bit_at-zero 0)

    past : (n : ℕ) → count ≤ n → has groups n ≡ false
    past n m = let bit = has_below within groups below (omega arith) n in grind (arith, nat_tests, bit)

pub numbers_below : (count within : ℕ) (full : Bool) (groups : List ℕ) → AreBelow within groups → within ≡ cond full count 0 → count ≤ 4096 → numbers_of groups count ≡ replicate count full
numbers_below count within full groups below e short =
    let long = length-numbers groups count in
    let same = length-replicate count full in
    let most : within ≤ 4096 = grind (arith, nat_tests, e) in
    same_lists (numbers_of groups count) (replicate count full) (long ∙ sym same) (λ k m.
    let at = told_at (λ n. has groups n) 0 count k in
    let bit = has_below within groups below most k in
    let full_at = get_or-replicate count k full false (omega arith) in
    grind (arith, nat_tests, at, bit, full_at, e))

-- ---- what the calls of a row need
pub place_in : {count top : ℕ} {groups : List ℕ} → IsRow count top groups → (numbers : List Bool) (i : ℕ) → numbers_of groups count ≡ numbers → i < length numbers → (i < count) × (i / 64 < 64)
place_in {count} {top} {groups} row numbers i view l =
    let long = length-numbers groups count in
    let same = ap (λ (ns : List Bool). length ns) view in
    let short = row.below in
    (omega arith, omega arith)

pub told_row : {count top : ℕ} {groups : List ℕ} → IsRow count top groups → (numbers : List Bool) (i : ℕ) → numbers_of groups count ≡ numbers → i < length numbers → slice_get numbers i ≡ Some (has groups i)
told_row {count} {top} {groups} row numbers i view l = slice_get-get_or numbers i false l ∙ ap (λ (ns : List Bool). Some (get_or ns i false)) (sym view) ∙ ap (λ (b : Bool). Some b) (is_in_row row i)

pub written : (groups : List ℕ) (i was word : ℕ) (value : Bool) → i / 64 < length groups → was ≡ get_or groups (i / 64) 0 → ((j : ℕ) → j < 64 → bit_at word j ≡ cond (j == i % 64) (digit value) (bit_at was j)) → IsWritten groups i word value
written groups i was word value within read bits = record { within = within; bits = λ j l. bits j l ∙ ap (λ (w : ℕ). cond (j == i % 64) (digit value) (bit_at w j)) read }

-- the first groups are done
pub record AreBelowSoFar (count done : ℕ) (groups : List ℕ) : Type 0 where
  pub words : length groups ≡ 64
  pub fit : (i : ℕ) → get_or groups i 0 < 2 ^ 64
  pub bits : (i j : ℕ) → i < done → j < 64 → bit_at (get_or groups i 0) j ≡ digit (nat_lt (64 * i + j) count)

pub none_done : (count : ℕ) → AreBelowSoFar count 0 (replicate 64 0)
none_done count = record { words = refl; fit = λ i. ⊎_elim (λ l. omega (arith, get_or-replicate {A = ℕ} 64 i 0 0 l)) (λ l. omega (arith, get_or_past {X = ℕ} (replicate 64 0) i 0 l)) (cases_lt i 64); bits = λ i j l. absurd (omega arith) }

pub one_done : (count done word : ℕ) (groups : List ℕ) → AreBelowSoFar count done groups → done < 64 → word < 2 ^ 64 → ((j : ℕ) → j < 64 → bit_at word j ≡ digit (nat_lt j (count - 64 * done))) → AreBelowSoFar count (done + 1) (set groups done word)
one_done count done word groups so_far l fits new = record { words = length-set groups done word ∙ so_far.words; fit = fit; bits = bits }
  where
    within : done < length groups
    within = let long = so_far.words in omega arith

    fit : (i : ℕ) → get_or (set groups done word) i 0 < 2 ^ 64
    fit i =
        let same = get_or-set_same groups done word 0 within in
        let other = get_or-set_other groups done i word 0 in
        let kept = so_far.fit i in
        grind (arith, nat_tests, same, other, kept)

    bits : (i j : ℕ) → i < done + 1 → j < 64 → bit_at (get_or (set groups done word) i 0) j ≡ digit (nat_lt (64 * i + j) count)
    bits i j m n =
        let same = get_or-set_same groups done word 0 within in
        let other = get_or-set_other groups done i word 0 in
        let kept = so_far.bits i j in
        let here = new j n in
        grind (arith, nat_tests, same, other, kept, here)

pub all_done : (count : ℕ) (groups : List ℕ) → AreBelowSoFar count 64 groups → AreBelow count groups
all_done count groups so_far = record { words = so_far.words; fit = so_far.fit; bits = so_far.bits }
