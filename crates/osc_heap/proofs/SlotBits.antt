-- Bits of shifted words, and the least of those that a word shows.
use Rattle.std.proofs.Common.{ℕ, zero, suc, ◌≡◌, ◌<◌, ◌≤◌, ◌+◌, ◌-◌, ◌*◌, ◌/◌, ◌%◌, ◌^◌, ◌==◌, ◌&&◌, ◌||◌, nat_lt, Bool, true, false, not, cond, List, [], Some, None, is_some, length, replicate, get_or, bit_and, bit_or, w64, ⊎_elim, min, max, arith, refl, sym, ap, ◌∙◌}
use Rattle.std.specs.Int.{bit_at, bit_not, trailing_zeros}
use Rattle.std.proofs.lemmas.Nat.{shr-shr, pow_pos, div-add-mod'}
use Rattle.std.proofs.lemmas.Nat.Bits.{bit_at-zero, bit_at-lt, bit_at_or, bit_at_and, bit_at_not, bit_at_above, bit_at_cat_low, bit_at_cat_high, bit_at-trailing_zeros}
use Rattle.std.proofs.lemmas.Bool.{cases_lt}
use Rattle.std.proofs.lemmas.Bool.Decides.{nat_tests}
use Rattle.std.proofs.lemmas.List.{length-replicate, get_or-replicate, get_or_past}
use Rattle.osc_frames.specs.Words.{digit, has, told_from, numbers_of}
use Rattle.osc_frames.proofs.Bits.{bit_at_low}
use Rattle.osc_frames.proofs.Rows.{length-numbers, same_lists}
use Rattle.osc_slot.specs.Least.{least, any}
use Rattle.osc_slot.proofs.Counting.{least_same, any_same}
use Rattle.osc_heap.specs.Layout.{has_as}
use Rattle.osc_heap.proofs.Scans.{least_split, least_none}

-- ---- a word, or two words, from a bit on
bit_at_shr : (n s j : ℕ) → bit_at (n / 2 ^ s) j ≡ bit_at n (s + j)
bit_at_shr n s j = ap (λ x. x % 2) (shr-shr n s j)

bit_at_wrap : (n j : ℕ) → j < 64 → bit_at (n % 2 ^ 64) j ≡ bit_at n j
bit_at_wrap n j l = sym (bit_at_cat_low (n / 2 ^ 64) 64 (n % 2 ^ 64) j l) ∙ ap (λ m. bit_at m j) (div-add-mod' n (2 ^ 64))

digit_bit : (n i : ℕ) → bit_at n i ≡ digit (bit_at n i == 1)
digit_bit n i = grind (arith, nat_tests, bit_at-lt n i)

pub one_word : (words : List ℕ) (first j low : ℕ) → low ≡ get_or words (first / 64) 0 → first % 64 + j < 64 → bit_at (low / 2 ^ (first % 64)) j ≡ digit (has words (first + j))
one_word words first j low e l =
    let q : (first + j) / 64 ≡ first / 64 = omega arith in
    let r : (first + j) % 64 ≡ first % 64 + j = omega arith in
    bit_at_shr low (first % 64) j ∙ rw (q, r, e) (digit_bit (get_or words (first / 64) 0) (first % 64 + j))

below_shift : (n k j : ℕ) → j < 64 → j < k → bit_at (n * 2 ^ k % 2 ^ 64) j ≡ 0
below_shift n k j l m =
    let whole : n * 2 ^ k + 0 ≡ n * 2 ^ k = omega arith in
    bit_at_wrap (n * 2 ^ k) j l ∙ ap (λ x. bit_at x j) (sym whole) ∙ bit_at_cat_low n k 0 j m ∙ bit_at-zero j

past_shift : (n k j : ℕ) → j < 64 → k ≤ j → bit_at (n * 2 ^ k % 2 ^ 64) j ≡ bit_at n (j - k)
past_shift n k j l m =
    let whole : n * 2 ^ k + 0 ≡ n * 2 ^ k = omega arith in
    bit_at_wrap (n * 2 ^ k) j l ∙ ap (λ x. bit_at x j) (sym whole) ∙ bit_at_cat_high n k 0 j (pow_pos k) m

pub two_words : (words : List ℕ) (first j low high : ℕ) → low ≡ get_or words (first / 64) 0 → high ≡ get_or words (first / 64 + 1) 0 → low < 2 ^ 64 → j < 64
    → bit_at (bit_or (low / 2 ^ (first % 64)) (high * 2 ^ (64 - first % 64) % 2 ^ 64)) j ≡ digit (has words (first + j))
two_words words first j low high e f fit l =
    bit_at_or (low / 2 ^ (first % 64)) (high * 2 ^ (64 - first % 64) % 2 ^ 64) j
    ∙ ⊎_elim (λ less. early less) (λ more. late more) (cases_lt (first % 64 + j) 64)
  where
    early : first % 64 + j < 64 → max (bit_at (low / 2 ^ (first % 64)) j) (bit_at (high * 2 ^ (64 - first % 64) % 2 ^ 64) j) ≡ digit (has words (first + j))
    early less =
        let none = below_shift high (64 - first % 64) j l (omega arith) in
        let one = one_word words first j low e less in
        rw none (omega (arith, one))

    late : 64 ≤ first % 64 + j → max (bit_at (low / 2 ^ (first % 64)) j) (bit_at (high * 2 ^ (64 - first % 64) % 2 ^ 64) j) ≡ digit (has words (first + j))
    late more =
        let q : (first + j) / 64 ≡ first / 64 + 1 = omega arith in
        let r : (first + j) % 64 ≡ j - (64 - first % 64) = omega arith in
        let none = bit_at_shr low (first % 64) j ∙ bit_at_above low 64 (first % 64 + j) fit more in
        let one = past_shift high (64 - first % 64) j l (omega arith) in
        rw (none, one, q, r, ← f) (omega (arith, digit_bit high (j - (64 - first % 64))))

pub windowed : (words : List ℕ) (wanted : Bool) (first count raw bits j : ℕ) → raw < 2 ^ 64 → bits ≡ cond wanted raw (bit_not w64 raw) → count ≤ 64 → j < 64
    → ((i : ℕ) → i < count → bit_at raw i ≡ digit (has words (first + i)))
    → bit_at (bit_and bits ((2 ^ 64 - 1) / 2 ^ (64 - count))) j ≡ digit (nat_lt j count && has_as words wanted (first + j))
windowed words wanted first count raw bits j fit e few l shown =
    let both = bit_at_and bits ((2 ^ 64 - 1) / 2 ^ (64 - count)) j in
    let mask = bit_at_low count few j in
    both ∙ rw (mask, e) (go wanted)
  where
    go : (w : Bool) → min (bit_at (cond w raw (bit_not w64 raw)) j) (digit (nat_lt j count)) ≡ digit (nat_lt j count && has_as words w (first + j))
    go true = let here = shown j in grind (arith, nat_tests, here)
    go false = let here = shown j in let turned = bit_at_not w64 raw j fit l in grind (arith, nat_tests, here, turned)

-- ---- the least number that a word shows
least_is : (test : ℕ → Bool) (from count i : ℕ) → from ≤ i → i < from + count → test i ≡ true → ((m : ℕ) → from ≤ m → m < i → test m ≡ false) → least test from count ≡ Some i
unfolding least
least_is test from zero i l m t before = absurd (omega arith)
least_is test from (suc count) i l m t before =
    ⊎_elim (λ less. rw (before from (omega arith) less) (least_is test (from + 1) count i (omega arith) (omega arith) t (λ k a b. before k (omega arith) b))) (λ more. here (omega arith)) (cases_lt from i)
  where
    here : i ≡ from → cond (test from) (Some from) (least test (from + 1) count) ≡ Some i
    here e = rw (← e, t) refl

none_of : (test : ℕ → Bool) (from count : ℕ) → ((i : ℕ) → from ≤ i → i < from + count → test i ≡ false) → least test from count ≡ None
none_of test from count none = least_same test (λ slot. false) from count none ∙ least_none from count

pub least_past : (test : ℕ → Bool) (at end part word : ℕ) → part ≤ 64 → at + part ≤ end → word ≡ 0 → ((j : ℕ) → j < 64 → bit_at word j ≡ digit (nat_lt j part && test (at + j)))
    → least test at (end - at) ≡ least test (at + part) (end - (at + part))
least_past test at end part word few fits z shown =
    let e : end - at ≡ part + (end - (at + part)) = omega arith in
    let none = none_of test at part (λ i l m. out i l m) in
    rw e (least_split test at part (end - (at + part)) ∙ rw none refl)
  where
    out : (i : ℕ) → at ≤ i → i < at + part → test i ≡ false
    out i l m =
        let e : at + (i - at) ≡ i = omega arith in
        let bit = shown (i - at) (omega arith) in
        let zeros = bit_at-zero (i - at) in
        let bit0 = rw (z, e) at bit in
        grind (arith, nat_tests, bit0, zeros)

passes : (s t : Bool) → 1 ≡ digit (s && t) → (s ≡ true) × (t ≡ true)
passes true true e = (refl, refl)
passes true false e = absurd (omega arith)
passes false t e = absurd (omega arith)

pub shown_below : (test : ℕ → Bool) (at part word : ℕ) → 0 < word → word < 2 ^ 64 → ((j : ℕ) → j < 64 → bit_at word j ≡ digit (nat_lt j part && test (at + j))) → trailing_zeros w64 word < part
shown_below test at part word some fit shown =
    let zeros = bit_at-trailing_zeros w64 word some fit in
    let k = trailing_zeros w64 word in
    let here = passes (nat_lt k part) (test (at + k)) (sym zeros.1 ∙ shown k zeros.0) in
    grind (arith, nat_tests, here.0)

pub least_shown : (test : ℕ → Bool) (at end part word : ℕ) → part ≤ 64 → at + part ≤ end → 0 < word → word < 2 ^ 64 → ((j : ℕ) → j < 64 → bit_at word j ≡ digit (nat_lt j part && test (at + j)))
    → least test at (end - at) ≡ Some (at + trailing_zeros w64 word)
least_shown test at end part word few fits some fit shown =
    let zeros = bit_at-trailing_zeros w64 word some fit in
    let here = passes (nat_lt (trailing_zeros w64 word) part) (test (at + trailing_zeros w64 word)) (sym zeros.1 ∙ shown (trailing_zeros w64 word) zeros.0) in
    let l = shown_below test at part word some fit shown in
    least_is test at (end - at) (at + trailing_zeros w64 word) (omega arith) (omega arith) here.1 (λ m a b. out (trailing_zeros w64 word) zeros.0 l zeros.2 m a b)
  where
    out : (k : ℕ) → k < 64 → k < part → ((i : ℕ) → i < k → bit_at word i ≡ 0) → (m : ℕ) → at ≤ m → m < at + k → test m ≡ false
    out k l within zeros m a b =
        let e : at + (m - at) ≡ m = omega arith in
        let bit = rw e at (shown (m - at) (omega arith)) in
        let zero = zeros (m - at) (omega arith) in
        grind (arith, nat_tests, bit, zero)

-- ---- the slots of an area
told_at : (test : ℕ → Bool) (from count k : ℕ) → k < count → get_or (told_from test from count) k false ≡ test (from + k)
told_at test from zero k l = absurd (omega arith)
told_at test from (suc count) zero l = let e : from + 0 ≡ from = omega arith in rw e refl
told_at test from (suc count) (suc k) l = let e : from + suc k ≡ from + 1 + k = omega arith in rw e (told_at test (from + 1) count k (omega arith))

pub slot_at : (words : List ℕ) (slots slot : ℕ) → slot < slots → get_or (numbers_of words slots) slot false ≡ has words slot
slot_at words slots slot l = let e : 0 + slot ≡ slot = omega arith in told_at (λ n. has words n) 0 slots slot l ∙ ap (λ (n : ℕ). has words n) e

any_least : (test : ℕ → Bool) (from count : ℕ) → any test from count ≡ is_some (least test from count)
unfolding least any
any_least test from zero = refl
any_least test from (suc count) = go (test from) (any_least test (from + 1) count)
  where
    go : (t : Bool) → any test (from + 1) count ≡ is_some (least test (from + 1) count) → (t || any test (from + 1) count) ≡ is_some (cond t (Some from) (least test (from + 1) count))
    go true later = refl
    go false later = later

pub any_held : (words : List ℕ) (slots first count : ℕ) → first + count ≤ slots → any (λ slot. get_or (numbers_of words slots) slot false) first count ≡ is_some (least (has_as words true) first count)
any_held words slots first count fits = any_same (λ slot. get_or (numbers_of words slots) slot false) (has_as words true) first count (λ i l m. slot_at words slots i (omega arith)) ∙ any_least (has_as words true) first count

pub least_free : (words : List ℕ) (slots first count : ℕ) → first + count ≤ slots → least (λ slot. not (get_or (numbers_of words slots) slot false)) first count ≡ least (has_as words false) first count
least_free words slots first count fits = least_same (λ slot. not (get_or (numbers_of words slots) slot false)) (has_as words false) first count (λ i l m. ap not (slot_at words slots i (omega arith)))

pub no_words : (words : List ℕ) (slots : ℕ) → words ≡ [] → numbers_of words slots ≡ replicate slots false
no_words words slots e =
    let long = length-numbers words slots in
    let same = length-replicate slots false in
    same_lists (numbers_of words slots) (replicate slots false) (long ∙ sym same) (λ k l.
    slot_at words slots k (omega arith) ∙ zero_at k ∙ sym (get_or-replicate slots k false false (omega arith)))
  where
    zero_at : (k : ℕ) → has words k ≡ false
    zero_at k = rw e (let z = bit_at-zero (k % 64) in rw z refl)

-- words that are the same at each place, past their ends too, show the same bits
pub same_words : (words others : List ℕ) (slots : ℕ) → ((i : ℕ) → get_or words i 0 ≡ get_or others i 0) → numbers_of words slots ≡ numbers_of others slots
same_words words others slots same =
    let long = length-numbers words slots in
    let size = length-numbers others slots in
    same_lists (numbers_of words slots) (numbers_of others slots) (long ∙ sym size) (λ k l.
    slot_at words slots k (omega arith) ∙ ap (λ (word : ℕ). bit_at word (k % 64) == 1) (same (k / 64)) ∙ sym (slot_at others slots k (omega arith)))

-- ---- the same where the area is seen as a list
pub within_area : (words : List ℕ) (slots n : ℕ) (row : List Bool) → numbers_of words slots ≡ row → n ≤ length row → n ≤ slots
within_area words slots n row view l =
    let e = length-numbers words slots in
    let same : length row ≡ length (numbers_of words slots) = ap length (sym view) in
    omega arith

pub slot_of_area : (words : List ℕ) (slots slot : ℕ) (row : List Bool) → numbers_of words slots ≡ row → slot < slots → get_or row slot false ≡ has words slot
slot_of_area words slots slot row view l = ap (λ (r : List Bool). get_or r slot false) (sym view) ∙ slot_at words slots slot l

pub past_area : (words : List ℕ) (slots slot : ℕ) (row : List Bool) → numbers_of words slots ≡ row → slots ≤ slot → get_or row slot false ≡ false
past_area words slots slot row view l = ap (λ (r : List Bool). get_or r slot false) (sym view) ∙ get_or_past (numbers_of words slots) slot false (let e = length-numbers words slots in omega arith)

pub held_in_area : (words : List ℕ) (slots first count : ℕ) (row : List Bool) → numbers_of words slots ≡ row → first + count ≤ slots → any (λ slot. get_or row slot false) first count ≡ is_some (least (has_as words true) first count)
held_in_area words slots first count row view fits = ap (λ (r : List Bool). any (λ slot. get_or r slot false) first count) (sym view) ∙ any_held words slots first count fits

pub free_in_area : (words : List ℕ) (slots first count : ℕ) (row : List Bool) → numbers_of words slots ≡ row → first + count ≤ slots → least (λ slot. not (get_or row slot false)) first count ≡ least (has_as words false) first count
free_in_area words slots first count row view fits = ap (λ (r : List Bool). least (λ slot. not (get_or r slot false)) first count) (sym view) ∙ least_free words slots first count fits
