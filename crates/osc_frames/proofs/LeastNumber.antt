-- The least number of a set, from its top word and one group.
use Rattle.std.proofs.Common.{ℕ, zero, suc, ⊎_elim, ◌≡◌, ◌<◌, ◌≤◌, ◌+◌, ◌*◌, ◌/◌, ◌%◌, ◌^◌, Bool, true, false, List, [], ◌∷◌, Some, None, length, w64, arith, refl, sym, ◌∙◌}
use Rattle.std.specs.Int.{bit_at, trailing_zeros}
use Rattle.std.proofs.lemmas.Bool.Decides.{nat_tests}
use Rattle.std.proofs.lemmas.List.Sums.{position_or_len_is}
use Rattle.std.proofs.lemmas.Nat.Bits.{bit_at-zero, bit_at-trailing_zeros}
use Rattle.std.proofs.lemmas.Bool.{cases_lt}
use Rattle.osc_frames.specs.Free.{least_free}
use Rattle.osc_frames.specs.Words.{IsGroup, IsTop, is_in, digit}

in_within : (numbers : List Bool) (n : ℕ) → is_in numbers n ≡ true → n < length numbers
in_within [] n e = grind (arith, nat_tests)
in_within (b ∷ numbers) zero e = omega arith
in_within (b ∷ numbers) (suc n) e = let l = in_within numbers n e in omega arith

least_in : (numbers : List Bool) (n : ℕ) → is_in numbers n ≡ true → ((m : ℕ) → m < n → is_in numbers m ≡ false) → Some n ≡ least_free numbers
least_in numbers n e before =
    let l = in_within numbers n e in
    let at = position_or_len_is (λ b. b) numbers n false (omega arith) before (λ _. e) in
    grind (arith, nat_tests, at)

pub none_least : (numbers : List Bool) → length numbers ≤ 4096 → IsTop numbers 0 → None ≡ least_free numbers
none_least numbers short t =
    let out : (n : ℕ) → n < length numbers → is_in numbers n ≡ false = λ n l. grind (arith, nat_tests, t.every n, bit_at-zero (n / 64)) in
    let at = position_or_len_is (λ b. b) numbers (length numbers) false (omega arith) out (λ l. absurd (omega arith)) in
    grind (arith, nat_tests, at)

some_group : (numbers : List Bool) (i word j : ℕ) → IsGroup numbers i word → j < 64 → is_in numbers (64 * i + j) ≡ true → 0 < word
some_group numbers i word j g l e = grind (arith, nat_tests, g j, bit_at-zero j)

in_at_one : (numbers : List Bool) (i word j : ℕ) → IsGroup numbers i word → j < 64 → bit_at word j ≡ 1 → is_in numbers (64 * i + j) ≡ true
in_at_one numbers i word j g l one = go (is_in numbers (64 * i + j)) (sym one ∙ g j l)
  where
    go : (b : Bool) → 1 ≡ digit b → b ≡ true
    go true e = refl
    go false e = absurd (omega arith)

pub found_least : (numbers : List Bool) (top word : ℕ) → length numbers ≤ 4096 → IsTop numbers top → 0 < top → top < 2 ^ 64 → IsGroup numbers (trailing_zeros w64 top) word → word < 2 ^ 64 → Some (64 * trailing_zeros w64 top + trailing_zeros w64 word) ≡ least_free numbers
found_least numbers top word short t some fits g word_fits =
    let i = trailing_zeros w64 top in
    let k = trailing_zeros w64 word in
    let a = bit_at-trailing_zeros w64 top some fits in
    let s = t.some i a.0 a.1 in
    let b = bit_at-trailing_zeros w64 word (some_group numbers i word s.0 g s.1 s.2) word_fits in
    let here : is_in numbers (64 * i + k) ≡ true = in_at_one numbers i word k g b.0 b.1 in
    let before : (m : ℕ) → m < 64 * i + k → is_in numbers m ≡ false = λ m l. before_least numbers top word i k t g a.0 b.0 a.2 b.2 m l in
    least_in numbers (64 * i + k) here before
  where
    before_least : (numbers : List Bool) (top word i k : ℕ) → IsTop numbers top → IsGroup numbers i word → i < 64 → k < 64 → ((m : ℕ) → m < i → bit_at top m ≡ 0) → ((m : ℕ) → m < k → bit_at word m ≡ 0) → (m : ℕ) → m < 64 * i + k → is_in numbers m ≡ false
    before_least numbers top word i k t g il kl tops words m l = ⊎_elim (λ less. early less) (λ more. late (omega arith)) (cases_lt (m / 64) i)
      where
        early : m / 64 < i → is_in numbers m ≡ false
        early less = let at = t.every m (omega arith) in let none = tops (m / 64) less in grind (arith, nat_tests, at, none)

        late : m / 64 ≡ i → is_in numbers m ≡ false
        late e =
            let whole : 64 * i + m % 64 ≡ m = omega arith in
            let bit = g (m % 64) (omega arith) in
            let none = words (m % 64) (omega arith) in
            grind (arith, nat_tests, bit, none, whole)
