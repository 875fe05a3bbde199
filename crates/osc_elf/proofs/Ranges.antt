-- Searches in the numbers below a limit.
use Rattle.std.proofs.Common.{ℕ, zero, suc, ◌≡◌, ◌+◌, ◌<◌, ◌≤◌, arith, refl, ◌∙◌, ap, Bool, true, false, [], ◌∷◌, ◌++◌, Option, Some, None, inl, inr, add-one, add-zero, zero-add}
use Rattle.std.proofs.Math.Nat.{suc-add}
use Rattle.std.specs.List.{range_with_len, find, filter, filter_map}
use Rattle.std.proofs.Math.Nat.{eq-or-lt_of_le}
use Rattle.osc_image.specs.Form.{first}

range-suc : (a n : ℕ) → range_with_len a (suc n) ≡ range_with_len a n ++ (a + n) ∷ []
range-suc a zero = ap (λ x. x ∷ []) (omega arith)
range-suc a (suc n) =
    ap (λ xs. a ∷ xs) (range-suc (a + 1) n ∙ ap (λ x. range_with_len (a + 1) n ++ x ∷ []) (omega arith))

pub range-more : (a n : ℕ) → range_with_len a (n + 1) ≡ range_with_len a n ++ (a + n) ∷ []
range-more a n = rw add-one (range-suc a n)

pub range-split : (a i n : ℕ) → range_with_len a (i + n) ≡ range_with_len a i ++ range_with_len (a + i) n
range-split a zero n = rw (zero-add n, add-zero a) refl
range-split a (suc i) n =
    rw (suc-add i n)
    (ap (λ xs. a ∷ xs) (range-split (a + 1) i n ∙ ap (λ b. range_with_len (a + 1) i ++ range_with_len b n) (omega arith)))

-- the first number that passes
pub find-none : (p : ℕ → Bool) (a n : ℕ) → ((k : ℕ) → a ≤ k → k < a + n → p k ≡ false) → find p (range_with_len a n) ≡ None
find-none p a zero fails = refl
find-none p a (suc n) fails =
    rw (fails a (omega arith) (omega arith)) (find-none p (a + 1) n (λ k low high. fails k (omega arith) (omega arith)))

pub find-some : (p : ℕ → Bool) (a n i : ℕ) → a ≤ i → i < a + n → ((k : ℕ) → a ≤ k → k < i → p k ≡ false) → p i ≡ true
    → find p (range_with_len a n) ≡ Some i
find-some p a zero i low high fails passes = absurd (omega arith)
find-some p a (suc n) i low high fails passes =
    elim (eq-or-lt_of_le low) [
      | inl same ↦ let here : p a ≡ true = ap p same ∙ passes in rw here (ap Some same)
      | inr above ↦
          rw (fails a (omega arith) above)
          (find-some p (a + 1) n i (omega arith) (omega arith) (λ k l h. fails k (omega arith) h) passes)
    ]

-- numbers that do not pass add nothing
pub filter-none : (p : ℕ → Bool) (a n : ℕ) → ((k : ℕ) → a ≤ k → k < a + n → p k ≡ false) → filter p (range_with_len a n) ≡ []
filter-none p a zero fails = refl
filter-none p a (suc n) fails =
    rw (fails a (omega arith) (omega arith)) (filter-none p (a + 1) n (λ k low high. fails k (omega arith) (omega arith)))

-- the first answer
pub first-none : {T : Type 0} (f : ℕ → Option T) (a n : ℕ) → ((k : ℕ) → a ≤ k → k < a + n → f k ≡ None)
    → first (filter_map f (range_with_len a n)) ≡ None
first-none f a zero none = refl
first-none f a (suc n) none =
    rw (none a (omega arith) (omega arith)) (first-none f (a + 1) n (λ k low high. none k (omega arith) (omega arith)))

pub first-some : {T : Type 0} (f : ℕ → Option T) (a n i : ℕ) (x : T) → a ≤ i → i < a + n → ((k : ℕ) → a ≤ k → k < i → f k ≡ None)
    → f i ≡ Some x → first (filter_map f (range_with_len a n)) ≡ Some x
first-some f a zero i x low high none some = absurd (omega arith)
first-some f a (suc n) i x low high none some =
    elim (eq-or-lt_of_le low) [
      | inl same ↦ let here : f a ≡ Some x = ap f same ∙ some in rw here refl
      | inr above ↦
          rw (none a (omega arith) above)
          (first-some f (a + 1) n i x (omega arith) (omega arith) (λ k l h. none k (omega arith) h) some)
    ]
