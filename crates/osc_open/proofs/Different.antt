-- How many different numbers a list has.
use Rattle.std.proofs.Common.{ℕ, ◌≡◌, ◌≢◌, ◌+◌, ◌==◌, Bool, true, false, cond, not, ◌||◌, List, [], ◌∷◌, ◌++◌, refl, ap, ◌∙◌, sym, arith, append-nil, append_assoc}
use Rattle.std.specs.Prelude.{filter, if◌then◌else◌}
use Rattle.std.specs.List.{list_any}
use Rattle.std.proofs.lemmas.Bool.Decides.{nat_tests}
use Rattle.std.proofs.lemmas.List.Folds.{list_any-append}
use Rattle.osc_image.specs.Frames.{different}

abbrev pub is_among : ℕ → List ℕ → Bool
is_among x xs = list_any (λ y. y == x) xs

abbrev pub without : ℕ → List ℕ → List ℕ
without x xs = filter (λ y. not (y == x)) xs

-- a number at the end adds one where it is new
pub different-more : (xs : List ℕ) (x : ℕ) → different (xs ++ x ∷ []) ≡ different xs + (if is_among x xs then 0 else 1)
different-more [] x = refl
different-more (y ∷ xs) x =
    rw (different-more xs x, list_any-append (λ z. z == y) xs (x ∷ []))
    (at (list_any (λ z. z == y) xs) (list_any (λ z. z == x) xs) (different xs) (same y x xs))
  where
    at : (here there : Bool) (n : ℕ) → ((y ≡ x) → here ≡ there)
        → (if here || ((x == y) || false) then 0 else 1) + (n + (if there then 0 else 1))
        ≡ ((if here then 0 else 1) + n) + (if (y == x) || there then 0 else 1)
    at true true n e = grind (arith, nat_tests)
    at true false n e = grind (arith, nat_tests)
    at false true n e = grind (arith, nat_tests)
    at false false n e = grind (arith, nat_tests)

    same : (y x : ℕ) (xs : List ℕ) → (y ≡ x) → list_any (λ z. z == y) xs ≡ list_any (λ z. z == x) xs
    same y x xs e = ap (λ w. list_any (λ z. z == w) xs) e

-- the order does not matter
rotated : (x : ℕ) (xs : List ℕ) → different (x ∷ xs) ≡ different (xs ++ x ∷ [])
rotated x xs = omega (arith, different-more xs x)

pub different-swap : (xs ys : List ℕ) → different (xs ++ ys) ≡ different (ys ++ xs)
different-swap [] ys = ap different (sym (append-nil ys))
different-swap (x ∷ xs) ys =
    rotated x (xs ++ ys)
    ∙ (ap different (append_assoc xs ys (x ∷ []))
    ∙ (different-swap xs (ys ++ x ∷ [])
    ∙ ap different (append_assoc ys (x ∷ []) xs)))

without-new : (x : ℕ) (xs : List ℕ) → is_among x xs ≡ false → without x xs ≡ xs
without-new x [] e = refl
without-new x (y ∷ xs) e = pick (y == x) refl e (without-new x xs)
  where
    pick : (b : Bool) → (y == x) ≡ b → (b || is_among x xs) ≡ false → (is_among x xs ≡ false → without x xs ≡ xs)
        → cond (not b) (y ∷ without x xs) (without x xs) ≡ y ∷ xs
    pick true t e on = absurd (cc)
    pick false t e on = ap (λ zs. y ∷ zs) (on e)

among-without : (x y : ℕ) (xs : List ℕ) → y ≢ x → is_among y (without x xs) ≡ is_among y xs
among-without x y [] n = refl
among-without x y (z ∷ xs) n = pick (z == x) refl (among-without x y xs n)
  where
    pick : (b : Bool) → (z == x) ≡ b → is_among y (without x xs) ≡ is_among y xs
        → is_among y (cond (not b) (z ∷ without x xs) (without x xs)) ≡ ((z == y) || is_among y xs)
    pick true t on = grind (arith, nat_tests, t, n, on)
    pick false t on = rw on refl

-- the first number counts once
pub different-cons : (x : ℕ) (xs : List ℕ) → different (x ∷ xs) ≡ 1 + different (without x xs)
different-cons x [] = refl
different-cons x (y ∷ xs) = pick (y == x) refl (different-cons x xs)
  where
    pick : (b : Bool) → (y == x) ≡ b → different (x ∷ xs) ≡ 1 + different (without x xs)
        → (if b || is_among x xs then 0 else 1) + ((if is_among y xs then 0 else 1) + different xs)
        ≡ 1 + different (cond (not b) (y ∷ without x xs) (without x xs))
    pick true t on =
        let same : y ≡ x = grind (arith, nat_tests, t) in
        rw same (omega (arith, on))
    pick false t on =
        let other : y ≢ x = grind (arith, nat_tests, t) in
        rw (among-without x y xs other) (omega (arith, on))
