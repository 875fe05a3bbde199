-- Sums over lists in which one element changes.
use Rattle.std.proofs.Common.{ℕ, zero, suc, ◌+◌, ◌≡◌, ◌≢◌, ◌≤◌, Some, List, [], ◌∷◌, length, slice_get, slice_set, arith, refl, ap}
use Rattle.std.specs.List.{sum_by}
use Rattle.std.proofs.lemmas.List.Sums.{sum_by-cons}

-- ---- an element that is put in the place of another
pub get-put_same : {X : Type 0} (xs : List X) (i : ℕ) (x y : X) → slice_get xs i ≡ Some x → slice_get (slice_set xs i y) i ≡ Some y
get-put_same [] i x y e = absurd (let z : ⊥ = grind (arith, e) in z)
get-put_same (z ∷ xs) zero x y e = refl
get-put_same (z ∷ xs) (suc i) x y e = get-put_same xs i x y e

pub get-put_other : {X : Type 0} (xs : List X) (i j : ℕ) (y : X) → i ≢ j → slice_get (slice_set xs i y) j ≡ slice_get xs j
get-put_other [] i j y n = refl
get-put_other (z ∷ xs) zero zero y n = absurd (n refl)
get-put_other (z ∷ xs) zero (suc j) y n = refl
get-put_other (z ∷ xs) (suc i) zero y n = refl
get-put_other (z ∷ xs) (suc i) (suc j) y n = get-put_other xs i j y (λ e. n (ap (λ k. suc k) e))

pub length-put : {X : Type 0} (xs : List X) (i : ℕ) (y : X) → length (slice_set xs i y) ≡ length xs
length-put [] i y = refl
length-put (z ∷ xs) zero y = refl
length-put (z ∷ xs) (suc i) y = let e = length-put xs i y in omega (arith, e)

pub sum-put : {X : Type 0} (f : X → ℕ) (xs : List X) (i : ℕ) (x y : X) → slice_get xs i ≡ Some x
    → sum_by f (slice_set xs i y) + f x ≡ sum_by f xs + f y
sum-put f [] i x y e = absurd (let z : ⊥ = grind (arith, e) in z)
sum-put f (z ∷ xs) zero x y e =
    let same : z ≡ x = grind (arith, e) in
    let a = sum_by-cons f y xs in let b = sum_by-cons f z xs in let c = ap f same in omega (arith, a, b, c)
sum-put f (z ∷ xs) (suc i) x y e =
    let a = sum_by-cons f z (slice_set xs i y) in let b = sum_by-cons f z xs in let c = sum-put f xs i x y e in omega (arith, a, b, c)

-- ---- some elements of a sum
pub one_within : {X : Type 0} (f : X → ℕ) (xs : List X) (i : ℕ) (x : X) → slice_get xs i ≡ Some x → f x ≤ sum_by f xs
one_within f [] i x e = absurd (let z : ⊥ = grind (arith, e) in z)
one_within f (z ∷ xs) zero x e = let same : z ≡ x = grind (arith, e) in let b = sum_by-cons f z xs in let c = ap f same in omega (arith, b, c)
one_within f (z ∷ xs) (suc i) x e = let b = sum_by-cons f z xs in let c = one_within f xs i x e in omega (arith, b, c)

pub two_within : {X : Type 0} (f : X → ℕ) (xs : List X) (i j : ℕ) (x y : X) → i ≢ j → slice_get xs i ≡ Some x → slice_get xs j ≡ Some y
    → f x + f y ≤ sum_by f xs
two_within f [] i j x y n e g = absurd (let z : ⊥ = grind (arith, e) in z)
two_within f (z ∷ xs) zero zero x y n e g = absurd (n refl)
two_within f (z ∷ xs) zero (suc j) x y n e g =
    let same : z ≡ x = grind (arith, e) in let b = sum_by-cons f z xs in let c = one_within f xs j y g in let d = ap f same in omega (arith, b, c, d)
two_within f (z ∷ xs) (suc i) zero x y n e g =
    let same : z ≡ y = grind (arith, g) in let b = sum_by-cons f z xs in let c = one_within f xs i x e in let d = ap f same in omega (arith, b, c, d)
two_within f (z ∷ xs) (suc i) (suc j) x y n e g =
    let b = sum_by-cons f z xs in let c = two_within f xs i j x y (λ h. n (ap (λ k. suc k) h)) e g in omega (arith, b, c)

pub some_same : {X : Type 0} (x y : X) → Some x ≡ Some y → x ≡ y
some_same x y e = cc
