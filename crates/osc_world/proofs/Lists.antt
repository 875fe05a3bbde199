-- What stands in a list of which an element, or a row of elements, was changed.
use Rattle.std.proofs.Common.{ℕ, zero, suc, ◌≡◌, ◌≢◌, ◌<◌, ◌≤◌, ◌==◌, ◌+◌, cond, List, [], ◌∷◌, Some, option_map, arith, refl, ap, ◌∙◌, slice_get, length, length-set, take, drop}
use Rattle.std.specs.Prelude.{slice_set}
use Rattle.std.proofs.lemmas.Bool.Decides.{nat_tests}
use Rattle.osc_world.specs.States.{changed_at}
use Rattle.osc_world.specs.Accesses.{overlaid}

pub slice_get-changed_at : {X : Type 0} (f : X → X) (xs : List X) (i j : ℕ) → slice_get (changed_at f xs i) j ≡ cond (j == i) (option_map f (slice_get xs j)) (slice_get xs j)
unfolding changed_at
slice_get-changed_at f [] i j = grind (arith, nat_tests)
slice_get-changed_at f (x ∷ xs) zero zero = refl
slice_get-changed_at f (x ∷ xs) zero (suc j) = grind (arith, nat_tests)
slice_get-changed_at f (x ∷ xs) (suc i) zero = grind (arith, nat_tests)
slice_get-changed_at f (x ∷ xs) (suc i) (suc j) = grind (arith, nat_tests, slice_get-changed_at f xs i j)

pub length-changed_at : {X : Type 0} (f : X → X) (xs : List X) (i : ℕ) → length (changed_at f xs i) ≡ length xs
unfolding changed_at
length-changed_at f [] i = refl
length-changed_at f (x ∷ xs) zero = refl
length-changed_at f (x ∷ xs) (suc i) = ap suc (length-changed_at f xs i)

pub set-other : {X : Type 0} (xs : List X) (i j : ℕ) (y : X) → j ≢ i → slice_get (slice_set xs i y) j ≡ slice_get xs j
set-other [] i j y n = refl
set-other (x ∷ xs) zero zero y n = absurd (n refl)
set-other (x ∷ xs) zero (suc j) y n = refl
set-other (x ∷ xs) (suc i) zero y n = refl
set-other (x ∷ xs) (suc i) (suc j) y n = set-other xs i j y (λ e. n (ap suc e))

pub set-same : {X : Type 0} (xs : List X) (i : ℕ) (y : X) → i < length xs → slice_get (slice_set xs i y) i ≡ Some y
set-same [] i y l = absurd (omega arith)
set-same (x ∷ xs) zero y l = refl
set-same (x ∷ xs) (suc i) y l = set-same xs i y (omega arith)

pub length-overlaid : {B : Type 0} (bytes : List B) (offset : ℕ) (others : List B) → length (overlaid bytes offset others) ≡ length bytes
unfolding overlaid
length-overlaid bytes offset [] = refl
length-overlaid bytes offset (o ∷ others) = length-overlaid (slice_set bytes offset o) (offset + 1) others ∙ length-set bytes offset o

pub overlaid-below : {B : Type 0} (bytes : List B) (offset : ℕ) (others : List B) (i : ℕ) → i < offset → slice_get (overlaid bytes offset others) i ≡ slice_get bytes i
unfolding overlaid
overlaid-below bytes offset [] i l = refl
overlaid-below bytes offset (o ∷ others) i l = overlaid-below (slice_set bytes offset o) (offset + 1) others i (omega arith) ∙ set-other bytes offset i o (omega arith)

pub overlaid-above : {B : Type 0} (bytes : List B) (offset : ℕ) (others : List B) (i : ℕ) → offset + length others ≤ i → slice_get (overlaid bytes offset others) i ≡ slice_get bytes i
unfolding overlaid
overlaid-above bytes offset [] i l = refl
overlaid-above bytes offset (o ∷ others) i l = overlaid-above (slice_set bytes offset o) (offset + 1) others i (omega arith) ∙ set-other bytes offset i o (omega arith)

drop-at : {B : Type 0} (xs : List B) (i : ℕ) (x : B) → slice_get xs i ≡ Some x → drop i xs ≡ x ∷ drop (i + 1) xs
drop-at [] i x e = absurd (cc)
drop-at (y ∷ xs) zero x e = cc
drop-at (y ∷ xs) (suc i) x e = let s : suc i + 1 ≡ suc (i + 1) = omega arith in rw s (drop-at xs i x e)

pub overlaid-stored : {B : Type 0} (bytes : List B) (offset : ℕ) (others : List B) → offset + length others ≤ length bytes → take (length others) (drop offset (overlaid bytes offset others)) ≡ others
unfolding overlaid
overlaid-stored bytes offset [] l = refl
overlaid-stored bytes offset (o ∷ others) l =
    let long = length-set bytes offset o in
    let first : slice_get (overlaid (slice_set bytes offset o) (offset + 1) others) offset ≡ Some o = overlaid-below (slice_set bytes offset o) (offset + 1) others offset (omega arith) ∙ set-same bytes offset o (omega arith) in
    let rest = overlaid-stored (slice_set bytes offset o) (offset + 1) others (omega arith) in
    rw (drop-at (overlaid (slice_set bytes offset o) (offset + 1) others) offset o first) (ap (λ bs. o ∷ bs) rest)
