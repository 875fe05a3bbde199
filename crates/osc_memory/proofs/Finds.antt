-- Finding by a test, and by a place.
use Rattle.std.proofs.Common.{◌≡◌, ℕ, zero, suc, ◌+◌, ◌<◌, ◌≤◌, Bool, true, false, List, [], ◌∷◌, length, get_or, Option, Some, refl, ap, sym, ◌∙◌, arith, slice_get, position, option_and_then, set, map, take, drop, ◌++◌, append_assoc}
use Rattle.std.specs.List.{range_with_len}
use Rattle.std.specs.Prelude.{find}
use Rattle.std.proofs.lemmas.Bool.Decides.{nat_tests}
use Rattle.std.proofs.lemmas.Option.{slice_get-get_or}
use Rattle.osc_world.specs.States.{changed_at}

find_step : {X : Type 0} (test : X → Bool) (x : X) (xs : List X) (b : Bool) → test x ≡ b → option_and_then (slice_get xs) (position test xs) ≡ find test xs
    → option_and_then (slice_get (x ∷ xs)) (position test (x ∷ xs)) ≡ find test (x ∷ xs)
find_step test x xs true t rest = grind (arith, nat_tests)
find_step test x xs false t rest = grind (arith, nat_tests)

-- the place of the first that passes leads to it
pub find_position : {X : Type 0} (test : X → Bool) (xs : List X) → option_and_then (slice_get xs) (position test xs) ≡ find test xs
find_position test [] = refl
find_position test (x ∷ xs) = find_step test x xs (test x) refl (find_position test xs)

-- what stands at a place that was found
pub found_at : {X : Type 0} (xs : List X) (place : ℕ) (found : Option X) (d : X) → place < length xs
    → option_and_then (slice_get xs) (Some place) ≡ found → found ≡ Some (get_or xs place d)
found_at xs place found d inside is = sym is ∙ slice_get-get_or xs place d inside

-- an element that is changed where it stands
pub set-changed : {X : Type 0} (change : X → X) (xs : List X) (i : ℕ) (d : X) → i < length xs → set xs i (change (get_or xs i d)) ≡ changed_at change xs i
unfolding changed_at
set-changed change [] i d inside = absurd (omega arith)
set-changed change (x ∷ xs) zero d inside = refl
set-changed change (x ∷ xs) (suc i) d inside = ap (λ ys. x ∷ ys) (set-changed change xs i d (omega arith))

pub changed-past : {X : Type 0} (change : X → X) (xs : List X) (i : ℕ) → length xs ≤ i → changed_at change xs i ≡ xs
unfolding changed_at
changed-past change [] i past = refl
changed-past change (x ∷ xs) zero past = absurd (omega arith)
changed-past change (x ∷ xs) (suc i) past = ap (λ ys. x ∷ ys) (changed-past change xs i (omega arith))

-- one element more is mapped in place
pub mapped-next : {X : Type 0} (change : X → X) (xs : List X) (i : ℕ) (d : X) → i < length xs
    → set (map change (take i xs) ++ drop i xs) i (change (get_or (map change (take i xs) ++ drop i xs) i d)) ≡ map change (take (i + 1) xs) ++ drop (i + 1) xs
mapped-next change [] i d inside = absurd (omega arith)
mapped-next change (x ∷ xs) zero d inside = refl
mapped-next change (x ∷ xs) (suc i) d inside =
    let next : suc i + 1 ≡ suc (i + 1) = omega arith in
    rw next (ap (λ ys. change x ∷ ys) (mapped-next change xs i d (omega arith)))

pub mapped-set : {X : Type 0} (change : X → X) (xs now : List X) (i : ℕ) (item new : X) → i < length xs
    → now ≡ map change (take i xs) ++ drop i xs → item ≡ get_or now i item → new ≡ change item → set now i new ≡ map change (take (i + 1) xs) ++ drop (i + 1) xs
mapped-set change xs now i item new inside is at made =
    let here : item ≡ get_or (map change (take i xs) ++ drop i xs) i item = at ∙ ap (λ ys. get_or ys i item) is in
    rw (made, is) (ap (λ x. set (map change (take i xs) ++ drop i xs) i (change x)) here ∙ mapped-next change xs i item inside)

-- an element that is changed, by what it was
pub changed-is : {X : Type 0} (change : X → X) (xs : List X) (i : ℕ) (x : X) → slice_get xs i ≡ Some x → changed_at change xs i ≡ set xs i (change x)
unfolding changed_at
changed-is change [] i x at = absurd (cc)
changed-is change (y ∷ xs) zero x at = let same : y ≡ x = cc in rw same refl
changed-is change (y ∷ xs) (suc i) x at = ap (λ ys. y ∷ ys) (changed-is change xs i x at)

pub mapped-at : {X : Type 0} (change : X → X) (xs : List X) (i : ℕ) (x : X) → slice_get xs i ≡ Some x → slice_get (map change xs) i ≡ Some (change x)
mapped-at change [] i x at = absurd (cc)
mapped-at change (y ∷ xs) zero x at = let same : y ≡ x = cc in rw same refl
mapped-at change (y ∷ xs) (suc i) x at = mapped-at change xs i x at

range-next : (a n : ℕ) → range_with_len a (n + 1) ≡ range_with_len a n ++ (a + n) ∷ []
range-next a zero = let here : a + 0 ≡ a = omega arith in rw here refl
range-next a (suc n) =
    let more : suc n + 1 ≡ suc (n + 1) = omega arith in
    let last : a + suc n ≡ a + 1 + n = omega arith in
    rw (more, last) (ap (λ xs. a ∷ xs) (range-next (a + 1) n))

-- one number more
pub numbers-next : (old so now : List ℕ) (first n : ℕ) → so ≡ old ++ range_with_len first n → now ≡ so ++ (first + n) ∷ []
    → now ≡ old ++ range_with_len first (n + 1)
numbers-next old so now first n are more =
    more ∙ ap (λ xs. xs ++ (first + n) ∷ []) are ∙ append_assoc old (range_with_len first n) ((first + n) ∷ [])
    ∙ ap (λ xs. old ++ xs) (sym (range-next first n))
