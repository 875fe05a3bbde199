-- One element more of a list that is copied.
use Rattle.std.proofs.Common.{ℕ, zero, suc, ◌≡◌, ◌<◌, ◌≤◌, ◌+◌, List, [], ◌∷◌, ◌++◌, arith, refl, ap, add-one, length, get_or, take}
use Rattle.std.specs.Prelude.{map}
use Rattle.std.proofs.lemmas.Bool.Decides.{nat_tests}

map-take_more : {X Y : Type 0} (f : X → Y) (xs : List X) (i : ℕ) (d : X) → i < length xs → map f (take (suc i) xs) ≡ map f (take i xs) ++ f (get_or xs i d) ∷ []
map-take_more f [] i d s = absurd (omega arith)
map-take_more f (x ∷ xs) zero d s = refl
map-take_more f (x ∷ xs) (suc i) d s = ap (λ ys. f x ∷ ys) (map-take_more f xs i d (omega arith))

pub map-take_next : {X Y : Type 0} (f : X → Y) (xs : List X) (i : ℕ) (d : X) → i < length xs → map f (take (i + 1) xs) ≡ map f (take i xs) ++ f (get_or xs i d) ∷ []
map-take_next f xs i d s = rw add-one (map-take_more f xs i d s)

pub take_past : {X : Type 0} (xs : List X) (i : ℕ) → length xs ≤ i → take i xs ≡ xs
take_past [] zero s = refl
take_past [] (suc i) s = refl
take_past (x ∷ xs) zero s = absurd (omega arith)
take_past (x ∷ xs) (suc i) s = ap (λ ys. x ∷ ys) (take_past xs i (omega arith))

pub ruleset copy_facts = (map-take_next, take_past, nat_tests)
