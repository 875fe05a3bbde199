-- Lists all of whose elements have something in common.
use Rattle.std.proofs.Common.{ℕ, zero, suc, ◌≡◌, ◌+◌, Option, Some, None, IfSome, List, [], ◌∷◌, ◌++◌, slice_get, slice_set, slice_index_or, map, replicate, arith, refl, subst, ap, ◌∙◌}
use Rattle.std.specs.List.{range_with_len}
use Rattle.std.proofs.lemmas.List.{map-append}
use Rattle.osc_elf.proofs.Ranges.{range-more}

abbrev pub AllOf : {X : Type 0} → (X → Type 0) → List X → Type 0
AllOf P xs = (n : ℕ) (x : _) → slice_get xs n ≡ Some x → P x

abbrev OfSome : {X : Type 0} → (X → Type 0) → Option X → Type 0
OfSome P None = Unit {0}
OfSome P (Some x) = P x

pub all_set : {X : Type 0} (P : X → Type 0) (xs : List X) (n : ℕ) (y : X) → AllOf P xs → P y → AllOf P (slice_set xs n y)
all_set P [] n y all has m x e = all m x e
all_set P (z ∷ xs) zero y all has zero x e = subst (OfSome P) e has
all_set P (z ∷ xs) zero y all has (suc m) x e = all (suc m) x e
all_set P (z ∷ xs) (suc n) y all has zero x e = all zero x e
all_set P (z ∷ xs) (suc n) y all has (suc m) x e = all_set P xs n y (λ i v f. all (suc i) v f) has m x e

-- what stands at a place, or nothing
pub all_at : {X : Type 0} (P : X → Type 0) (xs : List (Option X)) (n : ℕ) → AllOf (λ (o : Option X). IfSome o P) xs → IfSome (slice_index_or xs n None) P
all_at P [] n all = tt
all_at P (z ∷ xs) zero all = all 0 z refl
all_at P (z ∷ xs) (suc n) all = all_at P xs n (λ i v f. all (suc i) v f)

pub all_map : {X Y : Type 0} (P : Y → Type 0) (f : X → Y) (xs : List X) → ((x : X) → P (f x)) → AllOf P (map f xs)
all_map P f [] has n y e = absurd (let z : ⊥ = grind (arith, e) in z)
all_map P f (x ∷ xs) has zero y e = subst (OfSome P) e (has x)
all_map P f (x ∷ xs) has (suc n) y e = all_map P f xs has n y e

pub all_replicate : {X : Type 0} (P : X → Type 0) (count : ℕ) (x : X) → P x → AllOf P (replicate count x)
all_replicate P zero x has n y e = absurd (let z : ⊥ = grind (arith, e) in z)
all_replicate P (suc count) x has zero y e = subst (OfSome P) e has
all_replicate P (suc count) x has (suc n) y e = all_replicate P count x has n y e

-- one more number
pub map_next : {X : Type 0} (f : ℕ → X) (n : ℕ) → map f (range_with_len 0 (n + 1)) ≡ map f (range_with_len 0 n) ++ f n ∷ []
map_next f n =
    ap (map f) (range-more 0 n ∙ ap (λ k. range_with_len 0 n ++ k ∷ []) (let z : 0 + n ≡ n = omega arith in z))
    ∙ map-append f (range_with_len 0 n) (n ∷ [])
