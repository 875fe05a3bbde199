-- Sums that stand still at the greatest number of 64 bits, one hart after another.
use Rattle.std.proofs.Common.{ℕ, zero, suc, ◌≡◌, ◌+◌, ◌<◌, ◌≤◌, List, [], ◌∷◌, length, drop, sum_by, slice_index_or, arith, refl, sym, ◌∙◌, ap, subst}
use Rattle.std.proofs.lemmas.List.Sums.{sum_by-cons}
use Rattle.osc_machine.specs.Views.{capped}

-- the sum so far, with that of what is left
pub record SumsTo {X : Type 0} (f : X → ℕ) (xs : List X) (i sum : ℕ) : Type 0 where
  pub all : capped (sum + sum_by f (drop i xs)) ≡ capped (sum_by f xs)
  pub small : sum ≤ 18446744073709551615

pub sum_starts : {X : Type 0} (f : X → ℕ) (xs : List X) → SumsTo f xs 0 0
sum_starts f xs =
    let none : 0 + sum_by f xs ≡ sum_by f xs = omega arith in
    record { all = ap capped none; small = omega arith }

sum_next : {X : Type 0} (f : X → ℕ) (xs : List X) (i : ℕ) (d : X) → i < length xs → sum_by f (drop i xs) ≡ f (slice_index_or xs i d) + sum_by f (drop (suc i) xs)
sum_next f [] i d l = absurd (let z : ⊥ = omega (arith, l) in z)
sum_next f (x ∷ xs) zero d l = sum_by-cons f x xs
sum_next f (x ∷ xs) (suc i) d l = sum_next f xs i d (let z : i < length xs = omega (arith, l) in z)

pub sum_goes_on : {X : Type 0} (f : X → ℕ) (xs : List X) (i sum : ℕ) (x : X) → x ≡ slice_index_or xs i x → SumsTo f xs i sum → i < length xs
    → SumsTo f xs (i + 1) (capped (sum + f x))
sum_goes_on f xs i sum x is s l =
    let next = sum_next f xs i x l in
    let at : sum_by f (drop i xs) ≡ f x + sum_by f (drop (suc i) xs) = next ∙ ap (λ y. f y + sum_by f (drop (suc i) xs)) (sym is) in
    let more : i + 1 ≡ suc i = omega arith in
    record {
      all = rw more (let z : capped (capped (sum + f x) + sum_by f (drop (suc i) xs)) ≡ capped (sum + sum_by f (drop i xs)) = rw at (omega arith) in z ∙ s.all);
      small = omega arith;
    }

none_left : {X : Type 0} (f : X → ℕ) (xs : List X) (i : ℕ) → length xs ≤ i → sum_by f (drop i xs) ≡ 0
none_left f [] zero l = refl
none_left f [] (suc i) l = refl
none_left f (x ∷ xs) zero l = absurd (let z : ⊥ = omega (arith, l) in z)
none_left f (x ∷ xs) (suc i) l = none_left f xs i (let z : length xs ≤ i = omega (arith, l) in z)

pub sum_ends : {X : Type 0} (f : X → ℕ) (xs : List X) (i sum : ℕ) → SumsTo f xs i sum → length xs ≤ i → sum ≡ capped (sum_by f xs)
sum_ends f xs i sum s l =
    let none = none_left f xs i l in
    let all : capped (sum + 0) ≡ capped (sum_by f xs) = subst (λ n. capped (sum + n) ≡ capped (sum_by f xs)) none s.all in
    let small = s.small in
    let same : sum ≡ capped (sum + 0) = omega (arith, small) in
    same ∙ all
