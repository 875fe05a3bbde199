-- The objects that wait are known, and one more is.
use Rattle.std.proofs.Common.{ℕ, zero, suc, ◌≡◌, ◌<◌, ◌==◌, ◌||◌, ◌⊎◌, inl, inr, Bool, true, false, List, [], ◌∷◌, ◌++◌, arith, refl, ap, length, get_or}
use Rattle.std.specs.Prelude.{All}
use Rattle.std.specs.List.{list_any}
use Rattle.std.proofs.lemmas.Bool.Decides.{nat_tests}
use Rattle.osc_space.specs.declared.ObjectFact.{ObjectFact}
use Rattle.osc_space.specs.Objects.{kill}

member : (xs : List ℕ) (k d : ℕ) → k < length xs → list_any (λ x. x == get_or xs k d) xs ≡ true
member [] k d l = absurd (omega arith)
member (x ∷ xs) zero d l = let same : (x == x) ≡ true = grind (arith, nat_tests) in rw same refl
member (x ∷ xs) (suc k) d l = let on = member xs k d (omega arith) in rw on (go (x == get_or xs k d))
  where
    go : (b : Bool) → (b || true) ≡ true
    go true = refl
    go false = refl

push_get : (xs : List ℕ) (y k d : ℕ) → k < length (xs ++ y ∷ []) → (get_or (xs ++ y ∷ []) k d ≡ y) ⊎ ((k < length xs) × (get_or (xs ++ y ∷ []) k d ≡ get_or xs k d))
push_get [] y zero d l = inl refl
push_get [] y (suc k) d l = absurd (omega arith)
push_get (x ∷ xs) y zero d l = inr (omega arith, refl)
push_get (x ∷ xs) y (suc k) d l = go (push_get xs y k d (omega arith))
  where
    go : (get_or (xs ++ y ∷ []) k d ≡ y) ⊎ ((k < length xs) × (get_or (xs ++ y ∷ []) k d ≡ get_or xs k d)) → (get_or (x ∷ (xs ++ y ∷ [])) (suc k) d ≡ y) ⊎ ((suc k < suc (length xs)) × (get_or (x ∷ (xs ++ y ∷ [])) (suc k) d ≡ get_or xs k d))
    go (inl e) = inl e
    go (inr e) = let l = e.0 in inr (omega arith, e.1)

pub length-kill : (object call : ℕ) (objects : List ObjectFact) → length (kill object call objects) ≡ length objects
length-kill object call [] = refl
length-kill zero call (o ∷ objects) = refl
length-kill (suc object) call (o ∷ objects) = ap suc (length-kill object call objects)

pub known_more : (objects : List ObjectFact) (waiting now : List ℕ) (object call : ℕ) → ((x : ℕ) → list_any (λ waits. waits == x) waiting ≡ true → x < length objects) → object < length objects → now ≡ waiting ++ object ∷ []
    → All (λ (x : ℕ). x < length (kill object call objects)) now
known_more objects waiting now object call known l e = rw (e, length-kill object call objects) (λ k d s. go k d (push_get waiting object k d s))
  where
    go : (k d : ℕ) → (get_or (waiting ++ object ∷ []) k d ≡ object) ⊎ ((k < length waiting) × (get_or (waiting ++ object ∷ []) k d ≡ get_or waiting k d)) → get_or (waiting ++ object ∷ []) k d < length objects
    go k d (inl f) = rw f l
    go k d (inr f) = rw (f.1) (known (get_or waiting k d) (member waiting k d f.0))
