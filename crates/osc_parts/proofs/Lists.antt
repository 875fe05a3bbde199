-- Lists of objects: one more, and what passes a test.
use Rattle.std.proofs.Common.{ℕ, zero, suc, ◌≡◌, ◌<◌, Bool, true, false, Some, List, [], ◌∷◌, ◌++◌, length, slice_get, arith, refl, ap, sym, ◌∙◌, ◌⊎◌, inl, inr, ⊎_elim}
use Rattle.std.specs.List.{list_any}
use Rattle.std.proofs.lemmas.Bool.Decides.{nat_tests}

module _ {X : Type 0} where
  -- what stands in a list with one more at its end
  pub grown : (xs : List X) (new x : X) (a : ℕ) → slice_get (xs ++ new ∷ []) a ≡ Some x → (slice_get xs a ≡ Some x) ⊎ ((a ≡ length xs) × (x ≡ new))
  grown [] new x zero e = inr (refl, (let s : new ≡ x = cc in sym s))
  grown [] new x (suc a) e = absurd (let b : ⊥ = grind (arith, e) in b)
  grown (y ∷ xs) new x zero e = inl e
  grown (y ∷ xs) new x (suc a) e = ⊎_elim (λ (d : slice_get xs a ≡ Some x). inl d) (λ (d : (a ≡ length xs) × (x ≡ new)). inr (ap suc d.0, d.1)) (grown xs new x a e)

  pub get_append : (xs ys : List X) (a : ℕ) (x : X) → slice_get xs a ≡ Some x → slice_get (xs ++ ys) a ≡ Some x
  get_append [] ys a x e = absurd (let b : ⊥ = grind (arith, e) in b)
  get_append (y ∷ xs) ys zero x e = e
  get_append (y ∷ xs) ys (suc a) x e = get_append xs ys a x e

  pub get_end : (xs : List X) (x : X) → slice_get (xs ++ x ∷ []) (length xs) ≡ Some x
  get_end [] x = refl
  get_end (y ∷ xs) x = get_end xs x

  pub get_within : (xs : List X) (a : ℕ) (x : X) → slice_get xs a ≡ Some x → a < length xs
  get_within [] a x e = absurd (let b : ⊥ = grind (arith, e) in b)
  get_within (y ∷ xs) zero x e = omega arith
  get_within (y ∷ xs) (suc a) x e = let l = get_within xs a x e in omega (arith, l)

  pub any_at : (test : X → Bool) (xs : List X) (a : ℕ) (x : X) → slice_get xs a ≡ Some x → test x ≡ true → list_any test xs ≡ true
  any_at test [] a x e t = absurd (let b : ⊥ = grind (arith, e) in b)
  any_at test (y ∷ xs) zero x e t = let same : y ≡ x = cc in let h : test y ≡ true = ap test same ∙ t in grind (arith, nat_tests, h)
  any_at test (y ∷ xs) (suc a) x e t = let h = any_at test xs a x e t in grind (arith, nat_tests, h)

  -- where none passes
  pub none_any : (test : X → Bool) (xs : List X) → ((b : ℕ) (x : X) → slice_get xs b ≡ Some x → test x ≡ false) → list_any test xs ≡ false
  none_any test [] h = refl
  none_any test (y ∷ xs) h = let a = h 0 y refl in let k = none_any test xs (λ b x e. h (suc b) x e) in grind (arith, nat_tests, a, k)

  -- the one that passes
  pub record Passing (test : X → Bool) (xs : List X) : Type 0 where
    pub place : ℕ
    pub one : X
    pub is : slice_get xs place ≡ Some one
    pub passes : test one ≡ true

  pub passing : (test : X → Bool) (xs : List X) → list_any test xs ≡ true → Passing test xs
  passing test [] e = absurd (let z : ⊥ = grind (arith, e) in z)
  passing test (y ∷ xs) e = go (test y) refl (passing test xs)
    where
      go : (b : Bool) → test y ≡ b → (list_any test xs ≡ true → Passing test xs) → Passing test (y ∷ xs)
      go true d on = record { place = 0; one = y; is = refl; passes = d }
      go false d on = let r = on (grind (arith, nat_tests, e, d)) in record { place = suc r.place; one = r.one; is = r.is; passes = r.passes }
