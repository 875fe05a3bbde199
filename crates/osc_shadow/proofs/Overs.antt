-- The least leaf table over one object more.
use Rattle.std.proofs.Common.{ℕ, suc, ◌≡◌, ◌<◌, ◌≤◌, ◌||◌, ◌⊎◌, inl, inr, min, Bool, true, false, List, [], ◌∷◌, Option, Some, None, arith, refl, sym, subst, ◌∙◌, take, length, get_or}
use Rattle.std.specs.Prelude.{MatchOption}
use Rattle.std.proofs.Math.Seq.{take-suc}
use Rattle.std.proofs.lemmas.List.Folds.{list_any-append}
use Rattle.std.proofs.lemmas.List.Elements.{filter_map-append}
use Rattle.osc_space.specs.declared.ObjectFact.{ObjectFact}
use Rattle.osc_space.specs.Objects.{fact, facts, is_in_leaf}
use Rattle.osc_shadow.specs.Flushing.{IsLeast, NonePasses, is_over, lesser}

abbrev pub Finds : (ℕ → Bool) → ℕ → Option ℕ → Type 0
Finds test from r = MatchOption r (NonePasses test from) (IsLeast test from)

-- the least of either test
either : (p q : ℕ → Bool) (from : ℕ) (a b : Option ℕ) → Finds p from a → Finds q from b → Finds (λ x. p x || q x) from (lesser a b)
either p q from None None f g = λ x l. (let u = f x l in let v = g x l in rw (u, v) refl)
either p q from (Some x) None f g = record {
  above = f.above;
  passes = (let u = f.passes in rw u refl);
  least = λ y l m. (let u = f.least y l m in let v = g y l in rw (u, v) refl);
}
either p q from None (Some y) f g = record {
  above = g.above;
  passes = (let u = f y g.above in let v = g.passes in rw (u, v) refl);
  least = λ z l m. (let u = f z l in let v = g.least z l m in rw (u, v) refl);
}
either p q from (Some x) (Some y) f g = pick (below x y)
  where
    below : (x y : ℕ) → (x ≤ y) ⊎ (y < x)
    below x y = grind arith

    pick : (x ≤ y) ⊎ (y < x) → IsLeast (λ z. p z || q z) from (min x y)
    pick (inl s) =
        let m : min x y ≡ x = omega arith in
        rw m (record {
          above = f.above;
          passes = (let u = f.passes in rw u refl);
          least = λ z l k. (let u = f.least z l k in let v = g.least z l (omega arith) in rw (u, v) refl);
        })
    pick (inr s) =
        let m : min x y ≡ y = omega arith in
        rw m (record {
          above = g.above;
          passes = (let u = f.least y g.above s in let v = g.passes in rw (u, v) refl);
          least = λ z l k. (let u = f.least z l (omega arith) in let v = g.least z l k in rw (u, v) refl);
        })

same_finds : (p q : ℕ → Bool) (from : ℕ) (r : Option ℕ) → ((x : ℕ) → p x ≡ q x) → Finds p from r → Finds q from r
same_finds p q from None e f = λ x l. sym (e x) ∙ f x l
same_finds p q from (Some n) e f = record { above = f.above; passes = sym (e n) ∙ f.passes; least = λ x l m. sym (e x) ∙ f.least x l m }

over_more : (objects : List ObjectFact) (gone : List ℕ) (i : ℕ) (o : ObjectFact) (leaf : ℕ) → i < length gone → fact objects (get_or gone i 0) ≡ Some o
    → (is_over (facts objects (take i gone)) leaf || is_in_leaf leaf o) ≡ is_over (facts objects (take (suc i) gone)) leaf
over_more objects gone i o leaf l e =
    rw (take-suc gone i 0 l, filter_map-append (fact objects) (take i gone) (get_or gone i 0 ∷ []), e, list_any-append (is_in_leaf leaf) (facts objects (take i gone)) (o ∷ []))
    (go (is_over (facts objects (take i gone)) leaf) (is_in_leaf leaf o))
  where
    go : (a b : Bool) → (a || b) ≡ (a || (b || false))
    go true b = refl
    go false true = refl
    go false false = refl

pub finds_more : (objects : List ObjectFact) (gone : List ℕ) (i j from : ℕ) (o : ObjectFact) (a b : Option ℕ) → i < length gone → j ≡ suc i → fact objects (get_or gone i 0) ≡ Some o
    → Finds (is_over (facts objects (take i gone))) from a → Finds (λ leaf. is_in_leaf leaf o) from b → Finds (is_over (facts objects (take j gone))) from (lesser a b)
finds_more objects gone i j from o a b l e is f g =
    subst (λ k. Finds (is_over (facts objects (take k gone))) from (lesser a b)) (sym e)
    (same_finds (λ leaf. is_over (facts objects (take i gone)) leaf || is_in_leaf leaf o) (is_over (facts objects (take (suc i) gone))) from (lesser a b) (λ leaf. over_more objects gone i o leaf l is)
    (either (is_over (facts objects (take i gone))) (λ leaf. is_in_leaf leaf o) from a b f g))
