-- The objects that are let go, and the leaf tables over the new one.
use Rattle.std.proofs.Common.{ℕ, zero, suc, ◌+◌, ◌-◌, ◌*◌, ◌/◌, ◌≡◌, ◌<◌, ◌≤◌, ◌==◌, ◌&&◌, ◌||◌, ◌⊎◌, inl, inr, Bool, true, false, cond, List, [], ◌∷◌, ◌++◌, Option, Some, None, arith, refl, ap, ◌∙◌, length, get_or}
use Rattle.std.specs.Prelude.{All, filter}
use Rattle.std.specs.List.{list_any, cons_option}
use Rattle.std.proofs.lemmas.Bool.Decides.{nat_tests}
use Rattle.std.proofs.lemmas.List.{length-append}
use Rattle.std.proofs.lemmas.List.Folds.{list_any-append}
use Rattle.osc_paging.specs.KeptTables.{KeptTables}
use Rattle.osc_space.specs.declared.ObjectFact.{ObjectFact}
use Rattle.osc_space.specs.Objects.{fact, facts, kill, killed, grant, granted_at, next_page, is_live, is_in_leaf, is_leaf_granted, leaf_dead}
use Rattle.osc_space.specs.Free.{linked_leaves}
use Rattle.osc_shadow.specs.Flushing.{is_over, leaves_over}
use Rattle.osc_shadow.proofs.Killed.{front_fact}

-- ---- all of them are known
member : (xs : List ℕ) (k d : ℕ) → k < length xs → list_any (λ x. x == get_or xs k d) xs ≡ true
member [] k d l = absurd (omega arith)
member (x ∷ xs) zero d l = let same : (x == x) ≡ true = grind (arith, nat_tests) in rw same refl
member (x ∷ xs) (suc k) d l = let on = member xs k d (omega arith) in rw on (go (x == get_or xs k d))
  where
    go : (b : Bool) → (b || true) ≡ true
    go true = refl
    go false = refl

push_get : (xs : List ℕ) (y k d : ℕ) → k < length (xs ++ y ∷ []) → (get_or (xs ++ y ∷ []) k d ≡ y) ⊎ ((k < length xs) × (get_or (xs ++ y ∷ []) k d ≡ get_or xs k d))
push_get [] y zero d l = inl refl
push_get [] y (suc k) d l = absurd (omega arith)
push_get (x ∷ xs) y zero d l = inr (omega arith, refl)
push_get (x ∷ xs) y (suc k) d l = go (push_get xs y k d (omega arith))
  where
    go : (get_or (xs ++ y ∷ []) k d ≡ y) ⊎ ((k < length xs) × (get_or (xs ++ y ∷ []) k d ≡ get_or xs k d)) → (get_or (x ∷ (xs ++ y ∷ [])) (suc k) d ≡ y) ⊎ ((suc k < suc (length xs)) × (get_or (x ∷ (xs ++ y ∷ [])) (suc k) d ≡ get_or xs k d))
    go (inl e) = inl e
    go (inr e) = let l = e.0 in inr (omega arith, e.1)

pub length-kill : (object call : ℕ) (objects : List ObjectFact) → length (kill object call objects) ≡ length objects
length-kill object call [] = refl
length-kill zero call (o ∷ objects) = refl
length-kill (suc object) call (o ∷ objects) = ap suc (length-kill object call objects)

pub known_all : (objects : List ObjectFact) (waiting : List ℕ) (object call pages size canon : ℕ) → ((x : ℕ) → list_any (λ waits. waits == x) waiting ≡ true → x < length objects) → object < length objects
    → All (λ (x : ℕ). x < length (kill object call (grant pages size canon objects))) (waiting ++ object ∷ [])
known_all objects waiting object call pages size canon known l =
    rw (length-kill object call (grant pages size canon objects)) (rw (length-append objects) (λ k d s. go k d (push_get waiting object k d s)))
  where
    go : (k d : ℕ) → (get_or (waiting ++ object ∷ []) k d ≡ object) ⊎ ((k < length waiting) × (get_or (waiting ++ object ∷ []) k d ≡ get_or waiting k d)) → get_or (waiting ++ object ∷ []) k d < length objects + 1
    go k d (inl f) = rw f (omega arith)
    go k d (inr f) = rw (f.1) (let m = known (get_or waiting k d) (member waiting k d f.0) in omega arith)

-- ---- the leaf tables over them are those over the old object as it lived
fact_kill : (objects : List ObjectFact) (n call : ℕ) (o : ObjectFact) → fact objects n ≡ Some o → fact (kill n call objects) n ≡ Some (killed call o)
fact_kill [] n call o e = cc
fact_kill (x ∷ objects) zero call o e = let same : x ≡ o = cc in ap (λ y. Some (killed call y)) same
fact_kill (x ∷ objects) (suc n) call o e = fact_kill objects n call o e

facts_push : (objects : List ObjectFact) (xs : List ℕ) (n : ℕ) (o : ObjectFact) → fact objects n ≡ Some o → facts objects (xs ++ n ∷ []) ≡ facts objects xs ++ o ∷ []
facts_push objects [] n o e = rw e refl
facts_push objects (x ∷ xs) n o e = go (fact objects x) (facts_push objects xs n o e)
  where
    go : (y : Option ObjectFact) → facts objects (xs ++ n ∷ []) ≡ facts objects xs ++ o ∷ [] → cons_option y (facts objects (xs ++ n ∷ [])) ≡ cons_option y (facts objects xs) ++ o ∷ []
    go None on = on
    go (Some z) on = ap (λ zs. z ∷ zs) on

over_same : (fs : List ObjectFact) (call leaf : ℕ) (o : ObjectFact) → is_over (fs ++ killed call o ∷ []) leaf ≡ is_over (fs ++ o ∷ []) leaf
over_same [] call leaf o = refl
over_same (f ∷ fs) call leaf o = ap (λ b. is_in_leaf leaf f || b) (over_same fs call leaf o)

filter_same : (p q : ℕ → Bool) → ((x : ℕ) → p x ≡ q x) → (xs : List ℕ) → filter p xs ≡ filter q xs
filter_same p q h [] = refl
filter_same p q h (x ∷ xs) = ap (λ b. cond b (x ∷ filter p xs) (filter p xs)) (h x) ∙ ap (λ ys. cond (q x) (x ∷ ys) ys) (filter_same p q h xs)

pub leaves_same : (t : KeptTables) (objects : List ObjectFact) (waiting : List ℕ) (n call pages size canon : ℕ) (o : ObjectFact) → fact objects n ≡ Some o
    → leaves_over t (kill n call (grant pages size canon objects)) (facts (kill n call (grant pages size canon objects)) (waiting ++ n ∷ []))
    ≡ leaves_over t (kill n call (grant pages size canon objects)) (facts (kill n call (grant pages size canon objects)) waiting ++ o ∷ [])
leaves_same t objects waiting n call pages size canon o e =
    ap (λ gone. leaves_over t (kill n call (grant pages size canon objects)) gone)
    (facts_push (kill n call (grant pages size canon objects)) waiting n (killed call o) (fact_kill (grant pages size canon objects) n call o (front_fact objects _ n o e)))
    ∙ filter_same _ _ (λ leaf. ap (λ b. leaf_dead (kill n call (grant pages size canon objects)) leaf && b) (over_same (facts (kill n call (grant pages size canon objects)) waiting) call leaf o)) (linked_leaves t)

-- ---- no leaf table over the new object is dead
kill_front : (n call : ℕ) (xs ys : List ObjectFact) → n < length xs → kill n call (xs ++ ys) ≡ kill n call xs ++ ys
kill_front n call [] ys l = absurd (omega arith)
kill_front zero call (x ∷ xs) ys l = refl
kill_front (suc n) call (x ∷ xs) ys l = ap (λ zs. x ∷ zs) (kill_front n call xs ys (omega arith))

pub new_live : (objects : List ObjectFact) (n call pages size canon leaf : ℕ) → n < length objects → 0 < pages → next_page objects / 512 ≤ leaf → leaf ≤ (next_page objects + (pages - 1)) / 512
    → leaf_dead (kill n call (grant pages size canon objects)) leaf ≡ false
new_live objects n call pages size canon leaf l some low high =
    let a : next_page objects < 512 * leaf + 512 = omega arith in
    let b : 512 * leaf < next_page objects + pages = omega arith in
    let here : is_in_leaf leaf (granted_at (next_page objects) pages size canon) ≡ true = grind (arith, nat_tests, a, b) in
    let any : list_any (λ (o : ObjectFact). is_live o && is_in_leaf leaf o) (kill n call (grant pages size canon objects)) ≡ true =
    ap (λ os. list_any (λ (o : ObjectFact). is_live o && is_in_leaf leaf o) os) (kill_front n call objects (granted_at (next_page objects) pages size canon ∷ []) l)
    ∙ list_any-append (λ (o : ObjectFact). is_live o && is_in_leaf leaf o) (kill n call objects) (granted_at (next_page objects) pages size canon ∷ [])
    ∙ ap (λ x. list_any (λ (o : ObjectFact). is_live o && is_in_leaf leaf o) (kill n call objects) || (x || false)) here
    ∙ go (list_any (λ (o : ObjectFact). is_live o && is_in_leaf leaf o) (kill n call objects)) in
    rw any (none (is_leaf_granted (kill n call (grant pages size canon objects)) leaf))
  where
    go : (b : Bool) → (b || true) ≡ true
    go true = refl
    go false = refl

    none : (b : Bool) → (b && false) ≡ false
    none true = refl
    none false = refl
