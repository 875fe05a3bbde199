-- Which leaf tables are given up: a grant changes none, nor an object that is dead and waits.
use Rattle.std.proofs.Common.{ℕ, zero, suc, ◌+◌, ◌*◌, ◌≡◌, ◌<◌, ◌≤◌, ◌==◌, ◌&&◌, ◌||◌, nat_lt, nat_le, not, Bool, true, false, Option, Some, None, List, [], ◌∷◌, ◌++◌, length, arith, refl, sym, ap, ◌∙◌}
use Rattle.std.specs.List.{list_any, cons_option}
use Rattle.std.proofs.lemmas.Bool.Decides.{nat_tests}
use Rattle.std.proofs.lemmas.List.Folds.{list_any-append}
use Rattle.std.proofs.lemmas.List.Elements.{filter_map-append}
use Rattle.osc_word.specs.AddressMap.{first_shadow_page}
use Rattle.osc_space.specs.declared.ObjectFact.{ObjectFact}
use Rattle.osc_space.specs.Objects.{next_page, fact, facts, granted_at, grant, is_live, killed, kill, is_in_leaf, is_leaf_granted, leaf_dead, leaf_given_up}
use Rattle.osc_space.proofs.ObjectLawProofs.{mark-kill, mark-grant}
use Rattle.osc_parts.proofs.Lists.{any_at}
use Rattle.osc_ledger.proofs.Accounts.{more-facts}

abbrev lives-in : ℕ → ObjectFact → Bool
lives-in leaf o = is_live o && is_in_leaf leaf o

-- ---- a grant
grants-dead : (start a n m p : ℕ) (x : Bool) → m ≡ n + p
    → ((nat_le start a && nat_le (a + 512) m) && not (x || ((nat_lt n (a + 512) && nat_lt a (n + p)) || false))) ≡ ((nat_le start a && nat_le (a + 512) n) && not x)
grants-dead start a n m p x e = grind (arith, nat_tests, e)

pub grant-dead : (pages size canon leaf : ℕ) (objects : List ObjectFact) → leaf_dead (grant pages size canon objects) leaf ≡ leaf_dead objects leaf
grant-dead pages size canon leaf objects =
    ap (λ x. is_leaf_granted (grant pages size canon objects) leaf && not x) (list_any-append (lives-in leaf) objects (granted_at (next_page objects) pages size canon ∷ []))
    ∙ grants-dead first_shadow_page (512 * leaf) (next_page objects) (next_page (grant pages size canon objects)) pages (list_any (lives-in leaf) objects)
    (let e = mark-grant pages size canon objects in omega (arith, e))

pub grant-given : (pages size canon leaf : ℕ) (objects : List ObjectFact) (waiting : List ℕ) → ((w : ℕ) → list_any (λ x. x == w) waiting ≡ true → w < length objects)
    → leaf_given_up (grant pages size canon objects) waiting leaf ≡ leaf_given_up objects waiting leaf
grant-given pages size canon leaf objects waiting known =
    ap (λ x. x && not (list_any (is_in_leaf leaf) (facts (grant pages size canon objects) waiting))) (grant-dead pages size canon leaf objects)
    ∙ ap (λ fs. leaf_dead objects leaf && not (list_any (is_in_leaf leaf) fs)) (more-facts objects (granted_at (next_page objects) pages size canon) waiting known)

-- no leaf that has a page of the next grant was given up
pub fresh-kept : (objects : List ObjectFact) (waiting : List ℕ) (leaf page : ℕ) → next_page objects ≤ page → page < 512 * leaf + 512 → leaf_given_up objects waiting leaf ≡ false
fresh-kept objects waiting leaf page low high =
    let late : nat_le (512 * leaf + 512) (next_page objects) ≡ false = grind (arith, nat_tests, low, high) in
    ap (λ b. ((nat_le first_shadow_page (512 * leaf) && b) && not (list_any (lives-in leaf) objects)) && not (list_any (is_in_leaf leaf) (facts objects waiting))) late
    ∙ none (nat_le first_shadow_page (512 * leaf)) (not (list_any (lives-in leaf) objects)) (not (list_any (is_in_leaf leaf) (facts objects waiting)))
  where
    none : (a b c : Bool) → (((a && false) && b) && c) ≡ false
    none true b c = refl
    none false b c = refl

-- ---- a death
kill-any : (test : ObjectFact → Bool) (object call : ℕ) (o : ObjectFact) (xs : List ObjectFact) → fact xs object ≡ Some o → test (killed call o) ≡ test o
    → list_any test (kill object call xs) ≡ list_any test xs
kill-any test object call o [] e f = refl
kill-any test zero call o (x ∷ xs) e f =
    let same : x ≡ o = one x o e in
    ap (λ b. b || list_any test xs) (ap (λ z. test (killed call z)) same ∙ f ∙ ap test (sym same))
  where
    one : (a b : ObjectFact) → Some a ≡ Some b → a ≡ b
    one a b e = cc
kill-any test (suc object) call o (x ∷ xs) e f = ap (λ b. test x || b) (kill-any test object call o xs e f)

kill-leaf : (leaf object call : ℕ) (xs : List ObjectFact) (i : ℕ) (rest more : List ObjectFact) → list_any (is_in_leaf leaf) rest ≡ list_any (is_in_leaf leaf) more
    → list_any (is_in_leaf leaf) (cons_option (fact (kill object call xs) i) rest) ≡ list_any (is_in_leaf leaf) (cons_option (fact xs i) more)
kill-leaf leaf object call [] i rest more e = e
kill-leaf leaf zero call (x ∷ xs) zero rest more e = ap (λ b. is_in_leaf leaf x || b) e
kill-leaf leaf zero call (x ∷ xs) (suc i) rest more e = same (fact xs i)
  where
    same : (o : Option ObjectFact) → list_any (is_in_leaf leaf) (cons_option o rest) ≡ list_any (is_in_leaf leaf) (cons_option o more)
    same None = e
    same (Some o) = ap (λ b. is_in_leaf leaf o || b) e
kill-leaf leaf (suc object) call (x ∷ xs) zero rest more e = ap (λ b. is_in_leaf leaf x || b) e
kill-leaf leaf (suc object) call (x ∷ xs) (suc i) rest more e = kill-leaf leaf object call xs i rest more e

pub kill-facts : (leaf object call : ℕ) (xs : List ObjectFact) (ws : List ℕ) → list_any (is_in_leaf leaf) (facts (kill object call xs) ws) ≡ list_any (is_in_leaf leaf) (facts xs ws)
kill-facts leaf object call xs [] = refl
kill-facts leaf object call xs (w ∷ ws) = kill-leaf leaf object call xs w (facts (kill object call xs) ws) (facts xs ws) (kill-facts leaf object call xs ws)

killed-at : (object call : ℕ) (o : ObjectFact) (xs : List ObjectFact) → fact xs object ≡ Some o → fact (kill object call xs) object ≡ Some (killed call o)
killed-at object call o [] e = absurd (let z : ⊥ = grind (arith, e) in z)
killed-at zero call o (x ∷ xs) e = ap (λ z. Some (killed call z)) (one x o e)
  where
    one : (a b : ObjectFact) → Some a ≡ Some b → a ≡ b
    one a b e = cc
killed-at (suc object) call o (x ∷ xs) e = killed-at object call o xs e

-- the objects that wait, with one more
pub waits-more : (leaf object call : ℕ) (o : ObjectFact) (xs : List ObjectFact) (ws : List ℕ) → fact xs object ≡ Some o
    → list_any (is_in_leaf leaf) (facts (kill object call xs) (ws ++ object ∷ [])) ≡ (list_any (is_in_leaf leaf) (facts xs ws) || is_in_leaf leaf o)
waits-more leaf object call o xs ws e =
    ap (list_any (is_in_leaf leaf)) (filter_map-append (fact (kill object call xs)) ws (object ∷ []))
    ∙ list_any-append (is_in_leaf leaf) (facts (kill object call xs) ws) (facts (kill object call xs) (object ∷ []))
    ∙ ap (λ b. b || list_any (is_in_leaf leaf) (facts (kill object call xs) (object ∷ []))) (kill-facts leaf object call xs ws)
    ∙ ap (λ z. list_any (is_in_leaf leaf) (facts xs ws) || list_any (is_in_leaf leaf) (cons_option z [])) (killed-at object call o xs e)
    ∙ ap (λ b. list_any (is_in_leaf leaf) (facts xs ws) || b) (last (is_in_leaf leaf o))
  where
    last : (b : Bool) → (b || false) ≡ b
    last true = refl
    last false = refl

-- an object that lived is dead and waits: its leaf tables are given up no sooner
pub wait-given : (leaf object call : ℕ) (o : ObjectFact) (xs : List ObjectFact) (ws : List ℕ) → fact xs object ≡ Some o → is_live o ≡ true
    → leaf_given_up (kill object call xs) (ws ++ object ∷ []) leaf ≡ leaf_given_up xs ws leaf
wait-given leaf object call o xs ws e alive =
    ap (λ b. leaf_dead (kill object call xs) leaf && not b) (waits-more leaf object call o xs ws e)
    ∙ ap (λ m. ((nat_le first_shadow_page (512 * leaf) && nat_le (512 * leaf + 512) (first_shadow_page + m)) && not (list_any (lives-in leaf) (kill object call xs))) && not (list_any (is_in_leaf leaf) (facts xs ws) || is_in_leaf leaf o)) (mark-kill object call xs)
    ∙ go (is_in_leaf leaf o) refl
  where
    away : (g x w : Bool) → ((g && not x) && not (w || false)) ≡ ((g && not x) && not w)
    away g x true = refl
    away g x false = refl

    inside : (g x w : Bool) → ((g && not x) && not (w || true)) ≡ ((g && not true) && not w)
    inside true true true = refl
    inside true true false = refl
    inside true false true = refl
    inside true false false = refl
    inside false x true = refl
    inside false x false = refl

    go : (i : Bool) → is_in_leaf leaf o ≡ i
        → (((is_leaf_granted xs leaf) && not (list_any (lives-in leaf) (kill object call xs))) && not (list_any (is_in_leaf leaf) (facts xs ws) || is_in_leaf leaf o)) ≡ leaf_given_up xs ws leaf
    go true f =
        let here : lives-in leaf o ≡ true = ap (λ b. b && is_in_leaf leaf o) alive ∙ f in
        let any : list_any (lives-in leaf) xs ≡ true = any_at (lives-in leaf) xs object o e here in
        ap (λ i. ((is_leaf_granted xs leaf) && not (list_any (lives-in leaf) (kill object call xs))) && not (list_any (is_in_leaf leaf) (facts xs ws) || i)) f
        ∙ inside (is_leaf_granted xs leaf) (list_any (lives-in leaf) (kill object call xs)) (list_any (is_in_leaf leaf) (facts xs ws))
        ∙ ap (λ x. ((is_leaf_granted xs leaf) && not x) && not (list_any (is_in_leaf leaf) (facts xs ws))) (sym any)
    go false f =
        let here : lives-in leaf o ≡ false = ap (λ b. b && is_in_leaf leaf o) alive ∙ f in
        let same : list_any (lives-in leaf) (kill object call xs) ≡ list_any (lives-in leaf) xs = kill-any (lives-in leaf) object call o xs e (sym here) in
        ap (λ i. ((is_leaf_granted xs leaf) && not (list_any (lives-in leaf) (kill object call xs))) && not (list_any (is_in_leaf leaf) (facts xs ws) || i)) f
        ∙ away (is_leaf_granted xs leaf) (list_any (lives-in leaf) (kill object call xs)) (list_any (is_in_leaf leaf) (facts xs ws))
        ∙ ap (λ x. ((is_leaf_granted xs leaf) && not x) && not (list_any (is_in_leaf leaf) (facts xs ws))) same
