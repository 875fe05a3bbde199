-- An object dies: what is kept of the objects, and which pages have a live one.
use Rattle.std.proofs.Common.{ℕ, zero, suc, ◌≡◌, ◌≢◌, ◌<◌, ◌==◌, ◌&&◌, ◌||◌, Bool, true, false, cond, Some, option_map, List, [], ◌∷◌, ◌++◌, length, slice_get, arith, refl, ap, sym, ◌∙◌, subst, ◌⊎◌, inl, inr, ⊎_elim}
use Rattle.std.proofs.lemmas.Bool.Decides.{nat_tests}
use Rattle.osc_space.specs.declared.ObjectFact.{ObjectFact}
use Rattle.osc_space.specs.Objects.{is_live, has_page, is_live_page, kill, killed, fact, AreGranted}
use Rattle.osc_space.specs.Agree.{AreApart}
use Rattle.osc_space.proofs.ObjectLawProofs.{pages_are_granted_once}
use Rattle.osc_parts.proofs.Lists.{none_any}
use Rattle.osc_parts.proofs.Waiting.{is_in}

pub kill_get : (objects : List ObjectFact) (object call b : ℕ) → slice_get (kill object call objects) b ≡ cond (b == object) (option_map (killed call) (slice_get objects b)) (slice_get objects b)
kill_get [] object call b = grind (arith, nat_tests)
kill_get (o ∷ objects) zero call zero = refl
kill_get (o ∷ objects) zero call (suc b) = grind (arith, nat_tests)
kill_get (o ∷ objects) (suc object) call zero = grind (arith, nat_tests)
kill_get (o ∷ objects) (suc object) call (suc b) = let k = kill_get objects object call b in grind (arith, nat_tests, k)

pub kill_length : (objects : List ObjectFact) (object call : ℕ) → length (kill object call objects) ≡ length objects
kill_length [] object call = refl
kill_length (o ∷ objects) zero call = refl
kill_length (o ∷ objects) (suc object) call = ap suc (kill_length objects object call)

-- what stands there was there, or is the killed one
pub killed_at : (objects : List ObjectFact) (object call b : ℕ) (o x : ObjectFact) → fact objects object ≡ Some o → fact (kill object call objects) b ≡ Some x
    → ((b ≢ object) × (fact objects b ≡ Some x)) ⊎ ((b ≡ object) × (x ≡ killed call o))
killed_at objects object call b o x f e = go (b == object) refl
  where
    go : (t : Bool) → (b == object) ≡ t → ((b ≢ object) × (fact objects b ≡ Some x)) ⊎ ((b ≡ object) × (x ≡ killed call o))
    go true d =
        let same : b ≡ object = grind (arith, nat_tests, d) in
        let here : fact objects b ≡ Some o = subst (λ y. fact objects y ≡ Some o) (sym same) f in
        let k : Some (killed call o) ≡ Some x = sym (kill_get objects object call b ∙ ap (λ t. cond t (option_map (killed call) (slice_get objects b)) (slice_get objects b)) d ∙ ap (option_map (killed call)) here) ∙ e in
        inr (same, (let s : killed call o ≡ x = cc in sym s))
    go false d = inl ((λ s. (let z : ⊥ = grind (arith, nat_tests, d, s) in z)), sym (kill_get objects object call b ∙ ap (λ t. cond t (option_map (killed call) (slice_get objects b)) (slice_get objects b)) d) ∙ e)

pub killed_other : (objects : List ObjectFact) (object call b : ℕ) (x : ObjectFact) → b ≢ object → fact objects b ≡ Some x → fact (kill object call objects) b ≡ Some x
killed_other objects object call b x n e = let d : (b == object) ≡ false = grind (arith, nat_tests, n) in kill_get objects object call b ∙ ap (λ t. cond t (option_map (killed call) (slice_get objects b)) (slice_get objects b)) d ∙ e

pub killed_here : (objects : List ObjectFact) (object call : ℕ) (o : ObjectFact) → fact objects object ≡ Some o → fact (kill object call objects) object ≡ Some (killed call o)
killed_here objects object call o e = let d : (object == object) ≡ true = grind (arith, nat_tests) in kill_get objects object call object ∙ ap (λ t. cond t (option_map (killed call) (slice_get objects object)) (slice_get objects object)) d ∙ ap (option_map (killed call)) e

-- ---- pages
-- a page of no killed object has the live objects that it had
pub kill_other : (objects : List ObjectFact) (object call q : ℕ) (o : ObjectFact) → slice_get objects object ≡ Some o → has_page q o ≡ false → is_live_page (kill object call objects) q ≡ is_live_page objects q
kill_other [] object call q o e h = refl
kill_other (x ∷ objects) zero call q o e h = let s : x ≡ o = cc in let p : has_page q x ≡ false = ap (has_page q) s ∙ h in grind (arith, nat_tests, p)
kill_other (x ∷ objects) (suc object) call q o e h = let k = kill_other objects object call q o e h in grind (arith, nat_tests, k)

-- two objects have no page in common
pub one_owner : (objects : List ObjectFact) (a b q : ℕ) (o p : ObjectFact) → AreGranted objects → slice_get objects a ≡ Some o → slice_get objects b ≡ Some p → b ≢ a → has_page q o ≡ true → has_page q p ≡ false
one_owner objects a b q o p g e f d h = ⊎_elim
    (λ (l : a < b). (let w = (pages_are_granted_once objects g).ascending a b o p l e f in grind (arith, nat_tests, w, h)))
    (λ (l : b < a). (let w = (pages_are_granted_once objects g).ascending b a p o l f e in grind (arith, nat_tests, w, h)))
    (let z : (a < b) ⊎ (b < a) = grind (arith, d) in z)

pub kill_own : (objects : List ObjectFact) (object call q : ℕ) (o : ObjectFact) → AreGranted objects → slice_get objects object ≡ Some o → has_page q o ≡ true → is_live_page (kill object call objects) q ≡ false
kill_own objects object call q o g e h =
    none_any (λ x. is_live x && has_page q x) (kill object call objects)
    (λ b x f. go b x (killed_at objects object call b o x e f))
  where
    go : (b : ℕ) (x : ObjectFact) → ((b ≢ object) × (fact objects b ≡ Some x)) ⊎ ((b ≡ object) × (x ≡ killed call o)) → (is_live x && has_page q x) ≡ false
    go b x (inl k) = let n = one_owner objects object b q o x g e k.1 k.0 h in grind (arith, nat_tests, n)
    go b x (inr k) = subst (λ (y : ObjectFact). (is_live y && has_page q y) ≡ false) (sym k.1) refl

-- ---- one more that waits
pub in_append : (xs ys : List ℕ) (b : ℕ) → is_in (xs ++ ys) b ≡ (is_in xs b || is_in ys b)
in_append [] ys b = refl
in_append (x ∷ xs) ys b = let e = in_append xs ys b in grind (arith, nat_tests, e)

pub apart_more : (xs : List ℕ) (a : ℕ) → AreApart xs → is_in xs a ≡ false → AreApart (xs ++ a ∷ [])
apart_more [] a k e = (refl, tt)
apart_more (x ∷ xs) a k e =
    let later = apart_more xs a k.1 (grind (arith, nat_tests, e)) in
    let none = k.0 in
    (in_append xs (a ∷ []) x ∙ (grind (arith, nat_tests, e, none)), later)
