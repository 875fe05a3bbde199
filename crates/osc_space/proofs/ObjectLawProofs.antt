-- The laws of objects, by induction over their list.
use Rattle.std.proofs.Common.{ℕ, zero, suc, ◌+◌, ◌*◌, ◌%◌, ◌==◌, ◌≡◌, ◌<◌, ◌≤◌, ◌&&◌, Bool, true, false, cond, not, nat_lt, Option, Some, None, List, [], ◌∷◌, ◌++◌, length, position, slice_get, arith, refl, ap, sym, subst, ◌∙◌}
use Rattle.std.specs.Prelude.{option_map, option_and_then}
use Rattle.std.specs.List.{list_any, position_or_len}
use Rattle.std.proofs.lemmas.Bool.Decides.{nat_tests}
use Rattle.std.proofs.lemmas.List.Sums.{sum_by-cons, sum_by_push}
use Rattle.osc_space.specs.declared.ObjectFact.{ObjectFact}
use Rattle.osc_word.specs.AddressMap.{first_shadow_page, is_within}
use Rattle.osc_space.specs.Objects.{GrantedFrom, AreGranted, Seen, fact, seen_as, object_seen, object_at, mark, next_page, granted_at, grant, killed, kill, has_page, is_live, is_in_leaf}
use Rattle.osc_space.specs.ObjectLaws.{GrantsKeep, PagesAreGrantedOnce, DeadLeavesAreDead, LooksFindObjects}

mark-cons : (o : ObjectFact) (objects : List ObjectFact) → mark (o ∷ objects) ≡ o.pages + mark objects
mark-cons o objects = sum_by-cons (λ (o : ObjectFact). o.pages) o objects

-- ---- grants and deaths
granted-append : (page : ℕ) (objects : List ObjectFact) (o : ObjectFact) → GrantedFrom page objects → o.first ≡ page + mark objects → 0 < o.pages → o.user ≡ o.first * 4096 + o.canon % 4096 → GrantedFrom page (objects ++ o ∷ [])
granted-append page [] o g e l u = grind (arith, e, l, u)
granted-append page (x ∷ objects) o g e l u =
    let m = mark-cons x objects in
    (g.0, g.1, g.2, granted-append (page + x.pages) objects o g.3 (omega arith) l u)

granted-kill : (page object call : ℕ) (objects : List ObjectFact) → GrantedFrom page objects → GrantedFrom page (kill object call objects)
granted-kill page object call [] g = tt
granted-kill page zero call (x ∷ objects) g = g
granted-kill page (suc object) call (x ∷ objects) g = (g.0, g.1, g.2, granted-kill (page + x.pages) object call objects g.3)

pub mark-kill : (object call : ℕ) (objects : List ObjectFact) → mark (kill object call objects) ≡ mark objects
mark-kill object call [] = refl
mark-kill zero call (x ∷ objects) = let a = mark-cons x objects in let b = mark-cons (killed call x) objects in omega arith
mark-kill (suc object) call (x ∷ objects) = let a = mark-cons x objects in let b = mark-cons x (kill object call objects) in let c = mark-kill object call objects in omega arith

pub mark-grant : (pages size canon : ℕ) (objects : List ObjectFact) → mark (grant pages size canon objects) ≡ mark objects + pages
mark-grant pages size canon objects = sum_by_push (λ (o : ObjectFact). o.pages) objects (granted_at (next_page objects) pages size canon)

pub grants_keep : GrantsKeep
grants_keep = record {
  none = tt;
  granted = λ pages size canon objects l g. granted-append first_shadow_page objects (granted_at (next_page objects) pages size canon) g refl l refl;
  killed = λ object call objects g. granted-kill first_shadow_page object call objects g;
  raised = mark-grant;
  stays = mark-kill;
}

-- ---- pages
within : (page : ℕ) (objects : List ObjectFact) (a : ℕ) (o : ObjectFact) → GrantedFrom page objects → slice_get objects a ≡ Some o → (page ≤ o.first) × (o.first + o.pages ≤ page + mark objects)
within page [] a o g e = cc
within page (x ∷ objects) zero o g e = grind (arith, g.0, mark-cons x objects)
within page (x ∷ objects) (suc a) o g e = grind (arith, within (page + x.pages) objects a o g.3 e, mark-cons x objects)

ascending : (page : ℕ) (objects : List ObjectFact) (a b : ℕ) (o p : ObjectFact) → GrantedFrom page objects → a < b → slice_get objects a ≡ Some o → slice_get objects b ≡ Some p → o.first + o.pages ≤ p.first
ascending page [] a b o p g l e f = cc
ascending page (x ∷ objects) zero zero o p g l e f = omega arith
ascending page (x ∷ objects) zero (suc b) o p g l e f = grind (arith, g.0, within (page + x.pages) objects b p g.3 f)
ascending page (x ∷ objects) (suc a) zero o p g l e f = omega arith
ascending page (x ∷ objects) (suc a) (suc b) o p g l e f = ascending (page + x.pages) objects a b o p g.3 (omega arith) e f

user_of : (page : ℕ) (objects : List ObjectFact) (a : ℕ) (o : ObjectFact) → GrantedFrom page objects → slice_get objects a ≡ Some o → (0 < o.pages) × (o.user ≡ o.first * 4096 + o.canon % 4096)
user_of page [] a o g e = cc
user_of page (x ∷ objects) zero o g e = grind (arith, g.1, g.2)
user_of page (x ∷ objects) (suc a) o g e = user_of (page + x.pages) objects a o g.3 e

has_pages : (page : ℕ) (objects : List ObjectFact) (q : ℕ) → GrantedFrom page objects → list_any (has_page q) objects ≡ is_within page (page + mark objects) q
has_pages page [] q g = grind (arith, nat_tests)
has_pages page (x ∷ objects) q g = grind (arith, nat_tests, g.0, mark-cons x objects, has_pages (page + x.pages) objects q g.3)

addresses : (objects : List ObjectFact) (a b : ℕ) (o p : ObjectFact) → AreGranted objects → slice_get objects a ≡ Some o → slice_get objects b ≡ Some p → o.user ≡ p.user → a ≡ b
addresses objects a b o p g e f u =
    let x = user_of first_shadow_page objects a o g e in
    let y = user_of first_shadow_page objects b p g f in
    let same : o.first ≡ p.first = omega (arith, x.1, y.1, u) in
    grind (arith, x.0, y.0, same, ascending first_shadow_page objects a b o p g, ascending first_shadow_page objects b a p o g)

pub pages_are_granted_once : PagesAreGrantedOnce
pages_are_granted_once objects g = record {
  within = λ a o e. within first_shadow_page objects a o g e;
  ascending = λ a b o p l e f. ascending first_shadow_page objects a b o p g l e f;
  addresses = λ a b o p e f u. addresses objects a b o p g e f u;
  granted = λ page. has_pages first_shadow_page objects page g;
}

-- ---- leaves
abbrev in_leaf : ℕ → ObjectFact → Bool
in_leaf leaf o = is_live o && is_in_leaf leaf o

abbrev on_page : ℕ → ObjectFact → Bool
on_page page o = is_live o && has_page page o

no_page : (objects : List ObjectFact) (leaf page : ℕ) → list_any (in_leaf leaf) objects ≡ false → 512 * leaf ≤ page → page < 512 * leaf + 512 → list_any (on_page page) objects ≡ false
no_page [] leaf page h l m = refl
no_page (x ∷ objects) leaf page h l m = grind (arith, nat_tests, no_page objects leaf page)

no_object : (page : ℕ) (objects : List ObjectFact) (leaf : ℕ) → GrantedFrom page objects → ((q : ℕ) → 512 * leaf ≤ q → q < 512 * leaf + 512 → list_any (on_page q) objects ≡ false) → list_any (in_leaf leaf) objects ≡ false
no_object page [] leaf g h = refl
no_object page (x ∷ objects) leaf g h =
    let later = no_object (page + x.pages) objects leaf g.3 (λ q l m. let e = h q l m in grind (arith, nat_tests, e)) in
    grind (arith, nat_tests, later, g.1, h x.first, h (512 * leaf))

pub dead_leaves_are_dead : DeadLeavesAreDead
dead_leaves_are_dead objects leaf g = record {
  pages = λ e page l m. grind (arith, nat_tests, e, no_page objects leaf page);
  leaf = λ h.
      let none = no_object first_shadow_page objects leaf g (λ q l m. (h q l m).1) in
      let first = (h (512 * leaf) (omega arith) (omega arith)).0 in
      let last = (h (512 * leaf + 511) (omega arith) (omega arith)).0 in
      grind (arith, nat_tests, none, first, last);
}

-- ---- looks
after_first : (b : Bool) (n len : ℕ) → cond (nat_lt (cond (not b) (1 + n) 0) (suc len)) (Some (cond (not b) (1 + n) 0)) None ≡ cond b (Some 0) (option_map (λ i. suc i) (cond (nat_lt n len) (Some n) None))
after_first true n len = let e : nat_lt 0 (suc len) ≡ true = grind (arith, nat_tests) in rw e refl
after_first false n len = go (nat_lt n len) refl
  where
    go : (c : Bool) → nat_lt n len ≡ c → cond (nat_lt (1 + n) (suc len)) (Some (1 + n)) None ≡ option_map (λ i. suc i) (cond c (Some n) None)
    go true e = let f : nat_lt (1 + n) (suc len) ≡ true = grind (arith, nat_tests, e) in let g : 1 + n ≡ suc n = omega arith in rw f (ap Some g)
    go false e = let f : nat_lt (1 + n) (suc len) ≡ false = grind (arith, nat_tests, e) in rw f refl

position_cons : (p : ObjectFact → Bool) (x : ObjectFact) (xs : List ObjectFact) → position p (x ∷ xs) ≡ cond (p x) (Some 0) (option_map (λ i. suc i) (position p xs))
position_cons p x xs = after_first (p x) (position_or_len p xs) (length xs)

-- what the first that passes is
record Passes (p : ObjectFact → Bool) (objects : List ObjectFact) (i : ℕ) : Type 0 where
  of : ObjectFact
  there : slice_get objects i ≡ Some of
  passes : p of ≡ true

passes : (p : ObjectFact → Bool) (objects : List ObjectFact) (i : ℕ) → position p objects ≡ Some i → Passes p objects i
passes p [] i e = cc
passes p (x ∷ xs) i e = go (p x) refl (position p xs) refl (sym (position_cons p x xs) ∙ e) (passes p xs)
  where
    go : (b : Bool) → p x ≡ b → (o : Option ℕ) → position p xs ≡ o → cond b (Some 0) (option_map (λ i. suc i) o) ≡ Some i → ((j : ℕ) → position p xs ≡ Some j → Passes p xs j) → Passes p (x ∷ xs) i
    go true h o k f rest = let is : 0 ≡ i = cc in subst (λ j. Passes p (x ∷ xs) j) is (record { of = x; there = refl; passes = h })
    go false h None k f rest = cc
    go false h (Some j) k f rest =
        let is : suc j ≡ i = cc in
        let r = rest j k in subst (λ j. Passes p (x ∷ xs) j) is (record { of = r.of; there = r.there; passes = r.passes })

only_one : (p : ObjectFact → Bool) (objects : List ObjectFact) (i : ℕ) (o : ObjectFact) → slice_get objects i ≡ Some o → p o ≡ true → ((j : ℕ) (q : ObjectFact) → slice_get objects j ≡ Some q → p q ≡ true → j ≡ i) → position p objects ≡ Some i
only_one p [] i o e h u = cc
only_one p (x ∷ xs) zero o e h u =
    let is : o ≡ x = cc in
    let t : p x ≡ true = subst (λ y. p y ≡ true) is h in
    position_cons p x xs ∙ ap (λ b. cond b (Some 0) (option_map (λ i. suc i) (position p xs))) t
only_one p (x ∷ xs) (suc i) o e h u =
    position_cons p x xs ∙ go (p x) refl (only_one p xs i o e h (λ j q f g. let k = u (suc j) q f g in omega (arith, k)))
  where
    go : (b : Bool) → p x ≡ b → position p xs ≡ Some i → cond b (Some 0) (option_map (λ i. suc i) (position p xs)) ≡ Some (suc i)
    go true t rest = let k : 0 ≡ suc i = u 0 x refl t in absurd (omega (arith, k))
    go false t rest = ap (λ o. option_map (λ i. suc i) o) rest

seen_is : (p : ObjectFact → Bool) (objects : List ObjectFact) (s : Seen) → object_seen p objects ≡ Some s → (fact objects s.number ≡ Some s.fact) × (p s.fact ≡ true)
seen_is p objects s e = go (position p objects) refl e
  where
    known : (i : ℕ) (o : ObjectFact) → fact objects i ≡ Some o → option_map (λ (x : ObjectFact). record { number = i; fact = x }) (fact objects i) ≡ Some s → (record { number = i; fact = o }) ≡ s
    known i o t f = let g : Some (record { number = i; fact = o }) ≡ Some s = sym (ap (λ x. option_map (λ (x : ObjectFact). record { number = i; fact = x }) x) t) ∙ f in cc

    go : (o : Option ℕ) → position p objects ≡ o → option_and_then (seen_as objects) o ≡ Some s → (fact objects s.number ≡ Some s.fact) × (p s.fact ≡ true)
    go None k f = cc
    go (Some i) k f =
        let r = passes p objects i k in
        subst (λ t. (fact objects t.number ≡ Some t.fact) × (p t.fact ≡ true)) (known i r.of r.there f) (r.there, r.passes)

seen_only : (p : ObjectFact → Bool) (objects : List ObjectFact) (s : Seen) → fact objects s.number ≡ Some s.fact → p s.fact ≡ true → ((j : ℕ) (q : ObjectFact) → slice_get objects j ≡ Some q → p q ≡ true → j ≡ s.number) → object_seen p objects ≡ Some s
seen_only p objects s e h u =
    ap (λ o. option_and_then (seen_as objects) o) (only_one p objects s.number s.fact e h u)
    ∙ ap (λ o. option_map (λ (x : ObjectFact). record { number = s.number; fact = x }) o) e

on_one_page : (objects : List ObjectFact) (a b page : ℕ) (o p : ObjectFact) → AreGranted objects → slice_get objects a ≡ Some o → slice_get objects b ≡ Some p → has_page page o ≡ true → has_page page p ≡ true → a ≡ b
on_one_page objects a b page o p g e f h k =
    grind (arith, nat_tests, h, k, ascending first_shadow_page objects a b o p g, ascending first_shadow_page objects b a p o g, e, f)

no_user_zero : (objects : List ObjectFact) (s : Seen) → AreGranted objects → fact objects s.number ≡ Some s.fact → 0 < s.fact.user
no_user_zero objects s g e =
    let w = within first_shadow_page objects s.number s.fact g e in
    let u = user_of first_shadow_page objects s.number s.fact g e in
    let l = w.0 in let v = u.1 in omega (arith, l, v)

pub looks_find_objects : LooksFindObjects
looks_find_objects objects g = record {
  at = λ user s e. let k = seen_is (λ (o : ObjectFact). o.user == user) objects s e in (k.0, let h = k.1 in grind (arith, nat_tests, h));
  on = λ page s e. seen_is (has_page page) objects s e;
  by_user = λ s e.
      seen_only (λ (o : ObjectFact). o.user == s.fact.user) objects s e (grind (arith, nat_tests))
      (λ j q f h. addresses objects j s.number q s.fact g f e (grind (arith, nat_tests, h)));
  by_page = λ page s e h. seen_only (has_page page) objects s e h (λ j q f k. on_one_page objects j s.number page q s.fact g f e k h);
  nowhere = go (object_at objects 0) refl;
}
  where
    go : (o : Option Seen) → object_at objects 0 ≡ o → o ≡ None
    go None e = refl
    go (Some s) e =
        let k = seen_is (λ (o : ObjectFact). o.user == 0) objects s e in
        let l = no_user_zero objects s g k.0 in
        let h = k.1 in absurd (grind (arith, nat_tests, h, l))
