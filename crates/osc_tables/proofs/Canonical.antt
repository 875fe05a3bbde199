-- Canonical pages and their numbers.
use Rattle.std.proofs.Common.{ℕ, suc, ◌≡◌, ◌≢◌, ◌<◌, ◌≤◌, ◌+◌, ◌-◌, ◌^◌, ◌==◌, ltb, Bool, true, false, cond, List, [], ◌∷◌, Option, Some, None, IsTrue, arith, refl, sym, ◌∙◌, subst, ◌⊎◌, ⊎_elim}
use Rattle.std.specs.Prelude.{IsSome}
use Rattle.std.proofs.lemmas.Bool.Decides.{nat_tests}
use Rattle.osc_sv39.specs.Walk.{is_canonical, number_of}
use Rattle.osc_sv39.specs.declared.entries.Mapping.{Mapping}
use Rattle.osc_paging.specs.declared.Mapped.{Mapped}
use Rattle.osc_paging.specs.KeptTables.{KeptTables, levels_of, canonical_page, page_numbered, mapping_at, mapping_of}
use Rattle.osc_tables.specs.Inside.{IsTop, AscendFrom, PagesBelow}
use Rattle.osc_tables.specs.Places.{half, least_from}
use Rattle.osc_tables.specs.Listed.{least_number}
use Rattle.osc_tables.specs.Calls.{AllCanonical, IsNextPage, MapsTo, NoneFrom}
use Rattle.osc_tables.proofs.KeptFacts.{at_top}

-- a canonical page lies in the lower or in the upper half
pub record Halves (top q : ℕ) : Type 0 where
  pub half : (q < half top) ⊎ ((4503599627370496 - half top ≤ q) × (q < 4503599627370496))

pub halves : (top q : ℕ) → IsTop top → is_canonical (suc top) q ≡ true → Halves top q
halves top q range = at_top (λ t. is_canonical (suc t) q ≡ true → Halves t q) top range
    (λ e. record { half = grind (arith, nat_tests, e) })
    (λ e. record { half = grind (arith, nat_tests, e) })

canonical : (top q : ℕ) → IsTop top → Halves top q → is_canonical (suc top) q ≡ true
canonical top q range = at_top (λ t. Halves t q → is_canonical (suc t) q ≡ true) top range
    (λ h. grind (arith, nat_tests, h.half))
    (λ h. grind (arith, nat_tests, h.half))

pub numbered_back : (top q : ℕ) → IsTop top → is_canonical (suc top) q ≡ true → canonical_page (suc top) (number_of (suc top) q) ≡ q
numbered_back top q range e = at_top (λ t. Halves t q → canonical_page (suc t) (number_of (suc t) q) ≡ q) top range
    (λ h. grind (arith, nat_tests, h.half))
    (λ h. grind (arith, nat_tests, h.half))
    (halves top q range e)

numbered_half : (top n : ℕ) → IsTop top → n < 512 ^ suc top → Halves top (canonical_page (suc top) n)
numbered_half top n range = at_top (λ t. n < 512 ^ suc t → Halves t (canonical_page (suc t) n)) top range
    (λ s. record { half = grind (arith, nat_tests, s) })
    (λ s. record { half = grind (arith, nat_tests, s) })

numbered_same : (top n : ℕ) → IsTop top → n < 512 ^ suc top → number_of (suc top) (canonical_page (suc top) n) ≡ n
numbered_same top n range = at_top (λ t. n < 512 ^ suc t → number_of (suc t) (canonical_page (suc t) n) ≡ n) top range
    (λ s. grind (arith, nat_tests, s))
    (λ s. grind (arith, nat_tests, s))

pub numbered : (top n : ℕ) → IsTop top → n < 512 ^ suc top → (is_canonical (suc top) (canonical_page (suc top) n) ≡ true) × (number_of (suc top) (canonical_page (suc top) n) ≡ n)
numbered top n range s = (canonical top (canonical_page (suc top) n) range (numbered_half top n range s), numbered_same top n range s)

either : (a b : ℕ) → (a ≤ b) ⊎ (b < a)
either a b = grind arith

no_true : false ≡ true → ⊥
no_true e = cc

-- pages that are all on a side of a place that is not canonical end before it
ends_before : (top first count place : ℕ) → first < place → is_canonical (suc top) place ≡ false → AllCanonical (suc top) first count → first + count ≤ place
ends_before top first count place s none all = ⊎_elim
    (λ (fits : first + count ≤ place). fits)
    (λ (over : place < first + count).
    (let q : first + (place - first) ≡ place = omega arith in
    let bad : IsTrue (is_canonical (suc top) place) = rw q at (all (place - first) (omega arith)) in
    absurd (no_true (rw none at bad))))
    (either (first + count) place)

-- the pages at the ends of the halves are not canonical
ends : (top : ℕ) → IsTop top → (is_canonical (suc top) (half top) ≡ false) × (is_canonical (suc top) 4503599627370496 ≡ false)
ends top range = at_top (λ t. (is_canonical (suc t) (half t) ≡ false) × (is_canonical (suc t) 4503599627370496 ≡ false)) top range (refl, refl) (refl, refl)

-- many canonical pages lie in one half
pub one_half : (top first count : ℕ) → IsTop top → 0 < count → AllCanonical (suc top) first count → number_of (suc top) first + count ≤ 512 ^ suc top
one_half top first count range s all = ⊎_elim low high (halves top first range (rw here at (all 0 s))).half
  where
    here : first + 0 ≡ first
    here = omega arith

    low : first < half top → number_of (suc top) first + count ≤ 512 ^ suc top
    low l = at_top (λ t. first < half t → first + count ≤ half t → number_of (suc t) first + count ≤ 512 ^ suc t) top range
        (λ a b. omega arith) (λ a b. omega arith) l
        (ends_before top first count (half top) l (ends top range).0 all)

    high : (4503599627370496 - half top ≤ first) × (first < 4503599627370496) → number_of (suc top) first + count ≤ 512 ^ suc top
    high l = at_top (λ t. 4503599627370496 - half t ≤ first → first + count ≤ 4503599627370496 → number_of (suc t) first + count ≤ 512 ^ suc t) top range
        (λ a b. omega arith) (λ a b. omega arith) l.0
        (ends_before top first count 4503599627370496 l.1 (ends top range).1 all)

-- ---- the least page from another on
-- the number from another page on
pub record StartsAt (top from q n : ℕ) : Type 0 where
  pub up : from ≤ q → n ≤ number_of (suc top) q
  pub back : n ≤ number_of (suc top) q → from ≤ q
  pub small : n < 512 ^ suc top

pub some_from : (top from q n : ℕ) → IsTop top → least_from top from ≡ Some n → is_canonical (suc top) q ≡ true → StartsAt top from q n
some_from top from q n range e c = at_top (λ t. least_from t from ≡ Some n → Halves t q → StartsAt t from q n) top range
    (λ e h. record { up = grind (arith, nat_tests, e, h.half); back = grind (arith, nat_tests, e, h.half); small = grind (arith, nat_tests, e) })
    (λ e h. record { up = grind (arith, nat_tests, e, h.half); back = grind (arith, nat_tests, e, h.half); small = grind (arith, nat_tests, e) })
    e (halves top q range c)

rises : (top a b : ℕ) → IsTop top → a ≤ b → canonical_page (suc top) a ≤ canonical_page (suc top) b
rises top a b range = at_top (λ t. a ≤ b → canonical_page (suc t) a ≤ canonical_page (suc t) b) top range
    (λ s. grind (arith, nat_tests))
    (λ s. grind (arith, nat_tests))

-- ---- the least mapped page from a number on
mapped_above : (low k : ℕ) (ms : List Mapped) → AscendFrom low ms → mapping_at ms k ≢ None → low ≤ k
mapped_above low k [] a h = absurd (h refl)
mapped_above low k (m ∷ ms) a h = pick (m.number == k) refl (mapped_above (suc m.number) k ms a.1)
  where
    pick : (b : Bool) → (m.number == k) ≡ b → (mapping_at ms k ≢ None → suc m.number ≤ k) → low ≤ k
    pick true e on = let d : m.number ≡ k = grind (arith, nat_tests, e) in omega (arith, a.0)
    pick false e on = let d = on (rw e at h) in omega (arith, a.0)

no_more : (n k : ℕ) → least_number n [] ≡ Some k → ⊥
no_more n k e = cc

-- it is no lower, it is mapped, and it is in the range
least_above : (n k : ℕ) (ms : List Mapped) → least_number n ms ≡ Some k → n ≤ k
least_above n k [] e = absurd (no_more n k e)
least_above n k (m ∷ ms) e = pick (ltb m.number n) refl (least_above n k ms)
  where
    pick : (b : Bool) → ltb m.number n ≡ b → (least_number n ms ≡ Some k → n ≤ k) → n ≤ k
    pick true f on = on (rw f at e)
    pick false f on =
        let here : Some m.number ≡ Some k = rw f at e in
        let same : m.number ≡ k = cc in
        grind (arith, nat_tests, f, same)

least_mapped : (n k : ℕ) (ms : List Mapped) → least_number n ms ≡ Some k → IsSome (mapping_at ms k)
least_mapped n k [] e = absurd (no_more n k e)
least_mapped n k (m ∷ ms) e = pick (m.number == k) refl (ltb m.number n) refl (least_mapped n k ms)
  where
    pick : (b : Bool) → (m.number == k) ≡ b → (c : Bool) → ltb m.number n ≡ c → (least_number n ms ≡ Some k → IsSome (mapping_at ms k)) → IsSome (mapping_at (m ∷ ms) k)
    pick true f c g on = rw f refl
    pick false f true g on = rw f (on (rw g at e))
    pick false f false g on =
        let here : Some m.number ≡ Some k = rw g at e in
        let same : m.number ≡ k = cc in
        absurd (grind (arith, nat_tests, f, same))

pub least_small : (high n k : ℕ) (ms : List Mapped) → PagesBelow high ms → least_number n ms ≡ Some k → k < high
least_small high n k [] w e = absurd (no_more n k e)
least_small high n k (m ∷ ms) w e = pick (ltb m.number n) refl (least_small high n k ms w.1)
  where
    pick : (b : Bool) → ltb m.number n ≡ b → (least_number n ms ≡ Some k → k < high) → k < high
    pick true f on = on (rw f at e)
    pick false f on =
        let here : Some m.number ≡ Some k = rw f at e in
        let same : m.number ≡ k = cc in
        omega (arith, w.0, same)

-- no mapped page from there on is lower, and where there is none, none is mapped
least_least : (low n k q : ℕ) (ms : List Mapped) → AscendFrom low ms → least_number n ms ≡ Some k → n ≤ q → mapping_at ms q ≢ None → k ≤ q
least_least low n k q [] a e s h = absurd (no_more n k e)
least_least low n k q (m ∷ ms) a e s h = pick (ltb m.number n) refl (least_least (suc m.number) n k q ms a.1)
  where
    pick : (b : Bool) → ltb m.number n ≡ b → (least_number n ms ≡ Some k → n ≤ q → mapping_at ms q ≢ None → k ≤ q) → k ≤ q
    pick true f on =
        let other : (m.number == q) ≡ false = grind (arith, nat_tests, f) in
        on (rw f at e) s (rw other at h)
    pick false f on =
        let here : Some m.number ≡ Some k = rw f at e in
        let same : m.number ≡ k = cc in
        let up = mapped_above m.number q (m ∷ ms) (omega arith, a.1) h in
        omega (arith, same, up)

least_none : (n q : ℕ) (ms : List Mapped) → least_number n ms ≡ None → n ≤ q → mapping_at ms q ≡ None
least_none n q [] e s = refl
least_none n q (m ∷ ms) e s = pick (ltb m.number n) refl (least_none n q ms)
  where
    pick : (b : Bool) → ltb m.number n ≡ b → (least_number n ms ≡ None → n ≤ q → mapping_at ms q ≡ None) → mapping_at (m ∷ ms) q ≡ None
    pick true f on =
        let other : (m.number == q) ≡ false = grind (arith, nat_tests, f) in
        rw other (on (rw f at e) s)
    pick false f on = absurd (let here : Some m.number ≡ None = rw f at e in cc)

some_there : (x : Option Mapping) → IsSome x → x ≢ None
some_there None h = cc
some_there (Some m) h = λ e. cc

-- what may be read of a page that is mapped
pub canonical_mapped : (t : KeptTables) (q : ℕ) → IsSome (mapping_of t q) → (is_canonical (levels_of t) q ≡ true) × (mapping_at t.pages (number_of (levels_of t) q) ≢ None)
canonical_mapped t q h = pick (is_canonical (levels_of t) q) refl
  where
    pick : (b : Bool) → is_canonical (levels_of t) q ≡ b → (is_canonical (levels_of t) q ≡ true) × (mapping_at t.pages (number_of (levels_of t) q) ≢ None)
    pick true e = (e, some_there _ (rw e at h))
    pick false e = absurd (some_there None (rw e at h) refl)

unmapped : (t : KeptTables) (q : ℕ) → (IsSome (mapping_of t q) → ⊥) → mapping_of t q ≡ None
unmapped t q h = pick (mapping_of t q) h
  where
    pick : (x : Option Mapping) → (IsSome x → ⊥) → x ≡ None
    pick None h = refl
    pick (Some m) h = absurd (h refl)

pub no_next_page : (t : KeptTables) (from n : ℕ) → IsTop t.top → least_from t.top from ≡ Some n → least_number n t.pages ≡ None → NoneFrom t from
no_next_page t from n range e none q s = unmapped t q (λ h. (let m = canonical_mapped t q h in let b = some_from t.top from q n range e m.0 in m.1 (least_none n (number_of (levels_of t) q) t.pages none (b.up s))))

pub next_page_at : (t : KeptTables) (from n k : ℕ) → IsTop t.top → AscendFrom 0 t.pages → PagesBelow (512 ^ levels_of t) t.pages → least_from t.top from ≡ Some n → least_number n t.pages ≡ Some k → IsNextPage t from (page_numbered t k)
next_page_at t from n k range a w e d =
    let back = numbered t.top k range (least_small (512 ^ levels_of t) n k t.pages w d) in
    record {
      above = (some_from t.top from (page_numbered t k) n range e back.0).back (rw back.1 (least_above n k t.pages d));
      mapped = rw (back.0, back.1) (least_mapped n k t.pages d);
      least = λ q s h. least_page q s (canonical_mapped t q h);
    }
  where
    least_page : (q : ℕ) → from ≤ q → (is_canonical (levels_of t) q ≡ true) × (mapping_at t.pages (number_of (levels_of t) q) ≢ None) → page_numbered t k ≤ q
    least_page q s m =
        let b = some_from t.top from q n range e m.0 in
        let up = rises t.top k (number_of (levels_of t) q) range (least_least 0 n k (number_of (levels_of t) q) t.pages a d (b.up s) m.1) in
        subst (λ x. page_numbered t k ≤ x) (numbered_back t.top q range m.0) up

-- ---- what is mapped after a change
same_page : (top p q : ℕ) → IsTop top → is_canonical (suc top) p ≡ true → is_canonical (suc top) q ≡ true → (number_of (suc top) p == number_of (suc top) q) ≡ (p == q)
same_page top p q range e f = at_top (λ t. Halves t p → Halves t q → (number_of (suc t) p == number_of (suc t) q) ≡ (p == q)) top range
    (λ h k. grind (arith, nat_tests, h.half, k.half))
    (λ h k. grind (arith, nat_tests, h.half, k.half))
    (halves top p range e) (halves top q range f)

pub maps_to : (t u : KeptTables) (page : ℕ) (x : Option Mapping) → IsTop t.top → u.top ≡ t.top → is_canonical (levels_of t) page ≡ true → ((n : ℕ) → mapping_at u.pages n ≡ cond (number_of (levels_of t) page == n) x (mapping_at t.pages n)) → MapsTo page x t u
maps_to t u page x range same e h q = rw same (go (is_canonical (levels_of t) q) refl)
  where
    go : (b : Bool) → is_canonical (levels_of t) q ≡ b → cond b (mapping_at u.pages (number_of (levels_of t) q)) None ≡ cond (page == q) x (cond b (mapping_at t.pages (number_of (levels_of t) q)) None)
    go true f = h (number_of (levels_of t) q) ∙ rw (same_page t.top page q range e f) refl
    go false f = rw (other (page == q) refl) refl
      where
        other : (b : Bool) → (page == q) ≡ b → b ≡ false
        other false d = refl
        other true d = let same : page ≡ q = grind (arith, nat_tests, d) in absurd (no_true (sym f ∙ (rw same at e)))

pub some_root : (x : Option ℕ) → IsSome x → (root : ℕ) × (x ≡ Some root)
some_root None h = cc
some_root (Some root) h = (root, refl)
