-- How far segments reach says which pages they touch.
use Rattle.std.proofs.Common.{ℕ, zero, suc, ◌≡◌, ◌+◌, ◌*◌, ◌/◌, ◌<◌, ◌≤◌, ◌==◌, min, max, arith, refl, sym, ◌∙◌, ap, Bool, true, false, ◌&&◌, ◌||◌, List, [], ◌∷◌, ◌++◌, length, get_or, below_more}
use Rattle.std.proofs.Math.ListN.{get_or-append}
use Rattle.std.proofs.Math.Seq.{get_or-append_seam}
use Rattle.std.specs.Prelude.{nat_lt, if◌then◌else◌}
use Rattle.std.proofs.lemmas.Bool.Decides.{nat_tests, same_from_decides, Decides-ltb, Decides-and, Decides-like}
use Rattle.std.proofs.lemmas.Grind.{common_steps, elements}
use Rattle.osc_sv39.specs.declared.entries.Access.{Access}
use Rattle.osc_sv39.specs.declared.entries.Access.TheVariants.{Fetch, Load, Store}
use Rattle.osc_image.specs.Image.{touches, permits, page_permits}
use Rattle.osc_elf.specs.declared.segment.Segment.{Segment}
use Rattle.osc_elf.specs.Segments.{shown, all_shown, grants, first_page, end_page, last_end}
use Rattle.osc_elf.specs.Reach.{reach_at, reach_below}

touches-numbers : (a s p : ℕ) → 0 < s
    → nat_lt (max a (4096 * p)) (min (a + s) (4096 * p + 4096)) ≡ (nat_lt (a / 4096) (p + 1) && nat_lt p ((a + s + 4095) / 4096))
touches-numbers a s p some =
    same_from_decides (nat_lt (max a (4096 * p)) (min (a + s) (4096 * p + 4096)))
    (nat_lt (a / 4096) (p + 1) && nat_lt p ((a + s + 4095) / 4096)) (Decides-ltb (max a (4096 * p)) (min (a + s) (4096 * p + 4096)))
    (Decides-like (nat_lt (a / 4096) (p + 1) && nat_lt p ((a + s + 4095) / 4096))
    (λ (w : (a / 4096 < p + 1) × (p < (a + s + 4095) / 4096)). meets w.0 w.1) (λ (w : max a (4096 * p) < min (a + s) (4096 * p + 4096)). within w)
    (Decides-and (nat_lt (a / 4096) (p + 1)) (nat_lt p ((a + s + 4095) / 4096)) (Decides-ltb (a / 4096) (p + 1))
    (Decides-ltb p ((a + s + 4095) / 4096))))
  where
    meets : a / 4096 < p + 1 → p < (a + s + 4095) / 4096 → max a (4096 * p) < min (a + s) (4096 * p + 4096)
    meets low high = omega arith

    within : max a (4096 * p) < min (a + s) (4096 * p + 4096) → (a / 4096 < p + 1) × (p < (a + s + 4095) / 4096)
    within both = (omega arith, omega arith)

-- a segment touches the pages from its first to its last
touches-pages : (file : List ℕ) (page : ℕ) (s : Segment)
    → touches page (shown file s) ≡ (nat_lt (first_page s) (page + 1) && nat_lt page (end_page s))
touches-pages file page s = touches-numbers s.address s.size page s.laid

permits-grants : (file : List ℕ) (s : Segment) (access : Access) → permits (shown file s) access ≡ grants s access
permits-grants file s Fetch = refl
permits-grants file s Load = refl
permits-grants file s Store = refl

farther : (g begins : Bool) (page end reach : ℕ)
    → (((begins && nat_lt page end) && g) || nat_lt page reach) ≡ nat_lt page (max (if g && begins then end else 0) reach)
farther true true page end reach = grind (arith, nat_tests)
farther true false page end reach = grind (arith, nat_tests)
farther false true page end reach = grind (arith, nat_tests)
farther false false page end reach = grind (arith, nat_tests)

-- a page permits an access where the segments reach it that begin at or below it
pub permits-reach : (file : List ℕ) (ss : List Segment) (access : Access) (page : ℕ)
    → page_permits (all_shown file ss) access page ≡ nat_lt page (reach_below ss access (page + 1))
unfolding page_permits
permits-reach file [] access page = grind (arith, nat_tests)
permits-reach file (s ∷ ss) access page =
    rw (touches-pages file page s, permits-grants file s access, permits-reach file ss access page)
    (farther (grants s access) (nat_lt (first_page s) (page + 1)) page (end_page s) (reach_below ss access (page + 1)))

one-more : (g : Bool) (first page end at below : ℕ)
    → max (if g && nat_lt first (page + 1) then end else 0) (max at below)
    ≡ max (max (if g && (first == page) then end else 0) at) (max (if g && nat_lt first page then end else 0) below)
one-more true first page end at below = grind (arith, nat_tests)
one-more false first page end at below = omega arith

-- the reach grows by what begins on a page
pub reach-more : (ss : List Segment) (access : Access) (page : ℕ)
    → reach_below ss access (page + 1) ≡ max (reach_at ss access page) (reach_below ss access page)
reach-more [] access page = refl
reach-more (s ∷ ss) access page =
    rw (reach-more ss access page)
    (one-more (grants s access) (first_page s) page (end_page s) (reach_at ss access page) (reach_below ss access page))

pub reach-start : (ss : List Segment) (access : Access) → reach_below ss access 0 ≡ 0
reach-start [] access = refl
reach-start (s ∷ ss) access = rw (reach-start ss access) (none (grants s access) (first_page s) (end_page s))
  where
    none : (g : Bool) (first end : ℕ) → max (if g && nat_lt first 0 then end else 0) 0 ≡ 0
    none true first end = grind (arith, nat_tests)
    none false first end = refl

pub reach-end : (ss : List Segment) (access : Access) (page : ℕ) → reach_below ss access page ≤ last_end ss
reach-end [] access page = omega arith
reach-end (s ∷ ss) access page =
    at (grants s access && nat_lt (first_page s) page) (end_page s) (reach_below ss access page) (last_end ss)
    (reach-end ss access page)
  where
    at : (b : Bool) (end reach last : ℕ) → reach ≤ last → max (if b then end else 0) reach ≤ max end last
    at true end reach last below = omega arith
    at false end reach last below = omega arith

-- no page from the last end on permits anything
pub permits-beyond : (file : List ℕ) (ss : List Segment) (access : Access) (page : ℕ) → last_end ss ≤ page
    → page_permits (all_shown file ss) access page ≡ false
permits-beyond file ss access page above =
    let end = reach-end ss access (page + 1) in rw (permits-reach file ss access page) (grind (arith, nat_tests))

-- ---- lists that grow at their end
pub last_end-more : (ss : List Segment) (s : Segment) → last_end (ss ++ s ∷ []) ≡ max (end_page s) (last_end ss)
last_end-more [] s = refl
last_end-more (t ∷ ss) s =
    rw (last_end-more ss s) (omega arith)

pub reach_at-more : (ss : List Segment) (s : Segment) (access : Access) (page : ℕ) → reach_at (ss ++ s ∷ []) access page
    ≡ max (if grants s access && (first_page s == page) then end_page s else 0) (reach_at ss access page)
reach_at-more [] s access page = refl
reach_at-more (t ∷ ss) s access page =
    rw (reach_at-more ss s access page)
    (turned (if grants t access && (first_page t == page) then end_page t else 0)
    (if grants s access && (first_page s == page) then end_page s else 0) (reach_at ss access page))
  where
    turned : (a b c : ℕ) → max a (max b c) ≡ max b (max a c)
    turned a b c = omega arith

pub last_end-each : (ss : List Segment) (i : ℕ) (d : Segment) → i < length ss → end_page (get_or ss i d) ≤ last_end ss
last_end-each [] i d inside = absurd (omega arith)
last_end-each (s ∷ ss) zero d inside = omega arith
last_end-each (s ∷ ss) (suc i) d inside = let rest = last_end-each ss i d (omega arith) in omega arith

pub ruleset reach_steps = (common_steps, elements, nat_tests, last_end-more, reach_at-more, last_end-each)

pub ruleset sweep_steps = (common_steps, elements, nat_tests, reach-start, reach-more, permits-reach, permits-beyond)

-- the table grows by one page
pub swept : (file : List ℕ) (ss : List Segment) (access : Access) (page end : ℕ) (table : List Bool) → length table ≡ page
    → end ≡ reach_below ss access (page + 1)
    → ((k : ℕ) → k < page → get_or table k false ≡ page_permits (all_shown file ss) access k)
    → (k : ℕ) → k < page + 1 → get_or (table ++ nat_lt page end ∷ []) k false ≡ page_permits (all_shown file ss) access k
swept file ss access page end table len is before =
    below_more (λ k. get_or (table ++ nat_lt page end ∷ []) k false ≡ page_permits (all_shown file ss) access k) page
    (λ k h. get_or-append table (nat_lt page end ∷ []) false k (omega arith) ∙ before k h)
    (ap (λ n. get_or (table ++ nat_lt page end ∷ []) n false) (sym len)
    ∙ (get_or-append_seam table (nat_lt page end) [] false ∙ (ap (nat_lt page) is ∙ sym (permits-reach file ss access page))))
