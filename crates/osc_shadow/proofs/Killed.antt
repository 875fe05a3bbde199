-- The pages of an object that dies: they are mapped before, and no live object has them after.
use Rattle.std.proofs.Common.{ℕ, zero, suc, ◌+◌, ◌≡◌, ◌<◌, ◌≤◌, ◌&&◌, ◌||◌, Bool, true, false, cond, List, [], ◌∷◌, ◌++◌, Option, Some, None, arith, refl, sym, ◌∙◌, length}
use Rattle.std.specs.Prelude.{is_some}
use Rattle.std.proofs.lemmas.Bool.Decides.{nat_tests}
use Rattle.std.proofs.lemmas.List.Folds.{list_any-append}
use Rattle.osc_word.specs.AddressMap.{is_within, is_shadow}
use Rattle.osc_word.specs.JobList.{JobList, spare}
use Rattle.osc_word.specs.declared.settings.HeapKind.TheVariants.{Oscar}
use Rattle.osc_sv39.specs.declared.entries.Mapping.{Mapping}
use Rattle.osc_paging.specs.KeptTables.{KeptTables, mapping_at}
use Rattle.osc_tables.specs.Inside.{IsTop}
use Rattle.osc_mark.specs.Grants.{AreMarked}
use Rattle.osc_space.specs.declared.ObjectFact.{ObjectFact}
use Rattle.osc_space.specs.Objects.{fact, has_page, is_live, is_live_page, kill, grant}
use Rattle.osc_space.specs.Share.{Regions}
use Rattle.osc_space.specs.Space.{Space}
use Rattle.osc_space.specs.Agree.{SpaceAgrees}
use Rattle.osc_shadow.specs.Flushing.{ShowsLive}
use Rattle.osc_shadow.specs.Unmapping.{CanUnmap, AreUnmapped}
use Rattle.osc_shadow.proofs.Sights.{granted_fact}

-- ---- a live object's page
pub live_has : (objects : List ObjectFact) (n page : ℕ) (o : ObjectFact) → fact objects n ≡ Some o → is_live o ≡ true → has_page page o ≡ true → is_live_page objects page ≡ true
live_has [] n page o e l h = cc
live_has (x ∷ objects) zero page o e l h =
    let same : x ≡ o = cc in
    rw (same, l, h) refl
live_has (x ∷ objects) (suc n) page o e l h = let on = live_has objects n page o e l h in rw on (go (is_live x && has_page page x))
  where
    go : (b : Bool) → (b || true) ≡ true
    go true = refl
    go false = refl

-- a page that nobody live has after a death was of that object, or of nobody live
pub dead_page : (objects : List ObjectFact) (n call page : ℕ) (o : ObjectFact) → fact objects n ≡ Some o → is_live_page (kill n call objects) page ≡ false → has_page page o ≡ false → is_live_page objects page ≡ false
dead_page [] n call page o e f h = cc
dead_page (x ∷ objects) zero call page o e f h =
    let same : x ≡ o = cc in
    let out : has_page page x ≡ false = rw same h in
    rw out (go (is_live x) f)
  where
    go : (b : Bool) → is_live_page objects page ≡ false → ((b && false) || is_live_page objects page) ≡ false
    go true f = f
    go false f = f
dead_page (x ∷ objects) (suc n) call page o e f h = go (is_live x && has_page page x) refl f (λ g. dead_page objects n call page o e g h)
  where
    go : (b : Bool) → (is_live x && has_page page x) ≡ b → (b || is_live_page (kill n call objects) page) ≡ false → (is_live_page (kill n call objects) page ≡ false → is_live_page objects page ≡ false)
        → (b || is_live_page objects page) ≡ false
    go true e f on = cc
    go false e f on = on f

-- and so it is where one more object was granted first
front_dead : (xs ys : List ObjectFact) (page : ℕ) → is_live_page (xs ++ ys) page ≡ false → is_live_page xs page ≡ false
front_dead xs ys page f =
    go (is_live_page xs page) (is_live_page ys page) (sym (list_any-append (λ o. is_live o && has_page page o) xs ys) ∙ f)
  where
    go : (a b : Bool) → (a || b) ≡ false → a ≡ false
    go true b e = e
    go false b e = refl

pub front_fact : (xs ys : List ObjectFact) (n : ℕ) (o : ObjectFact) → fact xs n ≡ Some o → fact (xs ++ ys) n ≡ Some o
front_fact [] ys n o e = cc
front_fact (x ∷ xs) ys zero o e = e
front_fact (x ∷ xs) ys (suc n) o e = front_fact xs ys n o e

pub dead_page_granted : (objects : List ObjectFact) (n call page pages size canon : ℕ) (o : ObjectFact) → fact objects n ≡ Some o → is_live_page (kill n call (grant pages size canon objects)) page ≡ false → has_page page o ≡ false → is_live_page objects page ≡ false
dead_page_granted objects n call page pages size canon o e f h =
    front_dead objects _ page (dead_page (grant pages size canon objects) n call page o (front_fact objects _ n o e) f h)

-- ---- the unmapping of a live object
pub can_unmap : (s : Space) (regions : Regions) (free : List Bool) (jobs : JobList) (n : ℕ) (o : ObjectFact) → SpaceAgrees Oscar s regions free → AreMarked (record { objects = s.objects; limit = s.shadows }) → IsTop s.tables.top
    → n < length s.objects → fact s.objects n ≡ Some o → is_live o ≡ true → length free ≤ spare jobs → CanUnmap s.tables jobs o.first o.pages
can_unmap s regions free jobs n o a m top l e live room =
    let g = granted_fact (record { objects = s.objects; limit = s.shadows }) n o m l e in
    let from = g.from in
    let to = g.to in
    let small = a.heap.small n o (e, live) in
    let frames = a.frames in
    record {
      top = top;
      low = omega arith;
      mapped = λ page p q.
          (let has : has_page page o ≡ true = grind (arith, nat_tests, p, q) in
          let shadow : is_shadow page ≡ true = grind (arith, nat_tests, p, q, from, to) in
          a.heap.shadows page shadow ∙ live_has s.objects n page o e live has);
      spare = omega arith;
    }

-- what is left shows only the live objects
pub shows_live : (s : Space) (regions : Regions) (free : List Bool) (u : KeptTables) (n : ℕ) (o : ObjectFact) (objects : List ObjectFact) → SpaceAgrees Oscar s regions free → fact s.objects n ≡ Some o
    → AreUnmapped o.first o.pages s.tables u → ((page : ℕ) → is_live_page objects page ≡ false → has_page page o ≡ false → is_live_page s.objects page ≡ false) → ShowsLive u objects
shows_live s regions free u n o objects a e gone each page shadow dead = gone page ∙ go (is_within o.first (o.first + o.pages) page) refl
  where
    none : (x : Option Mapping) → is_some x ≡ false → x ≡ None
    none None f = refl
    none (Some m) f = cc

    go : (b : Bool) → is_within o.first (o.first + o.pages) page ≡ b → cond b None (mapping_at s.tables.pages page) ≡ None
    go true f = refl
    go false f = none (mapping_at s.tables.pages page) (a.heap.shadows page shadow ∙ each page dead f)
