-- Dead leaf tables are given up, one after another.
use Rattle.std.proofs.Common.{ℕ, suc, ◌+◌, ◌*◌, ◌/◌, ◌^◌, ◌≡◌, ◌<◌, ◌≤◌, ◌==◌, ◌&&◌, Bool, true, false, cond, List, [], ◌∷◌, Option, Some, None, arith, refl, ap, sym, ◌∙◌, length, get_or}
use Rattle.std.specs.Prelude.{is_some, filter, All}
use Rattle.std.specs.List.{list_any}
use Rattle.std.proofs.lemmas.Bool.Decides.{nat_tests}
use Rattle.std.proofs.lemmas.List.{length-append}
use Rattle.std.proofs.lemmas.Option.{slice_get-get_or}
use Rattle.osc_word.specs.AddressMap.{is_shadow}
use Rattle.osc_word.specs.JobList.{JobList}
use Rattle.osc_sv39.specs.Walk.{number_of}
use Rattle.osc_paging.specs.KeptTables.{KeptTables, frame_of, mapping_of}
use Rattle.osc_paging.specs.TableChanges.{Changed, unlinked, reclaim}
use Rattle.osc_paging.proofs.TableLists.{frame_of-without_table}
use Rattle.osc_tables.specs.Calls.{IsEmptyLeaf, changed}
use Rattle.osc_tables.specs.Inside.{IsTop, InOrder}
use Rattle.osc_mark.specs.Grants.{Grants, AreMarked}
use Rattle.osc_space.specs.declared.ObjectFact.{ObjectFact}
use Rattle.osc_space.specs.declared.ObjectState.TheVariants.{Live}
use Rattle.osc_space.specs.Objects.{fact, facts, is_in_leaf, is_leaf_granted, leaf_dead, next_page}
use Rattle.osc_space.specs.Free.{reclaim_all, linked_leaves}
use Rattle.osc_space.proofs.ObjectLawProofs.{dead_leaves_are_dead}
use Rattle.osc_shadow.specs.Flushing.{IsLeast, NonePasses, ShowsLive, is_over, leaves_over}
use Rattle.osc_shadow.proofs.LowPages.{at_top, is_low, low_mapping}
use Rattle.osc_shadow.proofs.Sights.{granted_fact}
use Rattle.osc_shadow.proofs.Ascending.{leaves_ascend, is_leaf_there, few_leaves, rest, rest_all, rest_none, rest_next}

-- ---- a dead leaf table
low_leaf : (g : Grants) (leaf : ℕ) → AreMarked g → leaf_dead g.objects leaf ≡ true → (2 ^ 15 ≤ leaf) × (leaf < 2 ^ 16)
low_leaf g leaf m dead =
    let granted : is_leaf_granted g.objects leaf ≡ true = grind (arith, nat_tests, dead) in
    let from : 2 ^ 24 ≤ 512 * leaf = grind (arith, nat_tests, granted) in
    let to : 512 * leaf + 512 ≤ next_page g.objects = grind (arith, nat_tests, granted) in
    let below = m.mark in
    let most = m.most in
    (omega arith, omega arith)

leaf_number : (top leaf : ℕ) → IsTop top → leaf < 2 ^ 16 → number_of top leaf ≡ leaf
leaf_number top leaf range l = at_top (λ t. number_of t leaf ≡ leaf) top range (omega arith) (omega arith)

dead_empty : (t : KeptTables) (g : Grants) (leaf i : ℕ) → IsTop t.top → AreMarked g → ShowsLive t g.objects → leaf_dead g.objects leaf ≡ true → i < 512 → mapping_of t (leaf * 512 + i) ≡ None
dead_empty t g leaf i top m shows dead l =
    let low = low_leaf g leaf m dead in
    let is_dead = (dead_leaves_are_dead g.objects leaf m.granted).pages dead (leaf * 512 + i) (omega arith) (omega arith) in
    let shadow : is_shadow (leaf * 512 + i) ≡ true = grind (arith, nat_tests, low, l) in
    low_mapping t (leaf * 512 + i) top (omega arith) ∙ shows (leaf * 512 + i) shadow is_dead.1

pub is_empty_leaf : (t : KeptTables) (g : Grants) (leaf : ℕ) → IsTop t.top → AreMarked g → ShowsLive t g.objects → leaf_dead g.objects leaf ≡ true → is_some (frame_of t.tables 0 leaf) ≡ true → IsEmptyLeaf t leaf
is_empty_leaf t g leaf top m shows dead there =
    let low = low_leaf g leaf m dead in
    record {
      canonical = (is_low t.top (leaf * 512) top (omega arith)).0;
      linked = rw (leaf_number t.top leaf top low.1) there;
      empty = λ i l. dead_empty t g leaf i top m shows dead l;
    }

pub is_given_up : (t : KeptTables) (g : Grants) (leaf : ℕ) (c d : Changed) → IsTop t.top → AreMarked g → leaf_dead g.objects leaf ≡ true → is_some (frame_of t.tables 0 leaf) ≡ true
    → d ≡ reclaim (number_of t.top leaf) c → d ≡ cond (leaf_dead g.objects leaf && is_some (frame_of t.tables 0 leaf)) (reclaim leaf c) c
is_given_up t g leaf c d top m dead there e =
    let low = low_leaf g leaf m dead in
    e ∙ ap (λ n. reclaim n c) (leaf_number t.top leaf top low.1) ∙ sym (rw (dead, there) refl)

-- ---- what a reclaim changes
unlinked_other : (leaf x : ℕ) (frame parent : Option ℕ) (c : Changed) → (leaf == x) ≡ false → frame_of (unlinked leaf frame parent c).tables.tables 0 x ≡ frame_of c.tables.tables 0 x
unlinked_other leaf x None parent c e = refl
unlinked_other leaf x (Some f) None c e = refl
unlinked_other leaf x (Some f) (Some p) c e = frame_of-without_table c.tables.tables 0 leaf 0 x ∙ rw e refl

unlinked_pages : (leaf : ℕ) (frame parent : Option ℕ) (c : Changed) → (unlinked leaf frame parent c).tables.pages ≡ c.tables.pages
unlinked_pages leaf None parent c = refl
unlinked_pages leaf (Some f) None c = refl
unlinked_pages leaf (Some f) (Some p) c = refl

unlinked_top : (leaf : ℕ) (frame parent : Option ℕ) (c : Changed) → (unlinked leaf frame parent c).tables.top ≡ c.tables.top
unlinked_top leaf None parent c = refl
unlinked_top leaf (Some f) None c = refl
unlinked_top leaf (Some f) (Some p) c = refl

unlinked_jobs : (leaf : ℕ) (frame parent : Option ℕ) (c : Changed) → length (unlinked leaf frame parent c).jobs ≤ length c.jobs + 1
unlinked_jobs leaf None parent c = omega arith
unlinked_jobs leaf (Some f) None c = omega arith
unlinked_jobs leaf (Some f) (Some p) c = rw (length-append c.jobs) (omega arith)

-- ---- so many leaf tables were given up
abbrev pub passes : Grants → List ℕ → ℕ → Bool
passes g gone leaf = leaf_dead g.objects leaf && is_over (facts g.objects gone) leaf

abbrev pub left_from : KeptTables → Grants → List ℕ → ℕ → List ℕ
left_from t g gone from = rest (passes g gone) from (linked_leaves t)

pub record GivingUp (t u : KeptTables) (g : Grants) (gone : List ℕ) (jobs now : JobList) (from : ℕ) : Type 0 where
  pub next : (free : List Bool) → reclaim_all (left_from t g gone from) (changed u free now.pushed)
      ≡ reclaim_all (leaves_over t g.objects (facts g.objects gone)) (changed t free jobs.pushed)
  pub same : (leaf : ℕ) → from ≤ leaf → frame_of u.tables 0 leaf ≡ frame_of t.tables 0 leaf
  pub pages : u.pages ≡ t.pages
  pub top : u.top ≡ t.top
  pub few : length now.pushed + length (left_from t g gone from) ≤ length jobs.pushed + length t.tables
  pub room : now.room ≡ jobs.room

pub giving_none : (t : KeptTables) (g : Grants) (gone : List ℕ) (jobs : JobList) → GivingUp t t g gone jobs jobs 0
giving_none t g gone jobs =
    let all = rest_all (passes g gone) (linked_leaves t) in
    let few = few_leaves (passes g gone) t.tables in
    let same : length (left_from t g gone 0) ≡ length (filter (passes g gone) (linked_leaves t)) = ap length all in
    record {
      next = λ free. ap (λ xs. reclaim_all xs (changed t free jobs.pushed)) all;
      same = λ leaf l. refl;
      pages = refl;
      top = refl;
      few = omega arith;
      room = refl;
    }

-- the given up leaf
abbrev after : Bool → ℕ → Changed → Changed
after b leaf c = cond b (reclaim leaf c) c

after_other : (b : Bool) (leaf x : ℕ) (c : Changed) → (leaf == x) ≡ false → frame_of (after b leaf c).tables.tables 0 x ≡ frame_of c.tables.tables 0 x
after_other true leaf x c e = unlinked_other leaf x _ _ c e
after_other false leaf x c e = refl

after_pages : (b : Bool) (leaf : ℕ) (c : Changed) → (after b leaf c).tables.pages ≡ c.tables.pages
after_pages true leaf c = unlinked_pages leaf _ _ c
after_pages false leaf c = refl

after_top : (b : Bool) (leaf : ℕ) (c : Changed) → (after b leaf c).tables.top ≡ c.tables.top
after_top true leaf c = unlinked_top leaf _ _ c
after_top false leaf c = refl

after_rest : (b : Bool) (leaf : ℕ) (xs : List ℕ) (c : Changed) → reclaim_all xs (after b leaf c) ≡ reclaim_all (cond b (leaf ∷ xs) xs) c
after_rest true leaf xs c = refl
after_rest false leaf xs c = refl

after_few : (b : Bool) (leaf : ℕ) (xs : List ℕ) (c : Changed) → length (after b leaf c).jobs + length xs ≤ length c.jobs + length (cond b (leaf ∷ xs) xs)
after_few true leaf xs c = let h = unlinked_jobs leaf (frame_of c.tables.tables 0 leaf) (frame_of c.tables.tables 1 (leaf / 512)) c in omega arith
after_few false leaf xs c = omega arith

not_over : (a b : Bool) → b ≡ false → (a && b) ≡ false
not_over true b e = e
not_over false b e = refl

over_true : (a b k : Bool) → b ≡ true → ((a && b) && k) ≡ (a && k)
over_true true b k e = rw e refl
over_true false b k e = refl

pub giving_more : (t u v : KeptTables) (g : Grants) (gone : List ℕ) (jobs now later : JobList) (from leaf next : ℕ)
    → InOrder t.tables → GivingUp t u g gone jobs now from → IsLeast (is_over (facts g.objects gone)) from leaf → next ≡ leaf + 1
    → ((free : List Bool) → changed v free later.pushed ≡ cond (leaf_dead g.objects leaf && is_some (frame_of u.tables 0 leaf)) (reclaim leaf (changed u free now.pushed)) (changed u free now.pushed))
    → later.room ≡ now.room
    → GivingUp t v g gone jobs later next
giving_more t u v g gone jobs now later from leaf next order so least next_is made room =
    let b : Bool = leaf_dead g.objects leaf && is_some (frame_of u.tables 0 leaf) in
    let p : ℕ → Bool = passes g gone in
    let here : (leaf_dead g.objects leaf && is_some (frame_of u.tables 0 leaf)) ≡ (passes g gone leaf && list_any (λ x. x == leaf) (linked_leaves t)) =
    ap (λ f. leaf_dead g.objects leaf && is_some f) (so.same leaf least.above)
    ∙ ap (λ k. leaf_dead g.objects leaf && k) (sym (is_leaf_there t.tables leaf))
    ∙ sym (over_true (leaf_dead g.objects leaf) (is_over (facts g.objects gone) leaf) (list_any (λ x. x == leaf) (linked_leaves t)) least.passes) in
    let step : left_from t g gone from ≡ cond (leaf_dead g.objects leaf && is_some (frame_of u.tables 0 leaf)) (leaf ∷ left_from t g gone (leaf + 1)) (left_from t g gone (leaf + 1)) =
    rest_next (passes g gone) from leaf 0 (linked_leaves t) (leaves_ascend t.tables order) least.above (λ x l m. not_over (leaf_dead g.objects x) (is_over (facts g.objects gone) x) (least.least x l m))
    ∙ ap (λ k. cond k (leaf ∷ left_from t g gone (leaf + 1)) (left_from t g gone (leaf + 1))) (sym here) in
    let few_step = ap length step in
    let few = so.few in
    let one = after_few (leaf_dead g.objects leaf && is_some (frame_of u.tables 0 leaf)) leaf (left_from t g gone (leaf + 1)) (changed u [] now.pushed) in
    let jobs_are = ap (λ (c : Changed). length c.jobs) (made []) in
    rw next_is (record {
      next = λ free. ap (λ c. reclaim_all (left_from t g gone (leaf + 1)) c) (made free)
          ∙ after_rest (leaf_dead g.objects leaf && is_some (frame_of u.tables 0 leaf)) leaf (left_from t g gone (leaf + 1)) (changed u free now.pushed)
          ∙ ap (λ xs. reclaim_all xs (changed u free now.pushed)) (sym step) ∙ so.next free;
      same = λ x l. ap (λ (c : Changed). frame_of c.tables.tables 0 x) (made [])
          ∙ after_other (leaf_dead g.objects leaf && is_some (frame_of u.tables 0 leaf)) leaf x (changed u [] now.pushed) (grind (arith, nat_tests, l))
          ∙ so.same x (let up = least.above in omega arith);
      pages = ap (λ (c : Changed). c.tables.pages) (made []) ∙ after_pages _ leaf (changed u [] now.pushed) ∙ so.pages;
      top = ap (λ (c : Changed). c.tables.top) (made []) ∙ after_top _ leaf (changed u [] now.pushed) ∙ so.top;
      few = omega arith;
      room = room ∙ so.room;
    })

pub giving_all : (t u : KeptTables) (g : Grants) (gone : List ℕ) (jobs now : JobList) (from : ℕ) → GivingUp t u g gone jobs now from → NonePasses (is_over (facts g.objects gone)) from
    → (free : List Bool) → changed u free now.pushed ≡ reclaim_all (leaves_over t g.objects (facts g.objects gone)) (changed t free jobs.pushed)
giving_all t u g gone jobs now from so none free =
    let empty = rest_none (passes g gone) from (linked_leaves t) (λ x l. not_over (leaf_dead g.objects x) (is_over (facts g.objects gone) x) (none x l)) in
    sym (ap (λ xs. reclaim_all xs (changed u free now.pushed)) empty) ∙ so.next free

-- ---- a leaf table over granted objects
over_low : (g : Grants) (gone : List ℕ) (leaf : ℕ) → AreMarked g → All (λ (object : ℕ). object < length g.objects) gone → is_over (facts g.objects gone) leaf ≡ true → leaf < 2 ^ 16
over_low g [] leaf m known over = cc
over_low g (x ∷ gone) leaf m known over =
    go (slice_get-get_or g.objects x (get_or g.objects x none) (known 0 0 (omega arith)))
    (over_low g gone leaf m (λ k d l. known (suc k) d (omega arith)))
  where
    none : ObjectFact
    none = record { first = 0; pages = 0; size = 0; user = 0; canon = 0; state = Live }

    go : fact g.objects x ≡ Some (get_or g.objects x (get_or g.objects x none)) → (is_over (facts g.objects gone) leaf ≡ true → leaf < 2 ^ 16) → leaf < 2 ^ 16
    go e on = pick (is_in_leaf leaf (get_or g.objects x (get_or g.objects x none))) refl
      where
        pick : (b : Bool) → is_in_leaf leaf (get_or g.objects x (get_or g.objects x none)) ≡ b → leaf < 2 ^ 16
        pick true f =
            let h = granted_fact g x (get_or g.objects x (get_or g.objects x none)) m (known 0 0 (omega arith)) e in
            let to = h.to in
            let in_it : 512 * leaf < (get_or g.objects x (get_or g.objects x none)).first + (get_or g.objects x (get_or g.objects x none)).pages = grind (arith, nat_tests, f) in
            omega arith
        pick false f = on (let h = rw (e, f) at over in h)

pub over_is_low : (g : Grants) (gone : List ℕ) (from leaf : ℕ) → AreMarked g → All (λ (object : ℕ). object < length g.objects) gone → IsLeast (is_over (facts g.objects gone)) from leaf → leaf < 2 ^ 16
over_is_low g gone from leaf m known least = over_low g gone leaf m known least.passes
