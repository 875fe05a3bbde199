-- A flush: dead leaf tables are given up, and every box is cleared.
use Rattle.std.proofs.Common.{ℕ, zero, suc, ◌+◌, ◌*◌, ◌/◌, ◌%◌, ◌≡◌, ◌<◌, ◌≤◌, ◌==◌, ◌&&◌, ◌||◌, Bool, true, false, cond, Option, Some, None, List, [], ◌∷◌, length, map, filter, arith, refl, ap, sym, ◌∙◌}
use Rattle.std.specs.List.{list_any, range_with_len}
use Rattle.std.proofs.lemmas.Bool.Decides.{nat_tests}
use Rattle.std.proofs.lemmas.List.FromFn.{length-map-range_with_len}
use Rattle.osc_word.specs.declared.job_list.Job.TheVariants.{ClearBox}
use Rattle.osc_word.specs.AddressMap.{first_shadow_page, is_shadow}
use Rattle.osc_paging.specs.declared.TableFrame.{TableFrame}
use Rattle.osc_paging.specs.KeptTables.{KeptTables, frame_of, mapping_at}
use Rattle.osc_paging.specs.TableChanges.{Changed, put_job, unlinked, reclaim}
use Rattle.osc_paging.specs.Agree.{Apart, AgreesAfter}
use Rattle.osc_paging.specs.CopyLaws.{AllElsewhere}
use Rattle.osc_paging.proofs.TableLawProofs.{reclaiming_keeps}
use Rattle.osc_paging.proofs.Others.{work_elsewhere_keeps}
use Rattle.osc_space.specs.declared.ObjectFact.{ObjectFact}
use Rattle.osc_space.specs.Objects.{AreGranted, mark, is_live_page, leaf_dead, is_in_leaf}
use Rattle.osc_space.specs.Space.{Space, Draft}
use Rattle.osc_space.specs.Free.{clear_jobs, linked_leaves, dead_leaves, reclaim_all, flush}
use Rattle.osc_space.proofs.ObjectLawProofs.{dead_leaves_are_dead}
use Rattle.osc_parts.specs.Frames.{vacant, FramesFit, Trades}
use Rattle.osc_parts.specs.Settled.{tables_of, shadows_end}
use Rattle.osc_parts.specs.Jobs.{AllWriteWhere, Pushed, IsOwn}
use Rattle.osc_parts.proofs.Trading.{over, held_is, reclaim-trades, reclaim_all-trades}
use Rattle.osc_parts.proofs.Shapes.{SameShape, unlinked-reclaims, reclaim_all-shape}
use Rattle.osc_parts.proofs.JobCounts.{IsOf, found_counts, pushed_none, pushed_both, pushed_weaker, length-mapped}
use Rattle.osc_parts.proofs.Waiting.{is_in}
use Rattle.osc_parts.proofs.Giving.{tables_within}

-- ---- no page of a leaf is mapped
abbrev pub IsEmpty : KeptTables → ℕ → Type 0
IsEmpty t leaf = (i : ℕ) → i < 512 → mapping_at t.pages (leaf * 512 + i) ≡ None

reclaim_all-agrees : (entries : ℕ → ℕ → ℕ) (words : List ℕ) (leaves : List ℕ) (c : Changed) → 0 < c.tables.top → ((leaf : ℕ) → is_in leaves leaf ≡ true → IsEmpty c.tables leaf) → AgreesAfter entries words c → AgreesAfter entries words (reclaim_all leaves c)
reclaim_all-agrees entries words [] c t h g = g
reclaim_all-agrees entries words (leaf ∷ leaves) c t h g =
    let r = unlinked-reclaims leaf (frame_of c.tables.tables 0 leaf) (frame_of c.tables.tables 1 (leaf / 512)) c in
    let top = r.shape.top in
    reclaim_all-agrees entries words leaves (reclaim leaf c) (omega (arith, t, top))
    (λ x e i l. ap (λ ps. mapping_at ps (x * 512 + i)) r.pages ∙ h x (grind (arith, nat_tests, e)) i l)
    (reclaiming_keeps entries words c leaf t (h leaf (grind (arith, nat_tests))) g)

in_filter : (test : ℕ → Bool) (xs : List ℕ) (x : ℕ) → is_in (filter test xs) x ≡ true → test x ≡ true
in_filter test [] x e = absurd (let z : ⊥ = grind (arith, e) in z)
in_filter test (y ∷ xs) x e = go (test y) refl e (in_filter test xs x)
  where
    at : test y ≡ true → (b : Bool) → (y == x) ≡ b → (b || is_in (filter test xs) x) ≡ true → (is_in (filter test xs) x ≡ true → test x ≡ true) → test x ≡ true
    at d true f h later = let same : y ≡ x = grind (arith, nat_tests, f) in sym (ap test same) ∙ d
    at d false f h later = later h

    go : (b : Bool) → test y ≡ b → is_in (cond b (y ∷ filter test xs) (filter test xs)) x ≡ true → (is_in (filter test xs) x ≡ true → test x ≡ true) → test x ≡ true
    go true d h later = at d (y == x) refl h later
    go false d h later = later h

pub length-filtered : {X : Type 0} (test : X → Bool) (xs : List X) → length (filter test xs) ≤ length xs
length-filtered test [] = omega arith
length-filtered test (x ∷ xs) = go (test x) (length-filtered test xs)
  where
    go : (b : Bool) → length (filter test xs) ≤ length xs → length (cond b (x ∷ filter test xs) (filter test xs)) ≤ suc (length xs)
    go true later = omega (arith, later)
    go false later = omega (arith, later)

-- ---- jobs
unlinked-pushes : (own : ℕ → Type 0) (leaf : ℕ) (x y : Option ℕ) (c : Changed) → ((f : ℕ) → IsOf c.tables.tables f → own f) → frame_of c.tables.tables 1 (leaf / 512) ≡ y → Pushed own c.jobs (unlinked leaf x y c).jobs 1
unlinked-pushes own leaf None y c h e = pushed_none own c.jobs 1
unlinked-pushes own leaf (Some g) None c h e = pushed_none own c.jobs 1
unlinked-pushes own leaf (Some g) (Some p) c h e = record { more = put_job p (leaf % 512) 0 ∷ []; is = refl; few = omega arith; within = ((omega arith, h p (found_counts 1 (leaf / 512) p c.tables.tables e)), tt) }

reclaim_all-pushes : (s : Space) (leaves : List ℕ) (c : Changed) → Apart c.tables.tables → Pushed (IsOwn (over s c.tables)) c.jobs (reclaim_all leaves c).jobs (length leaves)
reclaim_all-pushes s [] c a = pushed_none (IsOwn (over s c.tables)) c.jobs 0
reclaim_all-pushes s (leaf ∷ leaves) c a =
    let d = reclaim leaf c in
    let one = unlinked-pushes (IsOwn (over s c.tables)) leaf (frame_of c.tables.tables 0 leaf) (frame_of c.tables.tables 1 (leaf / 512)) c (λ f l. (let b = held_is f (over s c.tables) in omega (arith, b, l))) refl in
    let t = reclaim-trades s leaf c a in
    let free = (unlinked-reclaims leaf (frame_of c.tables.tables 0 leaf) (frame_of c.tables.tables 1 (leaf / 512)) c).free in
    let rest = reclaim_all-pushes s leaves d t.1 in
    let all = pushed_both (IsOwn (over s c.tables)) c.jobs d.jobs (reclaim_all leaves d).jobs 1 (length leaves) one
    (pushed_weaker (IsOwn (over s d.tables)) (IsOwn (over s c.tables)) d.jobs (reclaim_all leaves d).jobs (length leaves) (length leaves)
    (λ f l. (let e = t.0.each f in let v = ap (λ free. vacant free f) free in omega (arith, e, v, l))) (omega arith) rest) in
    record { more = all.more; is = all.is; few = (let f = all.few in omega (arith, f)); within = all.within }

pub clears_where : (own : ℕ → Type 0) (first count : ℕ) → AllWriteWhere own (map (λ hart. ClearBox hart) (range_with_len first count))
clears_where own first zero = tt
clears_where own first (suc count) = (tt, clears_where own (first + 1) count)

pub clears_elsewhere : (t : KeptTables) (first count : ℕ) → AllElsewhere t (map (λ hart. ClearBox hart) (range_with_len first count))
clears_elsewhere t first zero = tt
clears_elsewhere t first (suc count) = (tt, clears_elsewhere t (first + 1) count)

-- ---- the whole
pub record Flushes (entries : ℕ → ℕ → ℕ) (words : List ℕ) (d : Draft) : Type 0 where
  pub granted : AreGranted d.space.objects
  pub limit : first_shadow_page + mark d.space.objects ≤ shadows_end
  pub dead : (q : ℕ) → is_shadow q ≡ true → is_live_page d.space.objects q ≡ false → mapping_at d.space.tables.pages q ≡ None
  pub top : 0 < d.space.tables.top
  pub frames : FramesFit d.space d.free
  pub tables : AgreesAfter entries words (tables_of d)

pub record Flushed (entries : ℕ → ℕ → ℕ) (words : List ℕ) (harts : ℕ) (d e : Draft) : Type 0 where
  pub shape : SameShape d.space.tables e.space.tables
  pub pages : e.space.tables.pages ≡ d.space.tables.pages
  pub free : e.free ≡ d.free
  pub above : (l n : ℕ) → frame_of e.space.tables.tables (suc l) n ≡ frame_of d.space.tables.tables (suc l) n
  pub trades : Trades d.space d.free e.space e.free
  pub tables : AgreesAfter entries words (tables_of e)
  pub pushes : Pushed (IsOwn d.space) d.jobs e.jobs (length d.free + harts)

pub flushes : (entries : ℕ → ℕ → ℕ) (words : List ℕ) (harts : ℕ) (gone : List ObjectFact) (d : Draft) → Flushes entries words d → Flushed entries words harts d (flush harts gone d)
flushes entries words harts gone d k =
    let leaves = dead_leaves gone d.space in
    let c = reclaim_all leaves (tables_of d) in
    let r = reclaim_all-shape leaves (tables_of d) in
    let t = reclaim_all-trades d.space leaves (tables_of d) k.tables.apart in
    let g = reclaim_all-agrees entries words leaves (tables_of d) k.top (λ leaf e. empty leaf (in_filter _ (linked_leaves d.space.tables) leaf e)) k.tables in
    let p = reclaim_all-pushes d.space leaves (tables_of d) k.tables.apart in
    record {
      shape = r.shape;
      pages = r.pages;
      free = r.free;
      above = r.above;
      trades = record { count = t.count; each = t.each; shared = t.shared };
      tables = work_elsewhere_keeps entries words c (clear_jobs harts) g (clears_elsewhere c.tables 0 harts);
      pushes = pushed_weaker (IsOwn d.space) (IsOwn d.space) d.jobs (flush harts gone d).jobs (length leaves + harts) (length d.free + harts) (λ f l. l) (let f = few in omega (arith, f))
          (pushed_both (IsOwn d.space) d.jobs c.jobs (flush harts gone d).jobs (length leaves) harts
          (record { more = p.more; is = p.is; few = p.few; within = p.within })
          (record { more = clear_jobs harts; is = refl; few = (let n : length (clear_jobs harts) ≡ harts = length-map-range_with_len _ _ _ in omega (arith, n)); within = clears_where (IsOwn d.space) 0 harts }));
    }
  where
    empty : (leaf : ℕ) → (leaf_dead d.space.objects leaf && list_any (is_in_leaf leaf) gone) ≡ true → IsEmpty d.space.tables leaf
    empty leaf e i l =
        let dead = (dead_leaves_are_dead d.space.objects leaf k.granted).pages (grind (arith, nat_tests, e)) (leaf * 512 + i) (omega arith) (omega (arith, l)) in
        let w = dead.0 in
        let limit = k.limit in
        let shadow : is_shadow (leaf * 512 + i) ≡ true = grind (arith, nat_tests, w, limit) in
        k.dead (leaf * 512 + i) shadow dead.1

    few : length (dead_leaves gone d.space) ≤ length d.free
    few =
        let a = length-filtered (λ leaf. leaf_dead d.space.objects leaf && list_any (is_in_leaf leaf) gone) (linked_leaves d.space.tables) in
        let b = length-mapped (λ (f : TableFrame). f.piece.number) (filter (λ (f : TableFrame). f.piece.level == 0) d.space.tables.tables) in
        let c = length-filtered (λ (f : TableFrame). f.piece.level == 0) d.space.tables.tables in
        let w = tables_within d.space d.free k.frames in
        omega (arith, a, b, c, w)
