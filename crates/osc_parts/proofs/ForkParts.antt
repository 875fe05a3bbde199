-- A fork that is not refused: the parts of the child, the parent and the others.
use Rattle.std.proofs.Common.{ℕ, zero, suc, ◌+◌, ◌*◌, ◌/◌, ◌≡◌, ◌<◌, ◌≤◌, ◌==◌, nat_lt, Bool, true, false, cond, Option, Some, None, is_some, option_map, List, [], ◌∷◌, ◌++◌, length, map, filter, zip, slice_get, arith, refl, ap, sym, ◌∙◌, subst}
use Rattle.std.specs.Prelude.{slice_index}
use Rattle.std.proofs.lemmas.Bool.Decides.{nat_tests}
use Rattle.std.proofs.lemmas.List.{map-append}
use Rattle.osc_word.specs.declared.settings.HeapKind.{HeapKind}
use Rattle.osc_word.specs.declared.settings.HeapKind.TheVariants.{Oscar, Plain}
use Rattle.osc_word.specs.AddressMap.{is_image_or_stack, is_shared}
use Rattle.osc_word.specs.declared.job_list.Job.{Job}
use Rattle.osc_slot.specs.declared.HeapPage.{HeapPage}
use Rattle.osc_slot.specs.Heap.{IsHeap, HaveFrames, has_frame, rename, copy, frame_of}
use Rattle.osc_slot.proofs.Backing.{free_count-le}
use Rattle.osc_slot.proofs.Copying.{frame_of-rename, copy_is_heap}
use Rattle.osc_paging.specs.declared.Mapped.{Mapped}
use Rattle.osc_paging.specs.declared.TableFrame.{TableFrame}
use Rattle.osc_paging.specs.JobWords.{words_after}
use Rattle.osc_paging.specs.KeptTables.{mapping_at, piece_of}
use Rattle.osc_paging.specs.Agree.{Agrees}
use Rattle.osc_paging.specs.KeptTables.{frame_of as table_over}
use Rattle.osc_paging.specs.TableChanges.{renamed, renamed_page, renamed_table}
use Rattle.osc_paging.specs.CopyLaws.{KeepsTaken, TellsEntries, CopyAgrees}
use Rattle.osc_paging.proofs.WordLists.{words_after-append}
use Rattle.osc_paging.proofs.Copied.{new_mapping, new_name, mapping_at-renamed, frame_of-renamed}
use Rattle.osc_space.specs.LeafFlags.{read_write_at}
use Rattle.osc_space.specs.Space.{Space, Draft, first_reason}
use Rattle.osc_space.specs.Fork.{Forked, private_frames, free_numbers, copies, copy_by, copy_job, table_frame_of, heap_frame_of, frame_of_page, image_frames, frames_owned, is_private, fork_reasons, fork_plan}
use Rattle.osc_space.specs.ForkLaws.{StandsForNew, CopiesApart, IsCopy, AreCopies, CopiesEach}
use Rattle.osc_space.specs.Share.{Regions, holders, hold, join, shared_frames}
use Rattle.osc_space.specs.Agree.{HeapAgrees, SpaceAgrees}
use Rattle.osc_space.proofs.ForkLawProofs.{forks_apart, forks_copy_each}
use Rattle.osc_space.proofs.ForkAgreeProofs.{forks_agree}
use Rattle.osc_parts.specs.Frames.{one_at, among, vacant, one_where, frames_held, frames_mapped, FramesFit}
use Rattle.osc_parts.specs.Settled.{PartsFit, Settled}
use Rattle.osc_parts.specs.Jobs.{WritesWhere, AllWriteWhere, Pushed, IsOwn}
use Rattle.osc_parts.specs.OthersFit.{HoldsApart}
use Rattle.osc_parts.specs.ForkFits.{ForkFits, ForksFit}
use Rattle.osc_parts.proofs.Counts.{among-append, member_counts}
use Rattle.osc_parts.proofs.Trading.{held_is, owned_is, held_once, held_taken, fits, quiet_apart, quiet_taken}
use Rattle.osc_parts.proofs.Settling.{settled_frames}
use Rattle.osc_parts.proofs.Blocks.{taken_small}
use Rattle.osc_parts.proofs.EndParts.{member_held}
use Rattle.osc_parts.proofs.SharedPages.{numbers_count, hold_length, hold_each}
use Rattle.osc_parts.proofs.JobCounts.{length-mapped}
use Rattle.osc_parts.proofs.Others.{words_beside}

-- ---- frames under their names
index_is : (xs : List ℕ) (i x : ℕ) → slice_get xs i ≡ Some x → slice_index xs i ≡ x
index_is [] i x e = absurd (let z : ⊥ = grind (arith, e) in z)
index_is (y ∷ xs) zero x e = let same : y ≡ x = cc in same
index_is (y ∷ xs) (suc i) x e = index_is xs i x e

-- a name among them has an own frame
pub record NamedFrame (names : List ℕ) (xs : List ℕ) (to : ℕ) : Type 0 where
  pub frame : ℕ
  pub is_in : 0 < among frame xs
  pub name : slice_index names frame ≡ to

named : (names : List ℕ) (xs : List ℕ) (to : ℕ) → 0 < among to (map (slice_index names) xs) → NamedFrame names xs to
named names [] to l = absurd (omega arith)
named names (x ∷ xs) to l = go (slice_index names x == to) refl l (named names xs to)
  where
    go : (b : Bool) → (slice_index names x == to) ≡ b → 0 < cond b 1 0 + among to (map (slice_index names) xs) → (0 < among to (map (slice_index names) xs) → NamedFrame names xs to) → NamedFrame names (x ∷ xs) to
    go true e m later = record { frame = x; is_in = grind (arith, nat_tests); name = grind (arith, nat_tests, e) }
    go false e m later = let r = later (omega (arith, m)) in let i = r.is_in in record { frame = r.frame; is_in = omega (arith, i); name = r.name }

named_once : (names : List ℕ) (xs : List ℕ) (to : ℕ) → ((f : ℕ) → among f xs ≤ 1) → ((f g : ℕ) → 0 < among f xs → 0 < among g xs → slice_index names f ≡ slice_index names g → f ≡ g) → among to (map (slice_index names) xs) ≤ 1
named_once names [] to o h = omega arith
named_once names (x ∷ xs) to o h =
    go (slice_index names x == to) refl (named_once names xs to (λ f. (let a = o f in omega (arith, a))) (λ f g l m e. h f g (omega (arith, l)) (omega (arith, m)) e)) (among to (map (slice_index names) xs)) refl
  where
    go : (b : Bool) → (slice_index names x == to) ≡ b → among to (map (slice_index names) xs) ≤ 1 → (k : ℕ) → among to (map (slice_index names) xs) ≡ k → cond b 1 0 + among to (map (slice_index names) xs) ≤ 1
    go false e later k q = omega (arith, later)
    go true e later zero q = omega (arith, q)
    go true e later (suc k) q = absurd (let r = named names xs to (omega (arith, q)) in
        let i = r.is_in in
        let n : slice_index names x ≡ to = grind (arith, nat_tests, e) in
        let same = h x r.frame (grind (arith, nat_tests)) (omega (arith, i)) (n ∙ sym r.name) in
        let a = o x in
        let one : one_at x x ≡ 1 = grind (arith, nat_tests) in
        let j : 0 < among x xs = subst (λ y. 0 < among y xs) (sym same) i in
        let z : ⊥ = omega (arith, a, one, j) in z)

same_names : (names : List ℕ) (xs : List ℕ) → ((f : ℕ) → 0 < among f xs → slice_index names f ≡ f) → map (slice_index names) xs ≡ xs
same_names names [] h = refl
same_names names (x ∷ xs) h =
    ap (λ y. y ∷ map (slice_index names) xs) (h x (grind (arith, nat_tests))) ∙ ap (λ ys. x ∷ ys) (same_names names xs (λ f l. h f (omega (arith, l))))

name_in_list : (names : List ℕ) (xs : List ℕ) (f : ℕ) → 0 < among f xs → 0 < among (slice_index names f) (map (slice_index names) xs)
name_in_list names [] f l = absurd (omega arith)
name_in_list names (x ∷ xs) f l = go (x == f) refl l (name_in_list names xs f)
  where
    go : (b : Bool) → (x == f) ≡ b → 0 < cond b 1 0 + among f xs → (0 < among f xs → 0 < among (slice_index names f) (map (slice_index names) xs)) → 0 < one_at (slice_index names x) (slice_index names f) + among (slice_index names f) (map (slice_index names) xs)
    go true e m later = let same : x ≡ f = grind (arith, nat_tests, e) in let n : slice_index names x ≡ slice_index names f = ap (slice_index names) same in grind (arith, nat_tests, n)
    go false e m later = let r = later (omega (arith, m)) in omega (arith, r)

zip_few : (xs ys : List ℕ) → length (zip xs ys) ≤ length ys
zip_few [] ys = omega arith
zip_few (x ∷ xs) [] = omega arith
zip_few (x ∷ xs) (y ∷ ys) = let l = zip_few xs ys in omega (arith, l)

table_names : (names : List ℕ) (ts : List TableFrame) → map table_frame_of (map (renamed_table names) ts) ≡ map (slice_index names) (map table_frame_of ts)
table_names names [] = refl
table_names names (t ∷ ts) = ap (λ fs. slice_index names t.frame ∷ fs) (table_names names ts)

heap_names : (names : List ℕ) (ps : List HeapPage) → map heap_frame_of (map (rename names) ps) ≡ map (slice_index names) (map heap_frame_of ps)
heap_names names [] = refl
heap_names names (p ∷ ps) = ap (λ fs. slice_index names p.frame ∷ fs) (heap_names names ps)

page_names : (test : ℕ → Bool) (names : List ℕ) (ms : List Mapped) → map frame_of_page (filter (λ (x : Mapped). test x.number) (map (renamed_page names) ms)) ≡ map (slice_index names) (map frame_of_page (filter (λ (x : Mapped). test x.number) ms))
page_names test names [] = refl
page_names test names (m ∷ ms) = go (test m.number) (page_names test names ms)
  where
    go : (b : Bool) → map frame_of_page (filter (λ (x : Mapped). test x.number) (map (renamed_page names) ms)) ≡ map (slice_index names) (map frame_of_page (filter (λ (x : Mapped). test x.number) ms))
        → map frame_of_page (cond b (renamed_page names m ∷ filter (λ (x : Mapped). test x.number) (map (renamed_page names) ms)) (filter (λ (x : Mapped). test x.number) (map (renamed_page names) ms)))
        ≡ map (slice_index names) (map frame_of_page (cond b (m ∷ filter (λ (x : Mapped). test x.number) ms) (filter (λ (x : Mapped). test x.number) ms)))
    go true later = ap (λ fs. slice_index names m.mapping.frame ∷ fs) later
    go false later = later

page_total : (test : ℕ → Bool) (names : List ℕ) (ms : List Mapped) → length (filter (λ (x : Mapped). test x.number) (map (renamed_page names) ms)) ≡ length (filter (λ (x : Mapped). test x.number) ms)
page_total test names [] = refl
page_total test names (m ∷ ms) = go (test m.number) (page_total test names ms)
  where
    go : (b : Bool) → length (filter (λ (x : Mapped). test x.number) (map (renamed_page names) ms)) ≡ length (filter (λ (x : Mapped). test x.number) ms)
        → length (cond b (renamed_page names m ∷ filter (λ (x : Mapped). test x.number) (map (renamed_page names) ms)) (filter (λ (x : Mapped). test x.number) (map (renamed_page names) ms))) ≡ length (cond b (m ∷ filter (λ (x : Mapped). test x.number) ms) (filter (λ (x : Mapped). test x.number) ms))
    go true later = ap suc later
    go false later = later

have : (frames : ℕ) (ps : List HeapPage) → ((f : ℕ) → among f (map heap_frame_of ps) ≤ 1) → ((f : ℕ) → 0 < among f (map heap_frame_of ps) → f < frames) → HaveFrames frames ps
unfolding HaveFrames
have frames [] o l = tt
have frames (p ∷ ps) o l =
    (l p.frame (grind (arith, nat_tests)), no_frame p.frame ps (let a = o p.frame in grind (arith, nat_tests, a)), have frames ps (λ f. (let a = o f in omega (arith, a))) (λ f m. l f (omega (arith, m))))
  where
    no_frame : (f : ℕ) (qs : List HeapPage) → among f (map heap_frame_of qs) ≡ 0 → has_frame f qs ≡ false
    no_frame f [] e = refl
    no_frame f (q ∷ qs) e =
        let here : (q.frame == f) ≡ false = grind (arith, nat_tests, e) in
        let later = no_frame f qs (omega (arith, e)) in
        grind (arith, nat_tests, here, later)

some_still : {X Y : Type 0} (f : X → Y) (x : Option X) → is_some (option_map f x) ≡ is_some x
some_still f None = refl
some_still f (Some x) = refl

none_still : {X Y : Type 0} (f : X → Y) (x : Option X) → x ≡ None → option_map f x ≡ None
none_still f x e = ap (option_map f) e

leaf_names : (names : List ℕ) (x : Option ℕ) → option_map (new_mapping names) (option_map read_write_at x) ≡ option_map read_write_at (option_map (λ f. slice_index names f) x)
leaf_names names None = refl
leaf_names names (Some f) = refl

module _ (kind : HeapKind) (batch : ℕ) (entries : ℕ → ℕ → ℕ) (words : List ℕ) (regions : Regions) (d : Draft) (settled : Settled kind batch entries words regions d) (made : first_reason (fork_reasons d.space d.free) ≡ None) where
  abbrev s : Space
  s = d.space

  f : Forked
  f = fork_plan d.space d.free

  was : SpaceAgrees kind d.space regions d.free
  was = settled.parts.agrees

  start : FramesFit d.space d.free
  start = settled_frames kind d.space regions d.free was

  c : CopiesApart d.space d.free (fork_plan d.space d.free)
  c = forks_apart d.space d.free made

  each : CopiesEach d.space d.free (fork_plan d.space d.free)
  each = forks_copy_each d.space d.free made

  abbrev names : List ℕ
  names = (fork_plan d.space d.free).names

  abbrev after : List Bool
  after = (fork_plan d.space d.free).free

  takes : KeepsTaken d.free (fork_plan d.space d.free).free
  takes = record { size = each.frames; taken = each.taken }

  own : (g : ℕ) → 0 < among g (frames_owned d.space) → (g < length d.free) × (is_private d.space g ≡ true)
  own g l =
      let h = held_is g d.space in let o = owned_is g d.space in
      (taken_small d.free g (held_taken d.space d.free g start (omega (arith, h, o, l))), member_counts g (frames_owned d.space) ∙ (grind (arith, nat_tests, l)))

  stands : (g : ℕ) → 0 < among g (frames_owned d.space) → StandsForNew (fork_plan d.space d.free) d.free g
  stands g l = c.copied g (own g l).0 (own g l).1

  name_is : (g : ℕ) (l : 0 < among g (frames_owned d.space)) → slice_index names g ≡ (stands g l).to
  name_is g l = index_is names g (stands g l).to (stands g l).named

  injective : (g h : ℕ) → 0 < among g (frames_owned d.space) → 0 < among h (frames_owned d.space) → slice_index names g ≡ slice_index names h → g ≡ h
  injective g h l m e =
      let x = stands g l in let y = stands h m in
      let same : x.to ≡ y.to = sym (name_is g l) ∙ e ∙ name_is h m in
      c.apart g h x.to (own g l).0 (own h m).0 (own g l).1 (own h m).1 x.named (subst (λ z. slice_get names h ≡ Some z) (sym same) y.named)

  own_once : (g : ℕ) → among g (frames_owned d.space) ≤ 1
  own_once g = let h = held_is g d.space in let o = owned_is g d.space in let k = held_once d.space d.free g start in omega (arith, h, o, k)

  abbrev child : Space
  child = record (d.space) { tables = renamed names d.space.tables; heap = copy names d.space.heap }

  child_owned : frames_owned child ≡ map (slice_index names) (frames_owned d.space)
  child_owned =
      ap (λ xs. xs ++ map heap_frame_of (map (rename names) d.space.heap.pages) ++ image_frames (renamed names d.space.tables)) (table_names names d.space.tables.tables)
      ∙ ap (λ xs. map (slice_index names) (map table_frame_of d.space.tables.tables) ++ xs ++ image_frames (renamed names d.space.tables)) (heap_names names d.space.heap.pages)
      ∙ ap (λ xs. map (slice_index names) (map table_frame_of d.space.tables.tables) ++ map (slice_index names) (map heap_frame_of d.space.heap.pages) ++ xs) (page_names is_image_or_stack names d.space.tables.pages)
      ∙ ap (λ xs. xs ++ map (slice_index names) (image_frames d.space.tables)) (sym (map-append (slice_index names) (map table_frame_of d.space.tables.tables) (map heap_frame_of d.space.heap.pages)))
      ∙ sym (map-append (slice_index names) (map table_frame_of d.space.tables.tables ++ map heap_frame_of d.space.heap.pages) (image_frames d.space.tables))

  shared_stays : (g : ℕ) → 0 < among g (shared_frames d.space.tables) → slice_index names g ≡ g
  shared_stays g l =
      let h = held_is g d.space in let o = owned_is g d.space in let k = held_once d.space d.free g start in
      let none : among g (frames_owned d.space) ≡ 0 = omega (arith, h, o, k, l) in
      let small = taken_small d.free g (held_taken d.space d.free g start (omega (arith, l))) in
      index_is names g g (c.others g small (member_counts g (frames_owned d.space) ∙ (grind (arith, nat_tests, none))))

  child_shared : shared_frames child.tables ≡ shared_frames d.space.tables
  child_shared = page_names is_shared names d.space.tables.pages ∙ same_names names (shared_frames d.space.tables) shared_stays

  -- ---- frames
  child_held : (g : ℕ) → among g (frames_held child) ≡ among g (map (slice_index names) (frames_owned d.space))
  child_held g =
      let h = held_is g child in let o = owned_is g child in
      let e = ap (λ xs. among g xs) child_owned in
      let a = ap (λ ts. among g (map table_frame_of ts)) was.aside in
      omega (arith, h, o, e, a)

  child_new : (g : ℕ) → 0 < among g (frames_held child) → (slice_get d.free g ≡ Some true) × (slice_get after g ≡ Some false)
  child_new g l =
      let r = named names (frames_owned d.space) g (let h = child_held g in omega (arith, h, l)) in
      let x = stands r.frame r.is_in in
      let to : x.to ≡ g = sym (name_is r.frame r.is_in) ∙ r.name in
      (subst (λ z. slice_get d.free z ≡ Some true) to x.was_free, subst (λ z. slice_get after z ≡ Some false) to x.is_taken)

  child_once : (g : ℕ) → among g (frames_held child) ≤ 1
  child_once g = let h = child_held g in let o = named_once names (frames_owned d.space) g own_once injective in omega (arith, h, o)

  child_vacant : (g : ℕ) → 0 < among g (frames_held child) → vacant d.free g ≡ 1
  child_vacant g l = ap one_where (child_new g l).0

  shared_same : (g : ℕ) → among g (shared_frames child.tables) ≡ among g (shared_frames d.space.tables)
  shared_same g = ap (λ xs. among g xs) child_shared

  child_fit : FramesFit child after
  child_fit = fits child after
      (λ g. once g (among g (frames_held child)) refl)
      (λ g l. taken g l (among g (frames_held child)) refl)
    where
      once : (g : ℕ) → (x : ℕ) → among g (frames_held child) ≡ x → among g (frames_held child) + among g (shared_frames child.tables) ≤ 1
      once g zero e = let k = held_once d.space d.free g start in let q = shared_same g in omega (arith, k, q, e)
      once g (suc x) e = let v = child_vacant g (omega (arith, e)) in let k = held_once d.space d.free g start in let q = shared_same g in let o = child_once g in omega (arith, v, k, q, o)

      taken : (g : ℕ) → 0 < among g (frames_held child) + among g (shared_frames child.tables) → (x : ℕ) → among g (frames_held child) ≡ x → slice_get after g ≡ Some false
      taken g l zero e = let q = shared_same g in each.taken g (held_taken d.space d.free g start (omega (arith, l, q, e)))
      taken g l (suc x) e = (child_new g (omega (arith, e))).1

  -- whatever is free now was free
  was_free : (g : ℕ) → slice_get after g ≡ Some true → slice_get d.free g ≡ Some true
  was_free g e = go (slice_get d.free g) refl
    where
      within : (xs ys : List Bool) (i : ℕ) (b : Bool) → length xs ≡ length ys → slice_get xs i ≡ Some b → slice_get ys i ≡ None → ⊥
      within [] ys i b l e f = let z : ⊥ = grind (arith, e) in z
      within (x ∷ xs) [] i b l e f = let z : ⊥ = omega (arith, l) in z
      within (x ∷ xs) (y ∷ ys) zero b l e f = let z : ⊥ = grind (arith, f) in z
      within (x ∷ xs) (y ∷ ys) (suc i) b l e f = within xs ys i b (omega (arith, l)) e f

      go : (x : Option Bool) → slice_get d.free g ≡ x → x ≡ Some true
      go (Some true) h = refl
      go (Some false) h = absurd (let t = each.taken g h in let z : Some true ≡ Some false = sym e ∙ t in let y : ⊥ = grind (arith, z) in y)
      go None h = absurd (within after d.free g true each.frames e h)

  fit_kept : (other : Space) → FramesFit other d.free → FramesFit other after
  fit_kept other k = fits other after
      (λ g. (let o = held_once other d.free g k in omega (arith, o)))
      (λ g l. each.taken g (held_taken other d.free g k l))

  -- ---- holders
  abbrev now : Regions
  now = hold (shared_frames child.tables) regions

  holds : (g : ℕ) → holders now g ≡ holders regions g + among g (shared_frames child.tables)
  holds g = hold_each (shared_frames child.tables) regions g (λ h l. (let q = shared_same h in let t = taken_small d.free h (held_taken d.space d.free h start (omega (arith, l, q))) in let k = was.shared.count in omega (arith, t, k)))

  free_unheld : (g : ℕ) → slice_get after g ≡ Some true → holders now g ≡ 0
  free_unheld g e =
      let w = was_free g e in
      let v : vacant d.free g ≡ 1 = ap one_where w in
      let z = was.shared.unheld g w in let h = holds g in let q = shared_same g in let k = held_once d.space d.free g start in
      omega (arith, v, z, h, q, k)

  -- the parts of a memory that was there
  kept : (other_kind : HeapKind) (other_batch : ℕ) (other : Space) → PartsFit other_kind other_batch regions other d.free → ((g : ℕ) → 0 < among g (frames_held other) → among g (shared_frames d.space.tables) ≡ 0) → PartsFit other_kind other_batch now other after
  kept other_kind other_batch other p none =
      let w = p.agrees in
      let l = each.frames in
      record {
        agrees = record {
          frames = w.frames ∙ sym l;
          count = w.count ∙ sym l;
          room = w.room ∙ ap (λ n. n + other.shadows) (sym l);
          root = w.root;
          aside = w.aside;
          heap = w.heap;
          shared = record {
            count = hold_length (shared_frames child.tables) regions ∙ was.shared.count ∙ sym l;
            first = w.shared.first;
            held = λ q m i e. (let h = w.shared.held q m i e in let k = holds m.frame in omega (arith, h, k));
            unheld = free_unheld;
          };
          ranges = w.ranges;
          apart = w.apart;
          taken = quiet_taken other after w.aside (fit_kept other (settled_frames other_kind other regions d.free w));
        };
        heap = p.heap;
        levels = p.levels;
        shadows = p.shadows;
        few = p.few;
        waits = p.waits;
        private = λ g m. (let z = p.private g m in let k = holds g in let q = shared_same g in let n = none g m in omega (arith, z, k, q, n));
      }

  own_not_shared : (g : ℕ) → 0 < among g (frames_held d.space) → among g (shared_frames d.space.tables) ≡ 0
  own_not_shared g l = let k = held_once d.space d.free g start in omega (arith, k, l)

  -- a frame that another holds alone is none of this one's regions, since it has no holder
  others_not_shared : (other_kind : HeapKind) (other_batch : ℕ) (other : Space) → PartsFit other_kind other_batch regions other d.free → HoldsApart other d.space → (g : ℕ) → 0 < among g (frames_held other) → among g (shared_frames d.space.tables) ≡ 0
  others_not_shared other_kind other_batch other p b g l =
      let k = b g in
      let m : among g (frames_mapped d.space) ≡ among g (frames_held d.space) + among g (shared_frames d.space.tables) = among-append g (frames_held d.space) (shared_frames d.space.tables) in
      omega (arith, k, m, l)

  -- ---- the child
  child_pages : (q : ℕ) → mapping_at child.tables.pages q ≡ option_map (new_mapping names) (mapping_at d.space.tables.pages q)
  child_pages q = mapping_at-renamed names d.space.tables.pages q

  child_some : (q : ℕ) → is_some (mapping_at child.tables.pages q) ≡ is_some (mapping_at d.space.tables.pages q)
  child_some q = ap is_some (child_pages q) ∙ some_still (new_mapping names) (mapping_at d.space.tables.pages q)

  child_tables : (l n : ℕ) → is_some (table_over child.tables.tables l n) ≡ is_some (table_over d.space.tables.tables l n)
  child_tables l n = ap is_some (frame_of-renamed names d.space.tables.tables l n) ∙ some_still (new_name names) (table_over d.space.tables.tables l n)

  child_mapped : (q page : ℕ) → mapping_at d.space.tables.pages q ≡ option_map read_write_at (frame_of d.space.heap.pages page) → mapping_at child.tables.pages q ≡ option_map read_write_at (frame_of child.heap.pages page)
  child_mapped q page e =
      child_pages q ∙ ap (option_map (new_mapping names)) e ∙ leaf_names names (frame_of d.space.heap.pages page)
      ∙ ap (option_map read_write_at) (sym (frame_of-rename names d.space.heap.pages page))

  child_heap : (k : HeapKind) → HeapAgrees k d.space → HeapAgrees k child
  child_heap Oscar g = record {
    granted = g.granted;
    limit = g.limit;
    canonical = λ q e. child_pages q ∙ none_still (new_mapping names) (mapping_at d.space.tables.pages q) (g.canonical q e);
    shadows = λ q e. child_some q ∙ g.shadows q e;
    held = g.held;
    own = g.own;
    backed = λ b h. (let x = g.backed b h in record { object = x.object; of = x.of; kept = x.kept; is = x.is });
    pages = g.pages;
    mapped = λ a i o l less. child_mapped (o.first + i) (o.canon / 4096 + i) (g.mapped a i o l less);
    small = g.small;
    waiting = record {
      few = g.waiting.few;
      apart = g.waiting.apart;
      known = g.waiting.known;
      dead = g.waiting.dead;
      linked = λ a q o w e h. child_tables 0 (q / 512) ∙ g.waiting.linked a q o w e h;
    };
  }
  child_heap Plain g = record {
    objects = g.objects;
    waiting = g.waiting;
    shadows = λ q e. child_pages q ∙ none_still (new_mapping names) (mapping_at d.space.tables.pages q) (g.shadows q e);
    canonical = λ q e. child_mapped q q (g.canonical q e);
  }

  child_is_heap : IsHeap (copy names d.space.heap)
  child_is_heap = copy_is_heap d.space.heap names settled.parts.heap (
    each.names ∙ sym was.frames,
    have d.space.heap.frames (map (rename names) d.space.heap.pages)
        (λ g. (let o = child_once g in let h = held_is g child in omega (arith, o, h)))
        (λ g l. (let h = held_is g child in let t = (child_new g (omega (arith, h, l))).1 in let m = taken_small after g t in let e = each.frames in let w = was.frames in omega (arith, m, e, w))),
  )

  child_parts : PartsFit kind batch now child after
  child_parts =
      let l = each.frames in
      record {
        agrees = record {
          frames = was.frames ∙ sym l;
          count = was.count ∙ sym l;
          room = was.room ∙ ap (λ n. n + d.space.shadows) (sym l);
          root = child_tables d.space.tables.top 0 ∙ was.root;
          aside = was.aside;
          heap = child_heap kind was.heap;
          shared = record {
            count = hold_length (shared_frames child.tables) regions ∙ was.shared.count ∙ sym l;
            first = λ q i. child_some q ∙ was.shared.first q i ∙ ap (λ n. nat_lt q (0x200000 + n)) (sym (page_total is_shared names d.space.tables.pages));
            held = λ q m i e. (let k = member_held is_shared child.tables.pages q m i e in let h = holds m.frame in omega (arith, k, h));
            unheld = free_unheld;
          };
          ranges = λ q e. was.ranges q (sym (child_some q) ∙ e);
          apart = quiet_apart child after was.aside child_fit;
          taken = quiet_taken child after was.aside child_fit;
        };
        heap = child_is_heap;
        levels = settled.parts.levels;
        shadows = settled.parts.shadows;
        few = settled.parts.few;
        waits = settled.parts.waits;
        private = λ g m. (let v = child_vacant g m in let w = (child_new g m).0 in let z = was.shared.unheld g w in let h = holds g in let q = shared_same g in let k = held_once d.space d.free g start in omega (arith, v, z, h, q, k));
      }

  -- ---- apart from the child
  no_child : (other : Space) → FramesFit other d.free → (g : ℕ) → 0 < among g (frames_held child) → among g (frames_mapped other) ≡ 0
  no_child other k g l =
      let v = child_vacant g l in let o = held_once other d.free g k in
      let m : among g (frames_mapped other) ≡ among g (frames_held other) + among g (shared_frames other.tables) = among-append g (frames_held other) (shared_frames other.tables) in
      omega (arith, v, o, m)

  child_apart : (other : Space) → FramesFit other d.free → HoldsApart child other
  child_apart other k g = go (among g (frames_held child)) refl
    where
      go : (x : ℕ) → among g (frames_held child) ≡ x → among g (frames_held child) + among g (frames_mapped other) ≤ 1
      go zero e =
          let o = held_once other d.free g k in
          let m : among g (frames_mapped other) ≡ among g (frames_held other) + among g (shared_frames other.tables) = among-append g (frames_held other) (shared_frames other.tables) in
          omega (arith, o, m, e)
      go (suc x) e = let z = no_child other k g (omega (arith, e)) in let o = child_once g in omega (arith, z, o)

  child_back : (other : Space) → FramesFit other d.free → ((g : ℕ) → 0 < among g (frames_held other) → among g (shared_frames d.space.tables) ≡ 0) → HoldsApart other child
  child_back other k none g = go (among g (frames_held other)) refl
    where
      mapped : among g (frames_mapped child) ≡ among g (frames_held child) + among g (shared_frames child.tables)
      mapped = among-append g (frames_held child) (shared_frames child.tables)

      theirs : among g (frames_mapped other) ≡ among g (frames_held other) + among g (shared_frames other.tables)
      theirs = among-append g (frames_held other) (shared_frames other.tables)

      go : (x : ℕ) → among g (frames_held other) ≡ x → among g (frames_held other) + among g (frames_mapped child) ≤ 1
      go zero e = let m = mapped in let o = held_once child after g child_fit in omega (arith, m, o, e)
      go (suc x) e =
          let m = mapped in let t = theirs in
          let a = child_apart other k g in
          let o = held_once other d.free g k in
          let n = none g (omega (arith, e)) in
          let q = shared_same g in
          omega (arith, m, t, a, o, n, q, e)

  words_fit : TellsEntries entries child.tables → CopyAgrees d.space.tables names after (words_after entries (d.jobs ++ (fork_plan d.space d.free).jobs) words)
  unfolding fork_plan
  words_fit t =
      subst (λ ws. CopyAgrees d.space.tables names after ws) (sym (words_after-append entries d.jobs (fork_plan d.space d.free).jobs words))
      (forks_agree kind entries d.space regions d.free (words_after entries d.jobs words) was settled.tables made t)

  -- ---- jobs
  child_has : (g : ℕ) → 0 < among g (frames_owned d.space) → 0 < among (slice_index names g) (frames_held child)
  child_has g l = let h = child_held (slice_index names g) in let n = name_in_list names (frames_owned d.space) g l in omega (arith, h, n)

  copy_where : (job : Job) → IsCopy d.space (length d.free) (fork_plan d.space d.free) job → WritesWhere (IsOwn child) job
  copy_where job i = subst (WritesWhere (IsOwn child)) i.is (go (is_some (piece_of d.space.tables.tables i.from)))
    where
      own_to : 0 < among i.to (frames_held child)
      own_to =
          let p = i.private in
          let m = member_counts i.from (frames_owned d.space) in
          let l : 0 < among i.from (frames_owned d.space) = grind (arith, nat_tests, p, m) in
          subst (λ x. 0 < among x (frames_held child)) (index_is names i.from i.to i.named) (child_has i.from l)

      go : (b : Bool) → WritesWhere (IsOwn child) (copy_by b (i.from, i.to))
      go true = own_to
      go false = (omega arith, omega arith, own_to)

  copies_where : (jobs : List Job) → AreCopies d.space (length d.free) (fork_plan d.space d.free) jobs → AllWriteWhere (IsOwn child) jobs
  copies_where [] a = tt
  copies_where (job ∷ jobs) a = (copy_where job a.0, copies_where jobs a.1)

  jobs_few : length (fork_plan d.space d.free).jobs ≤ length d.free
  unfolding fork_plan
  jobs_few =
      let a = length-mapped (copy_job d.space.tables) (copies d.space d.free) in
      let b = zip_few (private_frames d.space (length d.free)) (free_numbers d.free) in
      let n = numbers_count d.free in
      let m = free_count-le d.free in
      omega (arith, a, b, n, m)

  pushes : Pushed (IsOwn child) d.jobs (d.jobs ++ (fork_plan d.space d.free).jobs) (8 * length d.free + 64)
  pushes = record {
    more = (fork_plan d.space d.free).jobs;
    is = refl;
    few = (let a = jobs_few in omega (arith, a));
    within = copies_where (fork_plan d.space d.free).jobs each.only;
  }

  other_words : (other_kind : HeapKind) (other_batch : ℕ) (other : Space) → PartsFit other_kind other_batch regions other d.free
      → Agrees other.tables d.free (words_after entries d.jobs words) → Agrees other.tables after (words_after entries (d.jobs ++ (fork_plan d.space d.free).jobs) words)
  other_words k b o p g =
      let t = settled_frames k o regions d.free p.agrees in
      words_beside entries words child o d.free after d.jobs (d.jobs ++ (fork_plan d.space d.free).jobs) (8 * length d.free + 64) (child_apart o t) pushes g each.frames (fit_kept o t)

  pub fork_fits : ForkFits kind batch entries words regions (join (fork_plan d.space d.free).child.tables regions) d (fork_plan d.space d.free)
  unfolding fork_plan join
  fork_fits = record {
    takes = takes;
    parent = kept kind batch d.space settled.parts own_not_shared;
    child = child_parts;
    apart = child_back d.space start own_not_shared;
    apart_back = child_apart d.space start;
    holds = holds;
    same = child_shared;
    tables = words_fit;
    pushes = pushes;
    others = λ k b o p a. kept k b o p (others_not_shared k b o p a);
    others_apart = λ k b o p. child_apart o (settled_frames k o regions d.free p.agrees);
    others_back = λ k b o p a. child_back o (settled_frames k o regions d.free p.agrees) (others_not_shared k b o p a);
    others_tables = other_words;
  }

pub forks_fit : ForksFit
forks_fit kind batch entries words regions d k e = fork_fits kind batch entries words regions d k e
