-- A fork: the copies are those of the plan, and what the child's parts ask for follows from the laws of
-- copies and the agreement of the parts.
use Rattle.std.proofs.Common.{ℕ, zero, suc, ◌≡◌, ◌≢◌, ◌<◌, ◌≤◌, ◌-◌, ◌/◌, ◌==◌, nat_lt, cond, Bool, true, false, Some, None, List, [], ◌∷◌, ◌++◌, length, map, get_or, arith, refl, sym, subst, ap, ◌∙◌}
use Rattle.std.specs.Prelude.{All, is_some, slice_index}
use Rattle.std.specs.List.{range_with_len}
use Rattle.std.proofs.lemmas.Bool.Decides.{nat_tests}
use Rattle.std.proofs.lemmas.List.Folds.{list_any-append}
use Rattle.osc_word.specs.declared.job_list.Job.{Job}
use Rattle.osc_word.specs.declared.settings.HeapKind.{HeapKind}
use Rattle.osc_word.specs.declared.calls.Answer.TheVariants as answer
use Rattle.osc_sv39.specs.declared.entries.Mapping.{Mapping}
use Rattle.osc_frames.specs.Free.{free_count}
use Rattle.osc_slot.specs.declared.HeapPage.{HeapPage}
use Rattle.osc_slot.specs.Heap.{Heap, IsHeap, HaveFrames, has_frame, rename, copy, AreNames}
use Rattle.osc_paging.specs.declared.Mapped.{Mapped}
use Rattle.osc_paging.specs.declared.TableFrame.{TableFrame}
use Rattle.osc_paging.specs.KeptTables.{KeptTables, mapping_at, piece_of, table_at}
use Rattle.osc_paging.specs.TableChanges.{renamed}
use Rattle.osc_tables.specs.Inside.{AscendFrom}
use Rattle.osc_tables.specs.Calls.{CanRename}
use Rattle.osc_mark.specs.Grants.{Grants}
use Rattle.osc_space.specs.declared.ObjectFact.{ObjectFact}
use Rattle.osc_space.specs.Objects.{fact}
use Rattle.osc_space.specs.Space.{Space, first_reason}
use Rattle.osc_space.specs.Share.{Regions, shared_frames}
use Rattle.osc_space.specs.Fork.{table_frame_of, heap_frame_of, image_frames, frames_owned, is_private, set_free, copies, copy_job, name_in, fork_reasons, fork_plan}
use Rattle.osc_space.specs.ForkLaws.{CopiesApart, CopiesEach}
use Rattle.osc_space.specs.Agree.{AreApart, AllTaken, frames_of, SpaceAgrees}
use Rattle.osc_space.proofs.RefusalLawProofs.{fork_refused}
use Rattle.osc_space.proofs.ForkLawProofs.{is_member, forks_apart, forks_copy_each}
use Rattle.osc_fork.specs.declared.plan.ForkPlan.TheVariants.{Copied}
use Rattle.osc_fork.specs.Names.{Known, to_copy, AreMarked, mark_all, frames_between, MarksMore, AreBacked, AreFound, marked_copies, marked_frames}
use Rattle.osc_fork.specs.Plan.{PartsAgree, space_of, Forking, forking, IsForkPlan}
use Rattle.osc_fork.proofs.Known.{known, marked_are, there, tables_taken_all}
use Rattle.osc_fork.proofs.Firsts.{not_below}
use Rattle.osc_fork.proofs.MappedFrames.{get_small, index_of, taken_at, in_first, in_second, mapped_taken, table_private}

-- the names after the frames were found, for any objects that wait
pub known_names : (t : KeptTables) (marks : Grants) (heap : Heap) (free : List Bool) (names low high now : List ℕ) → PartsAgree t marks heap free → AscendFrom 0 t.pages → IsHeap heap
    → length names ≡ length free → AreMarked (λ frame. is_some (table_at t frame)) names → low ≡ mark_all (frames_between 0 2097152 t) names → high ≡ mark_all (frames_between 33554432 67108864 t) low
    → MarksMore heap.pages high now
    → ((object : ℕ) (o : ObjectFact) → fact marks.objects object ≡ Some o → AreBacked heap.pages ((o.canon - 16) / 4096) o.pages → AreFound heap.pages ((o.canon - 16) / 4096) o.pages now)
    → (waiting : List ℕ) → Known (space_of t marks heap waiting) free now
known_names t marks heap free names low high now parts ascend is_heap size tables e f more founds waiting =
    let all : high ≡ mark_all (frames_between 33554432 67108864 t) (mark_all (frames_between 0 2097152 t) names) = f ∙ ap (λ xs. mark_all (frames_between 33554432 67108864 t) xs) e in
    let k = known parts.kind (space_of t marks heap parts.waiting) parts.regions free names now parts.few parts.agrees ascend is_heap size tables (subst (λ xs. MarksMore heap.pages xs now) all more) founds in
    record { size = k.size; copied = k.copied; others = k.others }

-- ---- refusals
pub is_refused : (s : Space) (free : List Bool) (names : List ℕ) → length free ≤ 4096 → Known s free names → free_count free < length (marked_frames names) → first_reason (fork_reasons s free) ≡ Some answer.NoFrames
is_refused s free names few k over = (fork_refused s free).lack (subst (λ xs. free_count free < length xs) (marked_are s free names few k) over)

pub is_none : (s : Space) (free : List Bool) (names : List ℕ) → length free ≤ 4096 → Known s free names → length (marked_frames names) ≤ free_count free → first_reason (fork_reasons s free) ≡ None
is_none s free names few k enough = (fork_refused s free).none (subst (λ xs. length xs ≤ free_count free) (marked_are s free names few k) enough)

pub refused_by : (s : Space) (free : List Bool) (names : List ℕ) (lacks : Bool) → length free ≤ 4096 → Known s free names → lacks ≡ nat_lt (free_count free) (length (marked_frames names))
    → first_reason (fork_reasons s free) ≡ cond lacks (Some answer.NoFrames) None
refused_by s free names true few k e = is_refused s free names few k (grind (arith, nat_tests, e))
refused_by s free names false few k e = is_none s free names few k (grind (arith, nat_tests, e))

pub stands_for_itself : (s : Space) (free : List Bool) (names : List ℕ) → Known s free names → (frame : ℕ) → frame < length names → get_or names frame 0 ≢ to_copy → get_or names frame 0 ≡ frame
stands_for_itself s free names k frame l ne = go (is_private s frame) refl
  where
    within : frame < length free
    within = let size = k.size in omega (arith, l, size)

    go : (b : Bool) → is_private s frame ≡ b → get_or names frame 0 ≡ frame
    go true p = absurd (ne (k.copied frame within p))
    go false p = k.others frame within p

-- ---- the copies
copies_are : (s : Space) (free : List Bool) (names : List ℕ) → length free ≤ 4096 → Known s free names → marked_copies names free ≡ copies s free
copies_are s free names few k = rw (marked_are s free names few k) refl

pub names_are : (s : Space) (free : List Bool) (names now : List ℕ) → length free ≤ 4096 → Known s free names → now ≡ map (name_in (marked_copies names free)) (range_with_len 0 (length names)) → now ≡ (fork_plan s free).names
unfolding fork_plan
names_are s free names now few k e = e ∙ rw (copies_are s free names few k, k.size) refl

-- ---- the names of private frames
record Names (s : Space) (free : List Bool) (names : List ℕ) : Type 0 where
  size : length names ≡ length free
  apart : (a b : ℕ) → a < length free → b < length free → is_private s a ≡ true → is_private s b ≡ true → slice_index names a ≡ slice_index names b → a ≡ b
  small : (a : ℕ) → a < length free → is_private s a ≡ true → slice_index names a < length free

names_of : (s : Space) (free : List Bool) → first_reason (fork_reasons s free) ≡ None → Names s free (fork_plan s free).names
names_of s free none =
    let f = fork_plan s free in
    let c : CopiesApart s free f = forks_apart s free none in
    let e : CopiesEach s free f = forks_copy_each s free none in
    record {
      size = e.names;
      apart = λ a b l m p q g.
          let x = c.copied a l p in
          let y = c.copied b m q in
          let same : x.to ≡ y.to = sym (index_of f.names a x.to x.named) ∙ g ∙ index_of f.names b y.to y.named in
          c.apart a b y.to l m p q (x.named ∙ ap Some same) y.named;
      small = λ a l p. (let x = c.copied a l p in rw (index_of f.names a x.to x.named) (get_small free x.to true x.was_free));
    }

-- ---- the child's tables
tables_small : (free : List Bool) (tables : List TableFrame) → AllTaken free (map table_frame_of tables) → All (λ (x : TableFrame). x.frame < length free) tables
tables_small free [] t = λ k d s. absurd (omega arith)
tables_small free (x ∷ tables) t = λ k d s. go k d s (tables_small free tables t.1)
  where
    go : (k : ℕ) (d : TableFrame) → k < length (x ∷ tables) → All (λ (y : TableFrame). y.frame < length free) tables → (get_or (x ∷ tables) k d).frame < length free
    go zero d s on = get_small free x.frame false t.0
    go (suc k) d s on = on k d (omega (arith, s))

pages_small : (low n : ℕ) (ms : List Mapped) → AscendFrom low ms → ((q : ℕ) (m : Mapping) → mapping_at ms q ≡ Some m → m.frame < n) → All (λ (m : Mapped). m.mapping.frame < n) ms
pages_small low n [] a h = λ k d s. absurd (omega arith)
pages_small low n (x ∷ ms) a h = λ k d s. go k d s (pages_small (suc x.number) n ms a.1 (λ q m e. h q m (later q m e)))
  where
    later : (q : ℕ) (m : Mapping) → mapping_at ms q ≡ Some m → mapping_at (x ∷ ms) q ≡ Some m
    later q m e =
        let up = not_below (suc x.number) q ms m a.1 e in
        let other : (x.number == q) ≡ false = grind (arith, nat_tests, up) in
        rw other e

    go : (k : ℕ) (d : Mapped) → k < length (x ∷ ms) → All (λ (m : Mapped). m.mapping.frame < n) ms → (get_or (x ∷ ms) k d).mapping.frame < n
    go zero d s on = h x.number x.mapping (there x ms)
    go (suc k) d s on = on k d (omega (arith, s))

table_small : (s : Space) (free : List Bool) (frame : ℕ) → AllTaken free (frames_of s) → piece_of s.tables.tables frame ≢ None → frame < length free
table_small s free frame t h =
    let p = table_private s frame h in
    get_small free frame false (taken_at free (frames_of s) frame t (in_first frame (frames_owned s) (shared_frames s.tables) p))

pub can_rename : (kind : HeapKind) (s : Space) (regions : Regions) (free : List Bool) → SpaceAgrees kind s regions free → AscendFrom 0 s.tables.pages → first_reason (fork_reasons s free) ≡ None → CanRename s.tables (fork_plan s free).names
can_rename kind s regions free agrees ascend none =
    let names = names_of s free none in
    let count = agrees.count in
    let tables : All (λ (x : TableFrame). x.frame < length free) s.tables.tables = tables_small free s.tables.tables (tables_taken_all s free agrees.taken) in
    let pages : All (λ (m : Mapped). m.mapping.frame < length free) s.tables.pages = pages_small 0 (length free) s.tables.pages ascend (λ q m e. get_small free m.frame false (mapped_taken kind s regions free q m agrees e)) in
    record {
      size = names.size ∙ sym count;
      tables = subst (λ n. All (λ (x : TableFrame). x.frame < n) s.tables.tables) (sym count) tables;
      pages = subst (λ n. All (λ (m : Mapped). m.mapping.frame < n) s.tables.pages) (sym count) pages;
      different = λ f g h k e. names.apart f g (table_small s free f agrees.taken h) (table_small s free g agrees.taken k) (table_private s f h) (table_private s g k) e;
    }

-- ---- the child's heap
apart_right : (xs ys : List ℕ) → AreApart (xs ++ ys) → AreApart ys
apart_right [] ys a = a
apart_right (x ∷ xs) ys a = apart_right xs ys a.1

apart_left : (xs ys : List ℕ) → AreApart (xs ++ ys) → AreApart xs
apart_left [] ys a = tt
apart_left (x ∷ xs) ys a =
    let e = list_any-append (λ y. y == x) xs ys in
    let h = a.0 in
    (grind (arith, nat_tests, e, h), apart_left xs ys a.1)

no_frame : (names : List ℕ) (to : ℕ) (pages : List HeapPage) → ((q : ℕ) → is_member q (map heap_frame_of pages) ≡ true → slice_index names q ≢ to) → has_frame to (map (rename names) pages) ≡ false
no_frame names to [] h = refl
no_frame names to (p ∷ pages) h =
    let on = no_frame names to pages (λ q m. h q (grind (arith, nat_tests, m))) in
    let here = h p.frame (grind (arith, nat_tests)) in
    let other : (slice_index names p.frame == to) ≡ false = grind (arith, nat_tests, here) in
    rw (other, on) refl

have_frames : (names : List ℕ) (n : ℕ) (pages : List HeapPage) → AreApart (map heap_frame_of pages)
    → ((a b : ℕ) → is_member a (map heap_frame_of pages) ≡ true → is_member b (map heap_frame_of pages) ≡ true → slice_index names a ≡ slice_index names b → a ≡ b)
    → ((a : ℕ) → is_member a (map heap_frame_of pages) ≡ true → slice_index names a < n) → HaveFrames n (map (rename names) pages)
unfolding HaveFrames
have_frames names n [] a d s = tt
have_frames names n (p ∷ pages) a d s = (
  s p.frame (here p pages),
  no_frame names (slice_index names p.frame) pages (λ q m e. (let is : q ≡ p.frame = d q p.frame (later q m) (here p pages) e in let none = a.0 in let g : is_member q (map heap_frame_of pages) ≡ is_member p.frame (map heap_frame_of pages) = ap (λ x. is_member x (map heap_frame_of pages)) is in cc)),
  have_frames names n pages a.1 (λ x y k l e. d x y (later x k) (later y l) e) (λ x k. s x (later x k)),
)
  where
    here : (p : HeapPage) (pages : List HeapPage) → is_member p.frame (map heap_frame_of (p ∷ pages)) ≡ true
    here p pages = grind (arith, nat_tests)

    later : (q : ℕ) → is_member q (map heap_frame_of pages) ≡ true → is_member q (map heap_frame_of (p ∷ pages)) ≡ true
    later q m = grind (arith, nat_tests, m)

heap_private : (s : Space) (frame : ℕ) → is_member frame (map heap_frame_of s.heap.pages) ≡ true → is_private s frame ≡ true
heap_private s frame m =
    in_first frame (map table_frame_of s.tables.tables ++ map heap_frame_of s.heap.pages) (image_frames s.tables)
    (in_second frame (map table_frame_of s.tables.tables) (map heap_frame_of s.heap.pages) m)

private_small : (s : Space) (free : List Bool) (frame : ℕ) → AllTaken free (frames_of s) → is_private s frame ≡ true → frame < length free
private_small s free frame t p = get_small free frame false (taken_at free (frames_of s) frame t (in_first frame (frames_owned s) (shared_frames s.tables) p))

pub are_names : (kind : HeapKind) (s : Space) (regions : Regions) (free : List Bool) → SpaceAgrees kind s regions free → first_reason (fork_reasons s free) ≡ None → AreNames s.heap.frames (fork_plan s free).names s.heap.pages
are_names kind s regions free agrees none =
    let names = names_of s free none in
    let apart = apart_right (map table_frame_of s.tables.tables) (map heap_frame_of s.heap.pages) (apart_left (map table_frame_of s.tables.tables ++ map heap_frame_of s.heap.pages) (image_frames s.tables) (apart_left (frames_owned s) (shared_frames s.tables) agrees.apart)) in
    let small : (a : ℕ) → is_member a (map heap_frame_of s.heap.pages) ≡ true → a < length free = λ a m. private_small s free a agrees.taken (heap_private s a m) in (
      names.size ∙ sym agrees.frames,
      subst (λ n. HaveFrames n (map (rename (fork_plan s free).names) s.heap.pages)) (sym agrees.frames)
          (have_frames (fork_plan s free).names (length free) s.heap.pages apart
          (λ a b k l e. names.apart a b (small a k) (small b l) (heap_private s a k) (heap_private s b l) e)
          (λ a k. names.small a (small a k) (heap_private s a k))),
    )

-- ---- the plan
pub is_forked : (t : KeptTables) (marks : Grants) (heap : Heap) (waiting : List ℕ) (old : Forking) (names now : List ℕ) (free : List Bool) (jobs : List Job)
    → length old.free ≤ 4096 → Known (space_of t marks heap waiting) old.free names → length (marked_frames names) ≤ free_count old.free
    → now ≡ map (name_in (marked_copies names old.free)) (range_with_len 0 (length names))
    → free ≡ set_free false (map (λ (c : ℕ × ℕ). c.1) (marked_copies names old.free)) old.free
    → jobs ≡ old.jobs ++ map (copy_job t) (marked_copies names old.free)
    → IsForkPlan (space_of t marks heap waiting) Copied old now (forking (renamed now t) marks (copy now heap) free jobs)
unfolding fork_plan
is_forked t marks heap waiting old names now free jobs few k enough e f g =
    let s = space_of t marks heap waiting in
    let same = copies_are s old.free names few k in
    let named : now ≡ (fork_plan s old.free).names = e ∙ rw (same, k.size) refl in
    let freed : free ≡ (fork_plan s old.free).free = f ∙ rw same refl in
    let pushed : jobs ≡ old.jobs ++ (fork_plan s old.free).jobs = g ∙ rw same refl in
    (is_none s old.free names few k enough, rw (named, freed, pushed) refl)
