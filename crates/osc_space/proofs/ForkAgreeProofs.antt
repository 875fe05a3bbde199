-- The law of a child's words: what copies need follows from the agreement of the parts.
use Rattle.std.proofs.Common.{ℕ, zero, suc, ◌+◌, ◌-◌, ◌/◌, ◌≡◌, ◌≢◌, ◌<◌, ◌==◌, ◌&&◌, ◌||◌, inl, inr, Bool, true, false, cond, Option, Some, None, List, [], ◌∷◌, ◌++◌, length, map, filter, slice_get, slice_index, arith, refl, ap, sym, subst, ◌∙◌}
use Rattle.std.specs.Prelude.{Contains, is_some, option_map, ◌⊎◌}
use Rattle.std.specs.List.{list_any}
use Rattle.std.proofs.lemmas.Bool.Decides.{nat_tests}
use Rattle.std.proofs.lemmas.List.Folds.{list_any-append}
use Rattle.osc_word.specs.declared.settings.HeapKind.{HeapKind}
use Rattle.osc_word.specs.declared.settings.HeapKind.TheVariants.{Oscar, Plain}
use Rattle.osc_word.specs.declared.job_list.Job.{Job}
use Rattle.osc_word.specs.declared.job_list.Job.TheVariants.{CopyWords, CopyTable}
use Rattle.osc_word.specs.AddressMap.{is_image_or_stack, is_shared, is_shadow, is_canonical_page}
use Rattle.osc_sv39.specs.declared.entries.Mapping.{Mapping}
use Rattle.osc_slot.specs.Heap.{frame_of}
use Rattle.osc_paging.specs.declared.Piece.{Piece}
use Rattle.osc_paging.specs.declared.Mapped.{Mapped}
use Rattle.osc_paging.specs.declared.TableFrame.{TableFrame}
use Rattle.osc_paging.specs.KeptTables.{KeptTables, piece_of, mapping_at}
use Rattle.osc_paging.specs.TableChanges.{renamed, renamed_table}
use Rattle.osc_paging.specs.Agree.{Agrees}
use Rattle.osc_paging.specs.CopyLaws.{IsTable, WritesElsewhere, CanCopy, CopiesTable, AllCopies, TellsEntries}
use Rattle.osc_paging.proofs.Copied.{copying_agrees}
use Rattle.osc_space.specs.declared.ObjectFact.{ObjectFact}
use Rattle.osc_space.specs.LeafFlags.{read_write_at}
use Rattle.osc_space.specs.Objects.{has_page, is_live, is_live_page}
use Rattle.osc_space.specs.Space.{Space}
use Rattle.osc_space.specs.Share.{Regions, shared_frames}
use Rattle.osc_space.specs.Fork.{Forked, table_frame_of, heap_frame_of, frame_of_page, image_frames, frames_owned, is_private, copy_by, copy_job, fork_plan}
use Rattle.osc_space.specs.ForkLaws.{CopiesApart, CopiesEach, IsCopy, AreCopies}
use Rattle.osc_space.specs.Agree.{AllTaken, frames_of, HeapAgrees, SpaceAgrees}
use Rattle.osc_space.specs.ForkAgrees.{ForksAgree}
use Rattle.osc_space.proofs.ForkLawProofs.{is_member, block_member, forks_apart, forks_copy_each}

-- ---- lists
get_small : (xs : List Bool) (i : ℕ) (x : Bool) → slice_get xs i ≡ Some x → i < length xs
get_small [] i x e = cc
get_small (y ∷ xs) zero x e = omega arith
get_small (y ∷ xs) (suc i) x e = let l = get_small xs i x e in omega (arith, l)

index_of : (xs : List ℕ) (i x : ℕ) → slice_get xs i ≡ Some x → slice_index xs i ≡ x
index_of [] i x e = cc
index_of (y ∷ xs) zero x e = cc
index_of (y ∷ xs) (suc i) x e = index_of xs i x e

taken_at : (free : List Bool) (frames : List ℕ) (f : ℕ) → AllTaken free frames → is_member f frames ≡ true → slice_get free f ≡ Some false
taken_at free [] f t m = cc
taken_at free (x ∷ frames) f t m = go (x == f) refl m (taken_at free frames f t.1)
  where
    go : (b : Bool) → (x == f) ≡ b → (b || is_member f frames) ≡ true → (is_member f frames ≡ true → slice_get free f ≡ Some false) → slice_get free f ≡ Some false
    go true e k rest = let is : x ≡ f = grind (arith, nat_tests, e) in subst (λ y. slice_get free y ≡ Some false) is t.0
    go false e k rest = rest k

either_true : (a b : Bool) → a ≡ true → (a || b) ≡ true
either_true true b e = refl
either_true false b e = cc

or_true : (a b : Bool) → b ≡ true → (a || b) ≡ true
or_true true b e = refl
or_true false b e = e

in_first : (f : ℕ) (xs ys : List ℕ) → is_member f xs ≡ true → is_member f (xs ++ ys) ≡ true
in_first f xs ys m = list_any-append (λ y. y == f) xs ys ∙ either_true (is_member f xs) (is_member f ys) m

in_second : (f : ℕ) (xs ys : List ℕ) → is_member f ys ≡ true → is_member f (xs ++ ys) ≡ true
in_second f xs ys m = list_any-append (λ y. y == f) xs ys ∙ or_true (is_member f xs) (is_member f ys) m

-- ---- tables
same : (f : ℕ) → (f == f) ≡ true
same f = grind (arith, nat_tests)

table_member : (tables : List TableFrame) (f : ℕ) → piece_of tables f ≢ None → is_member f (map table_frame_of tables) ≡ true
table_member [] f h = absurd (h refl)
table_member (t ∷ ts) f h = go (t.frame == f) h (table_member ts f)
  where
    go : (b : Bool) → cond b (Some t.piece) (piece_of ts f) ≢ None → (piece_of ts f ≢ None → is_member f (map table_frame_of ts) ≡ true) → (b || is_member f (map table_frame_of ts)) ≡ true
    go true k rest = refl
    go false k rest = rest k

table_private : (s : Space) (f : ℕ) → IsTable s.tables f → is_private s f ≡ true
table_private s f h =
    in_first f (map table_frame_of s.tables.tables ++ map heap_frame_of s.heap.pages) (image_frames s.tables)
    (in_first f (map table_frame_of s.tables.tables) (map heap_frame_of s.heap.pages) (table_member s.tables.tables f h))

-- no table has this name, where those before have others
renamed_none : (names : List ℕ) (tables : List TableFrame) (to : ℕ) → ((g : ℕ) → piece_of tables g ≢ None → slice_index names g ≢ to) → piece_of (map (renamed_table names) tables) to ≡ None
renamed_none names [] to h = refl
renamed_none names (t ∷ ts) to h = go (slice_index names t.frame == to) refl (renamed_none names ts to (λ g k. h g (later (t.frame == g) (piece_of ts g) k)))
  where
    later : (b : Bool) (o : Option Piece) → o ≢ None → cond b (Some t.piece) o ≢ None
    later true o k e = cc
    later false o k e = k e

    here : piece_of (t ∷ ts) t.frame ≢ None
    here e = let k : cond true (Some t.piece) (piece_of ts t.frame) ≡ None = subst (λ b. cond b (Some t.piece) (piece_of ts t.frame) ≡ None) (same t.frame) e in cc

    go : (b : Bool) → (slice_index names t.frame == to) ≡ b → piece_of (map (renamed_table names) ts) to ≡ None → cond b (Some t.piece) (piece_of (map (renamed_table names) ts) to) ≡ None
    go true e rest = absurd (h t.frame here (grind (arith, nat_tests, e)))
    go false e rest = rest

-- ---- mapped frames
mapped_member : (test : ℕ → Bool) (pages : List Mapped) (n : ℕ) (m : Mapping) → test n ≡ true → mapping_at pages n ≡ Some m → is_member m.frame (map frame_of_page (filter (λ (x : Mapped). test x.number) pages)) ≡ true
mapped_member test [] n m h e = cc
mapped_member test (x ∷ xs) n m h e = go (x.number == n) (test x.number) refl refl e (mapped_member test xs n m h)
  where
    frames : List ℕ
    frames = map frame_of_page (filter (λ (x : Mapped). test x.number) xs)

    go : (b c : Bool) → (x.number == n) ≡ b → test x.number ≡ c → cond b (Some x.mapping) (mapping_at xs n) ≡ Some m → (mapping_at xs n ≡ Some m → is_member m.frame frames ≡ true)
        → is_member m.frame (map frame_of_page (cond c (x ∷ filter (λ (x : Mapped). test x.number) xs) (filter (λ (x : Mapped). test x.number) xs))) ≡ true
    go true true i j k rest = let is : x.mapping ≡ m = cc in either_true (x.mapping.frame == m.frame) (is_member m.frame frames) (ap (λ y. y.frame == m.frame) is ∙ same m.frame)
    go true false i j k rest = let is : x.number ≡ n = grind (arith, nat_tests, i) in let t : test x.number ≡ test n = ap test is in absurd cc
    go false true i j k rest = or_true (x.mapping.frame == m.frame) (is_member m.frame frames) (rest k)
    go false false i j k rest = rest k

record Found (test : ObjectFact → Bool) (objects : List ObjectFact) : Type 0 where
  number : ℕ
  of : ObjectFact
  there : slice_get objects number ≡ Some of
  passes : test of ≡ true

found : (test : ObjectFact → Bool) (objects : List ObjectFact) → list_any test objects ≡ true → Found test objects
found test [] h = cc
found test (o ∷ objects) h = go (test o) refl h (found test objects)
  where
    go : (b : Bool) → test o ≡ b → (b || list_any test objects) ≡ true → (list_any test objects ≡ true → Found test objects) → Found test (o ∷ objects)
    go true e k rest = record { number = 0; of = o; there = refl; passes = e }
    go false e k rest = let r = rest k in record { number = suc r.number; of = r.of; there = r.there; passes = r.passes }

heap_taken : (s : Space) (free : List Bool) (page frame : ℕ) → AllTaken free (frames_of s) → frame_of s.heap.pages page ≡ Some frame → slice_get free frame ≡ Some false
heap_taken s free page frame t e =
    taken_at free (frames_of s) frame t
    (in_first frame (frames_owned s) (shared_frames s.tables)
    (in_first frame (map table_frame_of s.tables.tables ++ map heap_frame_of s.heap.pages) (image_frames s.tables)
    (in_second frame (map table_frame_of s.tables.tables) (map heap_frame_of s.heap.pages) (block_member s.heap.pages page frame e))))

over_block : (s : Space) (free : List Bool) (page : ℕ) (m : Mapping) → AllTaken free (frames_of s) → option_map read_write_at (frame_of s.heap.pages page) ≡ Some m → slice_get free m.frame ≡ Some false
over_block s free page m t e = go (frame_of s.heap.pages page) refl e
  where
    go : (o : Option ℕ) → frame_of s.heap.pages page ≡ o → option_map read_write_at o ≡ Some m → slice_get free m.frame ≡ Some false
    go None h k = cc
    go (Some frame) h k =
        let is : read_write_at frame ≡ m = cc in
        subst (λ x. slice_get free x.frame ≡ Some false) is (heap_taken s free page frame t h)

heap_mapped : (kind : HeapKind) (s : Space) (free : List Bool) (n : ℕ) (m : Mapping) → HeapAgrees kind s → AllTaken free (frames_of s) → mapping_at s.tables.pages n ≡ Some m → (is_shadow n || is_canonical_page n) ≡ true → slice_get free m.frame ≡ Some false
heap_mapped Plain s free n m h t e r = go (is_shadow n) refl r
  where
    go : (b : Bool) → is_shadow n ≡ b → (b || is_canonical_page n) ≡ true → slice_get free m.frame ≡ Some false
    go true i k = let none = h.shadows n i in cc
    go false i k = over_block s free n m t (sym (h.canonical n k) ∙ e)
heap_mapped Oscar s free n m h t e r = go (is_shadow n) refl r
  where
    live : is_live_page s.objects n ≡ true → slice_get free m.frame ≡ Some false
    live l =
        let f = found (λ o. is_live o && has_page n o) s.objects l in
        let p = f.passes in
        let lives : is_live f.of ≡ true = grind (arith, nat_tests, p) in
        let has : has_page n f.of ≡ true = grind (arith, nat_tests, p) in
        let at : f.of.first + (n - f.of.first) ≡ n = grind (arith, nat_tests, has) in
        let below : n - f.of.first < f.of.pages = grind (arith, nat_tests, has) in
        let k = h.mapped f.number (n - f.of.first) f.of (f.there, lives) below in
        over_block s free (f.of.canon / 4096 + (n - f.of.first)) m t (sym k ∙ ap (λ q. mapping_at s.tables.pages q) at ∙ e)

    go : (b : Bool) → is_shadow n ≡ b → (b || is_canonical_page n) ≡ true → slice_get free m.frame ≡ Some false
    go true i k = let x = h.shadows n i in live (sym x ∙ ap is_some e)
    go false i k = let none = h.canonical n k in cc

mapped_taken : (kind : HeapKind) (s : Space) (regions : Regions) (free : List Bool) (n : ℕ) (m : Mapping) → SpaceAgrees kind s regions free → mapping_at s.tables.pages n ≡ Some m → slice_get free m.frame ≡ Some false
mapped_taken kind s regions free n m a e = go (is_image_or_stack n) (is_shared n) refl refl (a.ranges n (ap is_some e))
  where
    go : (b c : Bool) → is_image_or_stack n ≡ b → is_shared n ≡ c → ((b || c) || is_shadow n || is_canonical_page n) ≡ true → slice_get free m.frame ≡ Some false
    go true c i j r =
        taken_at free (frames_of s) m.frame a.taken
        (in_first m.frame (frames_owned s) (shared_frames s.tables)
        (in_second m.frame (map table_frame_of s.tables.tables ++ map heap_frame_of s.heap.pages) (image_frames s.tables) (mapped_member is_image_or_stack s.tables.pages n m i e)))
    go false true i j r =
        taken_at free (frames_of s) m.frame a.taken
        (in_second m.frame (frames_owned s) (shared_frames s.tables) (mapped_member is_shared s.tables.pages n m j e))
    go false false i j r = heap_mapped kind s free n m a.heap a.taken e r

-- ---- the copies
named_small : (s : Space) (free : List Bool) (f : Forked) (c : CopiesApart s free f) (frame : ℕ) → frame < length free → slice_index f.names frame < length free
named_small s free f c frame l = go (is_private s frame) refl
  where
    go : (b : Bool) → is_private s frame ≡ b → slice_index f.names frame < length free
    go true h = let n = c.copied frame l h in rw (index_of f.names frame n.to n.named) (get_small free n.to true n.was_free)
    go false h = rw (index_of f.names frame frame (c.others frame l h)) l

no_table : (t : KeptTables) (free : List Bool) (words : List ℕ) (to : ℕ) → Agrees t free words → slice_get free to ≡ Some true → piece_of t.tables to ≡ None
no_table t free words to w e = go (piece_of t.tables to) refl
  where
    go : (o : Option Piece) → piece_of t.tables to ≡ o → o ≡ None
    go None h = refl
    go (Some p) h = let k = w.taken to p h in absurd cc

table_small : (t : KeptTables) (free : List Bool) (words : List ℕ) (f : ℕ) → Agrees t free words → IsTable t f → f < length free
table_small t free words f w h = go (piece_of t.tables f) refl h
  where
    go : (o : Option Piece) → piece_of t.tables f ≡ o → o ≢ None → f < length free
    go None e k = absurd (k refl)
    go (Some p) e k = get_small free f false (w.taken f p e)

can_copy : (kind : HeapKind) (s : Space) (regions : Regions) (free : List Bool) (words : List ℕ) (f : Forked) → SpaceAgrees kind s regions free → Agrees s.tables free words → CopiesApart s free f → CopiesEach s free f → CanCopy s.tables f.names free f.free
can_copy kind s regions free words f a w c e = record {
  no_aside = a.aside;
  different = λ x y h k i.
      let m = c.copied x (small x h) (table_private s x h) in
      let n = c.copied y (small y k) (table_private s y k) in
      let same_name : m.to ≡ n.to = sym (index_of f.names x m.to m.named) ∙ i ∙ index_of f.names y n.to n.named in
      c.apart x y n.to (small x h) (small y k) (table_private s x h) (table_private s y k) (m.named ∙ ap Some same_name) n.named;
  new = λ x h. let m = c.copied x (small x h) (table_private s x h) in rw (index_of f.names x m.to m.named) (no_table s.tables free words m.to w m.was_free);
  taken = λ x h. let m = c.copied x (small x h) (table_private s x h) in rw (index_of f.names x m.to m.named) m.is_taken;
  frames = λ n m h. named_small s free f c m.frame (get_small free m.frame false (mapped_taken kind s regions free n m a h));
  keeps = record { size = e.frames; taken = e.taken };
}
  where
    small : (x : ℕ) → IsTable s.tables x → x < length free
    small x h = table_small s.tables free words x w h

copy_fits : (kind : HeapKind) (s : Space) (regions : Regions) (free : List Bool) (words : List ℕ) (f : Forked) (job : Job) → SpaceAgrees kind s regions free → Agrees s.tables free words → CopiesApart s free f → IsCopy s (length free) f job
    → CopiesTable s.tables f.names job ⊎ (WritesElsewhere s.tables job × WritesElsewhere (renamed f.names s.tables) job)
copy_fits kind s regions free words f job a w c i = go (piece_of s.tables.tables i.from) refl i.is
  where
    copied : slice_get free i.to ≡ Some true
    copied =
        let m = c.copied i.from i.within i.private in
        let k : Some m.to ≡ Some i.to = sym m.named ∙ i.named in
        let is : m.to ≡ i.to = cc in subst (λ x. slice_get free x ≡ Some true) is m.was_free

    aside : piece_of s.tables.aside i.to ≡ None
    aside = ap (λ x. piece_of x i.to) a.aside

    other : piece_of s.tables.tables i.from ≡ None → (g : ℕ) → piece_of s.tables.tables g ≢ None → slice_index f.names g ≢ i.to
    other none g h e =
        let l = table_small s.tables free words g w h in
        let m = c.copied g l (table_private s g h) in
        let to : m.to ≡ i.to = sym (index_of f.names g m.to m.named) ∙ e in
        let is : g ≡ i.from = c.apart g i.from i.to l i.within (table_private s g h) i.private (m.named ∙ ap Some to) i.named in
        h (subst (λ x. piece_of s.tables.tables x ≡ None) (sym is) none)

    go : (o : Option Piece) → piece_of s.tables.tables i.from ≡ o → copy_job s.tables (i.from, i.to) ≡ job
        → CopiesTable s.tables f.names job ⊎ (WritesElsewhere s.tables job × WritesElsewhere (renamed f.names s.tables) job)
    go (Some p) h e =
        let job_is : copy_job s.tables (i.from, i.to) ≡ CopyTable i.from i.to = ap (λ q. copy_by (is_some q) (i.from, i.to)) h in
        inl (record {
          from = i.from;
          table = λ k. (let z : Some p ≡ None = sym h ∙ k in cc);
          copies = sym e ∙ job_is ∙ ap (λ x. CopyTable i.from x) (sym (index_of f.names i.from i.to i.named));
        })
    go None h e =
        let job_is : copy_job s.tables (i.from, i.to) ≡ CopyWords (record { frame = i.from; index = 0 }) (record { frame = i.to; index = 0 }) 512 = ap (λ q. copy_by (is_some q) (i.from, i.to)) h in
        subst (λ j. CopiesTable s.tables f.names j ⊎ (WritesElsewhere s.tables j × WritesElsewhere (renamed f.names s.tables) j)) (sym job_is ∙ e)
        (inr ((omega arith, (no_table s.tables free words i.to w copied, aside)), (omega arith, (renamed_none f.names s.tables.tables i.to (other h), aside))))

all_fit : (kind : HeapKind) (s : Space) (regions : Regions) (free : List Bool) (words : List ℕ) (f : Forked) (jobs : List Job) → SpaceAgrees kind s regions free → Agrees s.tables free words → CopiesApart s free f → AreCopies s (length free) f jobs → AllCopies s.tables f.names jobs
all_fit kind s regions free words f [] a w c i = tt
all_fit kind s regions free words f (job ∷ jobs) a w c i = (copy_fits kind s regions free words f job a w c i.0, all_fit kind s regions free words f jobs a w c i.1)

each_table : (s : Space) (free : List Bool) (words : List ℕ) (f : Forked) (x : ℕ) → Agrees s.tables free words → CopiesApart s free f → CopiesEach s free f → IsTable s.tables x → Contains f.jobs (CopyTable x (slice_index f.names x))
each_table s free words f x w c e h =
    let l = table_small s.tables free words x w h in
    let p = table_private s x h in
    let m = c.copied x l p in
    rw (index_of f.names x m.to m.named) (go (piece_of s.tables.tables x) refl m.to (e.each x m.to l p m.named))
  where
    go : (o : Option Piece) → piece_of s.tables.tables x ≡ o → (to : ℕ) → Contains f.jobs (copy_job s.tables (x, to)) → Contains f.jobs (CopyTable x to)
    go None k to r = absurd (h k)
    go (Some p) k to r = let is : copy_job s.tables (x, to) ≡ CopyTable x to = ap (λ q. copy_by (is_some q) (x, to)) k in subst (λ j. Contains f.jobs j) is r

tells : (s : Space) (free : List Bool) (entries : ℕ → ℕ → ℕ) → TellsEntries entries (fork_plan s free).child.tables → TellsEntries entries (renamed (fork_plan s free).names s.tables)
unfolding fork_plan
tells s free entries t = t

pub forks_agree : ForksAgree
forks_agree kind entries s regions free words a w h told =
    let f = fork_plan s free in
    let c : CopiesApart s free f = forks_apart s free h in
    let e : CopiesEach s free f = forks_copy_each s free h in
    copying_agrees entries s.tables f.names free f.free words f.jobs w (can_copy kind s regions free words f a w c e)
    (all_fit kind s regions free words f f.jobs a w c e.only) (λ x k. each_table s free words f x w c e k) (tells s free entries told)
