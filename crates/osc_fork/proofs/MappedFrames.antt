-- The frames of a process whose parts agree are taken.
use Rattle.std.proofs.Common.{ℕ, zero, suc, ◌+◌, ◌-◌, ◌/◌, ◌≡◌, ◌≢◌, ◌<◌, ◌==◌, ◌&&◌, ◌||◌, Bool, true, false, cond, Option, Some, None, List, [], ◌∷◌, ◌++◌, length, map, filter, slice_get, slice_index, arith, refl, ap, sym, subst, ◌∙◌}
use Rattle.std.specs.Prelude.{is_some, option_map}
use Rattle.std.specs.List.{list_any}
use Rattle.std.proofs.lemmas.Bool.Decides.{nat_tests}
use Rattle.std.proofs.lemmas.List.Folds.{list_any-append}
use Rattle.osc_word.specs.declared.settings.HeapKind.{HeapKind}
use Rattle.osc_word.specs.declared.settings.HeapKind.TheVariants.{Oscar, Plain}
use Rattle.osc_word.specs.AddressMap.{is_image_or_stack, is_shared, is_shadow, is_canonical_page}
use Rattle.osc_sv39.specs.declared.entries.Mapping.{Mapping}
use Rattle.osc_slot.specs.Heap.{frame_of}
use Rattle.osc_paging.specs.declared.Mapped.{Mapped}
use Rattle.osc_paging.specs.declared.TableFrame.{TableFrame}
use Rattle.osc_paging.specs.KeptTables.{piece_of, mapping_at}
use Rattle.osc_space.specs.declared.ObjectFact.{ObjectFact}
use Rattle.osc_space.specs.LeafFlags.{read_write_at}
use Rattle.osc_space.specs.Objects.{has_page, is_live, is_live_page}
use Rattle.osc_space.specs.Space.{Space}
use Rattle.osc_space.specs.Share.{Regions, shared_frames}
use Rattle.osc_space.specs.Fork.{table_frame_of, heap_frame_of, frame_of_page, image_frames, frames_owned, is_private}
use Rattle.osc_space.specs.Agree.{AllTaken, frames_of, HeapAgrees, SpaceAgrees}
use Rattle.osc_space.proofs.ForkLawProofs.{is_member, block_member}
use Rattle.osc_paging.specs.CopyLaws.{IsTable}

-- ---- lists
pub get_small : (xs : List Bool) (i : ℕ) (x : Bool) → slice_get xs i ≡ Some x → i < length xs
get_small [] i x e = cc
get_small (y ∷ xs) zero x e = omega arith
get_small (y ∷ xs) (suc i) x e = let l = get_small xs i x e in omega (arith, l)

pub index_of : (xs : List ℕ) (i x : ℕ) → slice_get xs i ≡ Some x → slice_index xs i ≡ x
index_of [] i x e = cc
index_of (y ∷ xs) zero x e = cc
index_of (y ∷ xs) (suc i) x e = index_of xs i x e

pub taken_at : (free : List Bool) (frames : List ℕ) (f : ℕ) → AllTaken free frames → is_member f frames ≡ true → slice_get free f ≡ Some false
taken_at free [] f t m = cc
taken_at free (x ∷ frames) f t m = go (x == f) refl m (taken_at free frames f t.1)
  where
    go : (b : Bool) → (x == f) ≡ b → (b || is_member f frames) ≡ true → (is_member f frames ≡ true → slice_get free f ≡ Some false) → slice_get free f ≡ Some false
    go true e k rest = let is : x ≡ f = grind (arith, nat_tests, e) in subst (λ y. slice_get free y ≡ Some false) is t.0
    go false e k rest = rest k

pub either_true : (a b : Bool) → a ≡ true → (a || b) ≡ true
either_true true b e = refl
either_true false b e = cc

pub or_true : (a b : Bool) → b ≡ true → (a || b) ≡ true
or_true true b e = refl
or_true false b e = e

pub in_first : (f : ℕ) (xs ys : List ℕ) → is_member f xs ≡ true → is_member f (xs ++ ys) ≡ true
in_first f xs ys m = list_any-append (λ y. y == f) xs ys ∙ either_true (is_member f xs) (is_member f ys) m

pub in_second : (f : ℕ) (xs ys : List ℕ) → is_member f ys ≡ true → is_member f (xs ++ ys) ≡ true
in_second f xs ys m = list_any-append (λ y. y == f) xs ys ∙ or_true (is_member f xs) (is_member f ys) m

-- ---- tables
pub same : (f : ℕ) → (f == f) ≡ true
same f = grind (arith, nat_tests)

pub table_member : (tables : List TableFrame) (f : ℕ) → piece_of tables f ≢ None → is_member f (map table_frame_of tables) ≡ true
table_member [] f h = absurd (h refl)
table_member (t ∷ ts) f h = go (t.frame == f) h (table_member ts f)
  where
    go : (b : Bool) → cond b (Some t.piece) (piece_of ts f) ≢ None → (piece_of ts f ≢ None → is_member f (map table_frame_of ts) ≡ true) → (b || is_member f (map table_frame_of ts)) ≡ true
    go true k rest = refl
    go false k rest = rest k

pub table_private : (s : Space) (f : ℕ) → IsTable s.tables f → is_private s f ≡ true
table_private s f h =
    in_first f (map table_frame_of s.tables.tables ++ map heap_frame_of s.heap.pages) (image_frames s.tables)
    (in_first f (map table_frame_of s.tables.tables) (map heap_frame_of s.heap.pages) (table_member s.tables.tables f h))

-- ---- mapped frames
pub mapped_member : (test : ℕ → Bool) (pages : List Mapped) (n : ℕ) (m : Mapping) → test n ≡ true → mapping_at pages n ≡ Some m → is_member m.frame (map frame_of_page (filter (λ (x : Mapped). test x.number) pages)) ≡ true
mapped_member test [] n m h e = cc
mapped_member test (x ∷ xs) n m h e = go (x.number == n) (test x.number) refl refl e (mapped_member test xs n m h)
  where
    frames : List ℕ
    frames = map frame_of_page (filter (λ (x : Mapped). test x.number) xs)

    go : (b c : Bool) → (x.number == n) ≡ b → test x.number ≡ c → cond b (Some x.mapping) (mapping_at xs n) ≡ Some m → (mapping_at xs n ≡ Some m → is_member m.frame frames ≡ true)
        → is_member m.frame (map frame_of_page (cond c (x ∷ filter (λ (x : Mapped). test x.number) xs) (filter (λ (x : Mapped). test x.number) xs))) ≡ true
    go true true i j k rest = let is : x.mapping ≡ m = cc in either_true (x.mapping.frame == m.frame) (is_member m.frame frames) (ap (λ y. y.frame == m.frame) is ∙ same m.frame)
    go true false i j k rest = let is : x.number ≡ n = grind (arith, nat_tests, i) in let t : test x.number ≡ test n = ap test is in absurd cc
    go false true i j k rest = or_true (x.mapping.frame == m.frame) (is_member m.frame frames) (rest k)
    go false false i j k rest = rest k

pub record Found (test : ObjectFact → Bool) (objects : List ObjectFact) : Type 0 where
  pub number : ℕ
  pub of : ObjectFact
  pub there : slice_get objects number ≡ Some of
  pub passes : test of ≡ true

pub found : (test : ObjectFact → Bool) (objects : List ObjectFact) → list_any test objects ≡ true → Found test objects
found test [] h = cc
found test (o ∷ objects) h = go (test o) refl h (found test objects)
  where
    go : (b : Bool) → test o ≡ b → (b || list_any test objects) ≡ true → (list_any test objects ≡ true → Found test objects) → Found test (o ∷ objects)
    go true e k rest = record { number = 0; of = o; there = refl; passes = e }
    go false e k rest = let r = rest k in record { number = suc r.number; of = r.of; there = r.there; passes = r.passes }

pub heap_taken : (s : Space) (free : List Bool) (page frame : ℕ) → AllTaken free (frames_of s) → frame_of s.heap.pages page ≡ Some frame → slice_get free frame ≡ Some false
heap_taken s free page frame t e =
    taken_at free (frames_of s) frame t
    (in_first frame (frames_owned s) (shared_frames s.tables)
    (in_first frame (map table_frame_of s.tables.tables ++ map heap_frame_of s.heap.pages) (image_frames s.tables)
    (in_second frame (map table_frame_of s.tables.tables) (map heap_frame_of s.heap.pages) (block_member s.heap.pages page frame e))))

over_block : (s : Space) (free : List Bool) (page : ℕ) (m : Mapping) → AllTaken free (frames_of s) → option_map read_write_at (frame_of s.heap.pages page) ≡ Some m → slice_get free m.frame ≡ Some false
over_block s free page m t e = go (frame_of s.heap.pages page) refl e
  where
    go : (o : Option ℕ) → frame_of s.heap.pages page ≡ o → option_map read_write_at o ≡ Some m → slice_get free m.frame ≡ Some false
    go None h k = cc
    go (Some frame) h k =
        let is : read_write_at frame ≡ m = cc in
        subst (λ x. slice_get free x.frame ≡ Some false) is (heap_taken s free page frame t h)

heap_mapped : (kind : HeapKind) (s : Space) (free : List Bool) (n : ℕ) (m : Mapping) → HeapAgrees kind s → AllTaken free (frames_of s) → mapping_at s.tables.pages n ≡ Some m → (is_shadow n || is_canonical_page n) ≡ true → slice_get free m.frame ≡ Some false
heap_mapped Plain s free n m h t e r = go (is_shadow n) refl r
  where
    go : (b : Bool) → is_shadow n ≡ b → (b || is_canonical_page n) ≡ true → slice_get free m.frame ≡ Some false
    go true i k = let none = h.shadows n i in cc
    go false i k = over_block s free n m t (sym (h.canonical n k) ∙ e)
heap_mapped Oscar s free n m h t e r = go (is_shadow n) refl r
  where
    live : is_live_page s.objects n ≡ true → slice_get free m.frame ≡ Some false
    live l =
        let f = found (λ o. is_live o && has_page n o) s.objects l in
        let p = f.passes in
        let lives : is_live f.of ≡ true = grind (arith, nat_tests, p) in
        let has : has_page n f.of ≡ true = grind (arith, nat_tests, p) in
        let at : f.of.first + (n - f.of.first) ≡ n = grind (arith, nat_tests, has) in
        let below : n - f.of.first < f.of.pages = grind (arith, nat_tests, has) in
        let k = h.mapped f.number (n - f.of.first) f.of (f.there, lives) below in
        over_block s free (f.of.canon / 4096 + (n - f.of.first)) m t (sym k ∙ ap (λ q. mapping_at s.tables.pages q) at ∙ e)

    go : (b : Bool) → is_shadow n ≡ b → (b || is_canonical_page n) ≡ true → slice_get free m.frame ≡ Some false
    go true i k = let x = h.shadows n i in live (sym x ∙ ap is_some e)
    go false i k = let none = h.canonical n k in cc

pub mapped_taken : (kind : HeapKind) (s : Space) (regions : Regions) (free : List Bool) (n : ℕ) (m : Mapping) → SpaceAgrees kind s regions free → mapping_at s.tables.pages n ≡ Some m → slice_get free m.frame ≡ Some false
mapped_taken kind s regions free n m a e = go (is_image_or_stack n) (is_shared n) refl refl (a.ranges n (ap is_some e))
  where
    go : (b c : Bool) → is_image_or_stack n ≡ b → is_shared n ≡ c → ((b || c) || is_shadow n || is_canonical_page n) ≡ true → slice_get free m.frame ≡ Some false
    go true c i j r =
        taken_at free (frames_of s) m.frame a.taken
        (in_first m.frame (frames_owned s) (shared_frames s.tables)
        (in_second m.frame (map table_frame_of s.tables.tables ++ map heap_frame_of s.heap.pages) (image_frames s.tables) (mapped_member is_image_or_stack s.tables.pages n m i e)))
    go false true i j r =
        taken_at free (frames_of s) m.frame a.taken
        (in_second m.frame (frames_owned s) (shared_frames s.tables) (mapped_member is_shared s.tables.pages n m j e))
    go false false i j r = heap_mapped kind s free n m a.heap a.taken e r
