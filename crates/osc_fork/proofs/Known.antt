-- The frames that were found are the private ones.
use Rattle.std.proofs.Common.{ℕ, zero, suc, ◌≡◌, ◌<◌, ◌≤◌, ◌+◌, ◌-◌, ◌/◌, ◌==◌, ◌||◌, Bool, true, false, cond, inl, inr, Option, Some, None, List, [], ◌∷◌, ◌++◌, length, set, map, filter, get_or, arith, refl, sym, subst, ap, ◌∙◌}
use Rattle.std.specs.Prelude.{All, is_some, option_map, count_by, ◌⊎◌}
use Rattle.std.specs.List.{range_with_len}
use Rattle.std.proofs.lemmas.Bool.Decides.{nat_tests}
use Rattle.std.proofs.lemmas.List.{length-set}
use Rattle.std.proofs.lemmas.List.Folds.{list_any-append}
use Rattle.std.proofs.lemmas.List.Sums.{sum_by-cons}
use Rattle.osc_word.specs.declared.settings.HeapKind.{HeapKind}
use Rattle.osc_word.specs.declared.settings.HeapKind.TheVariants.{Oscar, Plain}
use Rattle.osc_word.specs.AddressMap.{is_within, is_image_or_stack, is_shared, is_shadow, is_canonical_page, is_in_map}
use Rattle.osc_sv39.specs.declared.entries.Mapping.{Mapping}
use Rattle.osc_slot.specs.declared.HeapPage.{HeapPage}
use Rattle.osc_slot.specs.Heap.{IsHeap, frame_of}
use Rattle.osc_paging.specs.declared.Piece.{Piece}
use Rattle.osc_paging.specs.declared.Mapped.{Mapped}
use Rattle.osc_paging.specs.declared.TableFrame.{TableFrame}
use Rattle.osc_paging.specs.KeptTables.{KeptTables, mapping_at, piece_of, placed, table_at}
use Rattle.osc_tables.specs.Inside.{AscendFrom}
use Rattle.osc_space.specs.declared.ObjectFact.{ObjectFact}
use Rattle.osc_space.specs.LeafFlags.{read_write_at}
use Rattle.osc_space.specs.Objects.{fact}
use Rattle.osc_space.specs.Space.{Space}
use Rattle.osc_space.specs.Share.{Regions, shared_frames}
use Rattle.osc_space.specs.Fork.{table_frame_of, heap_frame_of, frame_of_page, image_frames, frames_owned, is_private, private_frames}
use Rattle.osc_space.specs.Agree.{AllTaken, frames_of, HeapAgrees, SpaceAgrees}
use Rattle.osc_space.proofs.ForkLawProofs.{is_member, block_member}
use Rattle.osc_fork.specs.Names.{Known, to_copy, AreMarked, mark_all, frames_between, MarksMore, AreBacked, AreFound, is_heap_frame, is_marked, marked_frames}
use Rattle.osc_fork.proofs.Blocks.{found_by_objects, found_as_mapped}
use Rattle.osc_fork.proofs.Firsts.{not_below}
use Rattle.osc_fork.proofs.MappedFrames.{get_small, taken_at, mapped_member}
use Rattle.osc_fork.proofs.Marks.{set_here, set_other, stays}

-- ---- lists of frames
pub taken_right : (free : List Bool) (xs ys : List ℕ) → AllTaken free (xs ++ ys) → AllTaken free ys
taken_right free [] ys t = t
taken_right free (x ∷ xs) ys t = taken_right free xs ys t.1

pub taken_left : (free : List Bool) (xs ys : List ℕ) → AllTaken free (xs ++ ys) → AllTaken free xs
taken_left free [] ys t = tt
taken_left free (x ∷ xs) ys t = (t.0, taken_left free xs ys t.1)

pub all_small : (free : List Bool) (xs : List ℕ) → AllTaken free xs → All (λ (frame : ℕ). frame < length free) xs
all_small free [] t = λ k d s. absurd (omega arith)
all_small free (x ∷ xs) t = λ k d s. go k d s (all_small free xs t.1)
  where
    go : (k d : ℕ) → k < length (x ∷ xs) → All (λ (frame : ℕ). frame < length free) xs → get_or (x ∷ xs) k d < length free
    go zero d s on = get_small free x false t.0
    go (suc k) d s on = on k d (omega (arith, s))

member_at : (xs : List ℕ) (k d : ℕ) → k < length xs → is_member (get_or xs k d) xs ≡ true
member_at [] k d s = absurd (omega arith)
member_at (x ∷ xs) zero d s = grind (arith, nat_tests)
member_at (x ∷ xs) (suc k) d s = let h = member_at xs k d (omega (arith, s)) in grind (arith, nat_tests, h)

-- ---- parts of a memory
pub heap_taken_all : (s : Space) (free : List Bool) → AllTaken free (frames_of s) → AllTaken free (map heap_frame_of s.heap.pages)
heap_taken_all s free t =
    taken_right free (map table_frame_of s.tables.tables) (map heap_frame_of s.heap.pages)
    (taken_left free (map table_frame_of s.tables.tables ++ map heap_frame_of s.heap.pages) (image_frames s.tables)
    (taken_left free (frames_owned s) (shared_frames s.tables) t))

pub tables_taken_all : (s : Space) (free : List Bool) → AllTaken free (frames_of s) → AllTaken free (map table_frame_of s.tables.tables)
tables_taken_all s free t =
    taken_left free (map table_frame_of s.tables.tables) (map heap_frame_of s.heap.pages)
    (taken_left free (map table_frame_of s.tables.tables ++ map heap_frame_of s.heap.pages) (image_frames s.tables)
    (taken_left free (frames_owned s) (shared_frames s.tables) t))

images_taken_all : (s : Space) (free : List Bool) → AllTaken free (frames_of s) → AllTaken free (image_frames s.tables)
images_taken_all s free t =
    taken_right free (map table_frame_of s.tables.tables ++ map heap_frame_of s.heap.pages) (image_frames s.tables)
    (taken_left free (frames_owned s) (shared_frames s.tables) t)

-- ---- the pages of the image and the stack
same : (n : ℕ) → (n == n) ≡ true
same n = grind (arith, nat_tests)

pub there : (m : Mapped) (ms : List Mapped) → mapping_at (m ∷ ms) m.number ≡ Some m.mapping
there m ms = rw (same m.number) refl

some_later : (m : Mapped) (ms : List Mapped) (q : ℕ) → is_some (mapping_at ms q) ≡ true → is_some (mapping_at (m ∷ ms) q) ≡ true
some_later m ms q e = go (m.number == q)
  where
    go : (b : Bool) → is_some (cond b (Some m.mapping) (mapping_at ms q)) ≡ true
    go true = refl
    go false = e

same_filter : (p q : ℕ → Bool) (ms : List Mapped) → ((n : ℕ) → is_some (mapping_at ms n) ≡ true → p n ≡ q n) → filter (λ (m : Mapped). p m.number) ms ≡ filter (λ (m : Mapped). q m.number) ms
same_filter p q [] h = refl
same_filter p q (m ∷ ms) h =
    let here = h m.number (ap is_some (there m ms)) in
    let rest = same_filter p q ms (λ n e. h n (some_later m ms n e)) in
    rw (here, rest) refl

in_low : (page : ℕ) → is_in_map page ≡ true → is_within 0 2097152 page ≡ is_image_or_stack page
in_low page e = go (is_image_or_stack page) refl e
  where
    go : (b : Bool) → is_image_or_stack page ≡ b → ((b || is_shared page) || is_shadow page || is_canonical_page page) ≡ true → is_within 0 2097152 page ≡ b
    go true i k = grind (arith, nat_tests, i)
    go false i k = grind (arith, nat_tests, k)

pub images_are : (s : Space) → ((page : ℕ) → is_some (mapping_at s.tables.pages page) ≡ true → is_in_map page ≡ true) → frames_between 0 2097152 s.tables ≡ image_frames s.tables
images_are s ranges = ap (λ (ms : List Mapped). map frame_of_page ms) (same_filter (λ n. is_within 0 2097152 n) is_image_or_stack s.tables.pages (λ n e. in_low n (ranges n e)))

pub images_small : (s : Space) (free : List Bool) → ((page : ℕ) → is_some (mapping_at s.tables.pages page) ≡ true → is_in_map page ≡ true) → AllTaken free (frames_of s) → All (λ (frame : ℕ). frame < length free) (frames_between 0 2097152 s.tables)
images_small s free ranges t = rw (images_are s ranges) (all_small free (image_frames s.tables) (images_taken_all s free t))

-- ---- canonical pages
abbrev canonical_frames : Space → List ℕ
canonical_frames s = frames_between 33554432 67108864 s.tables

canon_members : (low : ℕ) (ms : List Mapped) (pages : List HeapPage) (frame : ℕ) → AscendFrom low ms → ((q : ℕ) (m : Mapping) → is_canonical_page q ≡ true → mapping_at ms q ≡ Some m → is_heap_frame pages m.frame ≡ true)
    → is_member frame (map frame_of_page (filter (λ (m : Mapped). is_canonical_page m.number) ms)) ≡ true → is_heap_frame pages frame ≡ true
canon_members low [] pages frame a h e = cc
canon_members low (x ∷ ms) pages frame a h e = go (is_canonical_page x.number) refl e (canon_members (suc x.number) ms pages frame a.1 (λ q m c k. h q m c (later q m k)))
  where
    later : (q : ℕ) (m : Mapping) → mapping_at ms q ≡ Some m → mapping_at (x ∷ ms) q ≡ Some m
    later q m k =
        let up = not_below (suc x.number) q ms m a.1 k in
        let other : (x.number == q) ≡ false = grind (arith, nat_tests, up) in
        rw other k

    here : (b : Bool) → (x.mapping.frame == frame) ≡ b → is_canonical_page x.number ≡ true → (b || is_member frame (map frame_of_page (filter (λ (m : Mapped). is_canonical_page m.number) ms))) ≡ true
        → (is_member frame (map frame_of_page (filter (λ (m : Mapped). is_canonical_page m.number) ms)) ≡ true → is_heap_frame pages frame ≡ true) → is_heap_frame pages frame ≡ true
    here true i c k on = let is : x.mapping.frame ≡ frame = grind (arith, nat_tests, i) in subst (λ f. is_heap_frame pages f ≡ true) is (h x.number x.mapping c (there x ms))
    here false i c k on = on k

    go : (b : Bool) → is_canonical_page x.number ≡ b → is_member frame (map frame_of_page (cond b (x ∷ filter (λ (m : Mapped). is_canonical_page m.number) ms) (filter (λ (m : Mapped). is_canonical_page m.number) ms))) ≡ true
        → (is_member frame (map frame_of_page (filter (λ (m : Mapped). is_canonical_page m.number) ms)) ≡ true → is_heap_frame pages frame ≡ true) → is_heap_frame pages frame ≡ true
    go true c k on = here (x.mapping.frame == frame) refl c k on
    go false c k on = on k

canon_mapping : (kind : HeapKind) (s : Space) → HeapAgrees kind s → (q : ℕ) (m : Mapping) → is_canonical_page q ≡ true → mapping_at s.tables.pages q ≡ Some m → is_heap_frame s.heap.pages m.frame ≡ true
canon_mapping Oscar s h q m c e = let none = h.canonical q c in cc
canon_mapping Plain s h q m c e = go (frame_of s.heap.pages q) refl (sym (h.canonical q c) ∙ e)
  where
    go : (o : Option ℕ) → frame_of s.heap.pages q ≡ o → option_map read_write_at o ≡ Some m → is_heap_frame s.heap.pages m.frame ≡ true
    go None k f = cc
    go (Some frame) k f = let is : read_write_at frame ≡ m = cc in subst (λ (x : Mapping). is_heap_frame s.heap.pages x.frame ≡ true) is (block_member s.heap.pages q frame k)

canon_heap : (kind : HeapKind) (s : Space) (frame : ℕ) → HeapAgrees kind s → AscendFrom 0 s.tables.pages → is_member frame (canonical_frames s) ≡ true → is_heap_frame s.heap.pages frame ≡ true
canon_heap kind s frame h a e = canon_members 0 s.tables.pages s.heap.pages frame a (canon_mapping kind s h) e

pub canons_small : (kind : HeapKind) (s : Space) (free : List Bool) → HeapAgrees kind s → AscendFrom 0 s.tables.pages → AllTaken free (frames_of s) → All (λ (frame : ℕ). frame < length free) (frames_between 33554432 67108864 s.tables)
canons_small kind s free h a t k d l =
    let m = canon_heap kind s (get_or (canonical_frames s) k d) h a (member_at (canonical_frames s) k d l) in
    get_small free (get_or (canonical_frames s) k d) false (taken_at free (map heap_frame_of s.heap.pages) (get_or (canonical_frames s) k d) (heap_taken_all s free t) m)

-- ---- marks
pub length_mark : (frames names : List ℕ) → length (mark_all frames names) ≡ length names
length_mark [] names = refl
length_mark (x ∷ frames) names = length_mark frames (set names x to_copy) ∙ length-set names x to_copy

same_marked : (p q : ℕ → Bool) (names : List ℕ) → ((frame : ℕ) → p frame ≡ q frame) → AreMarked p names → AreMarked q names
same_marked p q names e h frame l = h frame l ∙ ap (λ b. cond b to_copy frame) (e frame)

set_marked : (p : ℕ → Bool) (x : ℕ) (names : List ℕ) → AreMarked p names → AreMarked (λ frame. p frame || (x == frame)) (set names x to_copy)
set_marked p x names h frame l = go (x == frame) refl
  where
    within : frame < length names
    within = let e = length-set names x to_copy in omega (arith, l, e)

    or_true : (b : Bool) → (b || true) ≡ true
    or_true true = refl
    or_true false = refl

    or_false : (b : Bool) → (b || false) ≡ b
    or_false true = refl
    or_false false = refl

    go : (b : Bool) → (x == frame) ≡ b → get_or (set names x to_copy) frame 0 ≡ cond (p frame || b) to_copy frame
    go true e =
        let is : x ≡ frame = grind (arith, nat_tests, e) in
        let here : get_or (set names frame to_copy) frame 0 ≡ to_copy = set_here names frame within in
        subst (λ y. get_or (set names y to_copy) frame 0 ≡ to_copy) (sym is) here ∙ sym (ap (λ b. cond b to_copy frame) (or_true (p frame)))
    go false e =
        let other : (frame == x) ≡ false = grind (arith, nat_tests, e) in
        set_other names x frame other ∙ h frame within ∙ sym (ap (λ b. cond b to_copy frame) (or_false (p frame)))

or_assoc : (a b c : Bool) → ((a || b) || c) ≡ (a || b || c)
or_assoc true b c = refl
or_assoc false b c = refl

all_marked : (p : ℕ → Bool) (frames names : List ℕ) → AreMarked p names → AreMarked (λ frame. p frame || is_member frame frames) (mark_all frames names)
all_marked p [] names h = same_marked p (λ frame. p frame || false) names (λ frame. or_none (p frame)) h
  where
    or_none : (b : Bool) → b ≡ (b || false)
    or_none true = refl
    or_none false = refl
all_marked p (x ∷ frames) names h =
    same_marked (λ frame. (p frame || (x == frame)) || is_member frame frames) (λ frame. p frame || is_member frame (x ∷ frames)) (mark_all frames (set names x to_copy)) (λ frame. grind (arith, nat_tests))
    (all_marked (λ frame. p frame || (x == frame)) frames (set names x to_copy) (set_marked p x names h))

-- ---- tables
table_is : (t : KeptTables) (frame : ℕ) → t.aside ≡ [] → is_some (table_at t frame) ≡ is_some (piece_of t.tables frame)
table_is t frame e = go (piece_of t.tables frame) (piece_of t.aside frame) (ap (λ xs. piece_of xs frame) e)
  where
    go : (o p : Option Piece) → p ≡ None → is_some (placed t o p) ≡ is_some o
    go (Some x) p k = refl
    go None None k = refl
    go None (Some x) k = cc

table_test : (tables : List TableFrame) (frame : ℕ) → is_some (piece_of tables frame) ≡ is_member frame (map table_frame_of tables)
table_test [] frame = refl
table_test (x ∷ tables) frame = go (x.frame == frame) (table_test tables frame)
  where
    go : (b : Bool) → is_some (piece_of tables frame) ≡ is_member frame (map table_frame_of tables) → is_some (cond b (Some x.piece) (piece_of tables frame)) ≡ (b || is_member frame (map table_frame_of tables))
    go true e = refl
    go false e = e

private_is : (s : Space) (frame : ℕ) → is_private s frame ≡ ((is_member frame (map table_frame_of s.tables.tables) || is_member frame (map heap_frame_of s.heap.pages)) || is_member frame (image_frames s.tables))
private_is s frame =
    list_any-append (λ y. y == frame) (map table_frame_of s.tables.tables ++ map heap_frame_of s.heap.pages) (image_frames s.tables)
    ∙ ap (λ b. b || is_member frame (image_frames s.tables)) (list_any-append (λ y. y == frame) (map table_frame_of s.tables.tables) (map heap_frame_of s.heap.pages))

-- ---- all
pub known : (kind : HeapKind) (s : Space) (regions : Regions) (free : List Bool) (names now : List ℕ) → length free ≤ 4096 → SpaceAgrees kind s regions free → AscendFrom 0 s.tables.pages → IsHeap s.heap
    → length names ≡ length free → AreMarked (λ frame. is_some (table_at s.tables frame)) names
    → MarksMore s.heap.pages (mark_all (frames_between 33554432 67108864 s.tables) (mark_all (frames_between 0 2097152 s.tables) names)) now
    → ((object : ℕ) (o : ObjectFact) → fact s.objects object ≡ Some o → AreBacked s.heap.pages ((o.canon - 16) / 4096) o.pages → AreFound s.heap.pages ((o.canon - 16) / 4096) o.pages now)
    → Known s free now
known kind s regions free names now few agrees ascend heap size tables more founds = record {
  size = more.size ∙ before_size;
  copied = λ frame l p. to_copy_where frame l (is_member frame (map heap_frame_of s.heap.pages)) refl p;
  others = λ frame l p. stands frame l p (more.each frame);
}
  where
    before_size : length (mark_all (frames_between 33554432 67108864 s.tables) (mark_all (frames_between 0 2097152 s.tables) names)) ≡ length free
    before_size = length_mark (frames_between 33554432 67108864 s.tables) (mark_all (frames_between 0 2097152 s.tables) names) ∙ length_mark (frames_between 0 2097152 s.tables) names ∙ size

    marked : AreMarked (λ frame. (is_some (table_at s.tables frame) || is_member frame (frames_between 0 2097152 s.tables)) || is_member frame (frames_between 33554432 67108864 s.tables)) (mark_all (frames_between 33554432 67108864 s.tables) (mark_all (frames_between 0 2097152 s.tables) names))
    marked = all_marked _ (frames_between 33554432 67108864 s.tables) (mark_all (frames_between 0 2097152 s.tables) names) (all_marked _ (frames_between 0 2097152 s.tables) names tables)

    table : (frame : ℕ) → is_some (table_at s.tables frame) ≡ is_member frame (map table_frame_of s.tables.tables)
    table frame = table_is s.tables frame agrees.aside ∙ table_test s.tables.tables frame

    image : (frame : ℕ) → is_member frame (frames_between 0 2097152 s.tables) ≡ is_member frame (image_frames s.tables)
    image frame = ap (is_member frame) (images_are s agrees.ranges)

    was : (frame : ℕ) → frame < length free → get_or (mark_all (frames_between 33554432 67108864 s.tables) (mark_all (frames_between 0 2097152 s.tables) names)) frame 0
        ≡ cond ((is_member frame (map table_frame_of s.tables.tables) || is_member frame (image_frames s.tables)) || is_member frame (frames_between 33554432 67108864 s.tables)) to_copy frame
    was frame l = marked frame (omega (arith, l, before_size)) ∙ rw (table frame, image frame) refl

    copied_by : (frame : ℕ) → frame < length free → ((is_member frame (map table_frame_of s.tables.tables) || is_member frame (image_frames s.tables)) || is_member frame (frames_between 33554432 67108864 s.tables)) ≡ true → get_or now frame 0 ≡ to_copy
    copied_by frame l e = stays s.heap.pages _ now frame more (was frame l ∙ ap (λ b. cond b to_copy frame) e)

    of_heap : (frame : ℕ) → frame < length free → (k : HeapKind) → HeapAgrees k s → is_member frame (map heap_frame_of s.heap.pages) ≡ true → get_or now frame 0 ≡ to_copy
    of_heap frame l Oscar h m = found_by_objects s now frame h heap founds m
    of_heap frame l Plain h m =
        let p = found_as_mapped s frame (omega (arith, few, agrees.frames)) h heap m in
        let c : is_member frame (frames_between 33554432 67108864 s.tables) ≡ true = mapped_member is_canonical_page s.tables.pages p.page (read_write_at frame) p.is_canonical p.at in
        copied_by frame l (grind (arith, nat_tests, c))

    to_copy_where : (frame : ℕ) → frame < length free → (b : Bool) → is_member frame (map heap_frame_of s.heap.pages) ≡ b → is_private s frame ≡ true → get_or now frame 0 ≡ to_copy
    to_copy_where frame l true m p = of_heap frame l kind agrees.heap m
    to_copy_where frame l false m p =
        let parts = private_is s frame in
        copied_by frame l (grind (arith, nat_tests, m, p, parts))

    not_heap : (frame : ℕ) → is_private s frame ≡ false → is_member frame (map heap_frame_of s.heap.pages) ≡ false
    not_heap frame p = let parts = private_is s frame in grind (arith, nat_tests, p, parts)

    not_canon : (frame : ℕ) → is_private s frame ≡ false → (b : Bool) → is_member frame (frames_between 33554432 67108864 s.tables) ≡ b → b ≡ false
    not_canon frame p false e = refl
    not_canon frame p true e = let m : is_member frame (map heap_frame_of s.heap.pages) ≡ true = canon_heap kind s frame agrees.heap ascend e in let n = not_heap frame p in absurd cc

    stands : (frame : ℕ) → frame < length free → is_private s frame ≡ false
        → (get_or now frame 0 ≡ get_or (mark_all (frames_between 33554432 67108864 s.tables) (mark_all (frames_between 0 2097152 s.tables) names)) frame 0) ⊎ ((get_or now frame 0 ≡ to_copy) × (is_heap_frame s.heap.pages frame ≡ true))
        → get_or now frame 0 ≡ frame
    stands frame l p (inl e) =
        let parts = private_is s frame in
        let none = not_canon frame p (is_member frame (frames_between 33554432 67108864 s.tables)) refl in
        let test : ((is_member frame (map table_frame_of s.tables.tables) || is_member frame (image_frames s.tables)) || is_member frame (frames_between 33554432 67108864 s.tables)) ≡ false = grind (arith, nat_tests, p, parts, none) in
        e ∙ was frame l ∙ ap (λ b. cond b to_copy frame) test
    stands frame l p (inr e) = let n = not_heap frame p in let m : is_member frame (map heap_frame_of s.heap.pages) ≡ true = e.1 in absurd cc

-- ---- how many
same_range : (p q : ℕ → Bool) (a n : ℕ) → ((frame : ℕ) → a ≤ frame → frame < a + n → p frame ≡ q frame) → filter p (range_with_len a n) ≡ filter q (range_with_len a n)
same_range p q a zero h = refl
same_range p q a (suc n) h =
    let here = h a (omega arith) (omega arith) in
    let rest = same_range p q (a + 1) n (λ frame l m. h frame (omega (arith, l)) (omega (arith, m))) in
    rw (here, rest) refl

pub marked_are : (s : Space) (free : List Bool) (names : List ℕ) → length free ≤ 4096 → Known s free names → marked_frames names ≡ private_frames s (length free)
marked_are s free names few k =
    ap (λ n. filter (is_marked names) (range_with_len 0 n)) k.size
    ∙ same_range (is_marked names) (is_private s) 0 (length free) (λ frame l m. go frame (omega (arith, m)) (is_private s frame) refl)
  where
    go : (frame : ℕ) → frame < length free → (b : Bool) → is_private s frame ≡ b → is_marked names frame ≡ b
    go frame m true e = let h = k.copied frame m e in grind (arith, nat_tests, h)
    go frame m false e = let h = k.others frame m e in grind (arith, nat_tests, h, m, few)

one_more : (m n c d : ℕ) → m ≡ 1 → c ≡ m + d → n ≡ d → suc n ≡ c
one_more m n c d e s later = omega arith

no_more : (m n c d : ℕ) → m ≡ 0 → c ≡ m + d → n ≡ d → n ≡ c
no_more m n c d e s later = omega arith

count_marks : (p : ℕ → Bool) (a : ℕ) (xs : List ℕ) → ((i : ℕ) → i < length xs → p (a + i) ≡ (get_or xs i 0 == to_copy)) → length (filter p (range_with_len a (length xs))) ≡ count_by (λ n. n == to_copy) xs
count_marks p a [] h = refl
count_marks p a (x ∷ xs) h =
    go (p a) (x == to_copy) (subst (λ k. p k ≡ (x == to_copy)) (omega arith) (h 0 (omega arith))) refl
    (count_marks p (a + 1) xs (λ i l. subst (λ k. p k ≡ (get_or xs i 0 == to_copy)) (omega arith) (h (suc i) (omega (arith, l)))))
    (sum_by-cons (λ (n : ℕ). cond (n == to_copy) 1 0) x xs)
  where
    go : (b c : Bool) → b ≡ c → (x == to_copy) ≡ c → length (filter p (range_with_len (a + 1) (length xs))) ≡ count_by (λ n. n == to_copy) xs
        → count_by (λ n. n == to_copy) (x ∷ xs) ≡ cond (x == to_copy) 1 0 + count_by (λ n. n == to_copy) xs
        → length (cond b (a ∷ filter p (range_with_len (a + 1) (length xs))) (filter p (range_with_len (a + 1) (length xs)))) ≡ count_by (λ n. n == to_copy) (x ∷ xs)
    go true true e f later s = one_more (cond (x == to_copy) 1 0) _ _ _ (ap (λ b. cond b 1 0) f) s later
    go true false e f later s = cc
    go false true e f later s = cc
    go false false e f later s = no_more (cond (x == to_copy) 1 0) _ _ _ (ap (λ b. cond b 1 0) f) s later

pub count_is : (names : List ℕ) → count_by (λ n. n == to_copy) names ≡ length (marked_frames names)
count_is names = sym (count_marks (is_marked names) 0 names (λ i l. let e : 0 + i ≡ i = omega arith in rw e refl))
