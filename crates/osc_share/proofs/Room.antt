-- Where the parts of a process agree, its tables have room for as many pages as frames are free.
use Rattle.std.proofs.Common.{ℕ, suc, ◌≡◌, ◌<◌, ◌≤◌, ◌+◌, ◌-◌, ◌==◌, ◌&&◌, ◌||◌, Bool, true, false, cond, nat_lt, nat_le, Option, Some, None, List, [], ◌∷◌, ◌++◌, length, map, filter, slice_get, arith, refl, ap, sym, subst, ◌∙◌, length-append, append_assoc}
use Rattle.std.specs.Prelude.{is_some, find, option_map, count_by, slice_set}
use Rattle.std.specs.List.{list_any}
use Rattle.std.proofs.lemmas.Bool.Decides.{nat_tests}
use Rattle.std.proofs.lemmas.List.{length-map}
use Rattle.std.proofs.lemmas.List.Sums.{sum_by-cons, count_by-le-length}
use Rattle.osc_word.specs.declared.settings.HeapKind.{HeapKind}
use Rattle.osc_word.specs.declared.settings.HeapKind.TheVariants.{Oscar, Plain}
use Rattle.osc_word.specs.AddressMap.{is_image_or_stack, is_shared, is_shadow, is_canonical_page, is_in_map, first_shadow_page}
use Rattle.osc_slot.specs.declared.HeapPage.{HeapPage}
use Rattle.osc_slot.specs.Heap.{frame_of, frame_of_found, free_count}
use Rattle.osc_slot.proofs.Backing.{free_count-le, free_count-give, get-set, length-set}
use Rattle.osc_paging.specs.declared.Piece.{Piece}
use Rattle.osc_paging.specs.declared.Mapped.{Mapped}
use Rattle.osc_paging.specs.declared.TableFrame.{TableFrame}
use Rattle.osc_paging.specs.KeptTables.{mapping_at, piece_of}
use Rattle.osc_tables.specs.Inside.{AscendFrom}
use Rattle.osc_tables.specs.Calls.{HasTaken}
use Rattle.osc_space.specs.declared.ObjectFact.{ObjectFact}
use Rattle.osc_space.specs.LeafFlags.{read_write_at}
use Rattle.osc_space.specs.Objects.{mark, is_live, has_page, is_live_page, GrantedFrom}
use Rattle.osc_space.specs.Space.{Space}
use Rattle.osc_space.specs.Fork.{table_frame_of, heap_frame_of, frame_of_page, image_frames, frames_owned}
use Rattle.osc_space.specs.Share.{Regions, shared_pages, shared_frames}
use Rattle.osc_space.specs.Agree.{AreApart, AllTaken, frames_of, HeapAgrees, SpaceAgrees}

-- ---- frames that are taken and apart
still_taken : (x : ℕ) (xs : List ℕ) (free : List Bool) → list_any (λ y. y == x) xs ≡ false → AllTaken free xs → AllTaken (slice_set free x true) xs
still_taken x [] free h t = tt
still_taken x (y ∷ xs) free h t =
    let e = get-set free x y true in
    let here = t.0 in
    (grind (arith, nat_tests, h, e, here), still_taken x xs free (grind (arith, nat_tests, h)) t.1)

pub taken_few : (xs : List ℕ) (free : List Bool) → AreApart xs → AllTaken free xs → length xs + free_count free ≤ length free
taken_few [] free a t = let h = free_count-le free in omega arith
taken_few (x ∷ xs) free a t =
    let on = taken_few xs (slice_set free x true) a.1 (still_taken x xs free a.0 t.1) in
    let one = free_count-give free x t.0 in
    let size = length-set free x true in
    omega arith

-- ---- pages by their ranges
abbrev among : (ℕ → Bool) → List Mapped → List Mapped
among test ms = filter (λ (m : Mapped). test m.number) ms

same : (n : ℕ) → (n == n) ≡ true
same n = grind (arith, nat_tests)

there : (m : Mapped) (ms : List Mapped) → is_some (mapping_at (m ∷ ms) m.number) ≡ true
there m ms = rw (same m.number) refl

later : (m : Mapped) (ms : List Mapped) (q : ℕ) → is_some (mapping_at ms q) ≡ true → is_some (mapping_at (m ∷ ms) q) ≡ true
later m ms q e = go (m.number == q)
  where
    go : (b : Bool) → is_some (cond b (Some m.mapping) (mapping_at ms q)) ≡ true
    go true = refl
    go false = e

four : (a b c d : Bool) (w x y z n : ℕ) → ((a || b) || c || d) ≡ true → n ≤ w + x + y + z → suc n ≤ cond a (suc w) w + cond b (suc x) x + cond c (suc y) y + cond d (suc z) z
four true b c d w x y z n e s = grind arith
four false true c d w x y z n e s = grind arith
four false false true d w x y z n e s = grind arith
four false false false true w x y z n e s = grind arith
four false false false false w x y z n e s = cc

length-cond : (b : Bool) (m : Mapped) (ms : List Mapped) → length (cond b (m ∷ ms) ms) ≡ cond b (suc (length ms)) (length ms)
length-cond true m ms = refl
length-cond false m ms = refl

all_ranges : (ms : List Mapped) → ((q : ℕ) → is_some (mapping_at ms q) ≡ true → is_in_map q ≡ true)
    → length ms ≤ length (among is_image_or_stack ms) + length (among is_shared ms) + length (among is_shadow ms) + length (among is_canonical_page ms)
all_ranges [] h = omega arith
all_ranges (m ∷ ms) h =
    let on = all_ranges ms (λ q e. h q (later m ms q e)) in
    let in_map = h m.number (there m ms) in
    rw (length-cond (is_image_or_stack m.number) m (among is_image_or_stack ms), length-cond (is_shared m.number) m (among is_shared ms), length-cond (is_shadow m.number) m (among is_shadow ms), length-cond (is_canonical_page m.number) m (among is_canonical_page ms))
    (four (is_image_or_stack m.number) (is_shared m.number) (is_shadow m.number) (is_canonical_page m.number) _ _ _ _ (length ms) in_map on)

none_among : (test : ℕ → Bool) (ms : List Mapped) → ((q : ℕ) → test q ≡ true → mapping_at ms q ≡ None) → length (among test ms) ≡ 0
none_among test [] h = refl
none_among test (m ∷ ms) h = go (test m.number) refl (none_among test ms (λ q e. gone q (m.number == q) (h q e)))
  where
    gone : (q : ℕ) (b : Bool) → cond b (Some m.mapping) (mapping_at ms q) ≡ None → mapping_at ms q ≡ None
    gone q true e = cc
    gone q false e = e

    go : (b : Bool) → test m.number ≡ b → length (among test ms) ≡ 0 → length (cond b (m ∷ among test ms) (among test ms)) ≡ 0
    go true e on = let n = h m.number e in let s = there m ms in let z : is_some (mapping_at (m ∷ ms) m.number) ≡ false = ap is_some n in absurd cc
    go false e on = on

-- ---- shadow pages: ascending, and below a bound
shadows_few : (low bound : ℕ) (ms : List Mapped) → AscendFrom low ms → ((q : ℕ) → is_shadow q ≡ true → is_some (mapping_at ms q) ≡ true → q < bound)
    → (low ≤ first_shadow_page → length (among is_shadow ms) ≤ bound - first_shadow_page) × (first_shadow_page ≤ low → length (among is_shadow ms) ≤ bound - low)
shadows_few low bound [] a h = (λ s. omega arith, λ s. omega arith)
shadows_few low bound (m ∷ ms) a h = go (is_shadow m.number) refl (shadows_few (suc m.number) bound ms a.1 (λ q e s. h q e (later m ms q s)))
  where
    go : (b : Bool) → is_shadow m.number ≡ b
        → (suc m.number ≤ first_shadow_page → length (among is_shadow ms) ≤ bound - first_shadow_page) × (first_shadow_page ≤ suc m.number → length (among is_shadow ms) ≤ bound - suc m.number)
        → (low ≤ first_shadow_page → length (cond b (m ∷ among is_shadow ms) (among is_shadow ms)) ≤ bound - first_shadow_page) × (first_shadow_page ≤ low → length (cond b (m ∷ among is_shadow ms) (among is_shadow ms)) ≤ bound - low)
    go true e on =
        let up : first_shadow_page ≤ m.number = grind (arith, nat_tests, e) in
        let below = h m.number e (there m ms) in
        let rest = on.1 (omega arith) in
        let start = a.0 in
        (λ s. omega (arith, up, below, rest), λ s. omega (arith, start, below, rest))
    go false e on =
        let start = a.0 in
        (λ s. first (nat_lt m.number first_shadow_page) refl, λ s. (let rest = on.1 (omega (arith, start, s)) in omega (arith, start, rest)))
      where
        first : (b : Bool) → nat_lt m.number first_shadow_page ≡ b → length (among is_shadow ms) ≤ bound - first_shadow_page
        first true k = on.0 (grind (arith, nat_tests, k))
        first false k = let up : first_shadow_page ≤ m.number = grind (arith, nat_tests, k) in let rest = on.1 (omega (arith, up)) in omega (arith, up, rest)

live_below : (page : ℕ) (objects : List ObjectFact) (q : ℕ) → GrantedFrom page objects → is_live_page objects q ≡ true → q < page + mark objects
live_below page [] q g e = cc
live_below page (o ∷ objects) q g e =
    let sum = sum_by-cons (λ (x : ObjectFact). x.pages) o objects in
    go (is_live o && has_page q o) refl e sum (live_below (page + o.pages) objects q g.3)
  where
    go : (b : Bool) → (is_live o && has_page q o) ≡ b → (b || is_live_page objects q) ≡ true → mark (o ∷ objects) ≡ o.pages + mark objects → (is_live_page objects q ≡ true → q < page + o.pages + mark objects) → q < page + mark (o ∷ objects)
    go true k f sum on = let has : has_page q o ≡ true = grind (arith, nat_tests, k) in let first = g.0 in let below : q < o.first + o.pages = grind (arith, nat_tests, has) in omega (arith, below, first, sum)
    go false k f sum on = let below = on f in omega (arith, below, sum)

-- ---- canonical pages: each has a frame of its own
abbrev from_page : ℕ → HeapPage → Bool
from_page low p = nat_le low p.page

count-cons : (test : HeapPage → Bool) (p : HeapPage) (pages : List HeapPage) → count_by test (p ∷ pages) ≡ cond (test p) 1 0 + count_by test pages
count-cons test p pages = sum_by-cons (λ (x : HeapPage). cond (test x) 1 0) p pages

fewer_from : (low high : ℕ) (pages : List HeapPage) → low ≤ high → count_by (from_page high) pages ≤ count_by (from_page low) pages
fewer_from low high [] s = omega arith
fewer_from low high (p ∷ pages) s =
    let a = count-cons (from_page high) p pages in
    let b = count-cons (from_page low) p pages in
    let on = fewer_from low high pages s in
    go (nat_le high p.page) (nat_le low p.page) refl refl a b on
  where
    go : (x y : Bool) → nat_le high p.page ≡ x → nat_le low p.page ≡ y → count_by (from_page high) (p ∷ pages) ≡ cond x 1 0 + count_by (from_page high) pages → count_by (from_page low) (p ∷ pages) ≡ cond y 1 0 + count_by (from_page low) pages
        → count_by (from_page high) pages ≤ count_by (from_page low) pages → count_by (from_page high) (p ∷ pages) ≤ count_by (from_page low) (p ∷ pages)
    go true true i j a b on = omega (arith, a, b, on)
    go true false i j a b on = absurd (grind (arith, nat_tests, i, j, s))
    go false true i j a b on = omega (arith, a, b, on)
    go false false i j a b on = omega (arith, a, b, on)

one_more_from : (n : ℕ) (pages : List HeapPage) → is_some (frame_of pages n) ≡ true → suc (count_by (from_page (suc n)) pages) ≤ count_by (from_page n) pages
one_more_from n [] e = cc
one_more_from n (p ∷ pages) e =
    let a = count-cons (from_page (suc n)) p pages in
    let b = count-cons (from_page n) p pages in
    go (p.page == n) (nat_le (suc n) p.page) (nat_le n p.page) refl refl refl e a b (fewer_from n (suc n) pages (omega arith)) (one_more_from n pages)
  where
    go : (w x y : Bool) → (p.page == n) ≡ w → nat_le (suc n) p.page ≡ x → nat_le n p.page ≡ y
        → is_some (frame_of_found (cond w (Some p) (find (λ (h : HeapPage). h.page == n) pages))) ≡ true
        → count_by (from_page (suc n)) (p ∷ pages) ≡ cond x 1 0 + count_by (from_page (suc n)) pages → count_by (from_page n) (p ∷ pages) ≡ cond y 1 0 + count_by (from_page n) pages
        → count_by (from_page (suc n)) pages ≤ count_by (from_page n) pages → (is_some (frame_of pages n) ≡ true → suc (count_by (from_page (suc n)) pages) ≤ count_by (from_page n) pages)
        → suc (count_by (from_page (suc n)) (p ∷ pages)) ≤ count_by (from_page n) (p ∷ pages)
    go true false true i j k f a b fewer on = omega (arith, a, b, fewer)
    go true true y i j k f a b fewer on = absurd (grind (arith, nat_tests, i, j))
    go true x false i j k f a b fewer on = absurd (grind (arith, nat_tests, i, k))
    go false true true i j k f a b fewer on = let h = on f in omega (arith, a, b, h)
    go false true false i j k f a b fewer on = absurd (grind (arith, nat_tests, j, k))
    go false false true i j k f a b fewer on = let h = on f in omega (arith, a, b, h)
    go false false false i j k f a b fewer on = let h = on f in omega (arith, a, b, h)

canonical_few : (low : ℕ) (ms : List Mapped) (pages : List HeapPage) → AscendFrom low ms → ((q : ℕ) → is_canonical_page q ≡ true → is_some (mapping_at ms q) ≡ true → is_some (frame_of pages q) ≡ true)
    → length (among is_canonical_page ms) ≤ count_by (from_page low) pages
canonical_few low [] pages a h = omega arith
canonical_few low (m ∷ ms) pages a h = go (is_canonical_page m.number) refl (canonical_few (suc m.number) ms pages a.1 (λ q e s. h q e (later m ms q s)))
  where
    go : (b : Bool) → is_canonical_page m.number ≡ b → length (among is_canonical_page ms) ≤ count_by (from_page (suc m.number)) pages
        → length (cond b (m ∷ among is_canonical_page ms) (among is_canonical_page ms)) ≤ count_by (from_page low) pages
    go true e on =
        let more = one_more_from m.number pages (h m.number e (there m ms)) in
        let fewer = fewer_from low m.number pages a.0 in
        omega (arith, on, more, fewer)
    go false e on = let fewer = fewer_from low (suc m.number) pages (let s = a.0 in omega arith) in omega (arith, on, fewer)

count_le : (test : HeapPage → Bool) (pages : List HeapPage) → count_by test pages ≤ length pages
count_le test pages = count_by-le-length test pages

-- ---- the whole
pub shared_few : (s : Space) (free : List Bool) → AreApart (frames_of s) → AllTaken free (frames_of s) → length (shared_pages s.tables) + free_count free ≤ length free
shared_few s free apart taken =
    let few = taken_few (frames_of s) free apart taken in
    let whole = length-append (frames_owned s) (shared_frames s.tables) in
    let shared = length-map (shared_pages s.tables) frame_of_page in
    omega (arith, few, whole, shared)

heap_few : (kind : HeapKind) (s : Space) → HeapAgrees kind s → AscendFrom 0 s.tables.pages
    → length (among is_shadow s.tables.pages) + length (among is_canonical_page s.tables.pages) ≤ s.shadows + length s.heap.pages
heap_few Oscar s h a =
    let none = none_among is_canonical_page s.tables.pages h.canonical in
    let few = (shadows_few 0 (first_shadow_page + mark s.objects) s.tables.pages a (λ q e m. live_below first_shadow_page s.objects q h.granted (sym (h.shadows q e) ∙ m))).0 (omega arith) in
    let limit = h.limit in
    omega (arith, none, few, limit)
heap_few Plain s h a =
    let none = none_among is_shadow s.tables.pages h.shadows in
    let few = canonical_few 0 s.tables.pages s.heap.pages a (λ q e m. backed (frame_of s.heap.pages q) (sym (ap is_some (h.canonical q e)) ∙ m)) in
    let most = count_le (from_page 0) s.heap.pages in
    omega (arith, none, few, most)
  where
    backed : (o : Option ℕ) → is_some (option_map read_write_at o) ≡ true → is_some o ≡ true
    backed None e = e
    backed (Some f) e = refl

pub has_room : (kind : HeapKind) (s : Space) (regions : Regions) (free : List Bool) → SpaceAgrees kind s regions free → AscendFrom 0 s.tables.pages → length s.tables.pages + free_count free ≤ s.tables.room
has_room kind s regions free agrees a =
    let few = taken_few (frames_of s) free agrees.apart agrees.taken in
    let kinds = all_ranges s.tables.pages agrees.ranges in
    let heap = heap_few kind s agrees.heap a in
    let whole = length-append (frames_owned s) (shared_frames s.tables) in
    let owned = length-append (map table_frame_of s.tables.tables ++ map heap_frame_of s.heap.pages) (image_frames s.tables) in
    let first = length-append (map table_frame_of s.tables.tables) (map heap_frame_of s.heap.pages) in
    let heap_pages = length-map s.heap.pages heap_frame_of in
    let images = length-map (among is_image_or_stack s.tables.pages) frame_of_page in
    let shared = length-map (shared_pages s.tables) frame_of_page in
    let room = agrees.room in
    omega (arith, few, kinds, heap, whole, owned, first, heap_pages, images, shared, room)

-- ---- tables
tables_taken : (tables : List TableFrame) (more : List ℕ) (free : List Bool) (frame : ℕ) (p : Piece) → AllTaken free (map table_frame_of tables ++ more) → piece_of tables frame ≡ Some p → slice_get free frame ≡ Some false
tables_taken [] more free frame p t e = cc
tables_taken (x ∷ tables) more free frame p t e = go (x.frame == frame) refl e (tables_taken tables more free frame p t.1)
  where
    go : (b : Bool) → (x.frame == frame) ≡ b → cond b (Some x.piece) (piece_of tables frame) ≡ Some p → (piece_of tables frame ≡ Some p → slice_get free frame ≡ Some false) → slice_get free frame ≡ Some false
    go true k f rest = let is : x.frame ≡ frame = grind (arith, nat_tests, k) in subst (λ n. slice_get free n ≡ Some false) is t.0
    go false k f rest = rest f

pub has_taken : (kind : HeapKind) (s : Space) (regions : Regions) (free : List Bool) → SpaceAgrees kind s regions free → HasTaken s.tables free
has_taken kind s regions free agrees = record {
  count = sym agrees.count;
  tables = λ frame p e. tables_taken s.tables.tables _ free frame p (subst (AllTaken free) whole agrees.taken) e;
  aside = λ frame p e. (let none : piece_of s.tables.aside frame ≡ None = ap (λ xs. piece_of xs frame) agrees.aside in absurd cc);
}
  where
    whole : frames_of s ≡ map table_frame_of s.tables.tables ++ (map heap_frame_of s.heap.pages ++ image_frames s.tables ++ shared_frames s.tables)
    whole = append_assoc _ (image_frames s.tables) (shared_frames s.tables) ∙ (append_assoc (map table_frame_of s.tables.tables) (map heap_frame_of s.heap.pages) _ ∙ ap (λ xs. map table_frame_of s.tables.tables ++ xs) (sym (append_assoc (map heap_frame_of s.heap.pages) (image_frames s.tables) (shared_frames s.tables))))
