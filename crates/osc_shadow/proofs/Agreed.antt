-- What the agreement of the parts gives a plan.
use Rattle.std.proofs.Common.{ℕ, zero, suc, ◌+◌, ◌≡◌, ◌<◌, ◌≤◌, ◌==◌, ◌||◌, ◌&&◌, Bool, true, false, cond, List, [], ◌∷◌, ◌++◌, Option, Some, None, arith, refl, sym, subst, ◌∙◌, length, map, position}
use Rattle.std.specs.Prelude.{filter, is_some, nat_lt}
use Rattle.std.proofs.lemmas.Bool.Decides.{nat_tests}
use Rattle.std.proofs.lemmas.List.{length-append, length-map}
use Rattle.std.proofs.lemmas.List.Sums.{sum_by-cons}
use Rattle.osc_word.specs.AddressMap.{is_within, is_image_or_stack, is_shared, is_shadow, is_canonical_page, first_shadow_page}
use Rattle.osc_word.specs.declared.settings.HeapKind.TheVariants.{Oscar}
use Rattle.osc_sv39.specs.declared.entries.Mapping.{Mapping}
use Rattle.osc_frames.specs.Free.{IsTaken}
use Rattle.osc_class.specs.declared.Room.{Room}
use Rattle.osc_slot.specs.declared.HeapPage.{HeapPage}
use Rattle.osc_slot.specs.Slots.{need as block_need}
use Rattle.osc_slot.specs.Heap.{Heap, Backing, FramesAgree, AreTaken, free_count, back, back_by, place}
use Rattle.osc_slot.proofs.Backing.{least_free, get-set, free_count-take}
use Rattle.osc_paging.specs.declared.Mapped.{Mapped}
use Rattle.osc_paging.specs.declared.Piece.{Piece}
use Rattle.osc_paging.specs.declared.TableFrame.{TableFrame}
use Rattle.osc_paging.specs.KeptTables.{mapping_at, piece_of}
use Rattle.osc_tables.specs.Calls.{HasTaken, IsOpen}
use Rattle.osc_tables.specs.Inside.{AscendFrom}
use Rattle.osc_space.specs.declared.ObjectFact.{ObjectFact}
use Rattle.osc_space.specs.Objects.{mark, next_page, has_page, is_live, is_live_page, GrantedFrom}
use Rattle.osc_space.specs.Fork.{frames_owned, table_frame_of, heap_frame_of, frame_of_page, image_frames}
use Rattle.osc_space.specs.Share.{Regions, shared_frames, shared_pages}
use Rattle.osc_space.specs.Space.{Space}
use Rattle.osc_space.specs.Agree.{SpaceAgrees, AllTaken, frames_of}
use Rattle.osc_shadow.proofs.Counted.{frames_bound, few_pages}

-- ---- frames that are taken
front_taken : (free : List Bool) (xs ys : List ℕ) → AllTaken free (xs ++ ys) → AllTaken free xs
front_taken free [] ys t = tt
front_taken free (x ∷ xs) ys t = (t.0, front_taken free xs ys t.1)

back_taken : (free : List Bool) (xs ys : List ℕ) → AllTaken free (xs ++ ys) → AllTaken free ys
back_taken free [] ys t = t
back_taken free (x ∷ xs) ys t = back_taken free xs ys t.1

table_taken : (free : List Bool) (ts : List TableFrame) (f : ℕ) (p : Piece) → AllTaken free (map table_frame_of ts) → piece_of ts f ≡ Some p → IsTaken free f
table_taken free [] f p t e = cc
table_taken free (x ∷ ts) f p t e = go (x.frame == f) refl e (table_taken free ts f p t.1)
  where
    go : (b : Bool) → (x.frame == f) ≡ b → cond b (Some x.piece) (piece_of ts f) ≡ Some p → (piece_of ts f ≡ Some p → IsTaken free f) → IsTaken free f
    go true h e on = let same : x.frame ≡ f = grind (arith, nat_tests, h) in subst (IsTaken free) same t.0
    go false h e on = on e

heap_taken : (free : List Bool) (pages : List HeapPage) → AllTaken free (map heap_frame_of pages) → AreTaken free pages
unfolding AreTaken
heap_taken free [] t = tt
heap_taken free (p ∷ pages) t = (t.0, heap_taken free pages t.1)

-- ---- a memory whose parts agree
pub record Agreed (s : Space) (free : List Bool) : Type 0 where
  pub opened : IsOpen s.tables
  pub taken : HasTaken s.tables free
  pub heap : FramesAgree s.heap free
  pub tables : length s.tables.tables ≤ length free
  pub few : length (filter (λ (m : Mapped). is_image_or_stack m.number) s.tables.pages) + length (filter (λ (m : Mapped). is_shared m.number) s.tables.pages) ≤ length free

pub agreed : (s : Space) (regions : Regions) (free : List Bool) → SpaceAgrees Oscar s regions free → Agreed s free
agreed s regions free a =
    let owned : AllTaken free (frames_owned s) = front_taken free (frames_owned s) (shared_frames s.tables) a.taken in
    let first : AllTaken free (map table_frame_of s.tables.tables ++ map heap_frame_of s.heap.pages) = front_taken free (map table_frame_of s.tables.tables ++ map heap_frame_of s.heap.pages) (image_frames s.tables) owned in
    let tables : AllTaken free (map table_frame_of s.tables.tables) = front_taken free (map table_frame_of s.tables.tables) (map heap_frame_of s.heap.pages) first in
    let blocks : AllTaken free (map heap_frame_of s.heap.pages) = back_taken free (map table_frame_of s.tables.tables) (map heap_frame_of s.heap.pages) first in
    let bound = frames_bound free (frames_of s) a.apart a.taken in
    let l1 = length-append (frames_owned s) (shared_frames s.tables) in
    let l2 = length-append (map table_frame_of s.tables.tables ++ map heap_frame_of s.heap.pages) (image_frames s.tables) in
    let l3 = length-map (shared_pages s.tables) frame_of_page in
    let l4 = length-map (filter (λ (m : Mapped). is_image_or_stack m.number) s.tables.pages) frame_of_page in
    record {
      opened = a.root;
      taken = record {
        count = sym a.count;
        tables = λ f p e. table_taken free s.tables.tables f p tables e;
        aside = λ f p e. (let none = a.aside in let h : piece_of [] f ≡ Some p = subst (λ ts. piece_of ts f ≡ Some p) none e in cc);
      };
      heap = record { count = sym a.frames; taken = heap_taken free s.heap.pages blocks };
      tables = (let l5 = length-append (map table_frame_of s.tables.tables) (map heap_frame_of s.heap.pages) in let l6 = length-map s.tables.tables table_frame_of in omega arith);
      few = omega arith;
    }

-- ---- live pages are below the mark
none_above : (from page : ℕ) (objects : List ObjectFact) → GrantedFrom from objects → from + mark objects ≤ page → is_live_page objects page ≡ false
none_above from page [] g l = refl
none_above from page (o ∷ objects) g l =
    let m = sum_by-cons (λ (o : ObjectFact). o.pages) o objects in
    let on = none_above (from + o.pages) page objects g.3 (omega arith) in
    let first = g.0 in
    let out : has_page page o ≡ false = grind (arith, nat_tests, first, l, m) in
    rw out (go (is_live o) on)
  where
    go : (b : Bool) → is_live_page objects page ≡ false → ((b && false) || is_live_page objects page) ≡ false
    go true on = on
    go false on = on

-- each mapped page is one of the image, the stack or a region, or a shadow page below the mark
mapped_where : (s : Space) (regions : Regions) (free : List Bool) → SpaceAgrees Oscar s regions free → mark s.objects ≤ 16777216 → (page : ℕ) → is_some (mapping_at s.tables.pages page) ≡ true
    → (is_image_or_stack page || is_shared page || is_within first_shadow_page (first_shadow_page + mark s.objects) page) ≡ true
mapped_where s regions free a most page there =
    go (is_image_or_stack page) (is_shared page) (is_shadow page) (is_canonical_page page) refl refl refl refl (a.ranges page there)
  where
    below : is_shadow page ≡ true → is_within first_shadow_page (first_shadow_page + mark s.objects) page ≡ true
    below e = pick (nat_lt page (first_shadow_page + mark s.objects)) refl
      where
        pick : (b : Bool) → nat_lt page (first_shadow_page + mark s.objects) ≡ b → is_within first_shadow_page (first_shadow_page + mark s.objects) page ≡ true
        pick true f = grind (arith, nat_tests, e, f)
        pick false f =
            let above : first_shadow_page + mark s.objects ≤ page = grind (arith, nat_tests, f) in
            let live = none_above first_shadow_page page s.objects a.heap.granted above in
            let same = a.heap.shadows page e in
            cc

    go : (i r h k : Bool) → is_image_or_stack page ≡ i → is_shared page ≡ r → is_shadow page ≡ h → is_canonical_page page ≡ k → (i || r || h || k) ≡ true
        → (i || r || is_within first_shadow_page (first_shadow_page + mark s.objects) page) ≡ true
    go true r h k e f g m p = refl
    go false true h k e f g m p = refl
    go false false true k e f g m p = below g
    go false false false true e f g m p = let none = a.heap.canonical page m in cc
    go false false false false e f g m p = cc

-- the pages that are mapped, and those that may still be granted, have room
pub pages_fit : (s : Space) (regions : Regions) (free : List Bool) (count : ℕ) → SpaceAgrees Oscar s regions free → AscendFrom 0 s.tables.pages → s.shadows ≤ 16777216 → mark s.objects + count ≤ s.shadows
    → length s.tables.pages + count ≤ s.tables.room
pages_fit s regions free count a order most l =
    let few = few_pages 0 (first_shadow_page + mark s.objects) s.tables.pages (omega arith) order (mapped_where s regions free a (omega arith)) in
    let frames = (agreed s regions free a).few in
    let room = a.room in
    omega arith

-- no page above the mark is mapped
pub fresh_unmapped : (s : Space) (regions : Regions) (free : List Bool) (page : ℕ) → SpaceAgrees Oscar s regions free → next_page s.objects ≤ page → page < 0x2000000 → mapping_at s.tables.pages page ≡ None
fresh_unmapped s regions free page a from to =
    let shadow : is_shadow page ≡ true = grind (arith, nat_tests, from, to) in
    let live = none_above first_shadow_page page s.objects a.heap.granted from in
    none (mapping_at s.tables.pages page) (a.heap.shadows page shadow ∙ live)
  where
    none : (x : Option Mapping) → is_some x ≡ false → x ≡ None
    none None e = refl
    none (Some m) e = cc

-- ---- a block is placed
takes_one : (page : ℕ) (b : Backing) → 0 < free_count b.free → free_count (back_by page (position (λ (f : Bool). f) b.free) b).free + 1 ≡ free_count b.free
takes_one page b l = let f = least_free b.free l in rw f.is (let e = free_count-take b.free f.frame f.is_free in omega arith)

back_takes : (count page : ℕ) (b : Backing) → count ≤ free_count b.free → free_count (back count page b).free + count ≡ free_count b.free
unfolding back
back_takes zero page b l = omega arith
back_takes (suc count) page b l =
    let one = takes_one page b (omega arith) in
    let on = back_takes count (page + 1) (back_by page (position (λ (f : Bool). f) b.free) b) (omega arith) in
    omega arith

keeps_one : (page f : ℕ) (x : Option ℕ) (b : Backing) → IsTaken b.free f → IsTaken (back_by page x b).free f
keeps_one page f None b t = t
keeps_one page f (Some frame) b t = let e = get-set b.free frame f false in grind (arith, nat_tests, e, t)

back_keeps : (count page f : ℕ) (b : Backing) → IsTaken b.free f → IsTaken (back count page b).free f
unfolding back
back_keeps zero page f b t = t
back_keeps (suc count) page f b t = back_keeps count (page + 1) f (back_by page (position (λ (x : Bool). x) b.free) b) (keeps_one page f (position (λ (x : Bool). x) b.free) b t)

pub place_takes : (heap : Heap) (room : Room) (free : List Bool) → block_need heap.frames heap.held room ≤ free_count free → free_count (place heap room free).free + block_need heap.frames heap.held room ≡ free_count free
unfolding place
place_takes heap room free l = back_takes (block_need heap.frames heap.held room) _ (record { pages = heap.pages; free = free }) l

pub place_keeps_taken : (heap : Heap) (room : Room) (free : List Bool) (f : ℕ) → IsTaken free f → IsTaken (place heap room free).free f
unfolding place
place_keeps_taken heap room free f t = back_keeps (block_need heap.frames heap.held room) _ f (record { pages = heap.pages; free = free }) t
