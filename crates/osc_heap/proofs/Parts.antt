-- What a change of the parts of a heap makes of the heap.
use Rattle.std.proofs.Common.{ℕ, ◌≡◌, ◌<◌, ◌≤◌, ◌+◌, ◌*◌, ◌/◌, ◌^◌, ◌&&◌, nat_le, nat_lt, Bool, true, false, not, cond, List, Option, Some, None, IsSome, is_some, length, filter, arith, refl, sym, ap, ◌∙◌, subst}
use Rattle.std.proofs.lemmas.Bool.Decides.{nat_tests}
use Rattle.std.proofs.lemmas.Nat.{mul-le}
use Rattle.std.proofs.lemmas.Grind.{common_steps}
use Rattle.osc_class.specs.Rooms.{IsRoom, shadow_pages}
use Rattle.osc_class.specs.declared.Room.{Room}
use Rattle.osc_class.specs.declared.Room.TheVariants.{Small, Pages}
use Rattle.osc_slot.specs.declared.Block.{Block}
use Rattle.osc_slot.specs.declared.HeapPage.{HeapPage}
use Rattle.osc_slot.specs.Least.{least, any}
use Rattle.osc_slot.specs.Areas.{first_page, area_of, slots_of, slots_in, page_of, start_of, block_at_slot}
use Rattle.osc_slot.specs.Slots.{is_block, is_held, Holds, holds_in, beside, empty_page, first_slot, or_else, slot, need, need_over, pages_alone, least_start, start_of_slot, is_covered}
use Rattle.osc_slot.specs.Heap.{Heap, HeapAndFree, Backing, frame_of, back, give_back, with_block, without_block, next_block, place, release, IsHeap, FramesAgree, Keeps, free_count}
use Rattle.osc_slot.proofs.Bounds.{start_page, in_area, pages_within, pages_positive}
use Rattle.osc_slot.proofs.Exists.{same_slot}
use Rattle.osc_slot.proofs.HeldBlocks.{is_block_self}
use Rattle.osc_slot.proofs.Placing.{Next, next, place_is, place_keeps, frames_fit}
use Rattle.osc_slot.proofs.Fresh.{new_pages}
use Rattle.osc_slot.proofs.Releasing.{Last, last, release_keeps, emptied, taken-filter}
use Rattle.osc_slot.proofs.Backing.{frames-filter, has_page}
use Rattle.osc_heap.specs.Layout.{bit_at, row_of, bits, with_bit, row_beside, row_empty_page, in_range, out_of_range, CanGiveBack, blocks_from, AreSized, heap_of, AreParts}
use Rattle.osc_slot.proofs.InOrder.{any-insert, filter_same}
use Rattle.osc_heap.proofs.Giving.{can_give}
use Rattle.osc_heap.proofs.Rows.{held_is_bit}
use Rattle.osc_heap.proofs.Changes.{more_in_area, less_in_area, sized-set, room_sized}
use Rattle.osc_heap.proofs.Decode.{area_most}

-- the truth values of a room, as a test of its slots
bits_of : (frames : ℕ) (rows : List (List Bool)) (room : Room) → IsRoom room → ◌≡◌ {A = ℕ → Bool} (λ s. bits rows room s) (λ s. holds_in frames (blocks_from frames 0 rows) room s)
bits_of frames rows room r = λ i s. sym (held_is_bit frames rows room s r) i

over_small : ℕ → ℕ → (ℕ → Bool) → Option ℕ
over_small frames class t = or_else (least (λ s. any t (s / slots_of class * slots_of class) (slots_of class) && not (t s)) 0 (frames * slots_of class)) (first_slot (slots_of class) (least (λ p. not (any t (p * slots_of class) (slots_of class))) 0 frames))

need_small : ℕ → ℕ → (ℕ → Bool) → ℕ
need_small frames class t = cond (is_some (least (λ s. any t (s / slots_of class * slots_of class) (slots_of class) && not (t s)) 0 (frames * slots_of class))) 0 1

-- the next slot and the need, over the truth values
pub slot_is : (frames : ℕ) (rows : List (List Bool)) (room : Room) → IsRoom room → slot frames (bits rows) room ≡ slot frames (holds_in frames (blocks_from frames 0 rows)) room
unfolding beside empty_page over_small
slot_is frames rows (Small class) r = ap (over_small frames class) (bits_of frames rows (Small class) r)
slot_is frames rows (Pages pages) r = ap (λ (t : ℕ → Bool). least (λ s. not (t s)) 0 (frames / pages)) (bits_of frames rows (Pages pages) r)

pub need_is : (frames : ℕ) (rows : List (List Bool)) (room : Room) → IsRoom room → need_over frames (bits rows) room ≡ need frames (blocks_from frames 0 rows) room
unfolding beside need_small
need_is frames rows (Small class) r = ap (need_small frames class) (bits_of frames rows (Small class) r)
need_is frames rows (Pages pages) r = refl

-- what a row's searches say of its area
pub beside_is : (frames : ℕ) (rows : List (List Bool)) (class : ℕ) → row_beside frames (slots_of class) (row_of rows (Small class)) ≡ beside frames (bits rows) class
unfolding row_beside beside
beside_is frames rows class = refl

pub empty_page_is : (frames : ℕ) (rows : List (List Bool)) (class : ℕ) → row_empty_page frames (slots_of class) (row_of rows (Small class)) ≡ empty_page frames (bits rows) class
unfolding row_empty_page empty_page
empty_page_is frames rows class = refl

-- the area of a room whose slots there are
pub has_area : (frames : ℕ) (rows : List (List Bool)) (room : Room) (i : ℕ) → IsRoom room → i < slots_in frames room → length rows ≡ 13 + frames → area_of room < length rows
has_area frames rows room i r l e = let m = area_most frames room i r l in omega arith

-- where the next block goes
pub record Spot (frames : ℕ) (rows : List (List Bool)) (pages : List HeapPage) (room : Room) (free : List Bool) (capacity : ℕ) : Type 0 where
  pub next : Next (heap_of frames rows pages) room free
  pub is : slot frames (bits rows) room ≡ Some next.slot
  pub area : area_of room < length rows
  pub row : next.slot < length (row_of rows room)
  pub fits : length pages + need frames (blocks_from frames 0 rows) room ≤ capacity
  pub small : need frames (blocks_from frames 0 rows) room ≤ frames

start_slot : (frames : ℕ) (room : Room) (x : Option ℕ) (i : ℕ) → IsRoom room → start_of_slot frames room x ≡ Some (start_of frames room i) → x ≡ Some i
start_slot frames room None i r e = cc
start_slot frames room (Some j) i r e = let s : start_of frames room j ≡ start_of frames room i = cc in ap Some (same_slot frames room j i r s)

pub spot : (frames : ℕ) (rows : List (List Bool)) (pages : List HeapPage) (room : Room) (free : List Bool) (capacity : ℕ) → AreParts frames rows pages capacity → FramesAgree (heap_of frames rows pages) free → IsRoom room → need frames (blocks_from frames 0 rows) room ≤ free_count free
    → Spot frames rows pages room free capacity
spot frames rows pages room free capacity p f r n =
    let x = next (heap_of frames rows pages) room free p.is_heap f r n in
    let area = has_area frames rows room x.slot r x.found.within p.areas in
    let row = room_sized frames rows room r p.sized area in
    let within = x.found.within in
    let fit = frames_fit (heap_of frames rows pages) free p.is_heap f in
    let count = p.is_heap.count in
    let most = p.room_for_all in
    record {
      next = x;
      is = slot_is frames rows room r ∙ start_slot frames room (slot frames (holds_in frames (blocks_from frames 0 rows)) room) x.slot r x.is;
      area = area;
      row = omega arith;
      fits = omega arith;
      small = omega arith;
    }

length-with_bit : (rows : List (List Bool)) (room : Room) (i : ℕ) (t : Bool) → length (with_bit rows room i t) ≡ length rows
length-with_bit rows room i t = grind (arith, common_steps)

-- the parts after a block was placed are those of the heap with it
pub record PlacedParts (frames : ℕ) (rows : List (List Bool)) (pages : List HeapPage) (room : Room) (free : List Bool) (i : ℕ) (now : List HeapPage) (left : List Bool) (capacity : ℕ) : Type 0 where
  pub heap : heap_of frames (with_bit rows room i true) now ≡ (place (heap_of frames rows pages) room free).heap
  pub freed : left ≡ (place (heap_of frames rows pages) room free).free
  pub there : is_held (blocks_from frames 0 (with_bit rows room i true)) (block_at_slot frames room i) ≡ true
  pub parts : AreParts frames (with_bit rows room i true) now capacity
  pub keeps : Keeps (heap_of frames rows pages) free (place (heap_of frames rows pages) room free)

put_there : (b : Block) (held : List Block) → is_held (with_block b held) b ≡ true
put_there b held = any-insert (λ (c : Block). c.start) (λ c. is_block b c) b held ∙ (let e = is_block_self b in grind (arith, nat_tests, e))

pub placed_parts : (frames : ℕ) (rows : List (List Bool)) (pages : List HeapPage) (room : Room) (free : List Bool) (capacity : ℕ) (p : AreParts frames rows pages capacity) (f : FramesAgree (heap_of frames rows pages) free) (r : IsRoom room)
    (n : need frames (blocks_from frames 0 rows) room ≤ free_count free) (s : Spot frames rows pages room free capacity) (after : ℕ) → capacity ≤ after
    → PlacedParts frames rows pages room free s.next.slot
    (back (need frames (blocks_from frames 0 rows) room) (start_of frames room s.next.slot / 4096) (record { pages = pages; free = free })).pages
    (back (need frames (blocks_from frames 0 rows) room) (start_of frames room s.next.slot / 4096) (record { pages = pages; free = free })).free after
placed_parts frames rows pages room free capacity p f r n s after l =
    let keeps = place_keeps (heap_of frames rows pages) room free p.is_heap f r n in
    let is = place_is (heap_of frames rows pages) room free r s.next in
    let first = start_page frames room s.next.slot r in
    let is_free : bit_at (row_of rows room) s.next.slot ≡ false = sym (held_is_bit frames rows room s.next.slot r) ∙ s.next.found.free in
    let held : with_block (block_at_slot frames room s.next.slot) (blocks_from frames 0 rows) ≡ blocks_from frames 0 (with_bit rows room s.next.slot true) = more_in_area frames 0 room s.next.slot (area_of room) rows r (omega arith) p.sized s.next.found.within s.area is_free in
    let b : Backing = back (need frames (blocks_from frames 0 rows) room) (page_of frames room s.next.slot) (record { pages = pages; free = free }) in
    let heap : heap_of frames (with_bit rows room s.next.slot true) b.pages ≡ (place (heap_of frames rows pages) room free).heap =
    ap (λ blocks. record { frames = frames; held = blocks; pages = b.pages }) (sym held) ∙ sym (ap (λ (now : HeapAndFree). now.heap) is) in
    let P : Heap → Type 0 = λ h. IsHeap h in
    let sizes = length-with_bit rows room s.next.slot true in
    let areas = p.areas in
    let most = p.room_for_all in
    rw first (record {
      heap = heap;
      freed = sym (ap (λ (now : HeapAndFree). now.free) is);
      there = ap (λ blocks. is_held blocks (block_at_slot frames room s.next.slot)) (sym held) ∙ put_there (block_at_slot frames room s.next.slot) (blocks_from frames 0 rows);
      parts = record {
        most = p.most;
        areas = omega arith;
        sized = sized-set frames 0 (area_of room) s.next.slot true rows p.sized;
        is_heap = subst P (sym heap) keeps.is_heap;
        room_for_all = omega arith;
      };
      keeps = keeps;
    })

-- a held block among the parts
pub record Held (frames : ℕ) (rows : List (List Bool)) (pages : List HeapPage) (block : Block) : Type 0 where
  pub last : Last (heap_of frames rows pages) block
  pub within : last.slot < slots_in frames block.room
  pub area : area_of block.room < length rows
  pub row : last.slot < length (row_of rows block.room)
  pub start : block.start ≡ start_of frames block.room last.slot
  pub out : without_block block (blocks_from frames 0 rows) ≡ blocks_from frames 0 (with_bit rows block.room last.slot false)
  pub n : last.n ≡ new_pages frames (blocks_from frames 0 (with_bit rows block.room last.slot false)) block.room last.slot

pub held_parts : (frames : ℕ) (rows : List (List Bool)) (pages : List HeapPage) (block : Block) (capacity : ℕ) → AreParts frames rows pages capacity → is_held (blocks_from frames 0 rows) block ≡ true → Held frames rows pages block
held_parts frames rows pages block capacity p e =
    let x = last (heap_of frames rows pages) block p.is_heap e in
    let area = has_area frames rows block.room x.slot x.room x.within p.areas in
    let size = room_sized frames rows block.room x.room p.sized area in
    let within = x.within in
    let out : without_block block (blocks_from frames 0 rows) ≡ blocks_from frames 0 (with_bit rows block.room x.slot false) =
    ap (λ b. without_block b (blocks_from frames 0 rows)) x.is ∙ less_in_area frames 0 block.room x.slot (area_of block.room) rows x.room (omega arith) area (omega arith) in
    record {
      last = x;
      within = x.within;
      area = area;
      row = omega arith;
      start = ap (λ (b : Block). b.start) x.is;
      out = out;
      n = x.n_is ∙ ap (λ held. new_pages frames held block.room x.slot) out;
    }

alone_small : ℕ → ℕ → (ℕ → Bool) → ℕ
alone_small class i t = cond (any t (i / slots_of class * slots_of class) (slots_of class)) 0 1

pub alone_is : (frames : ℕ) (rows : List (List Bool)) (room : Room) (i : ℕ) → IsRoom room → pages_alone (bits rows) room i ≡ new_pages frames (blocks_from frames 0 rows) room i
unfolding alone_small
alone_is frames rows (Small class) i r = ap (alone_small class i) (bits_of frames rows (Small class) r)
alone_is frames rows (Pages pages) i r = refl

-- the parts after a held block was released are those of the heap without it
pub record ReleasedParts (frames : ℕ) (rows : List (List Bool)) (pages : List HeapPage) (block : Block) (free : List Bool) (i : ℕ) (now : List HeapPage) (left : List Bool) (capacity : ℕ) : Type 0 where
  pub heap : heap_of frames (with_bit rows block.room i false) now ≡ (release (heap_of frames rows pages) block free).heap
  pub freed : left ≡ (release (heap_of frames rows pages) block free).free
  pub parts : AreParts frames (with_bit rows block.room i false) now capacity
  pub keeps : Keeps (heap_of frames rows pages) free (release (heap_of frames rows pages) block free)

-- the pages that hold no block any more are those of the block alone
stays_is : (frames : ℕ) (rows : List (List Bool)) (pages : List HeapPage) (block : Block) → IsHeap (heap_of frames rows pages) → (s : Held frames rows pages block)
    → filter (out_of_range (page_of frames block.room s.last.slot) s.last.n) pages ≡ filter (λ (p : HeapPage). is_covered (without_block block (blocks_from frames 0 rows)) p.page) pages
stays_is frames rows pages block h s =
    filter_same (λ (p : HeapPage). p.page) (λ q. not (nat_le (page_of frames block.room s.last.slot) q && nat_lt q (page_of frames block.room s.last.slot + s.last.n))) (λ q. is_covered (without_block block (blocks_from frames 0 rows)) q) pages
    (λ q e. turn (is_covered (without_block block (blocks_from frames 0 rows)) q) (nat_le (page_of frames block.room s.last.slot) q && nat_lt q (page_of frames block.room s.last.slot + s.last.n)) (emptied (heap_of frames rows pages) block s.last q (sym (h.covered q) ∙ sym (has_page pages q) ∙ e)))
  where
    turn : (t u : Bool) → not t ≡ u → not u ≡ t
    turn t u e = grind (arith, nat_tests)

goes_is : (frames : ℕ) (rows : List (List Bool)) (pages : List HeapPage) (block : Block) → IsHeap (heap_of frames rows pages) → (s : Held frames rows pages block)
    → filter (in_range (page_of frames block.room s.last.slot) s.last.n) pages ≡ filter (λ (p : HeapPage). not (is_covered (without_block block (blocks_from frames 0 rows)) p.page)) pages
goes_is frames rows pages block h s =
    filter_same (λ (p : HeapPage). p.page) (λ q. nat_le (page_of frames block.room s.last.slot) q && nat_lt q (page_of frames block.room s.last.slot + s.last.n)) (λ q. not (is_covered (without_block block (blocks_from frames 0 rows)) q)) pages
    (λ q e. sym (emptied (heap_of frames rows pages) block s.last q (sym (h.covered q) ∙ sym (has_page pages q) ∙ e)))

pub released_parts : (frames : ℕ) (rows : List (List Bool)) (pages : List HeapPage) (block : Block) (free : List Bool) (capacity : ℕ) (p : AreParts frames rows pages capacity) (f : FramesAgree (heap_of frames rows pages) free) (e : is_held (blocks_from frames 0 rows) block ≡ true)
    (s : Held frames rows pages block) (after : ℕ) → capacity ≤ after
    → ReleasedParts frames rows pages block free s.last.slot (filter (out_of_range (block.start / 4096) s.last.n) pages) (give_back (filter (in_range (block.start / 4096) s.last.n) pages) free) after
unfolding release
released_parts frames rows pages block free capacity p f e s after l =
    let keeps = release_keeps (heap_of frames rows pages) block free p.is_heap f e in
    let first : block.start / 4096 ≡ page_of frames block.room s.last.slot = ap (λ x. x / 4096) s.start ∙ start_page frames block.room s.last.slot s.last.room in
    let stays = stays_is frames rows pages block p.is_heap s in
    let goes = goes_is frames rows pages block p.is_heap s in
    let heap : heap_of frames (with_bit rows block.room s.last.slot false) (filter (out_of_range (page_of frames block.room s.last.slot) s.last.n) pages) ≡ (release (heap_of frames rows pages) block free).heap =
    ap (λ blocks. record { frames = frames; held = blocks; pages = filter (out_of_range (page_of frames block.room s.last.slot) s.last.n) pages }) (sym s.out)
    ∙ ap (λ now. record { frames = frames; held = without_block block (blocks_from frames 0 rows); pages = now }) stays in
    let P : Heap → Type 0 = λ h. IsHeap h in
    let sizes = length-with_bit rows block.room s.last.slot false in
    let areas = p.areas in
    let most = p.room_for_all in
    rw first (record {
      heap = heap;
      freed = ap (λ gone. give_back gone free) goes;
      parts = record {
        most = p.most;
        areas = omega arith;
        sized = sized-set frames 0 (area_of block.room) s.last.slot false rows p.sized;
        is_heap = subst P (sym heap) keeps.is_heap;
        room_for_all = omega arith;
      };
      keeps = keeps;
    })

-- the frames of the block's own pages can be given back
pub can_release : (frames : ℕ) (rows : List (List Bool)) (pages : List HeapPage) (free : List Bool) (capacity first count : ℕ) → AreParts frames rows pages capacity → FramesAgree (heap_of frames rows pages) free → CanGiveBack free (filter (in_range first count) pages)
can_release frames rows pages free capacity first count p f =
    can_give frames free (filter (in_range first count) pages) (taken-filter free (in_range first count) pages f.taken) (frames-filter frames (in_range first count) pages p.is_heap.frames_apart)

-- what `place` finds and leaves, over its heap
pub record ToPlace (frames : ℕ) (rows : List (List Bool)) (pages : List HeapPage) (capacity : ℕ) (heap : Heap) (room : Room) (free : List Bool) : Type 0 where
  pub is : heap_of frames rows pages ≡ heap
  pub parts : AreParts frames rows pages capacity
  pub agree : FramesAgree heap free
  pub is_room : IsRoom room
  pub enough : need heap.frames heap.held room ≤ free_count free

spot_of : {frames : ℕ} {rows : List (List Bool)} {pages : List HeapPage} {capacity : ℕ} {heap : Heap} {room : Room} {free : List Bool} → ToPlace frames rows pages capacity heap room free → Spot frames rows pages room free capacity
spot_of {frames} {rows} {pages} {capacity} {heap} {room} {free} t =
    spot frames rows pages room free capacity t.parts (rw t.is t.agree) t.is_room (let P : Heap → Type 0 = λ h. need h.frames h.held room ≤ free_count free in subst P (sym t.is) t.enough)

-- a block on a page of the classes' areas has no more than this page
pub one_block : (frames : ℕ) (room : Room) (i : ℕ) → IsRoom room → i < slots_in frames room → start_of frames room i / 4096 < first_page + 13 * frames → shadow_pages room ≤ 1
one_block frames (Small class) i r l m = omega arith
one_block frames (Pages pages) i r l m =
    let first = start_page frames (Pages pages) i r in
    let more : 13 * frames ≤ (12 + pages) * frames = mul-le 13 frames (12 + pages) frames (omega arith) (omega arith) in
    absurd (omega arith)

need_le : (frames : ℕ) (rows : List (List Bool)) (room : Room) → need_over frames (bits rows) room ≤ shadow_pages room
need_le frames rows (Small class) = grind arith
need_le frames rows (Pages pages) = omega arith

one_page : (frames : ℕ) (rows : List (List Bool)) (room : Room) (i : ℕ) → IsRoom room → i < slots_in frames room → start_of frames room i / 4096 < first_page + 13 * frames → need_over frames (bits rows) room ≤ 1
one_page frames rows room i r l m = let few = need_le frames rows room in let one = one_block frames room i r l m in omega arith

-- the slot that was found
pub record Chosen (frames : ℕ) (rows : List (List Bool)) (pages : List HeapPage) (capacity : ℕ) (heap : Heap) (room : Room) (free : List Bool) (i : ℕ) : Type 0 where
  pub within : i < slots_in frames room
  pub area : area_of room < length rows
  pub row : i < length (row_of rows room)
  pub fits : length pages + need_over frames (bits rows) room ≤ capacity
  pub small : need_over frames (bits rows) room ≤ 4096
  pub low : first_page ≤ start_of frames room i / 4096
  pub one : start_of frames room i / 4096 < first_page + 13 * frames → need_over frames (bits rows) room ≤ 1
  pub fresh : (q : ℕ) → start_of frames room i / 4096 ≤ q → q < start_of frames room i / 4096 + need_over frames (bits rows) room → frame_of pages q ≡ None

pub some_slot : {frames : ℕ} {rows : List (List Bool)} {pages : List HeapPage} {capacity : ℕ} {heap : Heap} {room : Room} {free : List Bool} → ToPlace frames rows pages capacity heap room free → IsSome (slot frames (bits rows) room)
some_slot t = let s = spot_of t in rw s.is refl

same_place : {frames : ℕ} {rows : List (List Bool)} {pages : List HeapPage} {capacity : ℕ} {heap : Heap} {room : Room} {free : List Bool} → (t : ToPlace frames rows pages capacity heap room free) (i : ℕ) → slot frames (bits rows) room ≡ Some i → (spot_of t).next.slot ≡ i
same_place t i e = let s = (spot_of t).is in cc

pub chosen : {frames : ℕ} {rows : List (List Bool)} {pages : List HeapPage} {capacity : ℕ} {heap : Heap} {room : Room} {free : List Bool} → ToPlace frames rows pages capacity heap room free → (i : ℕ) → slot frames (bits rows) room ≡ Some i → Chosen frames rows pages capacity heap room free i
chosen {frames} {rows} {pages} {capacity} {heap} {room} {free} t i e =
    let s = spot_of t in
    let same = same_place t i e in
    let n = need_is frames rows room t.is_room in
    let most = t.parts.most in
    let fits = s.fits in
    let small = s.small in
    record {
      within = (let P : ℕ → Type 0 = λ j. j < slots_in frames room in subst P same s.next.found.within);
      area = s.area;
      row = (let P : ℕ → Type 0 = λ j. j < length (row_of rows room) in subst P same s.row);
      fits = omega arith;
      small = omega arith;
      low = (let P : ℕ → Type 0 = λ j. first_page ≤ start_of frames room j / 4096 in subst P same (let a = in_area frames room s.next.slot t.is_room s.next.found.within in let w = start_page frames room s.next.slot t.is_room in omega arith));
      one = (let P : ℕ → Type 0 = λ j. start_of frames room j / 4096 < first_page + 13 * frames → need_over frames (bits rows) room ≤ 1 in subst P same (λ m. one_page frames rows room s.next.slot t.is_room s.next.found.within m));
      fresh = (let P : ℕ → Type 0 = λ j. (q : ℕ) → start_of frames room j / 4096 ≤ q → q < start_of frames room j / 4096 + need_over frames (bits rows) room → frame_of pages q ≡ None in subst P same (λ q l m.
          (let first = start_page frames room s.next.slot t.is_room in
          let empty = s.next.fresh.empty q (omega arith) (omega arith) in
          none_of (frame_of pages q) (t.parts.is_heap.covered q ∙ empty))));
    }
  where
    none_of : (x : Option ℕ) → is_some x ≡ false → x ≡ None
    none_of None e = refl
    none_of (Some y) e = cc

pub record Placed (frames : ℕ) (rows : List (List Bool)) (heap : Heap) (room : Room) (free : List Bool) (i : ℕ) (now : List HeapPage) (left : List Bool) (after : ℕ) : Type 0 where
  pub start : Some (start_of frames room i) ≡ least_start heap.frames heap.held room
  pub block : block_at_slot frames room i ≡ next_block heap room
  pub there : is_held (blocks_from frames 0 (with_bit rows room i true)) (block_at_slot frames room i) ≡ true
  pub heap_is : heap_of frames (with_bit rows room i true) now ≡ (place heap room free).heap
  pub freed : left ≡ (place heap room free).free
  pub parts : AreParts frames (with_bit rows room i true) now after
  pub agree : FramesAgree (heap_of frames (with_bit rows room i true) now) left
  pub add_up : free_count left + length now ≡ free_count free + length heap.pages
  pub valid : IsHeap (heap_of frames (with_bit rows room i true) now)

-- the same over the heap that is seen
placed_here : {frames : ℕ} {rows : List (List Bool)} {pages : List HeapPage} {capacity : ℕ} {heap : Heap} {room : Room} {free : List Bool} → (t : ToPlace frames rows pages capacity heap room free) (after : ℕ) → capacity ≤ after
    → Placed frames rows (heap_of frames rows pages) room free (spot_of t).next.slot
    (back (need frames (blocks_from frames 0 rows) room) (start_of frames room (spot_of t).next.slot / 4096) (record { pages = pages; free = free })).pages
    (back (need frames (blocks_from frames 0 rows) room) (start_of frames room (spot_of t).next.slot / 4096) (record { pages = pages; free = free })).free after
placed_here {frames} {rows} {pages} {capacity} {heap} {room} {free} t after l =
    let s = spot_of t in
    let enough = (let P : Heap → Type 0 = λ h. need h.frames h.held room ≤ free_count free in subst P (sym t.is) t.enough) in
    let d = placed_parts frames rows pages room free capacity t.parts (rw t.is t.agree) t.is_room enough s after l in
    let P : Heap → Type 0 = λ h. FramesAgree h (place (heap_of frames rows pages) room free).free in
    let Q : List Bool → Type 0 = λ f. FramesAgree (heap_of frames (with_bit rows room s.next.slot true) (back (need frames (blocks_from frames 0 rows) room) (start_of frames room s.next.slot / 4096) (record { pages = pages; free = free })).pages) f in
    let R : Heap → Type 0 = λ h. free_count (place (heap_of frames rows pages) room free).free + length h.pages ≡ free_count free + length pages in
    let sum : free_count (place (heap_of frames rows pages) room free).free + length (back (need frames (blocks_from frames 0 rows) room) (start_of frames room s.next.slot / 4096) (record { pages = pages; free = free })).pages ≡ free_count free + length pages = subst R (sym d.heap) d.keeps.add_up in
    record {
      start = sym s.next.is;
      block = sym s.next.block;
      there = d.there;
      heap_is = d.heap;
      freed = d.freed;
      parts = d.parts;
      agree = subst Q (sym d.freed) (subst P (sym d.heap) d.keeps.frames_agree);
      add_up = ap (λ f. free_count f + length (back (need frames (blocks_from frames 0 rows) room) (start_of frames room s.next.slot / 4096) (record { pages = pages; free = free })).pages) d.freed ∙ sum;
      valid = d.parts.is_heap;
    }

pub placed : {frames : ℕ} {rows : List (List Bool)} {pages : List HeapPage} {capacity : ℕ} {heap : Heap} {room : Room} {free : List Bool} → (t : ToPlace frames rows pages capacity heap room free) (i : ℕ) → slot frames (bits rows) room ≡ Some i
    → (now : List HeapPage) (left : List Bool) (after : ℕ) → capacity ≤ after
    → now ≡ (back (need_over frames (bits rows) room) (start_of frames room i / 4096) (record { pages = pages; free = free })).pages
    → left ≡ (back (need_over frames (bits rows) room) (start_of frames room i / 4096) (record { pages = pages; free = free })).free
    → Placed frames rows heap room free i now left after
placed {frames} {rows} {pages} {capacity} {heap} {room} {free} t i e now left after l n f =
    let d = placed_here t after l in
    let same = same_place t i e in
    let needs = need_is frames rows room t.is_room in
    let P : Heap → Type 0 = λ h. Placed frames rows h room free i now left after in
    let Q : ℕ → Type 0 = λ j. Placed frames rows (heap_of frames rows pages) room free j
    (back (need frames (blocks_from frames 0 rows) room) (start_of frames room j / 4096) (record { pages = pages; free = free })).pages
    (back (need frames (blocks_from frames 0 rows) room) (start_of frames room j / 4096) (record { pages = pages; free = free })).free after in
    let at : Placed frames rows (heap_of frames rows pages) room free i
    (back (need frames (blocks_from frames 0 rows) room) (start_of frames room i / 4096) (record { pages = pages; free = free })).pages
    (back (need frames (blocks_from frames 0 rows) room) (start_of frames room i / 4096) (record { pages = pages; free = free })).free after = subst Q same d in
    subst P t.is (rw (n, f, needs) at)

-- what `release` finds and leaves, over its heap
pub record ToRelease (frames : ℕ) (rows : List (List Bool)) (pages : List HeapPage) (capacity : ℕ) (heap : Heap) (block : Block) (free : List Bool) : Type 0 where
  pub is : heap_of frames rows pages ≡ heap
  pub parts : AreParts frames rows pages capacity
  pub agree : FramesAgree heap free
  pub held : is_held heap.held block ≡ true

pub held_of : {frames : ℕ} {rows : List (List Bool)} {pages : List HeapPage} {capacity : ℕ} {heap : Heap} {block : Block} {free : List Bool} → ToRelease frames rows pages capacity heap block free → Held frames rows pages block
held_of {frames} {rows} {pages} {capacity} {heap} {block} {free} t =
    held_parts frames rows pages block capacity t.parts (let P : Heap → Type 0 = λ h. is_held h.held block ≡ true in subst P (sym t.is) t.held)

-- where the block that is released lies
pub record Lies (frames : ℕ) (rows : List (List Bool)) (pages : List HeapPage) (block : Block) (free : List Bool) (i : ℕ) : Type 0 where
  pub is_room : IsRoom block.room
  pub within : i < slots_in frames block.room
  pub start : block.start ≡ start_of frames block.room i
  pub area : area_of block.room < length rows
  pub row : i < length (row_of rows block.room)
  pub positive : 0 < frames
  pub past : first_page ≤ block.start / 4096
  pub bound : block.start / 4096 + shadow_pages block.room < 2 ^ 39
  pub one : block.start / 4096 < first_page + 13 * frames → shadow_pages block.room ≤ 1
  pub areas : length (with_bit rows block.room i false) ≡ 13 + frames
  pub sized : AreSized frames 0 (with_bit rows block.room i false)
  pub can_give_back : (first count : ℕ) → CanGiveBack free (filter (in_range first count) pages)

pub held_slot : {frames : ℕ} {rows : List (List Bool)} {pages : List HeapPage} {capacity : ℕ} {heap : Heap} {block : Block} {free : List Bool} → ToRelease frames rows pages capacity heap block free → ℕ
held_slot t = (held_of t).last.slot

pub lies : {frames : ℕ} {rows : List (List Bool)} {pages : List HeapPage} {capacity : ℕ} {heap : Heap} {block : Block} {free : List Bool} → (t : ToRelease frames rows pages capacity heap block free) → Lies frames rows pages block free (held_slot t)
unfolding held_slot
lies {frames} {rows} {pages} {capacity} {heap} {block} {free} t =
    let s = held_of t in
    let r = s.last.room in
    let a = in_area frames block.room s.last.slot r s.within in
    let first : block.start / 4096 ≡ start_of frames block.room s.last.slot / 4096 = ap (λ x. x / 4096) s.start in
    let w = pages_within frames block.room s.last.slot r s.within in
    let p = pages_positive block.room r in
    let most = t.parts.most in
    let size = length-with_bit rows block.room s.last.slot false in
    let areas = t.parts.areas in
    let bound : (area_of block.room + 1) * frames ≤ 4109 * 4096 = (let m = area_most frames block.room s.last.slot r s.within in mul-le (area_of block.room + 1) frames 4109 4096 (omega arith) most) in
    record {
      is_room = r;
      within = s.within;
      start = s.start;
      area = s.area;
      row = s.row;
      positive = omega arith;
      past = omega arith;
      bound = omega arith;
      one = λ m. one_block frames block.room s.last.slot r s.within (rw first at m);
      areas = omega arith;
      sized = sized-set frames 0 (area_of block.room) s.last.slot false rows t.parts.sized;
      can_give_back = λ first count. can_release frames rows pages free capacity first count t.parts (rw t.is t.agree);
    }

pub record Released (frames : ℕ) (rows : List (List Bool)) (heap : Heap) (block : Block) (free : List Bool) (i : ℕ) (now : List HeapPage) (left : List Bool) (after : ℕ) : Type 0 where
  pub heap_is : heap_of frames (with_bit rows block.room i false) now ≡ (release heap block free).heap
  pub freed : left ≡ (release heap block free).free
  pub parts : AreParts frames (with_bit rows block.room i false) now after
  pub agree : FramesAgree (heap_of frames (with_bit rows block.room i false) now) left
  pub add_up : free_count left + length now ≡ free_count free + length heap.pages
  pub valid : IsHeap (heap_of frames (with_bit rows block.room i false) now)

-- the slot that a start tells is the block's
pub same_lie : {frames : ℕ} {rows : List (List Bool)} {pages : List HeapPage} {capacity : ℕ} {heap : Heap} {block : Block} {free : List Bool} → (t : ToRelease frames rows pages capacity heap block free) (i : ℕ)
    → ((slot : ℕ) → slot < slots_in frames block.room → block.start ≡ start_of frames block.room slot → i ≡ slot) → Lies frames rows pages block free i
same_lie {frames} {rows} {pages} {capacity} {heap} {block} {free} t i h =
    let l = lies t in
    let P : ℕ → Type 0 = λ j. Lies frames rows pages block free j in
    subst P (sym (h (held_slot t) l.within l.start)) l

released_here : {frames : ℕ} {rows : List (List Bool)} {pages : List HeapPage} {capacity : ℕ} {heap : Heap} {block : Block} {free : List Bool} → (t : ToRelease frames rows pages capacity heap block free) (after : ℕ) → capacity ≤ after
    → Released frames rows (heap_of frames rows pages) block free (held_slot t) (filter (out_of_range (block.start / 4096) (held_of t).last.n) pages) (give_back (filter (in_range (block.start / 4096) (held_of t).last.n) pages) free) after
unfolding held_slot
released_here {frames} {rows} {pages} {capacity} {heap} {block} {free} t after l =
    let s = held_of t in
    let held = (let P : Heap → Type 0 = λ h. is_held h.held block ≡ true in subst P (sym t.is) t.held) in
    let d = released_parts frames rows pages block free capacity t.parts (rw t.is t.agree) held s after l in
    let P : Heap → Type 0 = λ h. FramesAgree h (release (heap_of frames rows pages) block free).free in
    let Q : List Bool → Type 0 = λ f. FramesAgree (heap_of frames (with_bit rows block.room s.last.slot false) (filter (out_of_range (block.start / 4096) s.last.n) pages)) f in
    let R : Heap → Type 0 = λ h. free_count (release (heap_of frames rows pages) block free).free + length h.pages ≡ free_count free + length pages in
    let sum : free_count (release (heap_of frames rows pages) block free).free + length (filter (out_of_range (block.start / 4096) s.last.n) pages) ≡ free_count free + length pages = subst R (sym d.heap) d.keeps.add_up in
    record {
      heap_is = d.heap;
      freed = d.freed;
      parts = d.parts;
      agree = subst Q (sym d.freed) (subst P (sym d.heap) d.keeps.frames_agree);
      add_up = ap (λ f. free_count f + length (filter (out_of_range (block.start / 4096) s.last.n) pages)) d.freed ∙ sum;
      valid = d.parts.is_heap;
    }

pub released : {frames : ℕ} {rows : List (List Bool)} {pages : List HeapPage} {capacity : ℕ} {heap : Heap} {block : Block} {free : List Bool} → (t : ToRelease frames rows pages capacity heap block free) (i n : ℕ)
    → ((slot : ℕ) → slot < slots_in frames block.room → block.start ≡ start_of frames block.room slot → i ≡ slot)
    → n ≡ pages_alone (bits (with_bit rows block.room i false)) block.room i
    → (now : List HeapPage) (left : List Bool) (after : ℕ) → capacity ≤ after
    → now ≡ filter (out_of_range (block.start / 4096) n) pages → left ≡ give_back (filter (in_range (block.start / 4096) n) pages) free
    → Released frames rows heap block free i now left after
unfolding held_slot
released {frames} {rows} {pages} {capacity} {heap} {block} {free} t i n h a now left after l e f =
    let s = held_of t in
    let d = released_here t after l in
    let same : i ≡ s.last.slot = h s.last.slot s.within s.start in
    let count : n ≡ s.last.n = a ∙ ap (λ j. pages_alone (bits (with_bit rows block.room j false)) block.room j) same ∙ alone_is frames (with_bit rows block.room s.last.slot false) block.room s.last.slot s.last.room ∙ sym s.n in
    let P : Heap → Type 0 = λ h. Released frames rows h block free i now left after in
    let Q : ℕ → Type 0 = λ j. Released frames rows (heap_of frames rows pages) block free j (filter (out_of_range (block.start / 4096) s.last.n) pages) (give_back (filter (in_range (block.start / 4096) s.last.n) pages) free) after in
    let at : Released frames rows (heap_of frames rows pages) block free i (filter (out_of_range (block.start / 4096) s.last.n) pages) (give_back (filter (in_range (block.start / 4096) s.last.n) pages) free) after = subst Q (sym same) d in
    subst P t.is (rw (e, f, count) at)

pub to_place : (frames : ℕ) (rows : List (List Bool)) (pages : List HeapPage) (capacity : ℕ) (heap : Heap) (room : Room) (free : List Bool) → heap_of frames rows pages ≡ heap → AreParts frames rows pages capacity → FramesAgree heap free → IsRoom room → need heap.frames heap.held room ≤ free_count free → ToPlace frames rows pages capacity heap room free
to_place frames rows pages capacity heap room free e p f r n = record { is = e; parts = p; agree = f; is_room = r; enough = n }

pub to_release : (frames : ℕ) (rows : List (List Bool)) (pages : List HeapPage) (capacity : ℕ) (heap : Heap) (block : Block) (free : List Bool) → heap_of frames rows pages ≡ heap → AreParts frames rows pages capacity → FramesAgree heap free → is_held heap.held block ≡ true → ToRelease frames rows pages capacity heap block free
to_release frames rows pages capacity heap block free e p f h = record { is = e; parts = p; agree = f; held = h }

pub need_here : (frames : ℕ) (rows : List (List Bool)) (pages : List HeapPage) (heap : Heap) (room : Room) → heap_of frames rows pages ≡ heap → IsRoom room → need_over frames (bits rows) room ≡ need heap.frames heap.held room
need_here frames rows pages heap room e r = need_is frames rows room r ∙ ap (λ (h : Heap). need h.frames h.held room) e

pub alone_le : (holds : Holds) (room : Room) (i : ℕ) → pages_alone holds room i ≤ shadow_pages room
alone_le holds (Small class) i = grind arith
alone_le holds (Pages pages) i = omega arith
