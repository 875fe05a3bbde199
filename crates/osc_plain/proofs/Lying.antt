-- Where a block lies, and what the agreement of the parts gives a plan.
use Rattle.std.proofs.Common.{ℕ, ◌+◌, ◌*◌, ◌/◌, ◌^◌, ◌≡◌, ◌<◌, ◌≤◌, ◌++◌, Bool, true, false, List, [], ◌∷◌, Option, Some, None, arith, refl, ap, sym, subst, ◌∙◌, length, map}
use Rattle.std.specs.Prelude.{is_some, option_map}
use Rattle.std.proofs.lemmas.Bool.Decides.{nat_tests}
use Rattle.std.proofs.lemmas.Nat.{mul-le}
use Rattle.osc_word.specs.AddressMap.{is_canonical_page}
use Rattle.osc_class.specs.declared.Room.{Room}
use Rattle.osc_class.specs.declared.Room.TheVariants.{Small, Pages}
use Rattle.osc_class.specs.Rooms.{IsRoom, block_bytes, shadow_pages}
use Rattle.osc_slot.specs.declared.Block.{Block}
use Rattle.osc_slot.specs.declared.HeapPage.{HeapPage}
use Rattle.osc_slot.specs.Areas.{area_of, slots_in, start_of}
use Rattle.osc_slot.specs.Slots.{is_block, is_held, is_on, is_covered, need as block_need}
use Rattle.osc_slot.specs.Heap.{Heap, IsHeap, FramesAgree, AreTaken, free_count, frame_of, next_block, place}
use Rattle.osc_slot.proofs.Bounds.{start_page, in_area, pages_within, pages_positive}
use Rattle.osc_slot.proofs.HeldBlocks.{any_weaker, same_block}
use Rattle.osc_slot.proofs.Backing.{free_count-le}
use Rattle.osc_slot.proofs.InOrder.{any-insert}
use Rattle.osc_slot.proofs.Placing.{next}
use Rattle.osc_slot.proofs.Releasing.{last}
use Rattle.osc_heap.proofs.Decode.{area_most}
use Rattle.osc_paging.specs.KeptTables.{KeptTables, mapping_at}
use Rattle.osc_space.specs.LeafFlags.{read_write_at}
use Rattle.osc_space.specs.Fork.{table_frame_of, heap_frame_of, frames_owned, image_frames}
use Rattle.osc_space.specs.Share.{shared_frames}
use Rattle.osc_space.specs.Agree.{AllTaken}
use Rattle.osc_space.specs.BlockWords.{whole_end}
use Rattle.osc_shadow.specs.Pieces.{pieces}
use Rattle.osc_shadow.proofs.Granted.{few_pieces}
use Rattle.osc_plain.specs.Plan.{space_of, PartsAgree}

-- ---- the frames of the pages are taken
front_taken : (free : List Bool) (xs ys : List ℕ) → AllTaken free (xs ++ ys) → AllTaken free xs
front_taken free [] ys t = tt
front_taken free (x ∷ xs) ys t = (t.0, front_taken free xs ys t.1)

back_taken : (free : List Bool) (xs ys : List ℕ) → AllTaken free (xs ++ ys) → AllTaken free ys
back_taken free [] ys t = t
back_taken free (x ∷ xs) ys t = back_taken free xs ys t.1

heap_taken : (free : List Bool) (pages : List HeapPage) → AllTaken free (map heap_frame_of pages) → AreTaken free pages
unfolding AreTaken
heap_taken free [] t = tt
heap_taken free (p ∷ pages) t = (t.0, heap_taken free pages t.1)

pub frames_agree : (t : KeptTables) (heap : Heap) (free : List Bool) → PartsAgree t heap free → FramesAgree heap free
frames_agree t heap free p =
    let s = space_of p.shadows t heap in
    let owned : AllTaken free (frames_owned (space_of p.shadows t heap)) = front_taken free (frames_owned (space_of p.shadows t heap)) (shared_frames t) p.agrees.taken in
    let first : AllTaken free (map table_frame_of t.tables ++ map heap_frame_of heap.pages) = front_taken free (map table_frame_of t.tables ++ map heap_frame_of heap.pages) (image_frames t) owned in
    record { count = sym p.agrees.frames; taken = heap_taken free heap.pages (back_taken free (map table_frame_of t.tables) (map heap_frame_of heap.pages) first) }

-- ---- a block is among the canonical pages
pub record Lies (block : Block) : Type 0 where
  pub high : 0x2000000 ≤ block.start / 4096
  pub low : block.start / 4096 + shadow_pages block.room ≤ 2 ^ 26
  pub below : block.start < 2 ^ 39

lies : (frames : ℕ) (room : Room) (slot : ℕ) → IsRoom room → slot < slots_in frames room → frames ≤ 4096 → Lies (record { start = start_of frames room slot; room = room })
lies frames room slot r l small =
    let a = in_area frames room slot r l in
    let most = area_most frames room slot r l in
    let bound : (area_of room + 1) * frames ≤ 4109 * 4096 = mul-le (area_of room + 1) frames 4109 4096 (omega arith) small in
    let some = pages_positive room r in
    record { high = omega (arith, a.0); low = omega (arith, a.1, bound); below = omega (arith, a.1, bound, some) }

pub next_lies : (heap : Heap) (room : Room) (free : List Bool) → IsHeap heap → FramesAgree heap free → IsRoom room → length free ≤ 4096 → block_need heap.frames heap.held room ≤ free_count free → Lies (next_block heap room)
next_lies heap room free h f r small n =
    let x = next heap room free h f r n in
    let count = f.count in
    subst Lies (sym x.block) (lies heap.frames room x.slot r x.found.within (omega arith))

pub held_lies : (heap : Heap) (block : Block) → IsHeap heap → is_held heap.held block ≡ true → heap.frames ≤ 4096 → Lies block
held_lies heap block h e small =
    let x = last heap block h e in
    subst Lies (sym x.is) (lies heap.frames block.room x.slot x.room x.within small)

pub held_few : (heap : Heap) (block : Block) → IsHeap heap → is_held heap.held block ≡ true → shadow_pages block.room ≤ heap.frames
held_few heap block h e =
    let x = last heap block h e in
    let p = pages_within heap.frames block.room x.slot x.room x.within in
    omega (arith, p)

-- ---- the next block's pages are not mapped, and a held one's are
none_of : {A : Type 0} (x : Option A) → is_some x ≡ false → x ≡ None
none_of None e = refl
none_of (Some y) e = cc

mapped_some : (x : Option ℕ) → is_some (option_map read_write_at x) ≡ is_some x
mapped_some None = refl
mapped_some (Some f) = refl

pub need_whole : (heap : Heap) (room : Room) → 0 < block_need heap.frames heap.held room → block_need heap.frames heap.held room ≡ shadow_pages room
need_whole heap (Small class) l = grind (arith, l)
need_whole heap (Pages pages) l = refl

pub need_few : (heap : Heap) (room : Room) → block_need heap.frames heap.held room ≤ shadow_pages room
need_few heap (Small class) = grind arith
need_few heap (Pages pages) = omega arith

pub next_unmapped : (t : KeptTables) (heap : Heap) (free : List Bool) (room : Room) → PartsAgree t heap free → IsHeap heap → IsRoom room → block_need heap.frames heap.held room ≤ free_count free
    → (page : ℕ) → (next_block heap room).start / 4096 ≤ page → page < (next_block heap room).start / 4096 + block_need heap.frames heap.held room → mapping_at t.pages page ≡ None
next_unmapped t heap free room p h r n page from to =
    let f = frames_agree t heap free p in
    let x = next heap room free h f r n in
    let l = next_lies heap room free h f r p.few n in
    let first : (next_block heap room).start / 4096 ≡ start_of heap.frames room x.slot / 4096 = ap (λ (b : Block). b.start / 4096) x.block in
    let at = start_page heap.frames room x.slot r in
    let uncovered : is_covered heap.held page ≡ false = x.fresh.empty page (omega (arith, first, at, from)) (omega (arith, first, at, to)) in
    let none : frame_of heap.pages page ≡ None = none_of (frame_of heap.pages page) (h.covered page ∙ uncovered) in
    let few = need_few heap room in
    let high = l.high in
    let low = l.low in
    let canonical : is_canonical_page page ≡ true = grind (arith, nat_tests, from, to, few, high, low) in
    p.agrees.heap.canonical page canonical ∙ ap (λ x. option_map read_write_at x) none

pub held_mapped : (t : KeptTables) (heap : Heap) (free : List Bool) (block : Block) → PartsAgree t heap free → IsHeap heap → is_held heap.held block ≡ true
    → (page : ℕ) → is_on page block ≡ true → is_some (mapping_at t.pages page) ≡ true
held_mapped t heap free block p h e page on =
    let frames = p.agrees.frames in
    let few = p.few in
    let l = held_lies heap block h e (omega arith) in
    let high = l.high in
    let low = l.low in
    let canonical : is_canonical_page page ≡ true = grind (arith, nat_tests, on, high, low) in
    let covered : is_covered heap.held page ≡ true = any_weaker (λ b. is_block block b) (λ b. is_on page b) (λ b k. (let P : Block → Type 0 = λ c. is_on page c ≡ true in subst P (same_block block b k) on)) heap.held e in
    ap is_some (p.agrees.heap.canonical page canonical) ∙ mapped_some (frame_of heap.pages page) ∙ h.covered page ∙ covered

-- ---- the bytes of a block
pub room_bytes : (room : Room) → IsRoom room → 32 ≤ block_bytes room
room_bytes (Small class) r = grind (arith, r)
room_bytes (Pages pages) r = omega arith

few_bytes : (room : Room) (frames : ℕ) → IsRoom room → shadow_pages room ≤ frames → frames ≤ 4096 → block_bytes room < 2 ^ 39
few_bytes (Small class) frames r l m = let s = small_bytes class r in omega (arith, s)
  where
    small_bytes : (class : ℕ) → class < 13 → block_bytes (Small class) ≤ 4096
    small_bytes class l = grind arith
few_bytes (Pages pages) frames r l m = omega arith

pub held_bytes : (heap : Heap) (block : Block) → IsHeap heap → is_held heap.held block ≡ true → IsRoom block.room → heap.frames ≤ 4096 → block_bytes block.room < 2 ^ 39
held_bytes heap block h e r small = few_bytes block.room heap.frames r (held_few heap block h e) small

pub next_bytes : (heap : Heap) (free : List Bool) (room : Room) → FramesAgree heap free → IsRoom room → length free ≤ 4096 → block_need heap.frames heap.held room ≤ free_count free → block_bytes room < 2 ^ 39
next_bytes heap free (Small class) f r small n = few_bytes (Small class) 4096 r (omega arith) (omega arith)
next_bytes heap free (Pages pages) f r small n = let l = free_count-le free in few_bytes (Pages pages) 4096 r (omega (arith, l)) (omega arith)

-- ---- the blocks that are held still are
pub still_held : (heap : Heap) (room : Room) (free : List Bool) (b : Block) → is_held heap.held b ≡ true → is_held (place heap room free).heap.held b ≡ true
unfolding place
still_held heap room free b e = any-insert (λ (c : Block). c.start) (λ c. is_block b c) (next_block heap room) heap.held ∙ grind (arith, nat_tests, e)

pub held_room : (heap : Heap) (block : Block) → IsHeap heap → is_held heap.held block ≡ true → IsRoom block.room
held_room heap block h e = (last heap block h e).room

-- the pieces of the bytes that are kept
pub copies_few : (heap : Heap) (block : Block) (kept : ℕ) → IsHeap heap → is_held heap.held block ≡ true → 16 + kept ≤ block_bytes block.room → pieces (whole_end kept) ≤ heap.frames
copies_few heap block kept h e l =
    let a = few_pieces block.room (held_room heap block h e) in
    let b = held_few heap block h e in
    omega (arith, a, b, l)

pub few_of_block : (heap : Heap) (block : Block) → IsHeap heap → is_held heap.held block ≡ true → pieces (block_bytes block.room) ≤ heap.frames
few_of_block heap block h e =
    let a = few_pieces block.room (held_room heap block h e) in
    let b = held_few heap block h e in
    omega (arith, a, b)
