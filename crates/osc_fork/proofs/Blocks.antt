-- Each page that holds a block belongs to a block, and its frame is found: over the objects, or as that
-- of a mapped page under the plain heap.
use Rattle.std.proofs.Common.{ℕ, ◌≡◌, ◌<◌, ◌≤◌, ◌+◌, ◌-◌, ◌*◌, ◌/◌, ◌==◌, ◌||◌, Bool, true, false, cond, Some, List, [], ◌∷◌, map, get_or, arith, refl, sym, subst, ap, ◌∙◌}
use Rattle.std.specs.Prelude.{is_some, find, option_map}
use Rattle.std.proofs.lemmas.Bool.Decides.{nat_tests}
use Rattle.std.proofs.Math.Nat.{mul-le-mul_right}
use Rattle.osc_word.specs.AddressMap.{is_canonical_page}
use Rattle.osc_class.specs.declared.Room.{Room}
use Rattle.osc_class.specs.declared.Room.TheVariants.{Small, Pages}
use Rattle.osc_class.specs.Rooms.{shadow_pages, IsRoom}
use Rattle.osc_slot.specs.declared.Block.{Block}
use Rattle.osc_slot.specs.declared.HeapPage.{HeapPage}
use Rattle.osc_slot.specs.Ordered.{AllAbove, IsAscending}
use Rattle.osc_slot.specs.Areas.{IsPlaced, area_of, slots_in, first_page}
use Rattle.osc_slot.specs.Slots.{is_block, is_held, is_on, is_covered}
use Rattle.osc_slot.specs.Heap.{IsHeap, frame_of, frame_of_found}
use Rattle.osc_slot.proofs.HeldBlocks.{found, any_weaker, same_block}
use Rattle.osc_slot.proofs.Bounds.{in_area, pages_within}
use Rattle.osc_paging.specs.KeptTables.{mapping_at}
use Rattle.osc_space.specs.declared.ObjectFact.{ObjectFact}
use Rattle.osc_space.specs.LeafFlags.{read_write_at}
use Rattle.osc_space.specs.Objects.{fact}
use Rattle.osc_space.specs.Header.{block_of}
use Rattle.osc_space.specs.Space.{Space}
use Rattle.osc_space.specs.Fork.{heap_frame_of}
use Rattle.osc_space.specs.Agree.{ObjectsAgree, PlainAgrees}
use Rattle.osc_space.proofs.ForkLawProofs.{is_member}
use Rattle.osc_fork.specs.Names.{AreBacked, AreFound, to_copy}

-- ---- a page of a frame
record PageOf (pages : List HeapPage) (frame : ℕ) : Type 0 where
  page : ℕ
  at : frame_of pages page ≡ Some frame

above : (n page frame : ℕ) (pages : List HeapPage) → AllAbove (λ (p : HeapPage). p.page) n pages → frame_of pages page ≡ Some frame → n < page
unfolding AllAbove
above n page frame [] a e = cc
above n page frame (p ∷ pages) a e = go (p.page == page) refl e (above n page frame pages a.1)
  where
    go : (b : Bool) → (p.page == page) ≡ b → frame_of_found (cond b (Some p) (find (λ (x : HeapPage). x.page == page) pages)) ≡ Some frame → (frame_of pages page ≡ Some frame → n < page) → n < page
    go true k f rest = let is : p.page ≡ page = grind (arith, nat_tests, k) in subst (λ m. n < m) is a.0
    go false k f rest = rest f

page_of : (frame : ℕ) (pages : List HeapPage) → IsAscending (λ (p : HeapPage). p.page) pages → is_member frame (map heap_frame_of pages) ≡ true → PageOf pages frame
unfolding IsAscending
page_of frame [] a m = cc
page_of frame (p ∷ pages) a m = go (p.frame == frame) refl m (page_of frame pages a.1)
  where
    go : (b : Bool) → (p.frame == frame) ≡ b → (b || is_member frame (map heap_frame_of pages)) ≡ true → (is_member frame (map heap_frame_of pages) ≡ true → PageOf pages frame) → PageOf (p ∷ pages) frame
    go true k n rest =
        let is : p.frame ≡ frame = grind (arith, nat_tests, k) in
        let same : (p.page == p.page) ≡ true = grind (arith, nat_tests) in
        record { page = p.page; at = ap (λ b. frame_of_found (cond b (Some p) (find (λ (x : HeapPage). x.page == p.page) pages))) same ∙ ap Some is }
    go false k n rest =
        let r = rest n in
        let up = above p.page r.page frame pages a.0 r.at in
        let other : (p.page == r.page) ≡ false = grind (arith, nat_tests, up) in
        record { page = r.page; at = ap (λ b. frame_of_found (cond b (Some p) (find (λ (x : HeapPage). x.page == r.page) pages))) other ∙ r.at }

-- ---- its block
held_covers : (held : List Block) (block : Block) (page : ℕ) → is_held held block ≡ true → is_on page block ≡ true → is_covered held page ≡ true
held_covers held block page h o = any_weaker (λ b. is_block block b) (λ b. is_on page b) (λ b e. subst (λ x. is_on page x ≡ true) (same_block block b e) o) held h

-- under heap oscar the frame is found over the object of its block
pub found_by_objects : (s : Space) (names : List ℕ) (frame : ℕ) → ObjectsAgree s → IsHeap s.heap
    → ((object : ℕ) (o : ObjectFact) → fact s.objects object ≡ Some o → AreBacked s.heap.pages ((o.canon - 16) / 4096) o.pages → AreFound s.heap.pages ((o.canon - 16) / 4096) o.pages names)
    → is_member frame (map heap_frame_of s.heap.pages) ≡ true → get_or names frame 0 ≡ to_copy
found_by_objects s names frame agrees heap founds m =
    let p = page_of frame s.heap.pages heap.pages_ordered m in
    let covered : is_covered s.heap.held p.page ≡ true = sym (heap.covered p.page) ∙ ap is_some p.at in
    let b = found s.heap.frames (is_on p.page) s.heap.held heap.placed covered in
    let of = agrees.backed b.block b.held_there in
    let is : block_of of.of ≡ b.block = of.is in
    let on : is_on p.page (block_of of.of) ≡ true = subst (λ x. is_on p.page x ≡ true) (sym is) b.passes in
    let pages = agrees.pages of.object of.of of.kept in
    let held = agrees.held of.object of.of of.kept in
    let backed : AreBacked s.heap.pages ((of.of.canon - 16) / 4096) of.of.pages =
    λ k l. heap.covered _ ∙ held_covers s.heap.held (block_of of.of) _ held (grind (arith, nat_tests, pages, l)) in
    let all = founds of.object of.of of.kept.0 backed in
    let low : (of.of.canon - 16) / 4096 ≤ p.page = grind (arith, nat_tests, on) in
    let high : p.page < (of.of.canon - 16) / 4096 + of.of.pages = grind (arith, nat_tests, on, pages) in
    let at : (of.of.canon - 16) / 4096 + (p.page - (of.of.canon - 16) / 4096) ≡ p.page = omega (arith, low) in
    all (p.page - (of.of.canon - 16) / 4096) frame (omega (arith, low, high)) (subst (λ q. frame_of s.heap.pages q ≡ Some frame) (sym at) p.at)

-- ---- under the plain heap
small_area : (frames : ℕ) (room : Room) (slot : ℕ) → IsRoom room → slot < slots_in frames room → area_of room ≤ 12 + frames
small_area frames (Small class) slot r s = omega (arith, r)
small_area frames (Pages pages) slot r s = let w = pages_within frames (Pages pages) slot r s in omega (arith, w)

canonical_block : (frames page : ℕ) (b : Block) → frames ≤ 4096 → IsPlaced frames b → is_on page b ≡ true → is_canonical_page page ≡ true
canonical_block frames page b few p on =
    let area = in_area frames b.room p.slot p.room p.within in
    let start = p.start in
    let most = small_area frames b.room p.slot p.room p.within in
    let less : (area_of b.room + 1) * frames ≤ (13 + frames) * frames = mul-le-mul_right frames (omega (arith, most)) in
    let end : (13 + frames) * frames ≤ 4109 * 4096 = nat_square frames few in
    let low = area.0 in
    let high = area.1 in
    let zero_le : first_page ≤ b.start / 4096 = rw start (omega (arith, low)) in
    let top : b.start / 4096 + shadow_pages b.room ≤ 67108864 = rw start (omega (arith, high, less, end)) in
    grind (arith, nat_tests, on, zero_le, top)
  where
    nat_square : (n : ℕ) → n ≤ 4096 → (13 + n) * n ≤ 4109 * 4096
    nat_square n s = let a : (13 + n) * n ≤ 4109 * n = mul-le-mul_right n (omega arith) in omega (arith, a)

-- a canonical page maps this frame
pub record MappedPage (s : Space) (frame : ℕ) : Type 0 where
  pub page : ℕ
  pub is_canonical : is_canonical_page page ≡ true
  pub at : mapping_at s.tables.pages page ≡ Some (read_write_at frame)

pub found_as_mapped : (s : Space) (frame : ℕ) → s.heap.frames ≤ 4096 → PlainAgrees s → IsHeap s.heap → is_member frame (map heap_frame_of s.heap.pages) ≡ true → MappedPage s frame
found_as_mapped s frame few agrees heap m =
    let p = page_of frame s.heap.pages heap.pages_ordered m in
    let covered : is_covered s.heap.held p.page ≡ true = sym (heap.covered p.page) ∙ ap is_some p.at in
    let b = found s.heap.frames (is_on p.page) s.heap.held heap.placed covered in
    let canonical = canonical_block s.heap.frames p.page b.block few b.placed b.passes in
    record { page = p.page; is_canonical = canonical; at = agrees.canonical p.page canonical ∙ ap (option_map read_write_at) p.at }
