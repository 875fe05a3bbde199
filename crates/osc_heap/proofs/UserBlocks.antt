-- The held block with a user address.
use Rattle.std.proofs.Common.{ℕ, ◌≡◌, ◌≢◌, ◌<◌, ◌≤◌, ◌==◌, ◌||◌, ◌+◌, ◌-◌, Bool, true, false, cond, List, [], ◌∷◌, Some, None, arith, refl, sym, ap, ◌∙◌, subst}
use Rattle.std.proofs.lemmas.Bool.Decides.{nat_tests}
use Rattle.osc_class.specs.Rooms.{IsRoom}
use Rattle.osc_class.specs.declared.Room.{Room}
use Rattle.osc_slot.specs.declared.Block.{Block}
use Rattle.osc_slot.specs.declared.HeapPage.{HeapPage}
use Rattle.osc_slot.specs.Ordered.{IsAscending}
use Rattle.osc_slot.specs.Areas.{slots_in, start_of, block_at_slot}
use Rattle.osc_slot.specs.Slots.{is_block, is_held}
use Rattle.osc_slot.specs.Heap.{Heap, block_of_user}
use Rattle.osc_slot.proofs.InOrder.{has_number}
use Rattle.osc_slot.proofs.HeldBlocks.{same_block, Found, found}
use Rattle.osc_slot.proofs.Releasing.{above_member}
use Rattle.osc_slot.proofs.Fresh.{absent_start}
use Rattle.osc_heap.specs.Layout.{bits, blocks_from, heap_of, AreParts}
use Rattle.osc_heap.proofs.Rows.{held_is_bit}

user_of_held : (held : List Block) (b : Block) → IsAscending (λ (c : Block). c.start) held → is_held held b ≡ true → block_of_user held (b.start + 16) ≡ Some b
unfolding IsAscending
user_of_held [] b a e = cc
user_of_held (c ∷ held) b a e = go (is_block b c) refl (user_of_held held b a.1) e
  where
    go : (t : Bool) → is_block b c ≡ t → (is_held held b ≡ true → block_of_user held (b.start + 16) ≡ Some b) → (t || is_held held b) ≡ true → cond (c.start + 16 == b.start + 16) (Some c) (block_of_user held (b.start + 16)) ≡ Some b
    go true is later e =
        let same : b ≡ c = same_block b c is in
        let here : (c.start + 16 == b.start + 16) ≡ true = (let s = ap (λ (d : Block). d.start) same in grind (arith, nat_tests, s)) in
        rw here (ap Some (sym same))
    go false is later e =
        let l = above_member c.start b held a.0 e in
        let past : (c.start + 16 == b.start + 16) ≡ false = grind (arith, nat_tests, l) in
        rw past (later e)

no_user : (held : List Block) (start : ℕ) → has_number (λ (c : Block). c.start) start held ≡ false → block_of_user held (start + 16) ≡ None
no_user [] start e = refl
no_user (c ∷ held) start e = let later = no_user held start in grind (arith, nat_tests, later)

pub below_all : (held : List Block) (user : ℕ) → user < 16 → block_of_user held user ≡ None
below_all [] user l = refl
below_all (c ∷ held) user l = let later = below_all held user l in grind (arith, nat_tests, later)

pub user_here : (frames : ℕ) (rows : List (List Bool)) (pages : List HeapPage) (capacity user start : ℕ) (room : Room) (slot : ℕ) (heap : Heap) → heap_of frames rows pages ≡ heap → AreParts frames rows pages capacity → 16 ≤ user → start ≡ user - 16 → IsRoom room → start ≡ start_of frames room slot → bits rows room slot ≡ true
    → block_of_user heap.held user ≡ Some (record { start = start; room = room })
user_here frames rows pages capacity user start room slot heap is p l s r e b =
    let there : is_held (blocks_from frames 0 rows) (block_at_slot frames room slot) ≡ true = held_is_bit frames rows room slot r ∙ b in
    let u : user ≡ start_of frames room slot + 16 = omega arith in
    let at = user_of_held (blocks_from frames 0 rows) (block_at_slot frames room slot) p.is_heap.ordered there in
    let P : Heap → Type 0 = λ h. block_of_user h.held user ≡ Some (record { start = start; room = room }) in
    subst P is (rw (u, e) at)

pub no_user_here : (frames : ℕ) (rows : List (List Bool)) (pages : List HeapPage) (capacity user start : ℕ) (room : Room) (slot : ℕ) (heap : Heap) → heap_of frames rows pages ≡ heap → AreParts frames rows pages capacity → 16 ≤ user → start ≡ user - 16 → IsRoom room → slot < slots_in frames room → start ≡ start_of frames room slot → bits rows room slot ≡ false
    → block_of_user heap.held user ≡ None
no_user_here frames rows pages capacity user start room slot heap is p l s r m e b =
    let absent = absent_start frames (blocks_from frames 0 rows) room slot r m p.is_heap.placed (held_is_bit frames rows room slot r ∙ b) in
    let u : user ≡ start_of frames room slot + 16 = omega arith in
    let at = no_user (blocks_from frames 0 rows) (start_of frames room slot) absent in
    let P : Heap → Type 0 = λ h. block_of_user h.held user ≡ None in
    subst P is (rw u at)

pub no_slot_here : (frames : ℕ) (rows : List (List Bool)) (pages : List HeapPage) (capacity user start : ℕ) (heap : Heap) → heap_of frames rows pages ≡ heap → AreParts frames rows pages capacity → 16 ≤ user → start ≡ user - 16 → ((room : Room) (slot : ℕ) → IsRoom room → slot < slots_in frames room → start ≢ start_of frames room slot)
    → block_of_user heap.held user ≡ None
no_slot_here frames rows pages capacity user start heap is p l s none =
    let u : user ≡ start + 16 = omega arith in
    let P : Heap → Type 0 = λ h. block_of_user h.held user ≡ None in
    subst P is (rw u (no_user (blocks_from frames 0 rows) start (go (has_number (λ (c : Block). c.start) start (blocks_from frames 0 rows)) refl)))
  where
    clash : Found frames (λ b. b.start == start) (blocks_from frames 0 rows) → ⊥
    clash f =
        let at : f.block.start ≡ start = (let e = f.passes in grind (arith, nat_tests, e)) in
        none f.block.room f.placed.slot f.placed.room f.placed.within (sym at ∙ f.placed.start)

    go : (t : Bool) → has_number (λ (c : Block). c.start) start (blocks_from frames 0 rows) ≡ t → t ≡ false
    go true e = absurd (clash (found frames (λ b. b.start == start) (blocks_from frames 0 rows) p.is_heap.placed e))
    go false e = refl

pub held_here : (frames : ℕ) (rows : List (List Bool)) (pages : List HeapPage) (start : ℕ) (room : Room) (slot : ℕ) (heap : Heap) → heap_of frames rows pages ≡ heap → IsRoom room → start ≡ start_of frames room slot → bits rows room slot ≡ true → is_held heap.held (record { start = start; room = room }) ≡ true
held_here frames rows pages start room slot heap is r e b =
    let there : is_held (blocks_from frames 0 rows) (block_at_slot frames room slot) ≡ true = held_is_bit frames rows room slot r ∙ b in
    let P : Heap → Type 0 = λ h. is_held h.held (record { start = start; room = room }) ≡ true in
    subst P is (rw e there)
