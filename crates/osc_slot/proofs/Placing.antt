-- What placing a block keeps.
use Rattle.std.proofs.Common.{ℕ, suc, ◌≡◌, ◌<◌, ◌≤◌, nat_lt, nat_le, ◌&&◌, ◌||◌, ◌+◌, ◌*◌, ◌/◌, Bool, true, false, not, cond, List, [], ◌∷◌, Option, Some, None, IsSome, unwrap_or, arith, refl, sym, ap, subst, ◌∙◌}
use Rattle.std.proofs.Math.Nat.{mul-le-mul_right, suc-mul, mul-div_left}
use Rattle.osc_class.specs.Rooms.{IsRoom}
use Rattle.osc_class.specs.declared.Room.{Room}
use Rattle.osc_class.specs.declared.Room.TheVariants.{Small, Pages}
use Rattle.osc_slot.specs.declared.Block.{Block}
use Rattle.osc_slot.specs.Ordered.{insert_by}
use Rattle.osc_slot.specs.Areas.{slots_of, slots_in, page_of, start_of, block_at_slot, IsPlaced}
use Rattle.osc_slot.specs.Slots.{holds_in, has_block, is_on, beside, empty_page, first_slot, or_else, slot, need, least_start, start_of_slot, block_frames}
use Rattle.osc_slot.specs.Heap.{Heap, HeapAndFree, back, give_back, with_block, next_block, place, ArePlaced, IsHeap, FramesAgree, Keeps, free_count}
use Rattle.osc_slot.proofs.Counting.{least-Some, any_none}
use Rattle.osc_slot.proofs.InOrder.{any-insert, ascending-insert}
use Rattle.osc_slot.proofs.Bounds.{slots_positive, start_page}
use Rattle.osc_slot.proofs.Exists.{slot_exists}
use Rattle.osc_slot.proofs.Backing.{back_all, free_count-le, free_count-give_back, length-give_back}
use Rattle.osc_slot.proofs.Fresh.{new_pages, Fresh, fresh}

-- what a slot that was found is
pub record Slot (frames : ℕ) (held : List Block) (room : Room) (i : ℕ) : Type 0 where
  pub within : i < slots_in frames room
  pub free : holds_in frames held room i ≡ false
  pub new : need frames held room ≡ new_pages frames held room i

small_slot : (frames : ℕ) (held : List Block) (class i : ℕ) → class < 13 → slot frames (holds_in frames held) (Small class) ≡ Some i → Slot frames held (Small class) i
unfolding beside empty_page
small_slot frames held class i r e = go (beside frames (holds_in frames held) class) refl e
  where
    fresh_page : (x : Option ℕ) → empty_page frames (holds_in frames held) class ≡ x → first_slot (slots_of class) x ≡ Some i → beside frames (holds_in frames held) class ≡ None → Slot frames held (Small class) i
    fresh_page None a d n = cc
    fresh_page (Some p) a d n =
        let f = least-Some (λ page. not (has_block (holds_in frames held) class page)) 0 frames p a in
        let same : p * slots_of class ≡ i = cc in
        let bare : has_block (holds_in frames held) class p ≡ false = grind (arith, f) in
        let s = slots_positive class r in
        let page : i / slots_of class ≡ p = rw (← same) (mul-div_left p s) in
        let m = mul-le-mul_right (slots_of class) (let l : suc p ≤ frames = omega arith in l) in
        let k = suc-mul p (slots_of class) in
        record {
          within = omega arith;
          free = any_none (λ j. holds_in frames held (Small class) j) (p * slots_of class) (slots_of class) i bare (omega arith) (omega arith);
          new = rw (n, page, bare) refl;
        }

    go : (x : Option ℕ) → beside frames (holds_in frames held) class ≡ x → or_else x (first_slot (slots_of class) (empty_page frames (holds_in frames held) class)) ≡ Some i → Slot frames held (Small class) i
    go (Some j) b d =
        let f = least-Some (λ j. has_block (holds_in frames held) class (j / slots_of class) && not (holds_in frames held (Small class) j)) 0 (frames * slots_of class) j b in
        let same : j ≡ i = cc in
        let there : has_block (holds_in frames held) class (j / slots_of class) ≡ true = grind (arith, f) in
        let free : holds_in frames held (Small class) j ≡ false = grind (arith, f) in
        rw (← same) (record {
          within = omega (arith, f);
          free = free;
          new = rw (b, there) refl;
        })
    go None b d = fresh_page (empty_page frames (holds_in frames held) class) refl d b

found_slot : (frames : ℕ) (held : List Block) (room : Room) (i : ℕ) → IsRoom room → slot frames (holds_in frames held) room ≡ Some i → Slot frames held room i
found_slot frames held (Small class) i r e = small_slot frames held class i r e
found_slot frames held (Pages pages) i r e =
    let f = least-Some (λ j. not (holds_in frames held (Pages pages) j)) 0 (frames / pages) i e in
    record { within = omega (arith, f); free = grind (arith, f); new = refl }

-- the frames of held blocks and the free ones are no more than there are
pub frames_fit : (heap : Heap) (free : List Bool) → IsHeap heap → FramesAgree heap free → block_frames heap.frames heap.held + free_count free ≤ heap.frames
frames_fit heap free h f =
    let sums = free_count-give_back heap.frames heap.pages free f.taken h.frames_apart in
    let most = free_count-le (give_back heap.pages free) in
    let same = length-give_back heap.pages free in
    let c = f.count in
    let k = h.count in
    omega arith

placed-insert : (frames : ℕ) (b : Block) (held : List Block) → IsPlaced frames b → ArePlaced frames held → ArePlaced frames (insert_by (λ (c : Block). c.start) b held)
unfolding ArePlaced insert_by
placed-insert frames b [] p a = (p, tt)
placed-insert frames b (c ∷ held) p a = go (nat_lt c.start b.start) (placed-insert frames b held p a.1)
  where
    go : (t : Bool) → ArePlaced frames (insert_by (λ (d : Block). d.start) b held) → ArePlaced frames (cond t (c ∷ insert_by (λ (d : Block). d.start) b held) (b ∷ c ∷ held))
    go true later = (a.0, later)
    go false later = (p, a)

-- the next block, where it goes, and what it takes
pub record Next (heap : Heap) (room : Room) (free : List Bool) : Type 0 where
  pub slot : ℕ
  pub is : least_start heap.frames heap.held room ≡ Some (start_of heap.frames room slot)
  pub block : next_block heap room ≡ block_at_slot heap.frames room slot
  pub found : Slot heap.frames heap.held room slot
  pub fresh : Fresh heap.frames heap.held room slot (need heap.frames heap.held room)

pub next : (heap : Heap) (room : Room) (free : List Bool) → IsHeap heap → FramesAgree heap free → IsRoom room → need heap.frames heap.held room ≤ free_count free → Next heap room free
next heap room free h f r n =
    go (slot heap.frames (holds_in heap.frames heap.held) room) refl
    (slot_exists heap.frames heap.held room (free_count free) r (frames_fit heap free h f) n)
  where
    go : (x : Option ℕ) → slot heap.frames (holds_in heap.frames heap.held) room ≡ x → IsSome x → Next heap room free
    go None e some = cc
    go (Some i) e some =
        let found = found_slot heap.frames heap.held room i r e in
        let is : least_start heap.frames heap.held room ≡ Some (start_of heap.frames room i) = ap (start_of_slot heap.frames room) e in
        record {
          slot = i;
          is = is;
          block = ap (λ x. record { start = unwrap_or x 0; room = room }) is;
          found = found;
          fresh = rw found.new (fresh heap.frames heap.held room i r found.within h.placed found.free);
        }

-- the heap with a block more, whose new pages begin with this one
abbrev pub with_pages : Heap → Room → List Bool → ℕ → ℕ → HeapAndFree
with_pages heap room free start first =
    let b = back (need heap.frames heap.held room) first (record { pages = heap.pages; free = free }) in
    record { heap = record { frames = heap.frames; held = with_block (record { start = start; room = room }) heap.held; pages = b.pages }; free = b.free }

pub place_is : (heap : Heap) (room : Room) (free : List Bool) → IsRoom room → (x : Next heap room free) → place heap room free ≡ with_pages heap room free (start_of heap.frames room x.slot) (page_of heap.frames room x.slot)
unfolding place
place_is heap room free r x =
    ap (λ start. with_pages heap room free start (start / 4096)) start
    ∙ ap (λ first. with_pages heap room free (start_of heap.frames room x.slot) first) (start_page heap.frames room x.slot r)
  where
    start : unwrap_or (least_start heap.frames heap.held room) 0 ≡ start_of heap.frames room x.slot
    start = ap (λ s. unwrap_or s 0) x.is

keeps_at : (heap : Heap) (room : Room) (free : List Bool) → IsHeap heap → FramesAgree heap free → IsRoom room → need heap.frames heap.held room ≤ free_count free → (x : Next heap room free) → Keeps heap free (with_pages heap room free (start_of heap.frames room x.slot) (page_of heap.frames room x.slot))
unfolding ArePlaced
keeps_at heap room free h f r n x =
    let backed = back_all heap.frames (need heap.frames heap.held room) (page_of heap.frames room x.slot) (record { pages = heap.pages; free = free })
    (record { count = f.count; taken = f.taken; frames_apart = h.frames_apart; ordered = h.pages_ordered }) n
    (λ q low high. h.covered q ∙ x.fresh.empty q low high) in
    let left = backed.left in
    let more = backed.more in
    record {
      is_heap = record {
        ordered = ascending-insert (λ (b : Block). b.start) (block_at_slot heap.frames room x.slot) heap.held x.fresh.absent h.ordered;
        placed = placed-insert heap.frames (block_at_slot heap.frames room x.slot) heap.held (record { room = r; slot = x.slot; within = x.found.within; start = refl }) h.placed;
        pages_ordered = backed.backs.ordered;
        covered = λ q. backed.pages q ∙ ap (λ t. (nat_le (page_of heap.frames room x.slot) q && nat_lt q (page_of heap.frames room x.slot + need heap.frames heap.held room)) || t) (h.covered q)
            ∙ x.fresh.pages q ∙ sym (any-insert (λ (b : Block). b.start) (λ b. is_on q b) (block_at_slot heap.frames room x.slot) heap.held);
        frames_apart = backed.backs.frames_apart;
        count = more ∙ ap (λ c. need heap.frames heap.held room + c) h.count ∙ sym x.fresh.more;
      };
      same_frames = refl;
      frames_agree = record { count = backed.backs.count; taken = backed.backs.taken };
      add_up = omega arith;
      stays = λ q there still. backed.stays q (h.covered q ∙ there);
    }

pub place_keeps : (heap : Heap) (room : Room) (free : List Bool) → IsHeap heap → FramesAgree heap free → IsRoom room → need heap.frames heap.held room ≤ free_count free → Keeps heap free (place heap room free)
place_keeps heap room free h f r n =
    let x = next heap room free h f r n in
    let P : HeapAndFree → Type 0 = λ now. Keeps heap free now in
    subst P (sym (place_is heap room free r x)) (keeps_at heap room free h f r n x)
