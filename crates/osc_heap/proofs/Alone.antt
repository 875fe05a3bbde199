-- The pages of a held block that hold no other.
use Rattle.std.proofs.Common.{ℕ, zero, suc, ◌≡◌, ◌<◌, ◌≤◌, ◌+◌, ◌-◌, ◌/◌, ◌&&◌, ◌||◌, nat_le, nat_lt, Bool, true, false, not, List, is_some, length, filter, arith, refl, sym, ap, ◌∙◌, subst}
use Rattle.std.specs.Prelude.{slice_set}
use Rattle.std.specs.List.{range_with_len}
use Rattle.std.proofs.lemmas.Bool.Decides.{nat_tests}
use Rattle.std.proofs.lemmas.List.{get_or-set_same, get_or-set_other}
use Rattle.osc_class.specs.Rooms.{IsRoom, shadow_pages}
use Rattle.osc_class.specs.declared.Room.{Room}
use Rattle.osc_class.specs.declared.Room.TheVariants.{Small, Pages}
use Rattle.osc_frames.specs.Words.{numbers_of}
use Rattle.osc_slot.specs.declared.Block.{Block}
use Rattle.osc_slot.specs.declared.HeapPage.{HeapPage}
use Rattle.osc_slot.specs.Least.{least, any}
use Rattle.osc_slot.specs.Areas.{first_page, area_of, slots_in, page_of, start_of}
use Rattle.osc_slot.specs.Slots.{is_held, is_covered, pages_alone}
use Rattle.osc_slot.specs.Heap.{Heap, without_block}
use Rattle.osc_slot.proofs.Bounds.{start_page, in_area, pages_within, pages_positive}
use Rattle.osc_slot.proofs.Counting.{any_same}
use Rattle.osc_slot.proofs.Fresh.{Fresh, new_pages}
use Rattle.osc_slot.proofs.Releasing.{Last}
use Rattle.osc_heap.specs.Layout.{bit_at, bits, has_as, with_bit, heap_of, AreParts}
use Rattle.osc_heap.proofs.Parts.{Held, held_parts, alone_is}
use Rattle.osc_heap.proofs.SlotBits.{held_in_area}

-- ---- the other slots of a page
any_split : (test : ℕ → Bool) (from a b : ℕ) → any test from (a + b) ≡ (any test from a || any test (from + a) b)
unfolding any
any_split test from zero b =
    let e : zero + b ≡ b = omega arith in
    let m : from + zero ≡ from = omega arith in
    rw (e, m) refl
any_split test from (suc a) b =
    let rest = any_split test (from + 1) a b in
    let e : suc a + b ≡ suc (a + b) = omega arith in
    let m : from + suc a ≡ from + 1 + a = omega arith in
    rw (e, m, rest) (go (test from))
  where
    go : (t : Bool) → (t || (any test (from + 1) a || any test (from + 1 + a) b)) ≡ ((t || any test (from + 1) a) || any test (from + 1 + a) b)
    go true = refl
    go false = refl

any_past : (test : ℕ → Bool) (from count : ℕ) → test from ≡ false → any test from (suc count) ≡ any test (from + 1) count
unfolding any
any_past test from count out = rw out refl

any_but : (test : ℕ → Bool) (from count slot : ℕ) → from ≤ slot → slot < from + count → test slot ≡ false
    → any test from count ≡ (any test from (slot - from) || any test (slot + 1) (from + count - (slot + 1)))
any_but test from count slot l m out =
    let e : count ≡ slot - from + suc (from + count - (slot + 1)) = omega arith in
    let at : from + (slot - from) ≡ slot = omega arith in
    let split = any_split test from (slot - from) (suc (from + count - (slot + 1))) in
    ap (λ n. any test from n) e ∙ split ∙ ap (λ n. any test from (slot - from) || any test n (suc (from + count - (slot + 1)))) at
    ∙ ap (λ b. any test from (slot - from) || b) (any_past test slot (from + count - (slot + 1)) out)

-- whether a slot among these is held but for this one
pub others_held : (words : List ℕ) (slots first count slot : ℕ) (row : List Bool) → numbers_of words slots ≡ row → first + count ≤ slots → slot < length row → first ≤ slot → slot < first + count
    → any (λ s. bit_at (slice_set row slot false) s) first count
    ≡ (is_some (least (has_as words true) first (slot - first)) || is_some (least (has_as words true) (slot + 1) (first + count - (slot + 1))))
others_held words slots first count slot row view fits within l m =
    any_but (λ s. bit_at (slice_set row slot false) s) first count slot l m (get_or-set_same row slot false false within)
    ∙ ap (λ b. b || any (λ s. bit_at (slice_set row slot false) s) (slot + 1) (first + count - (slot + 1))) (part first (slot - first) (omega arith) (λ i a b e. (let k : i < slot = omega arith in omega (arith, k, e))))
    ∙ ap (λ b. is_some (least (has_as words true) first (slot - first)) || b) (part (slot + 1) (first + count - (slot + 1)) (omega arith) (λ i a b e. omega arith))
  where
    part : (from n : ℕ) → from + n ≤ slots → ((i : ℕ) → from ≤ i → i < from + n → i ≡ slot → ⊥) → any (λ s. bit_at (slice_set row slot false) s) from n ≡ is_some (least (has_as words true) from n)
    part from n fit apart =
        any_same (λ s. bit_at (slice_set row slot false) s) (λ s. bit_at row s) from n (λ i a b. get_or-set_other row slot i false false (apart i a b))
        ∙ held_in_area words slots from n row view fit

-- ---- pages in a row
all_kept : (test : ℕ → Bool) (from count : ℕ) → ((q : ℕ) → from ≤ q → q < from + count → test q ≡ true) → filter test (range_with_len from count) ≡ range_with_len from count
all_kept test from zero h = refl
all_kept test from (suc count) h =
    let here = h from (omega arith) (omega arith) in
    let rest = all_kept test (from + 1) count (λ q l m. h q (omega arith) (omega arith)) in
    rw (here, rest) refl

one_kept : (cover : ℕ → Bool) (first n : ℕ) → n ≤ 1 → ((nat_le first first && nat_lt first (first + n)) || cover first) ≡ true → ((q : ℕ) → first ≤ q → q < first + n → cover q ≡ false)
    → filter (λ q. not (cover q)) (range_with_len first 1) ≡ range_with_len first n
one_kept cover first zero few some empty =
    let here : cover first ≡ true = grind (arith, nat_tests, some) in
    rw here refl
one_kept cover first (suc zero) few some empty =
    let here : cover first ≡ false = empty first (omega arith) (omega arith) in
    rw here refl
one_kept cover first (suc (suc n)) few some empty = absurd (omega arith)

alone_at : (frames : ℕ) (held : List Block) (room : Room) (slot n : ℕ) → IsRoom room → n ≡ new_pages frames held room slot → Fresh frames held room slot n
    → filter (λ q. not (is_covered held q)) (range_with_len (page_of frames room slot) (shadow_pages room)) ≡ range_with_len (page_of frames room slot) n
alone_at frames held (Small class) slot n r e f =
    let first = start_page frames (Small class) slot r in
    let on = rw first at (f.pages (page_of frames (Small class) slot)) in
    let few : n ≤ 1 = grind (arith, e) in
    one_kept (λ q. is_covered held q) (page_of frames (Small class) slot) n few (grind (arith, nat_tests, on)) f.empty
alone_at frames held (Pages pages) slot n r e f =
    rw e (all_kept (λ q. not (is_covered held q)) (page_of frames (Pages pages) slot) pages (λ q l m. ap not (f.empty q l (omega (arith, e, m)))))

-- the pages of a block that hold no other are so many from its first on
alone_pages : (heap : Heap) (block : Block) (x : Last heap block)
    → filter (λ q. not (is_covered (without_block block heap.held) q)) (range_with_len (block.start / 4096) (shadow_pages block.room)) ≡ range_with_len (block.start / 4096) x.n
alone_pages heap block x =
    let first : block.start / 4096 ≡ page_of heap.frames block.room x.slot = ap (λ (b : Block). b.start / 4096) x.is ∙ start_page heap.frames block.room x.slot x.room in
    rw first (alone_at heap.frames (without_block block heap.held) block.room x.slot x.n x.room x.n_is x.fresh)

-- ---- a held block, over the truth values
pub record Starts (frames : ℕ) (block : Block) : Type 0 where
  pub is_room : IsRoom block.room
  pub positive : 0 < frames
  pub past : first_page ≤ block.start / 4096

pub record Own (frames : ℕ) (rows : List (List Bool)) (heap : Heap) (block : Block) (i : ℕ) : Type 0 where
  pub within : i < slots_in frames block.room
  pub area : area_of block.room < length rows
  pub pages : filter (λ q. not (is_covered (without_block block heap.held) q)) (range_with_len (block.start / 4096) (shadow_pages block.room))
      ≡ range_with_len (block.start / 4096) (pages_alone (bits (with_bit rows block.room i false)) block.room i)

held_of : (frames : ℕ) (rows : List (List Bool)) (pages : List HeapPage) (capacity : ℕ) (heap : Heap) (block : Block) → heap_of frames rows pages ≡ heap → AreParts frames rows pages capacity → is_held heap.held block ≡ true → Held frames rows pages block
held_of frames rows pages capacity heap block is p e = held_parts frames rows pages block capacity p (let P : Heap → Type 0 = λ h. is_held h.held block ≡ true in subst P (sym is) e)

pub starts : (frames : ℕ) (rows : List (List Bool)) (pages : List HeapPage) (capacity : ℕ) (heap : Heap) (block : Block) → heap_of frames rows pages ≡ heap → AreParts frames rows pages capacity → is_held heap.held block ≡ true → Starts frames block
starts frames rows pages capacity heap block is p e =
    let s = held_of frames rows pages capacity heap block is p e in
    let r = s.last.room in
    let a = in_area frames block.room s.last.slot r s.within in
    let first : block.start / 4096 ≡ start_of frames block.room s.last.slot / 4096 = ap (λ x. x / 4096) s.start in
    let w = pages_within frames block.room s.last.slot r s.within in
    let some = pages_positive block.room r in
    record { is_room = r; positive = omega arith; past = omega arith }

pub own : (frames : ℕ) (rows : List (List Bool)) (pages : List HeapPage) (capacity : ℕ) (heap : Heap) (block : Block) → heap_of frames rows pages ≡ heap → AreParts frames rows pages capacity → is_held heap.held block ≡ true
    → (i : ℕ) → ((slot : ℕ) → slot < slots_in frames block.room → block.start ≡ start_of frames block.room slot → i ≡ slot) → Own frames rows heap block i
own frames rows pages capacity heap block is p e i h =
    let s = held_of frames rows pages capacity heap block is p e in
    let same : i ≡ s.last.slot = h s.last.slot s.within s.start in
    let count : s.last.n ≡ pages_alone (bits (with_bit rows block.room s.last.slot false)) block.room s.last.slot = s.n ∙ sym (alone_is frames (with_bit rows block.room s.last.slot false) block.room s.last.slot s.last.room) in
    let P : ℕ → Type 0 = λ j. Own frames rows heap block j in
    let Q : Heap → Type 0 = λ x. filter (λ q. not (is_covered (without_block block x.held) q)) (range_with_len (block.start / 4096) (shadow_pages block.room)) ≡ range_with_len (block.start / 4096) (pages_alone (bits (with_bit rows block.room s.last.slot false)) block.room s.last.slot) in
    subst P (sym same) (record {
      within = s.within;
      area = s.area;
      pages = subst Q is (alone_pages (heap_of frames rows pages) block s.last ∙ ap (λ n. range_with_len (block.start / 4096) n) count);
    })
