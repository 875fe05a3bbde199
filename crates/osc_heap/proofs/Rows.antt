-- What the truth values say of the held blocks.
use Rattle.std.proofs.Common.{ℕ, suc, ◌≡◌, ◌<◌, ◌==◌, nat_lt, nat_le, ◌&&◌, ◌||◌, ◌+◌, ◌-◌, ◌*◌, Bool, true, false, cond, List, [], ◌∷◌, slice_index_or, arith, refl, sym, ap, ◌∙◌}
use Rattle.std.proofs.lemmas.Bool.Decides.{nat_tests}
use Rattle.std.proofs.Math.Nat.{suc-mul}
use Rattle.osc_class.specs.Rooms.{IsRoom}
use Rattle.osc_class.specs.declared.Room.{Room}
use Rattle.osc_class.specs.declared.Room.TheVariants.{Small, Pages}
use Rattle.osc_slot.specs.declared.Block.{Block}
use Rattle.osc_slot.specs.Areas.{first_page, area_of, start_of, block_at_slot}
use Rattle.osc_slot.specs.Slots.{is_room, is_block, is_held, holds_in}
use Rattle.osc_slot.specs.Ordered.{AllAbove}
use Rattle.osc_slot.proofs.Exists.{same_slot}
use Rattle.osc_slot.proofs.HeldBlocks.{same_block, is_block_self}
use Rattle.osc_slot.proofs.Bounds.{later_slot}
use Rattle.osc_heap.specs.Layout.{room_at, bit_at, bits, blocks_of_row, blocks_from}

-- blocks at two slots of a room are one where the slots are
pub same_at : (frames : ℕ) (room : Room) (i j : ℕ) → IsRoom room → is_block (block_at_slot frames room i) (block_at_slot frames room j) ≡ (i == j)
same_at frames room i j r = go (i == j) refl (is_block (block_at_slot frames room i) (block_at_slot frames room j)) refl
  where
    go : (t : Bool) → (i == j) ≡ t → (u : Bool) → is_block (block_at_slot frames room i) (block_at_slot frames room j) ≡ u → u ≡ t
    go true e true f = refl
    go true e false f =
        let same : i ≡ j = grind (arith, nat_tests) in
        let self = is_block_self (block_at_slot frames room i) in
        let h : is_block (block_at_slot frames room i) (block_at_slot frames room j) ≡ true = ap (λ k. is_block (block_at_slot frames room i) (block_at_slot frames room k)) (sym same) ∙ self in
        cc
    go false e true f =
        let same = same_block (block_at_slot frames room i) (block_at_slot frames room j) f in
        let k : i ≡ j = same_slot frames room i j r (ap (λ (b : Block). b.start) same) in
        grind (arith, nat_tests)
    go false e false f = refl

-- blocks of two rooms differ
pub other_room : (frames : ℕ) (a b : Room) (i j : ℕ) → is_room a b ≡ false → is_block (block_at_slot frames a i) (block_at_slot frames b j) ≡ false
other_room frames a b i j e = grind (arith, nat_tests, e)

-- the first of a row, and the others
bit_first : (from slot : ℕ) (b : Bool) (row : List Bool) → (nat_le from slot && bit_at (b ∷ row) (slot - from)) ≡ (((slot == from) && b) || (nat_le (from + 1) slot && bit_at row (slot - (from + 1))))
bit_first from slot b row = go (nat_lt slot from) refl (slot == from) refl
  where
    go : (t : Bool) → nat_lt slot from ≡ t → (u : Bool) → (slot == from) ≡ u → (nat_le from slot && bit_at (b ∷ row) (slot - from)) ≡ ((u && b) || (nat_le (from + 1) slot && bit_at row (slot - (from + 1))))
    go true e u f = grind (arith, nat_tests)
    go false e true f =
        let same : slot - from ≡ 0 = grind (arith, nat_tests) in
        rw same (grind (arith, nat_tests))
    go false e false f =
        let next : slot - from ≡ suc (slot - (from + 1)) = grind (arith, nat_tests) in
        rw next (grind (arith, nat_tests))

-- the block at a slot is held exactly where the slot's truth value says so
held_in_row : (frames : ℕ) (room : Room) (from slot : ℕ) (row : List Bool) (rest : List Block) → IsRoom room → is_held (blocks_of_row frames room from row rest) (block_at_slot frames room slot) ≡ ((nat_le from slot && bit_at row (slot - from)) || is_held rest (block_at_slot frames room slot))
unfolding blocks_of_row
held_in_row frames room from slot [] rest r = grind (arith, nat_tests)
held_in_row frames room from slot (true ∷ row) rest r =
    let later = held_in_row frames room (from + 1) slot row rest r in
    let here = same_at frames room slot from r in
    let first = bit_first from slot true row in
    rw (here, later, first) (grind (arith, nat_tests))
held_in_row frames room from slot (false ∷ row) rest r =
    let later = held_in_row frames room (from + 1) slot row rest r in
    let first = bit_first from slot false row in
    rw (later, first) (grind (arith, nat_tests))

held_past_row : (frames : ℕ) (room other : Room) (from slot : ℕ) (row : List Bool) (rest : List Block) → is_room room other ≡ false → is_held (blocks_of_row frames other from row rest) (block_at_slot frames room slot) ≡ is_held rest (block_at_slot frames room slot)
unfolding blocks_of_row
held_past_row frames room other from slot [] rest e = refl
held_past_row frames room other from slot (true ∷ row) rest e =
    let later = held_past_row frames room other (from + 1) slot row rest e in
    let here = other_room frames room other slot from e in
    rw (here, later) refl
held_past_row frames room other from slot (false ∷ row) rest e = held_past_row frames room other (from + 1) slot row rest e

-- the areas of two rooms
pub area_is_room : (room : Room) (area : ℕ) → IsRoom room → is_room room (room_at area) ≡ (area_of room == area)
area_is_room (Small class) area r = go (nat_lt area 13) refl
  where
    go : (t : Bool) → nat_lt area 13 ≡ t → is_room (Small class) (cond t (Small area) (Pages (area - 12))) ≡ (class == area)
    go true e = refl
    go false e = grind (arith, nat_tests)
area_is_room (Pages pages) area r = go (nat_lt area 13) refl
  where
    go : (t : Bool) → nat_lt area 13 ≡ t → is_room (Pages pages) (cond t (Small area) (Pages (area - 12))) ≡ (12 + pages == area)
    go true e = grind (arith, nat_tests)
    go false e = grind (arith, nat_tests)

pub room_at_area : (room : Room) → IsRoom room → room_at (area_of room) ≡ room
room_at_area (Small class) r = let e : nat_lt class 13 ≡ true = grind (arith, nat_tests) in rw e refl
room_at_area (Pages pages) r = let e : nat_lt (12 + pages) 13 ≡ false = grind (arith, nat_tests) in rw e (ap Pages (omega arith))

held_from : (frames : ℕ) (room : Room) (area slot : ℕ) (rows : List (List Bool)) → IsRoom room → is_held (blocks_from frames area rows) (block_at_slot frames room slot) ≡ (nat_le area (area_of room) && bit_at (slice_index_or rows (area_of room - area) []) slot)
unfolding blocks_from
held_from frames room area slot [] r = grind (arith, nat_tests)
held_from frames room area slot (row ∷ rows) r = go (area_of room == area) refl (held_from frames room (area + 1) slot rows r)
  where
    past : (t : Bool) → nat_lt (area_of room) area ≡ t → (area_of room == area) ≡ false → (nat_le (area + 1) (area_of room) && bit_at (slice_index_or rows (area_of room - (area + 1)) []) slot) ≡ (nat_le area (area_of room) && bit_at (slice_index_or (row ∷ rows) (area_of room - area) []) slot)
    past true l e = grind (arith, nat_tests)
    past false l e =
        let next : area_of room - area ≡ suc (area_of room - (area + 1)) = grind (arith, nat_tests) in
        rw next (grind (arith, nat_tests))

    go : (t : Bool) → (area_of room == area) ≡ t
        → is_held (blocks_from frames (area + 1) rows) (block_at_slot frames room slot) ≡ (nat_le (area + 1) (area_of room) && bit_at (slice_index_or rows (area_of room - (area + 1)) []) slot)
        → is_held (blocks_of_row frames (room_at area) 0 row (blocks_from frames (area + 1) rows)) (block_at_slot frames room slot) ≡ (nat_le area (area_of room) && bit_at (slice_index_or (row ∷ rows) (area_of room - area) []) slot)
    go true e later =
        let same : area_of room ≡ area = grind (arith, nat_tests) in
        let at : room_at area ≡ room = ap room_at (sym same) ∙ room_at_area room r in
        let here = held_in_row frames room 0 slot row (blocks_from frames (area + 1) rows) r in
        let zero : area_of room - area ≡ 0 = omega arith in
        rw (at, zero, here, later) (grind (arith, nat_tests))
    go false e later =
        let differ : is_room room (room_at area) ≡ false = area_is_room room area r ∙ e in
        let here = held_past_row frames room (room_at area) 0 slot row (blocks_from frames (area + 1) rows) differ in
        here ∙ later ∙ past (nat_lt (area_of room) area) refl e

-- the truth values are a test of what is held
pub held_is_bit : (frames : ℕ) (rows : List (List Bool)) (room : Room) (slot : ℕ) → IsRoom room → holds_in frames (blocks_from frames 0 rows) room slot ≡ bits rows room slot
held_is_bit frames rows room slot r =
    let z : area_of room - 0 ≡ area_of room = omega arith in
    held_from frames room 0 slot rows r ∙ ap (λ a. nat_le 0 (area_of room) && bit_at (slice_index_or rows a []) slot) z ∙ always (area_of room) (bits rows room slot)
  where
    always : (n : ℕ) (t : Bool) → (nat_le 0 n && t) ≡ t
    always n t = grind (arith, nat_tests)

-- where the blocks of a row start, and those of the areas
pub all_above_row : (frames : ℕ) (room : Room) (from n : ℕ) (row : List Bool) (rest : List Block) → IsRoom room → n < start_of frames room from → AllAbove (λ (b : Block). b.start) n rest → AllAbove (λ (b : Block). b.start) n (blocks_of_row frames room from row rest)
unfolding blocks_of_row AllAbove
all_above_row frames room from n [] rest r l a = a
all_above_row frames room from n (true ∷ row) rest r l a =
    let m = later_slot frames room from (from + 1) r (omega arith) in
    (l, all_above_row frames room (from + 1) n row rest r (omega arith) a)
all_above_row frames room from n (false ∷ row) rest r l a =
    let m = later_slot frames room from (from + 1) r (omega arith) in
    all_above_row frames room (from + 1) n row rest r (omega arith) a

pub room_at_is_room : (area : ℕ) → IsRoom (room_at area)
room_at_is_room area = go (nat_lt area 13) refl
  where
    go : (t : Bool) → nat_lt area 13 ≡ t → IsRoom (cond t (Small area) (Pages (area - 12)))
    go true e = grind (arith, nat_tests)
    go false e = grind (arith, nat_tests)

pub area_of_room_at : (area : ℕ) → area_of (room_at area) ≡ area
area_of_room_at area = go (nat_lt area 13) refl
  where
    go : (t : Bool) → nat_lt area 13 ≡ t → area_of (cond t (Small area) (Pages (area - 12))) ≡ area
    go true e = refl
    go false e = grind (arith, nat_tests)

-- the areas from this one on start past an earlier number
pub all_above_areas : (frames : ℕ) (area n : ℕ) (rows : List (List Bool)) → n < 4096 * (first_page + area * frames) → AllAbove (λ (b : Block). b.start) n (blocks_from frames area rows)
unfolding blocks_from AllAbove
all_above_areas frames area n [] l = tt
all_above_areas frames area n (row ∷ rows) l =
    let e = area_of_room_at area in
    let m = suc-mul area frames in
    let next : area + 1 ≡ suc area = omega arith in
    let first : n < start_of frames (room_at area) 0 = rw e (omega arith) in
    all_above_row frames (room_at area) 0 n row (blocks_from frames (area + 1) rows) (room_at_is_room area) first (all_above_areas frames (area + 1) n rows (rw next (omega arith)))
