-- What a change of one truth value makes of the held blocks.
use Rattle.std.proofs.Common.{ℕ, zero, suc, ◌≡◌, ◌<◌, ◌≤◌, nat_lt, ◌+◌, ◌*◌, Bool, true, false, List, [], ◌∷◌, length, slice_index_or, slice_set, arith, refl, ap, ◌∙◌}
use Rattle.std.proofs.lemmas.Bool.Decides.{nat_tests}
use Rattle.std.proofs.lemmas.Grind.{common_steps}
use Rattle.std.proofs.Math.Nat.{suc-mul}
use Rattle.osc_class.specs.Rooms.{IsRoom}
use Rattle.osc_class.specs.declared.Room.{Room}
use Rattle.osc_slot.specs.declared.Block.{Block}
use Rattle.osc_slot.specs.Areas.{first_page, area_of, start_of, slots_in, block_at_slot}
use Rattle.osc_slot.specs.Slots.{is_room, is_block}
use Rattle.osc_slot.specs.Heap.{with_block, without_block}
use Rattle.osc_slot.specs.Ordered.{insert_by, AllAbove}
use Rattle.osc_slot.proofs.InOrder.{insert-front}
use Rattle.osc_slot.proofs.Bounds.{later_slot, later_area, bytes_positive, pages_positive, in_area}
use Rattle.osc_heap.specs.Layout.{room_at, bit_at, row_of, blocks_of_row, blocks_from, AreSized}
use Rattle.osc_heap.proofs.Rows.{same_at, other_room, area_is_room, room_at_area, room_at_is_room, area_of_room_at, all_above_row, all_above_areas}

-- a block more in a row
more_in_row : (frames : ℕ) (room : Room) (from j slot : ℕ) (row : List Bool) (rest : List Block) → IsRoom room → slot ≡ from + j → j < length row → bit_at row j ≡ false → AllAbove (λ (b : Block). b.start) (start_of frames room slot) rest
    → with_block (block_at_slot frames room slot) (blocks_of_row frames room from row rest) ≡ blocks_of_row frames room from (slice_set row j true) rest
unfolding blocks_of_row insert_by
more_in_row frames room from j slot [] rest r s l e a = absurd (omega arith)
more_in_row frames room from zero slot (true ∷ row) rest r s l e a = cc
more_in_row frames room from zero slot (false ∷ row) rest r s l e a =
    let z : slot ≡ from = omega arith in
    let m = later_slot frames room slot (from + 1) r (omega arith) in
    let p = bytes_positive room r in
    let above = all_above_row frames room (from + 1) (start_of frames room slot) row rest r (omega arith) a in
    insert-front (λ (b : Block). b.start) (block_at_slot frames room slot) (blocks_of_row frames room (from + 1) row rest) above
    ∙ ap (λ k. block_at_slot frames room k ∷ blocks_of_row frames room (from + 1) row rest) z
more_in_row frames room from (suc j) slot (true ∷ row) rest r s l e a =
    let m = later_slot frames room from slot r (omega arith) in
    let p = bytes_positive room r in
    let first : nat_lt (start_of frames room from) (start_of frames room slot) ≡ true = grind (arith, nat_tests, m, p) in
    let later = more_in_row frames room (from + 1) j slot row rest r (omega arith) (omega arith) e a in
    rw first (ap (λ bs. block_at_slot frames room from ∷ bs) later)
more_in_row frames room from (suc j) slot (false ∷ row) rest r s l e a = more_in_row frames room (from + 1) j slot row rest r (omega arith) (omega arith) e a

-- a block past those of a row
past_row : (frames : ℕ) (room : Room) (from : ℕ) (b : Block) (row : List Bool) (rest : List Block) → ((k : ℕ) → from ≤ k → k < from + length row → start_of frames room k < b.start) → with_block b (blocks_of_row frames room from row rest) ≡ blocks_of_row frames room from row (with_block b rest)
unfolding blocks_of_row insert_by
past_row frames room from b [] rest h = refl
past_row frames room from b (true ∷ row) rest h =
    let l = h from (omega arith) (omega arith) in
    let first : nat_lt (start_of frames room from) b.start ≡ true = grind (arith, nat_tests, l) in
    let later = past_row frames room (from + 1) b row rest (λ k m n. h k (omega arith) (omega arith)) in
    rw first (ap (λ bs. block_at_slot frames room from ∷ bs) later)
past_row frames room from b (false ∷ row) rest h = past_row frames room (from + 1) b row rest (λ k m n. h k (omega arith) (omega arith))

-- a block starts before the next area
before_next : (frames : ℕ) (room : Room) (slot : ℕ) → IsRoom room → slot < slots_in frames room → start_of frames room slot < 4096 * (first_page + (area_of room + 1) * frames)
before_next frames room slot r l = let w = in_area frames room slot r l in let p = pages_positive room r in omega arith

after_area : (frames : ℕ) (room : Room) (slot : ℕ) → 4096 * (first_page + area_of room * frames) ≤ start_of frames room slot
after_area frames room slot = omega arith

-- a block more in one of the areas
pub more_in_area : (frames : ℕ) (area : ℕ) (room : Room) (slot at : ℕ) (rows : List (List Bool)) → IsRoom room → area_of room ≡ area + at → AreSized frames area rows → slot < slots_in frames room → at < length rows → bit_at (slice_index_or rows at []) slot ≡ false
    → with_block (block_at_slot frames room slot) (blocks_from frames area rows) ≡ blocks_from frames area (slice_set rows at (slice_set (slice_index_or rows at []) slot true))
unfolding blocks_from AreSized
more_in_area frames area room slot at [] r s z l m e = absurd (omega arith)
more_in_area frames area room slot zero (row ∷ rows) r s z l m e =
    let here : room_at area ≡ room = ap room_at (let h : area ≡ area_of room = omega arith in h) ∙ room_at_area room r in
    let long : length row ≡ slots_in frames room = z.0 ∙ ap (slots_in frames) here in
    let next = before_next frames room slot r l in
    let n : area_of room + 1 ≡ area + 1 = omega arith in
    let above = all_above_areas frames (area + 1) (start_of frames room slot) rows (rw n at next) in
    rw here (more_in_row frames room 0 slot slot row (blocks_from frames (area + 1) rows) r (omega arith) (omega arith) e above)
more_in_area frames area room slot (suc at) (row ∷ rows) r s z l m e =
    let later = more_in_area frames (area + 1) room slot at rows r (omega arith) z.1 l (omega arith) e in
    let g = later_area frames area (area_of room) (omega arith) in
    let first = past_row frames (room_at area) 0 (block_at_slot frames room slot) row (blocks_from frames (area + 1) rows) (λ k m n.
    (let long = z.0 in
    let here = before_next frames (room_at area) k (room_at_is_room area) (omega arith) in
    let is = area_of_room_at area in
    let there = after_area frames room slot in
    let mul = suc-mul area frames in
    let last : 4096 * (first_page + (area_of (room_at area) + 1) * frames) ≤ 4096 * (first_page + area_of room * frames) = rw is (omega arith) in
    omega arith)) in
    first ∙ ap (λ bs. blocks_of_row frames (room_at area) 0 row bs) later

-- a row without a block of none of its slots
other_row : (frames : ℕ) (room : Room) (from : ℕ) (b : Block) (row : List Bool) (rest : List Block) → ((k : ℕ) → from ≤ k → is_block b (block_at_slot frames room k) ≡ false) → without_block b (blocks_of_row frames room from row rest) ≡ blocks_of_row frames room from row (without_block b rest)
unfolding blocks_of_row
other_row frames room from b [] rest h = refl
other_row frames room from b (true ∷ row) rest h =
    let here = h from (omega arith) in
    let later = other_row frames room (from + 1) b row rest (λ k m. h k (omega arith)) in
    rw here (ap (λ bs. block_at_slot frames room from ∷ bs) later)
other_row frames room from b (false ∷ row) rest h = other_row frames room (from + 1) b row rest (λ k m. h k (omega arith))

-- a block less in a row
less_in_row : (frames : ℕ) (room : Room) (from j slot : ℕ) (row : List Bool) (rest : List Block) → IsRoom room → slot ≡ from + j → j < length row
    → without_block (block_at_slot frames room slot) (blocks_of_row frames room from row rest) ≡ blocks_of_row frames room from (slice_set row j false) (without_block (block_at_slot frames room slot) rest)
unfolding blocks_of_row
less_in_row frames room from j slot [] rest r s l = absurd (omega arith)
less_in_row frames room from zero slot (true ∷ row) rest r s l =
    let here : is_block (block_at_slot frames room slot) (block_at_slot frames room from) ≡ true = same_at frames room slot from r ∙ grind (arith, nat_tests) in
    rw here (other_row frames room (from + 1) (block_at_slot frames room slot) row rest (λ k m. same_at frames room slot k r ∙ grind (arith, nat_tests)))
less_in_row frames room from zero slot (false ∷ row) rest r s l =
    other_row frames room (from + 1) (block_at_slot frames room slot) row rest (λ k m. same_at frames room slot k r ∙ grind (arith, nat_tests))
less_in_row frames room from (suc j) slot (true ∷ row) rest r s l =
    let here : is_block (block_at_slot frames room slot) (block_at_slot frames room from) ≡ false = same_at frames room slot from r ∙ grind (arith, nat_tests) in
    let later = less_in_row frames room (from + 1) j slot row rest r (omega arith) (omega arith) in
    rw here (ap (λ bs. block_at_slot frames room from ∷ bs) later)
less_in_row frames room from (suc j) slot (false ∷ row) rest r s l = less_in_row frames room (from + 1) j slot row rest r (omega arith) (omega arith)

-- areas without a block of an earlier one
other_areas : (frames : ℕ) (area : ℕ) (room : Room) (slot : ℕ) (rows : List (List Bool)) → IsRoom room → area_of room < area → without_block (block_at_slot frames room slot) (blocks_from frames area rows) ≡ blocks_from frames area rows
unfolding blocks_from
other_areas frames area room slot [] r l = refl
other_areas frames area room slot (row ∷ rows) r l =
    let differ : is_room room (room_at area) ≡ false = area_is_room room area r ∙ grind (arith, nat_tests) in
    let here = other_row frames (room_at area) 0 (block_at_slot frames room slot) row (blocks_from frames (area + 1) rows) (λ k m. other_room frames room (room_at area) slot k differ) in
    let later = other_areas frames (area + 1) room slot rows r (omega arith) in
    here ∙ ap (λ bs. blocks_of_row frames (room_at area) 0 row bs) later

-- a block less in one of the areas
pub less_in_area : (frames : ℕ) (area : ℕ) (room : Room) (slot at : ℕ) (rows : List (List Bool)) → IsRoom room → area_of room ≡ area + at → at < length rows → slot < length (slice_index_or rows at [])
    → without_block (block_at_slot frames room slot) (blocks_from frames area rows) ≡ blocks_from frames area (slice_set rows at (slice_set (slice_index_or rows at []) slot false))
unfolding blocks_from
less_in_area frames area room slot at [] r s m l = absurd (omega arith)
less_in_area frames area room slot zero (row ∷ rows) r s m l =
    let here : room_at area ≡ room = ap room_at (let h : area ≡ area_of room = omega arith in h) ∙ room_at_area room r in
    let rest = other_areas frames (area + 1) room slot rows r (omega arith) in
    rw here (less_in_row frames room 0 slot slot row (blocks_from frames (area + 1) rows) r (omega arith) l ∙ ap (λ bs. blocks_of_row frames room 0 (slice_set row slot false) bs) rest)
less_in_area frames area room slot (suc at) (row ∷ rows) r s m l =
    let differ : is_room room (room_at area) ≡ false = area_is_room room area r ∙ grind (arith, nat_tests) in
    let here = other_row frames (room_at area) 0 (block_at_slot frames room slot) row (blocks_from frames (area + 1) rows) (λ k n. other_room frames room (room_at area) slot k differ) in
    let later = less_in_area frames (area + 1) room slot at rows r (omega arith) (omega arith) l in
    here ∙ ap (λ bs. blocks_of_row frames (room_at area) 0 row bs) later

-- the sizes of the areas stay
pub sized-set : (frames area at slot : ℕ) (t : Bool) (rows : List (List Bool)) → AreSized frames area rows → AreSized frames area (slice_set rows at (slice_set (slice_index_or rows at []) slot t))
unfolding AreSized
sized-set frames area at slot t [] z = tt
sized-set frames area zero slot t (row ∷ rows) z = (long row slot ∙ z.0, z.1)
  where
    long : (xs : List Bool) (i : ℕ) → length (slice_set xs i t) ≡ length xs
    long xs i = grind (arith, common_steps)
sized-set frames area (suc at) slot t (row ∷ rows) z = (z.0, sized-set frames (area + 1) at slot t rows z.1)

pub row_sized : (frames area at : ℕ) (rows : List (List Bool)) → AreSized frames area rows → at < length rows → length (slice_index_or rows at []) ≡ slots_in frames (room_at (area + at))
unfolding AreSized
row_sized frames area at [] z l = absurd (omega arith)
row_sized frames area zero (row ∷ rows) z l = let n : area + 0 ≡ area = omega arith in rw n z.0
row_sized frames area (suc at) (row ∷ rows) z l = let n : area + suc at ≡ area + 1 + at = omega arith in rw n (row_sized frames (area + 1) at rows z.1 (omega arith))

pub room_sized : (frames : ℕ) (rows : List (List Bool)) (room : Room) → IsRoom room → AreSized frames 0 rows → area_of room < length rows → length (row_of rows room) ≡ slots_in frames room
room_sized frames rows room r z l =
    let n : 0 + area_of room ≡ area_of room = omega arith in
    row_sized frames 0 (area_of room) rows z l ∙ ap (λ a. slots_in frames (room_at a)) n ∙ ap (slots_in frames) (room_at_area room r)
