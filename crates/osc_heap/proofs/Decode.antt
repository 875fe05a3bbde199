-- The slot that a block's start tells.
use Rattle.std.proofs.Common.{ℕ, ◌≡◌, ◌<◌, ◌≤◌, ◌+◌, ◌-◌, ◌*◌, ◌/◌, ◌%◌, arith, ap, ◌∙◌}
use Rattle.std.proofs.Math.Nat.{mul-div_left, div-add-mod', div-eq_of_lt-le}
use Rattle.std.proofs.lemmas.Nat.{mod-mul-add}
use Rattle.osc_class.specs.Rooms.{size_of, IsRoom}
use Rattle.osc_class.specs.declared.Room.{Room}
use Rattle.osc_class.specs.declared.Room.TheVariants.{Small, Pages}
use Rattle.osc_slot.specs.Areas.{first_page, area_of, slots_of, slots_in, page_in, offset_in, start_of}
use Rattle.osc_heap.specs.Layout.{room_at}
use Rattle.osc_heap.proofs.Rows.{room_at_area}
use Rattle.osc_slot.proofs.Bounds.{size_positive, pages_within, pages_positive, start_page, offset_below}

near_page : (frames : ℕ) (room : Room) (slot : ℕ) → IsRoom room → slot < slots_in frames room → (start_of frames room slot / 4096 - first_page) % frames ≡ page_in room slot
near_page frames room slot r l =
    let e = start_page frames room slot r in
    let w = pages_within frames room slot r l in
    let p = pages_positive room r in
    let d : start_of frames room slot / 4096 - first_page ≡ area_of room * frames + page_in room slot = rw e (omega arith) in
    rw d (mod-mul-add (area_of room) frames (page_in room slot) (omega arith))

near_offset : (frames : ℕ) (room : Room) (slot : ℕ) → IsRoom room → start_of frames room slot % 4096 ≡ offset_in room slot
near_offset frames room slot r = let o = offset_below room slot r in omega arith

pub near_small : (frames class slot start : ℕ) → class < 13 → slot < slots_in frames (Small class) → start ≡ start_of frames (Small class) slot → (start / 4096 - first_page) % frames * slots_of class + start % 4096 / size_of class ≡ slot
near_small frames class slot start r l e =
    let p = near_page frames (Small class) slot r l in
    let o = near_offset frames (Small class) slot r in
    let m = mul-div_left (slot % slots_of class) (size_positive class r) in
    let d = div-add-mod' slot (slots_of class) in
    rw (e, p, o, m) d

pub near_pages : (frames pages slot start : ℕ) → 0 < pages → slot < slots_in frames (Pages pages) → start ≡ start_of frames (Pages pages) slot → (start / 4096 - first_page) % frames / pages ≡ slot
near_pages frames pages slot start r l e =
    let p = near_page frames (Pages pages) slot r l in
    rw (e, p) (mul-div_left slot r)

pub near_area : (frames : ℕ) (room : Room) (slot start : ℕ) → IsRoom room → slot < slots_in frames room → start ≡ start_of frames room slot → (start / 4096 - first_page) / frames ≡ area_of room
near_area frames room slot start r l e =
    let s = start_page frames room slot r in
    let w = pages_within frames room slot r l in
    let p = pages_positive room r in
    let d : start_of frames room slot / 4096 - first_page ≡ area_of room * frames + page_in room slot = rw s (omega arith) in
    rw (e, d) (div-eq_of_lt-le {k = area_of room} frames (omega arith) (omega arith))

pub area_most : (frames : ℕ) (room : Room) (slot : ℕ) → IsRoom room → slot < slots_in frames room → area_of room ≤ 12 + frames
area_most frames (Small class) slot r l = omega arith
area_most frames (Pages pages) slot r l =
    let h = pages_within frames (Pages pages) slot r l in
    omega arith

-- the room that a start tells is that of the block which starts there
pub near_room : (frames area : ℕ) (room other : Room) (slot start : ℕ) → IsRoom room → slot < slots_in frames room → start ≡ start_of frames room slot → area ≡ (start / 4096 - first_page) / frames → other ≡ room_at area → other ≡ room
near_room frames area room other slot start r l e a o = o ∙ ap room_at (a ∙ near_area frames room slot start r l e) ∙ room_at_area room r
