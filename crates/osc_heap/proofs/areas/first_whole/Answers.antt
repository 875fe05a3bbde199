-- The least page that is told to hold no block is the least free slot.
use Rattle.std.proofs.Common.{ℕ, ◌≡◌, ◌<◌, [], Bool, List, not, length, get_or, ap, ◌∙◌}
use Rattle.osc_slot.specs.Areas.{area_of}
use Rattle.osc_slot.specs.Least.{least}
use Rattle.osc_heap.specs.Layout.{bit_at, row_of}
use Rattle.osc_heap.proofs.Changes.{room_sized}
use Rattle.osc_heap.proofs.Tells.{whole_told}
use Rattle.osc_heap.proofs.areas.first_whole.Goals as goal

pub returns-in-Some : goal.returns-in-Some
returns-in-Some c =
    let within : area_of c.args.room < length c.args.told.now = rw c.area_of-area.ensures at c.if-area-told.true in
    whole_told c.args.frames c.args.areas.now c.args.told.now c.args.room c.index-told-area.result _ c.requires.told c.requires.is_room.0 c.requires.is_room.1 within (rw c.area_of-area.ensures at c.index-told-area.is) c.in-Some.ensures

pub returns-in-None : goal.returns-in-None
returns-in-None c =
    let within : area_of c.args.room < length c.args.told.now = rw c.area_of-area.ensures at c.if-area-told.true in
    whole_told c.args.frames c.args.areas.now c.args.told.now c.args.room c.index-told-area.result _ c.requires.told c.requires.is_room.0 c.requires.is_room.1 within (rw c.area_of-area.ensures at c.index-told-area.is) c.in-None.ensures

pub returns : goal.returns
returns c =
    (rw c.area_of-area.ensures at c.least_free.ensures)
    ∙ ap (λ (n : ℕ). least (λ slot. not (bit_at (row_of c.args.areas.now c.args.room) slot)) 0 n) (room_sized c.args.frames c.args.areas.now c.args.room c.requires.is_room.0 c.requires.areas.1 c.requires.is_room.2)
