-- A block that starts there would be of the room that its area tells, at the slot that its page tells.
use Rattle.std.proofs.Common.{◌≡◌, ◌<◌, ◌≤◌, ◌+◌, ◌/◌, ◌-◌, arith, refl, sym, ap, ◌∙◌}
use Rattle.osc_slot.specs.Areas.{first_page, area_of, slots_in}
use Rattle.osc_heap.specs.Layout.{room_at}
use Rattle.osc_heap.proofs.Decode.{near_area, area_most, near_room}
use Rattle.osc_heap.proofs.slots.slot_at.Goals as goal
use Rattle.osc_heap.proofs.slots.slot_at.Goals.{else-slot-slots_in-via-then-slot-slots_in+else-start_of-start, else-slot-slots_in-via-else-slot-slots_in}

pub returns-then-area-from-clause-none : goal.returns-then-area-from-clause-none
returns-then-area-from-clause-none c = λ room slot r l e.
    let area : (c.args.start / 4096 - first_page) / c.args.frames ≡ area_of room = near_area c.args.frames room slot c.args.start r l e in
    let most = area_most c.args.frames room slot r l in
    let there : 12 + c.from-2.result < area_of room = rw area at (rw c.from.ensures at c.if-area-from.true) in
    omega arith

pub returns-else-slot-slots_in-clause-none : goal.returns-else-slot-slots_in-clause-none
returns-else-slot-slots_in-clause-none c = λ room slot r l e.
    let same : c.room_at-room.result ≡ room = near_room c.args.frames ((c.args.start / 4096 - first_page) / c.args.frames) room c.room_at-room.result slot c.args.start r l e refl (c.room_at-room.ensures.room ∙ ap (λ n. room_at ((c.args.start / 4096 - first_page) / n)) c.from.ensures) in
    let at : c.slot_near-slot.result ≡ slot = c.slot_near-slot.ensures slot (rw same l) (rw same e) in
    elim c.else-slot-slots_in.branch [
      | else-slot-slots_in-via-then-slot-slots_in+else-start_of-start w ↦ w.if-start_of-start.false (w.start_of.ensures.start ∙ rw (same, at) (sym e))
      | else-slot-slots_in-via-else-slot-slots_in w ↦ (let past : slots_in c.args.frames room ≤ slot = rw (c.slots_in.ensures, same, at) at w.if-slot-slots_in.false in omega arith)
    ]
