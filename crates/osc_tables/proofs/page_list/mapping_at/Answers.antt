-- At its place no page has the number.
use Rattle.std.proofs.Common.{arith, sym}
use Rattle.osc_tables.proofs.PagePlaces.{mapping_at-found, mapping_at-missed, gap_slot}
use Rattle.osc_tables.proofs.page_list.mapping_at.Goals as goal

pub returns-then-slot-number : goal.returns-then-slot-number
returns-then-slot-number c = sym (mapping_at-found c.args.number c.args.slots.now c.place_for-at.result _ c.requires c.if-at-slots.true c.if-slot-number.true)

pub returns-else-slot-number : goal.returns-else-slot-number
returns-else-slot-number c = sym (mapping_at-missed c.args.number c.args.slots.now c.place_for-at.result _ c.requires c.place_for-at.ensures.place (λ l. c.if-slot-number.false))

pub returns-else-at-slots : goal.returns-else-at-slots
returns-else-at-slots c = sym (mapping_at-missed c.args.number c.args.slots.now c.place_for-at.result (gap_slot 0) c.requires c.place_for-at.ensures.place (λ l. absurd (omega arith)))
