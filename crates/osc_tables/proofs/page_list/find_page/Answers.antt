-- At its place no page has the number.
use Rattle.std.proofs.Common.{arith, sym, ◌∙◌}
use Rattle.osc_tables.proofs.PagePlaces.{mapping_at-found, mapping_at-missed, none_unless, gap_slot}
use Rattle.osc_tables.proofs.page_list.find_page.Goals as goal
use Rattle.osc_tables.proofs.page_list.find_page.Goals.{else-slot-number-via-then-slot-number+else-is_some, else-slot-number-via-else-slot-number}

pub returns-then-is_some : goal.returns-then-is_some
returns-then-is_some c = record {
  place = c.place_for-at.ensures.place;
  there =
      let page = mapping_at-found c.args.number c.args.slots.now c.place_for-at.result _ c.requires c.if-at-slots.true c.if-slot-number.true in
      rw page (sym c.is_some.ensures ∙ c.if-is_some.true);
}

pub returns-else-slot-number : goal.returns-else-slot-number
returns-else-slot-number c =
    elim c.else-slot-number.branch [
      | else-slot-number-via-then-slot-number+else-is_some w ↦ mapping_at-found c.args.number c.args.slots.now c.place_for-at.result _ c.requires c.if-at-slots.true w.if-slot-number.true ∙ none_unless _ (sym w.is_some.ensures ∙ w.if-is_some.false)
      | else-slot-number-via-else-slot-number w ↦ mapping_at-missed c.args.number c.args.slots.now c.place_for-at.result _ c.requires c.place_for-at.ensures.place (λ l. w.if-slot-number.false)
    ]

pub returns-else-at-slots : goal.returns-else-at-slots
returns-else-at-slots c = mapping_at-missed c.args.number c.args.slots.now c.place_for-at.result (gap_slot 0) c.requires c.place_for-at.ensures.place (λ l. absurd (omega arith))
