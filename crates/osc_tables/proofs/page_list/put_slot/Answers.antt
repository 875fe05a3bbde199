-- Into a gap, or between its neighbours.
use Rattle.std.proofs.Common.{◌∙◌, sym}
use Rattle.osc_tables.proofs.PagePlaces.{filled_gap, moved_gap, inserted_slot}
use Rattle.osc_tables.proofs.page_list.put_slot.Goals as goal

pub returns-then-is_gap-clause-pages : goal.returns-then-is_gap-clause-pages
returns-then-is_gap-clause-pages c =
    let place = rw c.deref.ensures.value at c.place_for-at.ensures.place in
    let gap = rw c.deref-2.ensures.value at (sym c.is_gap.ensures ∙ c.if-is_gap.true) in
    (filled_gap c.args.number c.args.mapping c.args.slots.now.items c.place_for-at.result place c.requires.ascend gap).pages

pub returns-then-is_gap-clause-ascend : goal.returns-then-is_gap-clause-ascend
returns-then-is_gap-clause-ascend c =
    let place = rw c.deref.ensures.value at c.place_for-at.ensures.place in
    let gap = rw c.deref-2.ensures.value at (sym c.is_gap.ensures ∙ c.if-is_gap.true) in
    (filled_gap c.args.number c.args.mapping c.args.slots.now.items c.place_for-at.result place c.requires.ascend gap).ascend

pub returns-then-is_gap-2-clause-pages : goal.returns-then-is_gap-2-clause-pages
returns-then-is_gap-2-clause-pages c =
    let place = rw c.deref.ensures.value at c.place_for-at.ensures.place in
    let full = rw c.deref-2.ensures.value at (sym c.is_gap.ensures ∙ c.if-is_gap.false) in
    let gap = rw c.deref-then-at-gt0.ensures.value at (sym c.is_gap-then-at-gt0.ensures ∙ c.if-is_gap-2.true) in
    (moved_gap c.args.number c.args.mapping c.args.slots.now.items c.place_for-at.result place c.requires.ascend c.requires.unmapped full c.if-at-gt0.true gap).pages

pub returns-then-is_gap-2-clause-ascend : goal.returns-then-is_gap-2-clause-ascend
returns-then-is_gap-2-clause-ascend c =
    let place = rw c.deref.ensures.value at c.place_for-at.ensures.place in
    let full = rw c.deref-2.ensures.value at (sym c.is_gap.ensures ∙ c.if-is_gap.false) in
    let gap = rw c.deref-then-at-gt0.ensures.value at (sym c.is_gap-then-at-gt0.ensures ∙ c.if-is_gap-2.true) in
    (moved_gap c.args.number c.args.mapping c.args.slots.now.items c.place_for-at.result place c.requires.ascend c.requires.unmapped full c.if-at-gt0.true gap).ascend

pub returns-else-at-gt0-clause-pages : goal.returns-else-at-gt0-clause-pages
returns-else-at-gt0-clause-pages c =
    let place = rw c.deref.ensures.value at c.place_for-at.ensures.place in
    let full = rw c.deref-2.ensures.value at (sym c.is_gap.ensures ∙ c.if-is_gap.false) in
    rw (c.insert.ensures.items, c.unwrap.ensures) (inserted_slot c.args.number c.args.mapping c.args.slots.now.items c.place_for-at.result place c.requires.ascend c.requires.unmapped full).pages

pub returns-else-at-gt0-clause-ascend : goal.returns-else-at-gt0-clause-ascend
returns-else-at-gt0-clause-ascend c =
    let place = rw c.deref.ensures.value at c.place_for-at.ensures.place in
    let full = rw c.deref-2.ensures.value at (sym c.is_gap.ensures ∙ c.if-is_gap.false) in
    rw (c.insert.ensures.items, c.unwrap.ensures) (inserted_slot c.args.number c.args.mapping c.args.slots.now.items c.place_for-at.result place c.requires.ascend c.requires.unmapped full).ascend
