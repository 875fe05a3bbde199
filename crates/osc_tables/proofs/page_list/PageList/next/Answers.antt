-- The first page from the place on.
use Rattle.std.proofs.Common.{◌≡◌, ◌-◌, ◌∙◌, ap, arith, take, drop, length, length-drop}
use Rattle.osc_tables.specs.Listed.{Listed, least_number}
use Rattle.osc_tables.proofs.Copies.{take_past}
use Rattle.osc_tables.proofs.PagePlaces.{first_number-drop}
use Rattle.osc_tables.proofs.page_list.PageList.next.Goals as goal

pub returns : goal.returns
returns c =
    let slots = c.self.inside.slots.items in
    let at = c.place_for-at.result in
    let place = rw c.deref.ensures.value at c.place_for-at.ensures.place in
    let long = length-drop at slots in
    let all : take (length slots - at) (drop at slots) ≡ drop at slots = take_past (drop at slots) (length slots - at) (omega arith) in
    let first = rw (c.deref-2.ensures.value, all) at c.first_number.ensures in
    first ∙ first_number-drop c.args.from slots at place c.self.invariant.0.ascend ∙ ap (λ (l : Listed). least_number c.args.from l.pages) c.self.view_is
