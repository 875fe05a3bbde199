-- The copy has the same slots, and other frames.
use Rattle.std.proofs.Common.{◌≡◌, ◌∙◌, ap, sym, refl, arith, length}
use Rattle.osc_tables.specs.Listed.{Listed}
use Rattle.osc_tables.specs.Slots.{pages_in, renamed_slot}
use Rattle.osc_tables.proofs.PagePlaces.{SlotsAscend-renamed, pages_in-renamed, length-mapped, length-renamed}
use Rattle.osc_tables.proofs.page_list.PageList.copy_to.Goals as goal

pub invariant_of-into : goal.invariant_of-into
invariant_of-into c =
    let slots = c.self.inside.slots.items in
    let names = c.args.names.now in
    let old = c.self.invariant.0 in
    let room : c.into.inside.room ≡ c.self.inside.room = ap (λ (l : Listed). l.room) c.into.view_is ∙ c.requires.room ∙ sym (ap (λ (l : Listed). l.room) c.self.view_is) in
    let long = length-mapped (renamed_slot names) slots in
    let pages = ap length (pages_in-renamed names slots) ∙ length-renamed names (pages_in slots) in
    rw (c.copy_slots.ensures.items, c.deref.ensures.value) (
      record {
        ascend = SlotsAscend-renamed names slots old.ascend;
        counted = old.counted ∙ sym pages;
        few_gaps = omega (arith, old.few_gaps, long);
        fits = omega (arith, old.fits, room);
      },
      omega (arith, c.into.invariant.1, c.copy_slots.ensures.capacity),
    )

pub returns : goal.returns
returns c =
    let pages = ap (λ (l : Listed). l.pages) c.self.view_is in
    let room = ap (λ (l : Listed). l.room) c.into.view_is in
    rw (c.copy_slots.ensures.items, c.deref.ensures.value, pages_in-renamed c.args.names.now c.self.inside.slots.items, pages, room) refl
