use Rattle.std.proofs.Common.{sym, ◌∙◌, true, false}
use Rattle.osc_memory.proofs.Slots.{placed-is}
use Rattle.osc_memory.proofs.pages.Pages.place_of.Goals as goal

pub returns-then-is_page_at-clause-page : goal.returns-then-is_page_at-clause-page
returns-then-is_page_at-clause-page c =
    let stand = rw c.self.view_is at c.self.invariant in
    let place = rw (c.deref.ensures.value, c.slot_of.ensures.value) at c.place_in-place.ensures in
    let here = rw (c.deref-2.ensures.value, c.self.view_is) at (sym c.is_page_at.ensures ∙ c.if-is_page_at.true) in
    placed-is c.self.inside.places.items c.args.self.now c.args.number c.place_in-place.result true stand place here

pub returns-else-is_page_at-clause-page : goal.returns-else-is_page_at-clause-page
returns-else-is_page_at-clause-page c =
    let stand = rw c.self.view_is at c.self.invariant in
    let place = rw (c.deref.ensures.value, c.slot_of.ensures.value) at c.place_in-place.ensures in
    let here = rw (c.deref-2.ensures.value, c.self.view_is) at (sym c.is_page_at.ensures ∙ c.if-is_page_at.false) in
    placed-is c.self.inside.places.items c.args.self.now c.args.number c.place_in-place.result false stand place here
