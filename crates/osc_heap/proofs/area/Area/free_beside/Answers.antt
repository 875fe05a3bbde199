-- The least bit that is 0 among those of a page that holds a block.
use Rattle.std.proofs.Common.{◌≡◌, ◌+◌, ◌*◌, true, false, sym, ◌∙◌, arith}
use Rattle.osc_slot.specs.Least.{least}
use Rattle.osc_heap.specs.Layout.{has_as, page_held}
use Rattle.osc_heap.proofs.SlotBits.{within_area, free_in_area}
use Rattle.osc_heap.proofs.area.Area.free_beside.Goals as goal

pub overflow_mul-page : goal.overflow_mul-page
overflow_mul-page c =
    let fits = within_area c.self.inside.held.items c.self.inside.slots (c.args.page * c.args.slots + c.args.slots) c.args.self.now c.self.view_is c.requires in
    let most = c.self.invariant.2 in
    omega (arith, fits)

pub least_as-requires : goal.least_as-requires
least_as-requires c =
    let fits = within_area c.self.inside.held.items c.self.inside.slots (c.args.page * c.args.slots + c.args.slots) c.args.self.now c.self.view_is c.requires in
    let most = c.self.invariant.2 in
    omega (arith, fits)

pub returns-then-has_block : goal.returns-then-has_block
returns-then-has_block c =
    let fits = within_area c.self.inside.held.items c.self.inside.slots (c.args.page * c.args.slots + c.args.slots) c.args.self.now c.self.view_is c.requires in
    let found : c.least_as.result ≡ least (has_as c.self.inside.held.items false) (c.args.page * c.args.slots) c.args.slots = rw c.deref.ensures.value at c.least_as.ensures in
    let held : page_held c.args.slots c.args.self.now c.args.page ≡ true = sym c.has_block.ensures ∙ c.if-has_block.true in
    rw held (found ∙ sym (free_in_area c.self.inside.held.items c.self.inside.slots (c.args.page * c.args.slots) c.args.slots c.args.self.now c.self.view_is fits))
