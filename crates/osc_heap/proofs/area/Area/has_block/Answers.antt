-- A page holds a block exactly where a bit of its slots is 1.
use Rattle.std.proofs.Common.{◌≡◌, ◌+◌, ◌*◌, true, is_some, ap, sym, ◌∙◌, arith, rules}
use Rattle.osc_slot.specs.Least.{least}
use Rattle.osc_heap.specs.Layout.{has_as}
use Rattle.osc_heap.proofs.SlotBits.{within_area, held_in_area}
use Rattle.osc_heap.proofs.area.Area.has_block.Goals as goal

pub overflow_mul-page : goal.overflow_mul-page
overflow_mul-page c =
    let fits = within_area c.self.inside.held.items c.self.inside.slots (c.args.page * c.args.slots + c.args.slots) c.args.self.now c.self.view_is c.requires in
    let most = c.self.invariant.2 in
    omega (arith, fits)

pub least_as-requires : goal.least_as-requires
least_as-requires c =
    let fits = within_area c.self.inside.held.items c.self.inside.slots (c.args.page * c.args.slots + c.args.slots) c.args.self.now c.self.view_is c.requires in
    let most = c.self.invariant.2 in
    omega (arith, fits)

pub returns : goal.returns
returns c =
    let fits = within_area c.self.inside.held.items c.self.inside.slots (c.args.page * c.args.slots + c.args.slots) c.args.self.now c.self.view_is c.requires in
    let found : c.least_as.result ≡ least (has_as c.self.inside.held.items true) (c.args.page * c.args.slots) c.args.slots = rw c.deref.ensures.value at c.least_as.ensures in
    let some : c.is_some.result ≡ is_some c.least_as.result = search rules in
    some ∙ ap is_some found ∙ sym (held_in_area c.self.inside.held.items c.self.inside.slots (c.args.page * c.args.slots) c.args.slots c.args.self.now c.self.view_is fits)
