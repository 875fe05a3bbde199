-- The least bit that is 0.
use Rattle.std.proofs.Common.{◌≡◌, ◌+◌, false, sym, ◌∙◌, arith}
use Rattle.osc_slot.specs.Least.{least}
use Rattle.osc_heap.specs.Layout.{has_as}
use Rattle.osc_heap.proofs.SlotBits.{within_area, free_in_area}
use Rattle.osc_heap.proofs.area.Area.free_from.Goals as goal

pub least_as-requires : goal.least_as-requires
least_as-requires c =
    let fits = within_area c.self.inside.held.items c.self.inside.slots (c.args.first + c.args.count) c.args.self.now c.self.view_is c.requires in
    let most = c.self.invariant.2 in
    omega (arith, fits)

pub returns : goal.returns
returns c =
    let fits = within_area c.self.inside.held.items c.self.inside.slots (c.args.first + c.args.count) c.args.self.now c.self.view_is c.requires in
    let found : c.least_as.result ≡ least (has_as c.self.inside.held.items false) c.args.first c.args.count = rw c.deref.ensures.value at c.least_as.ensures in
    found ∙ sym (free_in_area c.self.inside.held.items c.self.inside.slots c.args.first c.args.count c.args.self.now c.self.view_is fits)
