-- Another slot of the page is held exactly where one before or after this one is.
use Rattle.std.proofs.Common.{◌≡◌, ◌+◌, ◌-◌, ◌*◌, ◌||◌, true, false, is_some, ap, sym, ◌∙◌, arith, rules}
use Rattle.osc_slot.specs.Least.{least}
use Rattle.osc_heap.specs.Layout.{has_as}
use Rattle.osc_heap.proofs.Alone.{others_held}
use Rattle.osc_heap.proofs.SlotBits.{within_area}
use Rattle.osc_heap.proofs.area.Area.has_other.Goals as goal

pub overflow_mul-first : goal.overflow_mul-first
overflow_mul-first c =
    let fits = within_area c.self.inside.held.items c.self.inside.slots (c.args.page * c.args.slots + c.args.slots) c.args.self.now c.self.view_is c.requires.page in
    let most = c.self.invariant.2 in
    omega (arith, fits)

pub overflow_add-end : goal.overflow_add-end
overflow_add-end c =
    let fits = within_area c.self.inside.held.items c.self.inside.slots (c.args.page * c.args.slots + c.args.slots) c.args.self.now c.self.view_is c.requires.page in
    let most = c.self.invariant.2 in
    omega (arith, fits)

pub least_as-requires : goal.least_as-requires
least_as-requires c =
    let fits = within_area c.self.inside.held.items c.self.inside.slots (c.args.page * c.args.slots + c.args.slots) c.args.self.now c.self.view_is c.requires.page in
    let most = c.self.invariant.2 in
    let slot = c.requires.slot in
    omega (arith, fits, slot.0, slot.1)

pub returns-then-is_some : goal.returns-then-is_some
returns-then-is_some c =
    let fits = within_area c.self.inside.held.items c.self.inside.slots (c.args.page * c.args.slots + c.args.slots) c.args.self.now c.self.view_is c.requires.page in
    let slot = c.requires.slot in
    let long = c.requires.page in
    let found : c.least_as.result ≡ least (has_as c.self.inside.held.items true) (c.args.page * c.args.slots) (c.args.slot - c.args.page * c.args.slots) = rw c.as_slice-held.ensures.value at c.least_as.ensures in
    let some : is_some c.least_as.result ≡ true = search rules in
    let here = ap is_some (sym found) ∙ some in
    sym (others_held c.self.inside.held.items c.self.inside.slots (c.args.page * c.args.slots) c.args.slots c.args.slot c.args.self.now c.self.view_is fits (omega (arith, slot.1, long)) slot.0 slot.1
    ∙ ap (λ b. b || is_some (least (has_as c.self.inside.held.items true) (c.args.slot + 1) (c.args.page * c.args.slots + c.args.slots - (c.args.slot + 1)))) here)

pub overflow_add-slot : goal.overflow_add-slot
overflow_add-slot c =
    let fits = within_area c.self.inside.held.items c.self.inside.slots (c.args.page * c.args.slots + c.args.slots) c.args.self.now c.self.view_is c.requires.page in
    let most = c.self.invariant.2 in
    let slot = c.requires.slot in
    omega (arith, fits, slot.0, slot.1)

pub overflow_add-slot-2 : goal.overflow_add-slot-2
overflow_add-slot-2 c =
    let fits = within_area c.self.inside.held.items c.self.inside.slots (c.args.page * c.args.slots + c.args.slots) c.args.self.now c.self.view_is c.requires.page in
    let most = c.self.invariant.2 in
    let slot = c.requires.slot in
    omega (arith, fits, slot.0, slot.1)

pub least_as-requires-2 : goal.least_as-requires-2
least_as-requires-2 c =
    let fits = within_area c.self.inside.held.items c.self.inside.slots (c.args.page * c.args.slots + c.args.slots) c.args.self.now c.self.view_is c.requires.page in
    let most = c.self.invariant.2 in
    let slot = c.requires.slot in
    omega (arith, fits, slot.0, slot.1)

pub returns : goal.returns
returns c =
    let fits = within_area c.self.inside.held.items c.self.inside.slots (c.args.page * c.args.slots + c.args.slots) c.args.self.now c.self.view_is c.requires.page in
    let slot = c.requires.slot in
    let long = c.requires.page in
    let first : c.least_as.result ≡ least (has_as c.self.inside.held.items true) (c.args.page * c.args.slots) (c.args.slot - c.args.page * c.args.slots) = rw c.as_slice-held.ensures.value at c.least_as.ensures in
    let none : is_some c.least_as.result ≡ false = search rules in
    let here = ap is_some (sym first) ∙ none in
    let after : c.least_as-2.result ≡ least (has_as c.self.inside.held.items true) (c.args.slot + 1) (c.args.page * c.args.slots + c.args.slots - (c.args.slot + 1)) = rw c.as_slice-held.ensures.value at c.least_as-2.ensures in
    let some : c.is_some-2.result ≡ is_some c.least_as-2.result = search rules in
    some ∙ ap is_some after
    ∙ sym (others_held c.self.inside.held.items c.self.inside.slots (c.args.page * c.args.slots) c.args.slots c.args.slot c.args.self.now c.self.view_is fits (omega (arith, slot.1, long)) slot.0 slot.1
    ∙ ap (λ b. b || is_some (least (has_as c.self.inside.held.items true) (c.args.slot + 1) (c.args.page * c.args.slots + c.args.slots - (c.args.slot + 1)))) here)
