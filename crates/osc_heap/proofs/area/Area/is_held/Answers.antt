-- The bit of the slot decides, and past the area no slot is held.
use Rattle.std.proofs.Common.{◌≡◌, nat_lt, false, sym, ◌∙◌, arith}
use Rattle.std.proofs.lemmas.Bool.Decides.{nat_tests}
use Rattle.osc_frames.specs.Words.{has}
use Rattle.osc_heap.proofs.SlotBits.{slot_of_area, past_area}
use Rattle.osc_heap.proofs.area.Area.is_held.Goals as goal

pub returns-then-slot-self : goal.returns-then-slot-self
returns-then-slot-self c =
    let bit : c.is_set.result ≡ has c.self.inside.held.items c.args.slot = rw c.deref.ensures.value at c.is_set.ensures in
    bit ∙ sym (slot_of_area c.self.inside.held.items c.self.inside.slots c.args.slot c.args.self.now c.self.view_is c.if-slot-self.true)

pub returns-else-slot-self : goal.returns-else-slot-self
returns-else-slot-self c =
    let past = c.if-slot-self.false in
    let none : nat_lt c.args.slot c.self.inside.slots ≡ false = grind (arith, nat_tests, past) in
    none ∙ sym (past_area c.self.inside.held.items c.self.inside.slots c.args.slot c.args.self.now c.self.view_is past)
