-- The least bit that is 0.
use Rattle.std.proofs.Common.{◌≡◌, not, Bool, List, length, false, ap, sym, ◌∙◌, arith, ℕ}
use Rattle.osc_slot.specs.Least.{least}
use Rattle.osc_frames.proofs.Rows.{length-numbers}
use Rattle.osc_heap.specs.Layout.{has_as, bit_at}
use Rattle.osc_heap.proofs.SlotBits.{free_in_area}
use Rattle.osc_heap.proofs.area.Area.least_free.Goals as goal

pub returns : goal.returns
returns c =
    let found : c.least_as.result ≡ least (has_as c.self.inside.held.items false) 0 c.self.inside.slots = rw c.deref.ensures.value at c.least_as.ensures in
    let all : c.self.inside.slots ≡ length c.args.self.now = sym (length-numbers c.self.inside.held.items c.self.inside.slots) ∙ ap (λ (row : List Bool). length row) c.self.view_is in
    found ∙ sym (free_in_area c.self.inside.held.items c.self.inside.slots 0 c.self.inside.slots c.args.self.now c.self.view_is (omega arith))
    ∙ ap (λ (n : ℕ). least (λ slot. not (bit_at c.args.self.now slot)) 0 n) all
