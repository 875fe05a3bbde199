-- One bit is written, in a word that is there.
use Rattle.std.proofs.Common.{ℕ, ◌≡◌, ◌≤◌, ◌<◌, ◌+◌, ◌*◌, ◌/◌, Bool, List, length, max, set, sym, ap, ◌∙◌, arith}
use Rattle.std.proofs.lemmas.List.{with_items_is}
use Rattle.osc_frames.specs.Words.{numbers_of}
use Rattle.osc_heap.proofs.SlotBits.{within_area, same_words}
use Rattle.osc_heap.proofs.area.Area.set.Goals as goal

pub fill_up-requires : goal.fill_up-requires
fill_up-requires c =
    let fits = within_area c.self.inside.held.items c.self.inside.slots (c.args.slot + 1) c.args.self.now c.self.view_is (omega (arith, c.requires)) in
    omega (arith, c.self.invariant.1)

pub set_bit-requires : goal.set_bit-requires
set_bit-requires c = rw c.deref_mut.ensures.value (omega (arith, c.fill_up.ensures.count))

pub invariant_of-self : goal.invariant_of-self
invariant_of-self c =
    let fits = within_area c.self.inside.held.items c.self.inside.slots (c.args.slot + 1) c.args.self.now c.self.view_is (omega (arith, c.requires)) in
    let items = with_items_is c.fill_up.new.items c.set_bit.new.words (c.set_bit.auto.words ∙ c.deref_mut.ensures.len) in
    let long : length c.set_bit.new.words ≡ length c.fill_up.new.items.items = c.set_bit.auto.words ∙ ap (λ (ws : List ℕ). length ws) c.deref_mut.ensures.value in
    let most = c.self.invariant.0 in
    (rw items (omega (arith, c.fill_up.ensures.count)), omega (arith, c.self.invariant.1, c.fill_up.ensures.room), c.self.invariant.2)

pub returns : goal.returns
returns c =
    let fits = within_area c.self.inside.held.items c.self.inside.slots (c.args.slot + 1) c.args.self.now c.self.view_is (omega (arith, c.requires)) in
    let written = rw c.deref_mut.ensures.value at (c.set_bit.ensures c.self.inside.slots (omega (arith, fits))) in
    let items = with_items_is c.fill_up.new.items c.set_bit.new.words (c.set_bit.auto.words ∙ c.deref_mut.ensures.len) in
    ap (λ (words : List ℕ). numbers_of words c.self.inside.slots) items ∙ written
    ∙ ap (λ (row : List Bool). set row c.args.slot c.args.held) (same_words c.fill_up.new.items.items c.self.inside.held.items c.self.inside.slots c.fill_up.ensures.same ∙ c.self.view_is)
