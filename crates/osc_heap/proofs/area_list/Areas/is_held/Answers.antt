-- An area of its own has the bit, or the slots that are kept for it do.
use Rattle.std.proofs.Common.{ℕ, ◌≡◌, ◌<◌, ◌≤◌, ◌+◌, ◌-◌, ◌*◌, nat_lt, Bool, true, false, not, List, [], Option, Some, None, length, map, replicate, set, get_or, min, arith, refl, sym, ap, ◌∙◌, subst}
use Rattle.std.proofs.lemmas.Bool.Decides.{nat_tests}
use Rattle.std.proofs.lemmas.List.{length-set}
use Rattle.osc_slot.specs.Areas.{slots_in}
use Rattle.osc_slot.specs.Least.{least}
use Rattle.osc_slot.proofs.Counting.{least-Some}
use Rattle.osc_heap.specs.Layout.{room_at, bit_at, free_row, AreSized, rows_of}
use Rattle.osc_heap.proofs.Changes.{sized-set}
use Rattle.osc_heap.proofs.Whole.{sized_cleared}
use Rattle.osc_heap.proofs.Kept.{area_count, wide_there, wide_read, wide_written, narrow_long, narrow_held, narrow_none, narrow_fits, few_slots, narrow_written, kept_least, before, made_free, cleared_rows}
use Rattle.osc_heap.proofs.area_list.Areas.is_held.Goals as goal

pub index-requires : goal.index-requires
index-requires c = omega (arith, c.self.inside.wide.ok.0, wide_there c.self.inside.frames c.args.area c.self.inside.wide.items c.self.inside.narrow c.args.self.now c.self.view_is c.self.invariant.1 c.requires c.if-area-lt-WIDE_AREAS.true)

pub returns-then-area-lt-WIDE_AREAS : goal.returns-then-area-lt-WIDE_AREAS
returns-then-area-lt-WIDE_AREAS c =
    c.is_held.ensures ∙ ap (λ (r : List Bool). bit_at r c.args.slot) (wide_read c.self.inside.frames c.args.area c.self.inside.wide.items c.self.inside.narrow c.index.result.now c.args.self.now c.self.view_is c.self.invariant.1 c.requires c.if-area-lt-WIDE_AREAS.true c.index.ensures).0

pub returns-then-slot-slots_in : goal.returns-then-slot-slots_in
returns-then-slot-slots_in c =
    let slots : c.slots_in.result ≡ slots_in c.self.inside.frames (room_at c.args.area) = rw c.room_at.ensures.room at c.slots_in.ensures in
    let within : c.args.slot < slots_in c.self.inside.frames (room_at c.args.area) = rw slots at c.if-slot-slots_in.true in
    (rw c.first_of.ensures at c.is_held-then-slot-slots_in.ensures) ∙ sym (narrow_held c.self.inside.frames c.args.area c.args.slot c.self.inside.wide.items c.self.inside.narrow c.args.self.now c.self.view_is c.requires c.if-area-lt-WIDE_AREAS.false within)

pub returns-else-slot-slots_in : goal.returns-else-slot-slots_in
returns-else-slot-slots_in c =
    let slots : c.slots_in.result ≡ slots_in c.self.inside.frames (room_at c.args.area) = rw c.room_at.ensures.room at c.slots_in.ensures in
    let past : slots_in c.self.inside.frames (room_at c.args.area) ≤ c.args.slot = rw slots at c.if-slot-slots_in.false in
    let none : nat_lt c.args.slot c.slots_in.result ≡ false = grind (arith, nat_tests, past, slots) in
    none ∙ sym (narrow_none c.self.inside.frames c.args.area c.args.slot c.self.inside.wide.items c.self.inside.narrow c.args.self.now c.self.view_is c.requires c.if-area-lt-WIDE_AREAS.false past)
