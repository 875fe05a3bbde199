-- The least slot among those that are kept for the area is counted from its first.
use Rattle.std.proofs.Common.{ℕ, ◌≡◌, ◌<◌, ◌≤◌, ◌+◌, ◌-◌, ◌*◌, nat_lt, Bool, true, false, not, List, [], Option, Some, None, length, map, replicate, set, get_or, min, arith, refl, sym, ap, ◌∙◌, subst}
use Rattle.std.proofs.lemmas.Bool.Decides.{nat_tests}
use Rattle.std.proofs.lemmas.List.{length-set}
use Rattle.osc_slot.specs.Areas.{slots_in}
use Rattle.osc_slot.specs.Least.{least}
use Rattle.osc_slot.proofs.Counting.{least-Some}
use Rattle.osc_heap.specs.Layout.{room_at, bit_at, free_row, AreSized, rows_of}
use Rattle.osc_heap.proofs.Changes.{sized-set}
use Rattle.osc_heap.proofs.Whole.{sized_cleared}
use Rattle.osc_heap.proofs.Kept.{area_count, wide_there, wide_read, wide_written, narrow_long, narrow_held, narrow_none, narrow_fits, few_slots, narrow_written, kept_least, before, made_free, cleared_rows}
use Rattle.osc_heap.proofs.area_list.Areas.least_free.Goals as goal

pub index-requires : goal.index-requires
index-requires c = omega (arith, c.self.inside.wide.ok.0, wide_there c.self.inside.frames c.args.area c.self.inside.wide.items c.self.inside.narrow c.args.self.now c.self.view_is c.self.invariant.1 c.requires c.if-area-lt-WIDE_AREAS.true)

pub returns-then-area-lt-WIDE_AREAS : goal.returns-then-area-lt-WIDE_AREAS
returns-then-area-lt-WIDE_AREAS c =
    c.least_free.ensures ∙ ap (λ (r : List Bool). least (λ slot. not (bit_at r slot)) 0 (length r)) (wide_read c.self.inside.frames c.args.area c.self.inside.wide.items c.self.inside.narrow c.index.result.now c.args.self.now c.self.view_is c.self.invariant.1 c.requires c.if-area-lt-WIDE_AREAS.true c.index.ensures).0

pub first_of-first-requires : goal.first_of-first-requires
first_of-first-requires c =
    let count = area_count c.self.inside.frames c.self.inside.wide.items c.self.inside.narrow c.args.self.now c.self.view_is in
    (c.if-area-lt-WIDE_AREAS.false, omega (arith, c.self.invariant.0, c.requires))

pub free_from-requires : goal.free_from-requires
free_from-requires c =
    let count = area_count c.self.inside.frames c.self.inside.wide.items c.self.inside.narrow c.args.self.now c.self.view_is in
    let slots : c.slots_in.result ≡ slots_in c.self.inside.frames (room_at c.args.area) = rw c.room_at.ensures.room at c.slots_in.ensures in
    let fits = narrow_fits c.self.inside.frames c.args.area c.self.invariant.0 c.if-area-lt-WIDE_AREAS.false (omega (arith, c.requires)) in
    omega (arith, slots, c.first_of-first.ensures, c.self.invariant.3)

pub overflow_sub-result : goal.overflow_sub-result
overflow_sub-result c = (least-Some (λ slot. not (bit_at c.self.inside.narrow slot)) c.first_of-first.result c.slots_in.result c.in-Some.at (sym c.free_from.ensures ∙ c.in-Some.is)).1

pub returns-in-Some : goal.returns-in-Some
returns-in-Some c =
    let found = rw (c.first_of-first.ensures, c.slots_in.ensures, c.room_at.ensures.room) at c.free_from.ensures in
    let moved : Some (c.in-Some.at - c.first_of-first.result) ≡ before (64 * (c.args.area - 76)) 0 (Some c.in-Some.at) = ap Some (omega (arith, c.first_of-first.ensures)) in
    moved ∙ ap (before (64 * (c.args.area - 76)) 0) (sym c.in-Some.is) ∙ sym (kept_least c.self.inside.frames c.args.area c.self.inside.wide.items c.self.inside.narrow c.args.self.now c.free_from.result c.self.view_is c.requires c.if-area-lt-WIDE_AREAS.false found)

pub returns-in-None : goal.returns-in-None
returns-in-None c =
    let found = rw (c.first_of-first.ensures, c.slots_in.ensures, c.room_at.ensures.room) at c.free_from.ensures in
    ap (before (64 * (c.args.area - 76)) 0) (sym c.in-None.is) ∙ sym (kept_least c.self.inside.frames c.args.area c.self.inside.wide.items c.self.inside.narrow c.args.self.now c.free_from.result c.self.view_is c.requires c.if-area-lt-WIDE_AREAS.false found)
