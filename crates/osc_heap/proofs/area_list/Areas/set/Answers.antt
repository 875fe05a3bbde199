-- A bit of an area of its own is written, or one of those that are kept for it.
use Rattle.std.proofs.Common.{ℕ, ◌≡◌, ◌<◌, ◌≤◌, ◌+◌, ◌-◌, ◌*◌, nat_lt, Bool, true, false, not, List, [], Option, Some, None, length, map, replicate, set, get_or, min, arith, refl, sym, ap, ◌∙◌, subst}
use Rattle.std.proofs.lemmas.Bool.Decides.{nat_tests}
use Rattle.std.proofs.lemmas.List.{length-set}
use Rattle.osc_slot.specs.Areas.{slots_in}
use Rattle.osc_slot.specs.Least.{least}
use Rattle.osc_slot.proofs.Counting.{least-Some}
use Rattle.osc_heap.specs.Layout.{room_at, bit_at, free_row, AreSized, rows_of}
use Rattle.osc_heap.proofs.Changes.{sized-set}
use Rattle.osc_heap.proofs.Whole.{sized_cleared}
use Rattle.osc_heap.proofs.Kept.{area_count, wide_there, wide_read, wide_written, narrow_long, narrow_held, narrow_none, narrow_fits, few_slots, narrow_written, kept_least, before, made_free, cleared_rows}
use Rattle.osc_heap.proofs.area_list.Areas.set.Goals as goal

pub index_mut-requires : goal.index_mut-requires
index_mut-requires c = omega (arith, c.self.inside.wide.ok.0, wide_there c.self.inside.frames c.args.area c.self.inside.wide.items c.self.inside.narrow c.args.self.now c.self.view_is c.self.invariant.1 c.requires.area c.if-area-lt-WIDE_AREAS.true)

pub set-requires : goal.set-requires
set-requires c =
    rw (wide_read c.self.inside.frames c.args.area c.self.inside.wide.items c.self.inside.narrow c.index_mut.result.now c.args.self.now c.self.view_is c.self.invariant.1 c.requires.area c.if-area-lt-WIDE_AREAS.true c.index_mut.ensures.value).0 c.requires.slot

pub invariant_of-self : goal.invariant_of-self
invariant_of-self c =
    let read = wide_read c.self.inside.frames c.args.area c.self.inside.wide.items c.self.inside.narrow c.index_mut.result.now c.args.self.now c.self.view_is c.self.invariant.1 c.requires.area c.if-area-lt-WIDE_AREAS.true c.index_mut.ensures.value in
    let new : c.set.new.self ≡ set (get_or c.self.inside.wide.items c.args.area []) c.args.slot c.args.held = c.set.ensures ∙ ap (λ (r : List Bool). set r c.args.slot c.args.held) read.1 in
    (c.self.invariant.0, length-set c.self.inside.wide.items c.args.area c.set.new.self ∙ c.self.invariant.1, rw new (sized-set c.self.inside.frames 0 c.args.area c.args.slot c.args.held c.self.inside.wide.items c.self.invariant.2), c.self.invariant.3)

pub first_of-requires : goal.first_of-requires
first_of-requires c =
    let count = area_count c.self.inside.frames c.self.inside.wide.items c.self.inside.narrow c.args.self.now c.self.view_is in
    (c.if-area-lt-WIDE_AREAS.false, omega (arith, c.self.invariant.0, c.requires.area))

pub overflow_add-first_of : goal.overflow_add-first_of
overflow_add-first_of c =
    let count = area_count c.self.inside.frames c.self.inside.wide.items c.self.inside.narrow c.args.self.now c.self.view_is in
    let long = narrow_long c.self.inside.frames c.args.area c.self.inside.wide.items c.self.inside.narrow c.args.self.now c.self.view_is c.requires.area c.if-area-lt-WIDE_AREAS.false in
    let few = few_slots c.self.inside.frames c.args.area c.self.invariant.0 c.if-area-lt-WIDE_AREAS.false in
    omega (arith, c.self.invariant.0, c.requires.area, c.requires.slot, c.first_of.ensures)

pub set-requires-else-area-lt-WIDE_AREAS : goal.set-requires-else-area-lt-WIDE_AREAS
set-requires-else-area-lt-WIDE_AREAS c =
    let count = area_count c.self.inside.frames c.self.inside.wide.items c.self.inside.narrow c.args.self.now c.self.view_is in
    let long = narrow_long c.self.inside.frames c.args.area c.self.inside.wide.items c.self.inside.narrow c.args.self.now c.self.view_is c.requires.area c.if-area-lt-WIDE_AREAS.false in
    let fits = narrow_fits c.self.inside.frames c.args.area c.self.invariant.0 c.if-area-lt-WIDE_AREAS.false (omega (arith, c.requires.area)) in
    omega (arith, c.requires.slot, c.first_of.ensures, c.self.invariant.3)

pub returns-then-area-lt-WIDE_AREAS : goal.returns-then-area-lt-WIDE_AREAS
returns-then-area-lt-WIDE_AREAS c =
    let count = area_count c.self.inside.frames c.self.inside.wide.items c.self.inside.narrow c.args.self.now c.self.view_is in
    let there = wide_there c.self.inside.frames c.args.area c.self.inside.wide.items c.self.inside.narrow c.args.self.now c.self.view_is c.self.invariant.1 c.requires.area c.if-area-lt-WIDE_AREAS.true in
    let read = wide_read c.self.inside.frames c.args.area c.self.inside.wide.items c.self.inside.narrow c.index_mut.result.now c.args.self.now c.self.view_is c.self.invariant.1 c.requires.area c.if-area-lt-WIDE_AREAS.true c.index_mut.ensures.value in
    wide_written c.self.inside.frames c.args.area c.self.inside.wide.items c.self.inside.narrow c.set.new.self c.if-area-lt-WIDE_AREAS.true there (omega (arith, c.requires.area))
    ∙ ap (λ (rs : List (List Bool)). set rs c.args.area c.set.new.self) c.self.view_is
    ∙ ap (λ (r : List Bool). set c.args.self.now c.args.area r) (c.set.ensures ∙ ap (λ (r : List Bool). set r c.args.slot c.args.held) read.0)

pub returns-else-area-lt-WIDE_AREAS : goal.returns-else-area-lt-WIDE_AREAS
returns-else-area-lt-WIDE_AREAS c =
    let count = area_count c.self.inside.frames c.self.inside.wide.items c.self.inside.narrow c.args.self.now c.self.view_is in
    let long = narrow_long c.self.inside.frames c.args.area c.self.inside.wide.items c.self.inside.narrow c.args.self.now c.self.view_is c.requires.area c.if-area-lt-WIDE_AREAS.false in
    ap (λ (n : List Bool). rows_of c.self.inside.frames c.self.inside.wide.items n) (rw c.first_of.ensures at c.set-else-area-lt-WIDE_AREAS.ensures)
    ∙ narrow_written c.self.inside.frames c.args.area c.args.slot c.args.held c.self.inside.wide.items c.self.inside.narrow c.self.invariant.0 c.if-area-lt-WIDE_AREAS.false (omega (arith, c.requires.area)) (omega (arith, c.requires.slot)) c.self.invariant.3
    ∙ ap (λ (rs : List (List Bool)). set rs c.args.area (set (get_or rs c.args.area []) c.args.slot c.args.held)) c.self.view_is
