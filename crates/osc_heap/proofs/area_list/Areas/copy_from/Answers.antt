-- All rows are the other's.
use Rattle.std.proofs.Common.{ℕ, ◌≡◌, ◌<◌, ◌≤◌, ◌+◌, ◌-◌, ◌*◌, nat_lt, Bool, true, false, not, List, [], Option, Some, None, length, map, replicate, set, get_or, min, arith, refl, sym, ap, ◌∙◌, subst}
use Rattle.std.proofs.lemmas.Bool.Decides.{nat_tests}
use Rattle.std.proofs.lemmas.List.{length-set}
use Rattle.osc_slot.specs.Areas.{slots_in}
use Rattle.osc_slot.specs.Least.{least}
use Rattle.osc_slot.proofs.Counting.{least-Some}
use Rattle.osc_heap.specs.Layout.{room_at, bit_at, free_row, AreSized, rows_of}
use Rattle.osc_heap.proofs.Changes.{sized-set}
use Rattle.osc_heap.proofs.Whole.{sized_cleared}
use Rattle.osc_heap.proofs.Kept.{area_count, wide_there, wide_read, wide_written, narrow_long, narrow_held, narrow_none, narrow_fits, few_slots, narrow_written, kept_least, before, made_free, cleared_rows}
use Rattle.osc_heap.proofs.Kept.{alike}
use Rattle.osc_heap.proofs.area_list.Areas.copy_from.Goals as goal

pub copy_all-requires-clause-lengths : goal.copy_all-requires-clause-lengths
copy_all-requires-clause-lengths c =
    let same = alike c.self.inside.frames c.other.inside.frames c.self.inside.wide.items c.other.inside.wide.items c.self.inside.narrow c.other.inside.narrow c.args.self.now c.args.other.now c.self.view_is c.other.view_is c.requires in
    c.self.invariant.1 ∙ ap (λ (n : ℕ). min (13 + n) 76) same ∙ sym (rw c.deref.ensures.value c.other.invariant.1)

pub copy_all-requires-clause-sizes : goal.copy_all-requires-clause-sizes
copy_all-requires-clause-sizes c =
    let same = alike c.self.inside.frames c.other.inside.frames c.self.inside.wide.items c.other.inside.wide.items c.self.inside.narrow c.other.inside.narrow c.args.self.now c.args.other.now c.self.view_is c.other.view_is c.requires in
    (rw (c.deref.ensures.value, same) c.other.invariant.2, c.self.invariant.2)

pub copy_from-requires : goal.copy_from-requires
copy_from-requires c =
    let same = alike c.self.inside.frames c.other.inside.frames c.self.inside.wide.items c.other.inside.wide.items c.self.inside.narrow c.other.inside.narrow c.args.self.now c.args.other.now c.self.view_is c.other.view_is c.requires in
    c.self.invariant.3 ∙ ap (λ (n : ℕ). 64 * (13 + n - 76)) same ∙ sym c.other.invariant.3

pub invariant_of-self : goal.invariant_of-self
invariant_of-self c =
    let same = alike c.self.inside.frames c.other.inside.frames c.self.inside.wide.items c.other.inside.wide.items c.self.inside.narrow c.other.inside.narrow c.args.self.now c.args.other.now c.self.view_is c.other.view_is c.requires in
    let wide : c.copy_all.new.into.items ≡ c.other.inside.wide.items = c.copy_all.ensures ∙ c.deref.ensures.value in (
      c.self.invariant.0,
      ap (λ (rs : List (List Bool)). length rs) wide ∙ c.other.invariant.1 ∙ ap (λ (n : ℕ). min (13 + n) 76) (sym same),
      rw (wide, same) c.other.invariant.2,
      ap (λ (r : List Bool). length r) c.copy_from.ensures ∙ c.other.invariant.3 ∙ ap (λ (n : ℕ). 64 * (13 + n - 76)) (sym same),
    )

pub returns : goal.returns
returns c =
    let same = alike c.self.inside.frames c.other.inside.frames c.self.inside.wide.items c.other.inside.wide.items c.self.inside.narrow c.other.inside.narrow c.args.self.now c.args.other.now c.self.view_is c.other.view_is c.requires in
    let wide : c.copy_all.new.into.items ≡ c.other.inside.wide.items = c.copy_all.ensures ∙ c.deref.ensures.value in
    rw (wide, c.copy_from.ensures, same) c.other.view_is
