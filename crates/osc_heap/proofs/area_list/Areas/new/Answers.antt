-- No slot is held.
use Rattle.std.proofs.Common.{ℕ, ◌≡◌, ◌<◌, ◌≤◌, ◌+◌, ◌-◌, ◌*◌, nat_lt, Bool, true, false, not, List, [], Option, Some, None, length, map, replicate, set, get_or, min, arith, refl, sym, ap, ◌∙◌, subst}
use Rattle.std.proofs.lemmas.Bool.Decides.{nat_tests}
use Rattle.std.proofs.lemmas.List.{length-set, length-replicate}
use Rattle.osc_slot.specs.Areas.{slots_in}
use Rattle.osc_slot.specs.Least.{least}
use Rattle.osc_slot.proofs.Counting.{least-Some}
use Rattle.osc_heap.specs.Layout.{room_at, bit_at, free_row, AreSized, rows_of}
use Rattle.osc_heap.proofs.Changes.{sized-set}
use Rattle.osc_heap.proofs.Whole.{sized_cleared}
use Rattle.osc_heap.proofs.Kept.{area_count, wide_there, wide_read, wide_written, narrow_long, narrow_held, narrow_none, narrow_fits, few_slots, narrow_written, kept_least, before, made_free, cleared_rows}
use Rattle.osc_heap.proofs.area_list.Areas.new.Goals as goal

pub invariant_of-result : goal.invariant_of-result
invariant_of-result c =
    let long = length-replicate (64 * c.saturating_sub-others.result) false in (
      c.requires,
      c.in_ok-wide_areas.ensures.count,
      (made_free c.args.frames (64 * c.saturating_sub-others.result) c.in_ok-wide_areas.field-0.items c.in_ok-new.field-0 c.requires c.in_ok-new.ensures c.in_ok-wide_areas.ensures.count c.in_ok-wide_areas.ensures.free).1,
      ap (λ (r : List Bool). length r) c.in_ok-new.ensures ∙ long ∙ omega (arith, c.saturating_sub-others.ensures),
    )

pub returns : goal.returns
returns c = (made_free c.args.frames (64 * c.saturating_sub-others.result) c.in_ok-wide_areas.field-0.items c.in_ok-new.field-0 c.requires c.in_ok-new.ensures c.in_ok-wide_areas.ensures.count c.in_ok-wide_areas.ensures.free).0
