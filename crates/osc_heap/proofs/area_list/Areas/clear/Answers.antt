-- All rows are cleared.
use Rattle.std.proofs.Common.{ℕ, ◌≡◌, ◌<◌, ◌≤◌, ◌+◌, ◌-◌, ◌*◌, nat_lt, Bool, true, false, not, List, [], Option, Some, None, length, map, replicate, set, get_or, min, arith, refl, sym, ap, ◌∙◌, subst}
use Rattle.std.proofs.lemmas.Bool.Decides.{nat_tests}
use Rattle.std.proofs.lemmas.List.{length-set}
use Rattle.osc_slot.specs.Areas.{slots_in}
use Rattle.osc_slot.specs.Least.{least}
use Rattle.osc_slot.proofs.Counting.{least-Some}
use Rattle.osc_heap.specs.Layout.{room_at, bit_at, free_row, AreSized, rows_of}
use Rattle.osc_heap.proofs.Changes.{sized-set}
use Rattle.osc_heap.proofs.Whole.{sized_cleared}
use Rattle.osc_heap.proofs.Kept.{area_count, wide_there, wide_read, wide_written, narrow_long, narrow_held, narrow_none, narrow_fits, few_slots, narrow_written, kept_least, before, made_free, cleared_rows}
use Rattle.osc_heap.proofs.Kept.{length-free}
use Rattle.osc_heap.proofs.Whole.{length-free_row}
use Rattle.osc_heap.proofs.area_list.Areas.clear.Goals as goal

pub invariant_of-self : goal.invariant_of-self
invariant_of-self c = (
  c.self.invariant.0,
  ap (λ (rs : List (List Bool)). length rs) c.clear_all.ensures ∙ length-free c.self.inside.wide.items ∙ c.self.invariant.1,
  rw c.clear_all.ensures (sized_cleared c.self.inside.frames 0 c.self.inside.wide.items c.self.invariant.2),
  ap (λ (r : List Bool). length r) c.clear.ensures ∙ length-free_row (length c.self.inside.narrow) ∙ c.self.invariant.3,
)

pub returns : goal.returns
returns c = rw (c.clear_all.ensures, c.clear.ensures) (cleared_rows c.self.inside.frames c.self.inside.wide.items c.self.inside.narrow ∙ ap (λ (rs : List (List Bool)). map free_row rs) c.self.view_is)
