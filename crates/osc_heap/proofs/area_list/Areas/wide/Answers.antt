-- The area stands among those that have room of their own.
use Rattle.std.proofs.Common.{ℕ, ◌≡◌, ◌<◌, ◌≤◌, ◌+◌, ◌-◌, ◌*◌, nat_lt, Bool, true, false, not, List, [], Option, Some, None, length, map, replicate, set, get_or, min, arith, refl, sym, ap, ◌∙◌, subst}
use Rattle.std.proofs.lemmas.Bool.Decides.{nat_tests}
use Rattle.std.proofs.lemmas.List.{length-set}
use Rattle.osc_slot.specs.Areas.{slots_in}
use Rattle.osc_slot.specs.Least.{least}
use Rattle.osc_slot.proofs.Counting.{least-Some}
use Rattle.osc_heap.specs.Layout.{room_at, bit_at, free_row, AreSized, rows_of}
use Rattle.osc_heap.proofs.Changes.{sized-set}
use Rattle.osc_heap.proofs.Whole.{sized_cleared}
use Rattle.osc_heap.proofs.Kept.{area_count, wide_there, wide_read, wide_written, narrow_long, narrow_held, narrow_none, narrow_fits, few_slots, narrow_written, kept_least, before, made_free, cleared_rows}
use Rattle.osc_heap.proofs.area_list.Areas.wide.Goals as goal

pub index-requires : goal.index-requires
index-requires c = omega (arith, c.self.inside.wide.ok.0, wide_there c.self.inside.frames c.args.area c.self.inside.wide.items c.self.inside.narrow c.args.self.now c.self.view_is c.self.invariant.1 c.requires.1 c.requires.0)

pub returns : goal.returns
returns c = (wide_read c.self.inside.frames c.args.area c.self.inside.wide.items c.self.inside.narrow c.index.result.now c.args.self.now c.self.view_is c.self.invariant.1 c.requires.1 c.requires.0 c.index.ensures).0
