-- The entry at its place is written, once it is there.
use Rattle.std.proofs.Common.{ℕ, ◌≡◌, ◌<◌, ◌+◌, ◌*◌, max, Option, None, List, length, set, sym, ap, ◌∙◌, arith}
use Rattle.osc_heap.proofs.Tables.{within_table, same_entries, entry_set}
use Rattle.osc_heap.proofs.page_table.PageTable.set.Goals as goal

pub place_of-place-requires-clause-within : goal.place_of-place-requires-clause-within
place_of-place-requires-clause-within c = within_table c.self.inside.frames c.args.at c.self.inside.entries.items c.args.self.now c.self.view_is c.requires

pub returns : goal.returns
returns c =
    let within = within_table c.self.inside.frames c.args.at c.self.inside.entries.items c.args.self.now c.self.view_is c.requires in
    let there : c.place_of-place.result < length c.fill_up.new.items.items = omega (arith, c.fill_up.ensures.count) in
    entry_set c.self.inside.frames c.args.at c.place_of-place.result c.fill_up.new.items.items c.args.frame c.place_of-place.ensures.place within there
    ∙ ap (λ (table : List (Option ℕ)). set table c.args.at c.args.frame) (same_entries c.self.inside.frames c.fill_up.new.items.items c.self.inside.entries.items c.fill_up.ensures.same ∙ c.self.view_is)
