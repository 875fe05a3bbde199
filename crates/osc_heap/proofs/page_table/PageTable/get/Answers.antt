-- The entry at its place is read.
use Rattle.std.proofs.Common.{ℕ, ◌≡◌, ◌<◌, ◌*◌, Option, None, List, get_or, sym, ap, ◌∙◌}
use Rattle.osc_heap.specs.Table.{entry_place}
use Rattle.osc_heap.proofs.Tables.{within_table, read_entry}
use Rattle.osc_heap.proofs.page_table.PageTable.get.Goals as goal

pub place_of-requires-clause-within : goal.place_of-requires-clause-within
place_of-requires-clause-within c = within_table c.self.inside.frames c.args.at c.self.inside.entries.items c.args.self.now c.self.view_is c.requires

pub returns : goal.returns
returns c =
    let within = within_table c.self.inside.frames c.args.at c.self.inside.entries.items c.args.self.now c.self.view_is c.requires in
    let entry : c.value_at.result ≡ get_or c.self.inside.entries.items (entry_place c.self.inside.frames c.args.at) None = rw (c.deref.ensures.value, c.place_of.ensures.place) at c.value_at.ensures in
    entry ∙ sym (read_entry c.self.inside.frames c.args.at c.self.inside.entries.items within) ∙ ap (λ (table : List (Option ℕ)). get_or table c.args.at None) c.self.view_is
