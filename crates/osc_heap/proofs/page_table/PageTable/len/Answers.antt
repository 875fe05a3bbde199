-- Each page has a place in the list.
use Rattle.std.proofs.Common.{Option, List, length, ℕ, sym, ap, ◌∙◌}
use Rattle.osc_heap.proofs.Tables.{length_table}
use Rattle.osc_heap.proofs.page_table.PageTable.len.Goals as goal

pub returns : goal.returns
returns c = sym (length_table c.self.inside.frames c.self.inside.entries.items) ∙ ap (λ (table : List (Option ℕ)). length table) c.self.view_is
