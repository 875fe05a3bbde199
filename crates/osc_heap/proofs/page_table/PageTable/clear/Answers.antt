-- No entry is left.
use Rattle.std.proofs.Common.{ℕ, ◌*◌, Option, None, List, length, replicate, ap, sym, ◌∙◌}
use Rattle.osc_heap.proofs.Tables.{length_table, no_entries}
use Rattle.osc_heap.proofs.page_table.PageTable.clear.Goals as goal

pub returns : goal.returns
returns c =
    no_entries c.self.inside.frames c.clear.new.self.items c.clear.ensures.items
    ∙ ap (λ (n : ℕ). replicate {A = Option ℕ} n None) (sym (length_table c.self.inside.frames c.self.inside.entries.items) ∙ ap (λ (table : List (Option ℕ)). length table) c.self.view_is)
