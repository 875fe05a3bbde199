-- No bit is 1 any more.
use Rattle.std.proofs.Common.{ℕ, Bool, List, false, length, replicate, ap, sym, ◌∙◌}
use Rattle.osc_frames.proofs.Rows.{length-numbers}
use Rattle.osc_heap.proofs.SlotBits.{no_words}
use Rattle.osc_heap.proofs.area.Area.clear.Goals as goal

pub returns : goal.returns
returns c =
    no_words c.clear.new.self.items c.self.inside.slots c.clear.ensures.items
    ∙ ap (λ (n : ℕ). replicate n false) (sym (length-numbers c.self.inside.held.items c.self.inside.slots) ∙ ap (λ (row : List Bool). length row) c.self.view_is)
