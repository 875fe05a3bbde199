-- A page less.
use Rattle.osc_tables.proofs.KeptChanges.{kept-without_page}
use Rattle.osc_tables.proofs.kept.Tables.unmap_number.Goals as goal

pub invariant_of-self : goal.invariant_of-self
invariant_of-self c =
    rw c.remove.ensures (
      kept-without_page c.self.inside.top c.self.inside.pages.pages c.self.inside.tables.items c.self.inside.aside.items c.self.inside.pages.room c.self.inside.count _ c.self.invariant.0,
      c.self.invariant.1,
      c.self.invariant.2,
    )
