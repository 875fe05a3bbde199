-- Closed tables get their topmost one.
use Rattle.std.proofs.Common.{◌≡◌, ◌∙◌, [], ap, arith}
use Rattle.osc_paging.specs.KeptTables.{KeptTables}
use Rattle.osc_tables.proofs.KeptChanges.{kept-root}
use Rattle.osc_tables.proofs.kept.Tables.open.Goals as goal

pub invariant_of-self : goal.invariant_of-self
invariant_of-self c =
    let closed = c.self.view_is ∙ c.requires.closed in
    let pages : c.self.inside.pages.pages ≡ [] = ap (λ (t : KeptTables). t.pages) closed in
    let tables : c.self.inside.tables.items ≡ [] = ap (λ (t : KeptTables). t.tables) closed in
    let aside : c.self.inside.aside.items ≡ [] = ap (λ (t : KeptTables). t.aside) closed in
    let taken = rw (← c.self.view_is) at c.requires.taken in
    rw (c.push.ensures.items, c.unwrap.ensures, pages, tables, aside) (
      kept-root c.self.inside.top c.self.inside.pages.room c.self.inside.count c.args.root c.self.invariant.0.range taken,
      omega (arith, c.self.invariant.1, c.push.ensures.capacity),
      c.self.invariant.2,
    )
