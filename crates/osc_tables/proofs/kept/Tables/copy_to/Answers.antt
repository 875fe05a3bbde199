-- The child has the same pieces and numbers, and other frames.
use Rattle.std.proofs.Common.{◌≡◌, ◌∙◌, [], ap, arith}
use Rattle.osc_paging.specs.KeptTables.{KeptTables}
use Rattle.osc_tables.proofs.KeptChanges.{kept-renamed}
use Rattle.osc_tables.proofs.kept.Tables.copy_to.Goals as goal

pub invariant_of-child : goal.invariant_of-child
invariant_of-child c =
    let child = c.child.view_is ∙ c.requires.closed in
    let aside : c.child.inside.aside.items ≡ [] = ap (λ (t : KeptTables). t.aside) child in
    let room : c.child.inside.pages.room ≡ c.self.inside.pages.room = rw (← c.self.view_is) at (ap (λ (t : KeptTables). t.room) child) in
    let count : c.child.inside.count ≡ c.self.inside.count = rw (← c.self.view_is) at (ap (λ (t : KeptTables). t.count) child) in
    let top : c.child.inside.top ≡ c.self.inside.top = (let same = rw (← c.self.view_is) at (ap (λ (t : KeptTables). t.top) child) in omega arith) in
    let names = rw (← c.self.view_is) at c.requires.names in
    rw (c.copy_to.ensures, c.copy_tables.ensures.items, c.deref.ensures.value, aside) (
      (rw (top, room, count) (kept-renamed c.self.inside.top c.self.inside.pages.pages c.self.inside.tables.items c.self.inside.aside.items c.self.inside.pages.room c.self.inside.count c.args.names.now c.self.invariant.0 names.different)),
      omega (arith, c.child.invariant.1, c.copy_tables.ensures.capacity),
      c.child.invariant.2,
    )
