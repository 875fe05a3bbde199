-- A new table has a frame of its own.
use Rattle.std.proofs.Common.{arith}
use Rattle.osc_tables.proofs.KeptChanges.{kept-with_table}
use Rattle.osc_tables.proofs.kept.Tables.add_table.Goals as goal

pub invariant_of-self : goal.invariant_of-self
invariant_of-self c =
    let fresh = rw (← c.self.view_is) at c.requires.fresh in
    let absent = rw (← c.self.view_is) at c.requires.absent in
    let level = rw (← c.self.view_is) at c.requires.level in
    let range = rw (← c.self.view_is) at c.requires.range in
    rw c.put_table.ensures.items (
      kept-with_table c.self.inside.top c.self.inside.pages.pages c.self.inside.tables.items c.self.inside.aside.items c.self.inside.pages.room c.self.inside.count c.args.new c.self.invariant.0 fresh level range absent,
      omega (arith, c.self.invariant.1, c.put_table.ensures.capacity),
      c.self.invariant.2,
    )
