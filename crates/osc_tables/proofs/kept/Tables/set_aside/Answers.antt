-- A table less, and a leaf more aside.
use Rattle.std.proofs.Common.{arith}
use Rattle.osc_tables.specs.Inside.{kept}
use Rattle.osc_tables.proofs.KeptChanges.{kept-set_aside, taken-set_aside}
use Rattle.osc_tables.proofs.kept.Tables.set_aside.Goals as goal

pub invariant_of-self : goal.invariant_of-self
invariant_of-self c =
    let there = rw (← c.self.view_is) at c.requires in
    rw (c.drop_table.ensures.items, c.push.ensures.items, c.unwrap.ensures) (
      kept-set_aside c.self.inside.top c.self.inside.pages.pages c.self.inside.tables.items c.self.inside.aside.items c.self.inside.pages.room c.self.inside.count c.args.number c.args.frame c.self.invariant.0 there,
      omega (arith, c.self.invariant.1, c.drop_table.ensures.capacity),
      omega (arith, c.self.invariant.2, c.push.ensures.capacity),
    )

pub returns-clause-taken : goal.returns-clause-taken
returns-clause-taken c =
    λ free h.
    rw (c.drop_table.ensures.items, c.push.ensures.items, c.unwrap.ensures)
    (let there = rw (← c.self.view_is) at c.requires in
    let taken = rw (← c.self.view_is) at h in
    taken-set_aside (kept c.self.inside.top c.self.inside.pages.pages c.self.inside.tables.items c.self.inside.aside.items c.self.inside.pages.room c.self.inside.count) free c.args.number c.args.frame taken there)
