-- The least free frame is no table yet.
use Rattle.std.proofs.Common.{sym}
use Rattle.osc_tables.proofs.KeptChanges.{least_is_fresh, taken-with_table}
use Rattle.osc_tables.proofs.kept.Tables.link.Goals as goal

pub add_table-requires-clause-fresh : goal.add_table-requires-clause-fresh
add_table-requires-clause-fresh c =
    let taken = rw (← c.self.view_is) at c.requires.taken in
    rw (← c.self.view_is)
    (least_is_fresh c.self.inside.top c.self.inside.pages.pages c.self.inside.tables.items c.self.inside.aside.items c.self.inside.pages.room c.self.inside.count c.in-Some-take.frame c.args.frames.now c.self.invariant.0 taken (sym c.in-Some-take.ensures.least))

pub returns-in-Some-take-clause-taken : goal.returns-in-Some-take-clause-taken
returns-in-Some-take-clause-taken c =
    let taken = rw (← c.self.view_is) at c.requires.taken in
    let fresh = least_is_fresh c.self.inside.top c.self.inside.pages.pages c.self.inside.tables.items c.self.inside.aside.items c.self.inside.pages.room c.self.inside.count c.in-Some-take.frame c.args.frames.now c.self.invariant.0 taken (sym c.in-Some-take.ensures.least) in
    rw (c.add_table.ensures.tables, c.in-Some-take.ensures.after, ← c.self.view_is)
    (taken-with_table c.self.inside.top c.self.inside.pages.pages c.self.inside.tables.items c.self.inside.aside.items c.self.inside.pages.room c.self.inside.count _ c.args.frames.now taken fresh (sym c.in-Some-take.ensures.least))
