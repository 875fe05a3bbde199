-- The leaves aside have taken their frames.
use Rattle.osc_tables.proofs.KeptChanges.{taken-no_aside}
use Rattle.osc_tables.proofs.kept.Tables.give_leaves.Goals as goal

pub give_all-requires-clause-taken : goal.give_all-requires-clause-taken
give_all-requires-clause-taken c = let taken = rw (← c.self.view_is) at c.requires.taken in rw c.deref.ensures.value taken.aside

pub returns-clause-taken : goal.returns-clause-taken
returns-clause-taken c =
    let taken = rw (← c.self.view_is) at c.requires.taken in
    rw (c.give_all.ensures, c.deref.ensures.value, c.clear.ensures.items)
    (taken-no_aside c.self.inside.top c.self.inside.pages.pages c.self.inside.tables.items c.self.inside.aside.items c.self.inside.pages.room c.self.inside.count c.args.frames.now c.self.invariant.0 taken)
