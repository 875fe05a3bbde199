-- The table that was found is taken away.
use Rattle.std.proofs.Common.{sym, ◌∙◌}
use Rattle.osc_tables.proofs.KeptChanges.{no_table}
use Rattle.osc_tables.proofs.TablePlaces.{without_table-found, without_table-none}
use Rattle.osc_tables.proofs.table_list.drop_table.Goals as goal

pub returns-in-Some-clause-items : goal.returns-in-Some-clause-items
returns-in-Some-clause-items c =
    let at = rw c.deref.ensures.value at c.in-Some.ensures in
    c.remove-gone.ensures.items ∙ sym (without_table-found c.args.level c.args.number c.args.tables.now.items c.in-Some.at no_table c.requires at.within (at.same no_table))

pub returns-in_default-clause-items : goal.returns-in_default-clause-items
returns-in_default-clause-items c = sym (without_table-none c.args.level c.args.number c.args.tables.now.items (rw c.deref.ensures.value at c.in_default.ensures))
