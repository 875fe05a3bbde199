-- At its place no table has the piece.
use Rattle.std.proofs.Common.{arith, sym, ◌∙◌}
use Rattle.osc_tables.proofs.KeptChanges.{no_table}
use Rattle.osc_tables.proofs.TablePlaces.{frame_of-missed}
use Rattle.osc_tables.proofs.table_list.find_table.Goals as goal

pub returns-else-at-tables : goal.returns-else-at-tables
returns-else-at-tables c = frame_of-missed c.args.piece c.args.tables.now c.place_for-at.result no_table c.requires c.place_for-at.ensures.place (λ s. absurd (omega arith))

pub returns-else-is_same : goal.returns-else-is_same
returns-else-is_same c = frame_of-missed c.args.piece c.args.tables.now c.place_for-at.result _ c.requires c.place_for-at.ensures.place (λ s. sym c.is_same.ensures ∙ c.if-is_same.false)
