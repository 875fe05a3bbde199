-- The table that was found.
use Rattle.std.proofs.Common.{sym}
use Rattle.osc_tables.proofs.TablePlaces.{frame_of-found}
use Rattle.osc_tables.proofs.table_list.frame_of.Goals as goal

pub returns : goal.returns
returns c = sym (frame_of-found c.args.level c.args.number c.args.tables.now c.in_ok-at.at _ c.requires c.in_ok-at.ensures.within (c.in_ok-at.ensures.same _))
