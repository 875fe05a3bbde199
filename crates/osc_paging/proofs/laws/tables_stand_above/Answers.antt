-- The law, proved of the definitions.
use Rattle.osc_paging.proofs.TableLawProofs.{tables_stand_above}
use Rattle.osc_paging.proofs.laws.tables_stand_above.Goals as goal

pub returns : goal.returns
returns c = tables_stand_above
