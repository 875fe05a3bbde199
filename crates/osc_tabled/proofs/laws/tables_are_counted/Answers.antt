-- The law, proved of the definitions.
use Rattle.osc_tabled.proofs.TableCounts.{tables_are_counted}
use Rattle.osc_tabled.proofs.laws.tables_are_counted.Goals as goal

pub returns : goal.returns
returns c = tables_are_counted
