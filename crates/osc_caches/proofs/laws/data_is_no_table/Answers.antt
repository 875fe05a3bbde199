-- The law, proved of the definitions.
use Rattle.osc_caches.proofs.DataFrames.{data_is_no_table}
use Rattle.osc_caches.proofs.laws.data_is_no_table.Goals as goal

pub returns : goal.returns
returns c = data_is_no_table
