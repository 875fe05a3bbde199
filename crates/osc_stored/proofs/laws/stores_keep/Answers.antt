-- The law, proved of the definitions.
use Rattle.osc_stored.proofs.Storing.{stores_keep}
use Rattle.osc_stored.proofs.laws.stores_keep.Goals as goal

pub returns : goal.returns
returns c = stores_keep
