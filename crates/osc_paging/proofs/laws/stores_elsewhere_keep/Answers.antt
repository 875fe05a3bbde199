-- The law, proved of the definitions.
use Rattle.osc_paging.proofs.TableLawProofs.{stores_elsewhere_keep}
use Rattle.osc_paging.proofs.laws.stores_elsewhere_keep.Goals as goal

pub returns : goal.returns
returns c = stores_elsewhere_keep
