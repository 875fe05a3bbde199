-- The law, proved of the definitions.
use Rattle.osc_walks.proofs.Walking.{walks_keep}
use Rattle.osc_walks.proofs.laws.walks_are_kept.Goals as goal

pub returns : goal.returns
returns c = walks_keep
