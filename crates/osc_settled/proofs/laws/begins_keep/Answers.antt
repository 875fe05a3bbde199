-- The law, proved of the definitions.
use Rattle.osc_settled.proofs.Beginning.{begins_keep}
use Rattle.osc_settled.proofs.laws.begins_keep.Goals as goal

pub returns : goal.returns
returns c = begins_keep
