-- The law, proved of the definitions.
use Rattle.osc_settled.proofs.Plans.{plans_keep}
use Rattle.osc_settled.proofs.laws.plans_keep.Goals as goal

pub returns : goal.returns
returns c = plans_keep
