use Rattle.osc_seed.proofs.Picking.{spent_makes_all}
use Rattle.osc_seed.proofs.laws.spent_makes_all.Goals as goal

pub returns : goal.returns
returns c = spent_makes_all
