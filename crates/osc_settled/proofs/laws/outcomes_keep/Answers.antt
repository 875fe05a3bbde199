-- The law, proved of the definitions.
use Rattle.osc_settled.proofs.Outcomes.{outcomes_keep}
use Rattle.osc_settled.proofs.laws.outcomes_keep.Goals as goal

pub returns : goal.returns
returns c = outcomes_keep
