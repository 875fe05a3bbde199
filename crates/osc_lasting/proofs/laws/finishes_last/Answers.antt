-- The law, proved of the definitions.
use Rattle.osc_lasting.proofs.FinishSteps.{finishes_last}
use Rattle.osc_lasting.proofs.laws.finishes_last.Goals as goal

pub returns : goal.returns
returns c = finishes_last
