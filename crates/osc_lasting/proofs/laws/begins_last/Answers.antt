-- The law, proved of the definitions.
use Rattle.osc_lasting.proofs.BeginSteps.{begins_last}
use Rattle.osc_lasting.proofs.laws.begins_last.Goals as goal

pub returns : goal.returns
returns c = begins_last
