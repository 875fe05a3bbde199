-- The law, proved of the definitions.
use Rattle.osc_machine.proofs.RunLaws.{runs_end}
use Rattle.osc_machine.proofs.laws.runs_end.Goals as goal

pub returns : goal.returns
returns c = runs_end
