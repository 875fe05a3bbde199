-- The law, proved of the definitions.
use Rattle.osc_every_run.proofs.Steps.{runs_rely}
use Rattle.osc_every_run.proofs.laws.runs_rely.Goals as goal

pub returns : goal.returns
returns c = runs_rely
