-- The law, proved of the definitions.
use Rattle.osc_settled.proofs.Following.{processes_apart}
use Rattle.osc_settled.proofs.laws.processes_apart.Goals as goal

pub returns : goal.returns
returns c = processes_apart
