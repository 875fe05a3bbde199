-- The law, proved of the definitions.
use Rattle.osc_space.proofs.PlanLawProofs.{frees_wait}
use Rattle.osc_space.proofs.laws.frees_wait_for_clears.Goals as goal

pub returns-clause-waits : goal.returns-clause-waits
returns-clause-waits c = frees_wait
