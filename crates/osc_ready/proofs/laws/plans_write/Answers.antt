-- The law, proved of the definitions.
use Rattle.osc_ready.proofs.Writes.{plans_write}
use Rattle.osc_ready.proofs.laws.plans_write.Goals as goal

pub returns : goal.returns
returns c = plans_write
