-- The law, proved of the definitions.
use Rattle.osc_space.proofs.PlanLawProofs.{flush_gives_up}
use Rattle.osc_space.proofs.laws.flushes_give_up_dead_leaves.Goals as goal

pub returns : goal.returns
returns c = flush_gives_up
