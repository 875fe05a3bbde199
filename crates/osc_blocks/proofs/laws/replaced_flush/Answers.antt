-- The law, proved of the definitions.
use Rattle.osc_blocks.proofs.ReplacedSteps.{steps_keep_replaced, runs_keep_replaced}
use Rattle.osc_blocks.proofs.laws.replaced_flush.Goals as goal

pub returns-clause-steps : goal.returns-clause-steps
returns-clause-steps c = steps_keep_replaced

pub returns-clause-runs : goal.returns-clause-runs
returns-clause-runs c = runs_keep_replaced
