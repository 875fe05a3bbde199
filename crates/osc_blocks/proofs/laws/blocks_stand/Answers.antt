-- The law, proved of the definitions.
use Rattle.osc_blocks.proofs.BlockSteps.{steps_keep_blocks, runs_keep_blocks}
use Rattle.osc_blocks.proofs.laws.blocks_stand.Goals as goal

pub returns-clause-steps : goal.returns-clause-steps
returns-clause-steps c = steps_keep_blocks

pub returns-clause-runs : goal.returns-clause-runs
returns-clause-runs c = runs_keep_blocks
