-- The law, proved of the definitions.
use Rattle.osc_blocks.proofs.ConfigSteps.{steps_keep_config, runs_keep_config}
use Rattle.osc_blocks.proofs.laws.configs_stay.Goals as goal

pub returns-clause-steps : goal.returns-clause-steps
returns-clause-steps c = steps_keep_config

pub returns-clause-runs : goal.returns-clause-runs
returns-clause-runs c = runs_keep_config
