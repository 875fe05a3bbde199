-- The law, proved of the definitions.
use Rattle.osc_relying.proofs.LevelSteps.{steps_keep_levels, runs_fit_levels}
use Rattle.osc_relying.proofs.laws.levels_fit.Goals as goal

pub returns-clause-steps : goal.returns-clause-steps
returns-clause-steps c = steps_keep_levels

pub returns-clause-runs : goal.returns-clause-runs
returns-clause-runs c = runs_fit_levels
