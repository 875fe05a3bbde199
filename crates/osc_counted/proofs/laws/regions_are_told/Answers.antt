-- The law, proved of the definitions.
use Rattle.osc_counted.proofs.RegionSteps.{steps_keep_regions, runs_tell_regions}
use Rattle.osc_counted.proofs.Unused.{regions_are_counted}
use Rattle.osc_counted.proofs.laws.regions_are_told.Goals as goal

pub returns-clause-steps : goal.returns-clause-steps
returns-clause-steps c = steps_keep_regions

pub returns-clause-runs : goal.returns-clause-runs
returns-clause-runs c = runs_tell_regions

pub returns-clause-counted : goal.returns-clause-counted
returns-clause-counted c = regions_are_counted
