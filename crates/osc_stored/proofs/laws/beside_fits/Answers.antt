-- The law, proved of the definitions.
use Rattle.osc_stored.proofs.BesideSteps.{steps_keep_beside, runs_fit_beside}
use Rattle.osc_stored.proofs.laws.beside_fits.Goals as goal

pub returns-clause-steps : goal.returns-clause-steps
returns-clause-steps c = steps_keep_beside

pub returns-clause-runs : goal.returns-clause-runs
returns-clause-runs c = runs_fit_beside
