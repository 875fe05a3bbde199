-- The law, proved of the definitions.
use Rattle.osc_ledger.proofs.ShadowSteps.{steps_keep_shadows, runs_fit_shadows}
use Rattle.osc_ledger.proofs.laws.shadows_fit.Goals as goal

pub returns-clause-steps : goal.returns-clause-steps
returns-clause-steps c = steps_keep_shadows

pub returns-clause-runs : goal.returns-clause-runs
returns-clause-runs c = runs_fit_shadows
