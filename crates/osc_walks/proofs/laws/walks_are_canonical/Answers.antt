-- The law, proved of the definitions.
use Rattle.osc_walks.proofs.Canonical.{steps_stay_canonical, runs_stay_canonical}
use Rattle.osc_walks.proofs.laws.walks_are_canonical.Goals as goal

pub returns-clause-steps : goal.returns-clause-steps
returns-clause-steps c = steps_stay_canonical

pub returns-clause-runs : goal.returns-clause-runs
returns-clause-runs c = runs_stay_canonical
