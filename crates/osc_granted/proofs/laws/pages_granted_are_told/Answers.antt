-- The law, proved of the definitions.
use Rattle.osc_granted.proofs.GrantedSteps.{opens-granted, steps_keep_granted, runs_fit_granted, runs_tell_granted}
use Rattle.osc_granted.proofs.laws.pages_granted_are_told.Goals as goal

pub returns-clause-start : goal.returns-clause-start
returns-clause-start c = opens-granted

pub returns-clause-steps : goal.returns-clause-steps
returns-clause-steps c = steps_keep_granted

pub returns-clause-runs : goal.returns-clause-runs
returns-clause-runs c = runs_fit_granted

pub returns-clause-told : goal.returns-clause-told
returns-clause-told c = runs_tell_granted
