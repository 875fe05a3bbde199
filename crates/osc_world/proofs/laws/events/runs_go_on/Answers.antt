-- The laws are the lemmas.
use Rattle.osc_world.proofs.Folds.{object_run-append, plain_run-append}
use Rattle.osc_world.proofs.laws.events.runs_go_on.Goals as goal

pub returns-clause-object : goal.returns-clause-object
returns-clause-object c = object_run-append

pub returns-clause-plain : goal.returns-clause-plain
returns-clause-plain c = plain_run-append
