-- The laws are the lemmas.
use Rattle.osc_world.proofs.Folds.{error_stays, error_stays-append}
use Rattle.osc_world.proofs.laws.events.first_error_stays.Goals as goal

pub returns-clause-stays : goal.returns-clause-stays
returns-clause-stays c = error_stays

pub returns-clause-prefix : goal.returns-clause-prefix
returns-clause-prefix c = error_stays-append
