-- The law is the lemma.
use Rattle.osc_world.proofs.Folds.{all_fit-append}
use Rattle.osc_world.proofs.laws.events.fitting_goes_on.Goals as goal

pub returns : goal.returns
returns c = all_fit-append
