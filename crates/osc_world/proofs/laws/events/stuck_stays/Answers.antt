-- The law is the lemma.
use Rattle.osc_world.proofs.Folds.{stuck_stays}
use Rattle.osc_world.proofs.laws.events.stuck_stays.Goals as goal

pub returns : goal.returns
returns c = stuck_stays
