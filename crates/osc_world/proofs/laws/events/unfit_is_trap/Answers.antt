-- The law is the lemma.
use Rattle.osc_world.proofs.Folds.{unfit_traps}
use Rattle.osc_world.proofs.laws.events.unfit_is_trap.Goals as goal

pub returns : goal.returns
returns c = unfit_traps
