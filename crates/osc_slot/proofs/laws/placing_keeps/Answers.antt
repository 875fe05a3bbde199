-- The law is the lemma.
use Rattle.osc_slot.proofs.Placing.{place_keeps}
use Rattle.osc_slot.proofs.laws.placing_keeps.Goals as goal

pub returns : goal.returns
returns c = place_keeps
