-- The law is the lemma.
use Rattle.osc_slot.proofs.Exists.{start_exists}
use Rattle.osc_slot.proofs.laws.slot_exists.Goals as goal

pub returns : goal.returns
returns c = start_exists
