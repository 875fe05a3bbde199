-- The law is the lemma.
use Rattle.osc_slot.proofs.Copying.{empty_agrees}
use Rattle.osc_slot.proofs.laws.empty_agrees.Goals as goal

pub returns : goal.returns
returns c = empty_agrees
