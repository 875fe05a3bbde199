-- The law is the lemma.
use Rattle.osc_slot.proofs.Copying.{clear_keeps}
use Rattle.osc_slot.proofs.laws.clearing_keeps.Goals as goal

pub returns : goal.returns
returns c = clear_keeps
