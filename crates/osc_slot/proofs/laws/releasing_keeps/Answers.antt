-- The law is the lemma.
use Rattle.osc_slot.proofs.Releasing.{release_keeps}
use Rattle.osc_slot.proofs.laws.releasing_keeps.Goals as goal

pub returns : goal.returns
returns c = release_keeps
