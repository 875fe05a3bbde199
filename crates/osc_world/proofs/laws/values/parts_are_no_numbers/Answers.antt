-- The law is the lemma.
use Rattle.osc_world.proofs.Bytes.{gather-part}
use Rattle.osc_world.proofs.laws.values.parts_are_no_numbers.Goals as goal

pub returns : goal.returns
returns c = gather-part
