-- The law is the lemma.
use Rattle.osc_world.proofs.Bytes.{gather-numbers}
use Rattle.osc_world.proofs.laws.values.numbers_read_back.Goals as goal

pub returns : goal.returns
returns c = gather-numbers
