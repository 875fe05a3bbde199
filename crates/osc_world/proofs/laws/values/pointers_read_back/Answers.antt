-- The law is the lemma.
use Rattle.osc_world.proofs.Bytes.{gather-parts}
use Rattle.osc_world.proofs.laws.values.pointers_read_back.Goals as goal

pub returns-clause-loaded : goal.returns-clause-loaded
returns-clause-loaded c = gather-parts
