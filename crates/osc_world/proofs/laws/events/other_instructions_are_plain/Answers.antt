-- The law is the lemma.
use Rattle.osc_world.proofs.Table.{goes-plainly}
use Rattle.osc_world.proofs.laws.events.other_instructions_are_plain.Goals as goal

pub returns : goal.returns
returns c = goes-plainly
