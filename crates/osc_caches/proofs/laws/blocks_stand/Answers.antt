-- The law, proved of the definitions.
use Rattle.osc_caches.proofs.Blocks.{plans_hold}
use Rattle.osc_caches.proofs.laws.blocks_stand.Goals as goal

pub returns : goal.returns
returns c = plans_hold
