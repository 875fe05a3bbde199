-- The law, proved of the definitions.
use Rattle.osc_core.proofs.Beginning.{starts_sound}
use Rattle.osc_core.proofs.laws.starts_sound.Goals as goal

pub returns : goal.returns
returns c = starts_sound c.boxes_fit.ensures.empty
