-- The law, proved of the definitions.
use Rattle.osc_core.proofs.Moving.{starts_home}
use Rattle.osc_core.proofs.laws.starts_home.Goals as goal

pub returns : goal.returns
returns c = starts_home
