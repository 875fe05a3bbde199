-- The law, proved of the definitions.
use Rattle.osc_relying.proofs.StartRelies.{starts_rely}
use Rattle.osc_relying.proofs.laws.starts_rely.Goals as goal

pub returns : goal.returns
returns c = starts_rely
