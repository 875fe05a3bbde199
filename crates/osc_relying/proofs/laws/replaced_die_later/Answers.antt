-- The law, proved of the definitions.
use Rattle.osc_relying.proofs.BuriedLater.{runs_bury_later}
use Rattle.osc_relying.proofs.laws.replaced_die_later.Goals as goal

pub returns : goal.returns
returns c = runs_bury_later
