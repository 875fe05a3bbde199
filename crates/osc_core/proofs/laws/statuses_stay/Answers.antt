-- The law, proved of the definitions.
use Rattle.osc_core.proofs.Statuses.{statuses_stay}
use Rattle.osc_core.proofs.laws.statuses_stay.Goals as goal

pub returns : goal.returns
returns c = statuses_stay
