-- The laws, proved of the definitions.
use Rattle.osc_safe.proofs.HoldersLaws.{one_holds}
use Rattle.osc_safe.proofs.laws.one_has_it.Goals as goal

pub returns : goal.returns
returns c = one_holds
