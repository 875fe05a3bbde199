-- The laws, proved of the definitions.
use Rattle.osc_guest.proofs.Conditional.{reservations_kept}
use Rattle.osc_guest.proofs.UnderWay.{accesses_kept}
use Rattle.osc_guest.proofs.laws.accesses_fit.Goals as goal

pub returns-clause-conditional : goal.returns-clause-conditional
returns-clause-conditional c = reservations_kept

pub returns-clause-under_way : goal.returns-clause-under_way
returns-clause-under_way c = accesses_kept
