-- The laws, proved of the definitions.
use Rattle.osc_guest.proofs.WhoAsks.{busy_keeps, rest_stays, giving_looks_away}
use Rattle.osc_guest.proofs.laws.stays_exactly.Goals as goal

pub returns-clause-busy : goal.returns-clause-busy
returns-clause-busy c = busy_keeps

pub returns-clause-rest : goal.returns-clause-rest
returns-clause-rest c = rest_stays

pub returns-clause-giving : goal.returns-clause-giving
returns-clause-giving c = giving_looks_away
