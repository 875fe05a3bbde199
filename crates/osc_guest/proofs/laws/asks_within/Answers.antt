-- The laws, proved of the definitions.
use Rattle.osc_guest.proofs.Ranges.{asks_in, range_kept, begins_in}
use Rattle.osc_guest.proofs.laws.asks_within.Goals as goal

pub returns-clause-asks : goal.returns-clause-asks
returns-clause-asks c = asks_in

pub returns-clause-kept : goal.returns-clause-kept
returns-clause-kept c = range_kept

pub returns-clause-begins : goal.returns-clause-begins
returns-clause-begins c = begins_in
