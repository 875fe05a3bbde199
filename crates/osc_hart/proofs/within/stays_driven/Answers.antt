-- The laws of a hart's frames and of its hand, together.
use Rattle.osc_hart.proofs.Ranges.{begins_so, idles_so, tells_on, takes_on, gives_on}
use Rattle.osc_hart.proofs.within.stays_driven.Goals as goal

pub returns-clause-begins : goal.returns-clause-begins
returns-clause-begins c = begins_so c.asks_within.ensures.begins

pub returns-clause-idles : goal.returns-clause-idles
returns-clause-idles c = idles_so

pub returns-clause-tells : goal.returns-clause-tells
returns-clause-tells c = tells_on c.asks_within.ensures.kept c.hands_move.ensures.agree

pub returns-clause-takes : goal.returns-clause-takes
returns-clause-takes c = takes_on c.asks_within.ensures.kept c.hands_move.ensures.agree

pub returns-clause-gives : goal.returns-clause-gives
returns-clause-gives c = gives_on c.asks_within.ensures.kept c.hands_move.ensures.agree c.stays_exactly.ensures.giving
