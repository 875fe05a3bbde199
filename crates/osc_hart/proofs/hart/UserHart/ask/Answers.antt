-- A hart within its machine asks only for frames of it.
use Rattle.osc_hart.proofs.Ranges.{asks_in_range}
use Rattle.osc_hart.proofs.hart.UserHart.ask.Goals as goal

pub returns-clause-within : goal.returns-clause-within
returns-clause-within c =
    rw (c.next_action.ensures, ← c.self.view_is)
    (asks_in_range c.asks_within.ensures.asks c.self.inside.state.hart c.self.invariant)
