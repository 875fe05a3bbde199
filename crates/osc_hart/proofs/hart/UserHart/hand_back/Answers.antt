-- A hart without its box stays within its machine.
use Rattle.std.proofs.Common.{sym, subst}
use Rattle.osc_hart.specs.Seen.{SeenHart}
use Rattle.osc_hart.specs.Within.{InRange}
use Rattle.osc_hart.proofs.Ranges.{emptied_in_range}
use Rattle.osc_hart.proofs.hart.UserHart.hand_back.Goals as goal

pub invariant_of-self : goal.invariant_of-self
invariant_of-self c =
    subst (λ (s : SeenHart). InRange s.hart) (sym c.hand_back.ensures.rest)
    (emptied_in_range c.self.inside.state.hart c.self.invariant)
