-- A thread begins within the frames that it comes with.
use Rattle.std.proofs.Common.{sym, subst}
use Rattle.osc_hart.specs.Seen.{SeenHart}
use Rattle.osc_hart.specs.Within.{InRange}
use Rattle.osc_hart.proofs.Ranges.{begun_in_range}
use Rattle.osc_hart.proofs.hart.UserHart.begin.Goals as goal

pub invariant_of-result : goal.invariant_of-result
invariant_of-result c =
    subst (λ (s : SeenHart). InRange s.hart) (sym c.begin.ensures)
    (begun_in_range c.asks_within.ensures.begins c.args.start.now c.requires)
