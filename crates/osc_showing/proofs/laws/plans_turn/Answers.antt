-- The law, proved of the definitions.
use Rattle.osc_showing.proofs.Plans.{malloc-turns, free-turns}
use Rattle.osc_showing.proofs.ReallocPlans.{realloc-turns}
use Rattle.osc_showing.proofs.laws.plans_turn.Goals as goal

pub returns : goal.returns
returns c = record { malloc = malloc-turns; free = free-turns; realloc = realloc-turns }
