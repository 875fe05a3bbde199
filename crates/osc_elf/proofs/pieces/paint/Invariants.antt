use Rattle.std.proofs.Common.{◌-◌}
use Rattle.osc_elf.proofs.Painting.{Painted}
use Rattle.osc_elf.proofs.pieces.paint.Given as goal

abbrev pub invariant-loop-at : goal.invariant-loop-at
invariant-loop-at l = Painted l.from l.to l.owner l.at l.fn.owners.items l.owners.items l.fn.skips.items l.skips.items

abbrev pub decreases-loop-at : goal.decreases-loop-at
decreases-loop-at l = l.to - l.at
