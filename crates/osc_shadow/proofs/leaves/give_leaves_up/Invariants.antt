-- The dead leaf tables before this one were given up.
use Rattle.std.proofs.Common.{◌-◌, ◌^◌}
use Rattle.osc_shadow.proofs.GivenUp.{GivingUp}
use Rattle.osc_shadow.proofs.leaves.give_leaves_up.Given as goal

abbrev pub invariant-loop-leaf : goal.invariant-loop-leaf
invariant-loop-leaf l = GivingUp l.fn.tables l.tables l.marks l.gone l.fn.jobs l.jobs l.from

abbrev pub decreases-loop-leaf : goal.decreases-loop-leaf
decreases-loop-leaf l = 2 ^ 16 - l.from
