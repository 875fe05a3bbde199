-- It is the least over the objects so far.
use Rattle.std.proofs.Common.{take}
use Rattle.osc_space.specs.Objects.{facts}
use Rattle.osc_shadow.specs.Flushing.{is_over}
use Rattle.osc_shadow.proofs.Overs.{Finds}
use Rattle.osc_shadow.proofs.leaves.next_leaf.Given as goal

abbrev pub invariant-loop-object : goal.invariant-loop-object
invariant-loop-object l = Finds (is_over (facts l.marks.objects (take l.object-index l.gone))) l.from l.next
