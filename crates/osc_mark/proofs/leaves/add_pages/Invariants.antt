-- The leaf tables below this one have their pages.
use Rattle.osc_mark.specs.Leaves.{AreRaised}
use Rattle.osc_mark.proofs.leaves.add_pages.Given as goal

abbrev pub invariant-loop-leaf : goal.invariant-loop-leaf
invariant-loop-leaf l = AreRaised l.leaf l.first l.pages l.fn.counts l.counts
