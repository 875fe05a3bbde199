-- From the leaf tables below this one the pages are taken.
use Rattle.osc_mark.specs.Leaves.{AreLowered}
use Rattle.osc_mark.proofs.leaves.drop_pages.Given as goal

abbrev pub invariant-loop-leaf : goal.invariant-loop-leaf
invariant-loop-leaf l = AreLowered l.leaf l.first l.pages l.fn.counts l.counts
