-- The pages before this one were unmapped.
use Rattle.osc_shadow.proofs.Unmapped.{Unmapping}
use Rattle.osc_shadow.proofs.shadows.unmap_shadows.Given as goal

abbrev pub invariant-loop-k : goal.invariant-loop-k
invariant-loop-k l = Unmapping l.fn.tables l.tables l.fn.jobs l.jobs l.first l.k l.count
