-- Each object's pages lie in the shadow range.
use Rattle.std.proofs.Common.{arith, ◌+◌, get_or}
use Rattle.osc_shadow.proofs.Sights.{granted_fact}
use Rattle.osc_shadow.proofs.Overs.{finds_more}
use Rattle.osc_shadow.proofs.leaves.next_leaf.Goals as goal

pub leaf_of-requires-clause-some : goal.leaf_of-requires-clause-some
leaf_of-requires-clause-some c =
    (granted_fact c.args.marks.now (get_or c.args.gone.now c.loop-object.object-index 0) c.fact-fact.result c.fact-fact.ensures.valid (c.requires.known c.loop-object.object-index 0 (omega arith)) c.fact-fact.ensures.fact).some

pub leaf_of-requires-clause-low : goal.leaf_of-requires-clause-low
leaf_of-requires-clause-low c =
    let g = granted_fact c.args.marks.now (get_or c.args.gone.now c.loop-object.object-index 0) c.fact-fact.result c.fact-fact.ensures.valid (c.requires.known c.loop-object.object-index 0 (omega arith)) c.fact-fact.ensures.fact in
    omega (arith, g.to)

pub loop-object-preserved : goal.loop-object-preserved
loop-object-preserved c =
    rw c.lesser-next.ensures
    (finds_more c.args.marks.now.objects c.args.gone.now c.loop-object.object-index (c.loop-object.object-index + 1) c.args.from c.fact-fact.result c.loop-object.next c.leaf_of.result
    (omega arith) (omega arith) c.fact-fact.ensures.fact c.loop-object.invariant c.leaf_of.ensures)
