use Rattle.osc_fork.specs.Names.{MarksMore, AreFound}
use Rattle.osc_fork.proofs.marking.mark_block.Given as goal

-- the pages before this one have frames that are to be copied
abbrev pub invariant-loop-k : goal.invariant-loop-k
invariant-loop-k l = record {
  more : MarksMore l.heap.pages l.fn.names l.names;
  found : AreFound l.heap.pages l.first l.k l.names;
}
