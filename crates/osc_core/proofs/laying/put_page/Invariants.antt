-- The first words are put.
use Rattle.osc_core.proofs.Puts.{PutsSome}
use Rattle.osc_core.proofs.laying.put_page.Given as goal

abbrev pub invariant-loop-index : goal.invariant-loop-index
invariant-loop-index l = PutsSome l.index l.frame l.bytes l.fn.words l.words
