-- What was looked at holds.
use Rattle.std.proofs.Common.{◌≡◌, ◌∙◌, true, arith, sym}
use Rattle.osc_tables.proofs.tests.reclaim_on.Goals as goal

pub reclaim-requires-clause-leaf : goal.reclaim-requires-clause-leaf
reclaim-requires-clause-leaf g c = record {
  canonical = let there : c.reaches.result ≡ true = cc in sym c.reaches.ensures ∙ there;
  linked = let there : c.is_linked.result ≡ true = cc in sym c.is_linked.ensures ∙ there;
  empty = λ i s. c.loop-i.invariant i (omega arith);
}
