-- The law, proved of the definitions.
use Rattle.osc_showing.proofs.Wiping.{rest-wipes, unmap_all-wipes, reclaim_all-wipes, wiped-turns}
use Rattle.osc_showing.proofs.Growing.{maps-turns, clears-due, clear-turns, plain-turns}
use Rattle.osc_showing.proofs.laws.rules_turn.Goals as goal

pub returns : goal.returns
returns c = record {
  leaving = λ pages leaves t free k none empty. wiped-turns t _ (reclaim_all-wipes t leaves _ empty (unmap_all-wipes t pages _ (rest-wipes t free k none)));
  clearing = λ harts old t free js k. clear-turns old t free js harts k;
  due = clears-due;
  elsewhere = plain-turns;
  mapping = λ old n mappings c reads none k. maps-turns old mappings n c reads none k;
}
