use Rattle.std.proofs.Common.{None, sym, arith}
use Rattle.osc_frames.proofs.LeastNumber.{none_least, found_least}
use Rattle.osc_frames.proofs.NoneFree.{least_free_none}
use Rattle.osc_frames.proofs.words.least.Goals as goal

pub returns-then-top-eq0-clause-least : goal.returns-then-top-eq0-clause-least
returns-then-top-eq0-clause-least g c = none_least _ c.top-top.ensures.below (rw (sym c.if-top-eq0.true) c.top-top.ensures.bits)

pub returns-then-top-eq0-clause-none : goal.returns-then-top-eq0-clause-none
returns-then-top-eq0-clause-none g c = least_free_none _ None (returns-then-top-eq0-clause-least g c)

pub returns-clause-least : goal.returns-clause-least
returns-clause-least g c =
    found_least _ c.top-top.result c.group-group.result c.top-top.ensures.below c.top-top.ensures.bits (omega (arith, c.if-top-eq0.false)) c.top-top.type_inv c.group-group.ensures.bits c.group-group.type_inv

pub returns-clause-none : goal.returns-clause-none
returns-clause-none g c = least_free_none _ _ (returns-clause-least g c)
