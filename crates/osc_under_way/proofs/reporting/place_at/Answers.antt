-- The address is on a page of the object, so near the object's own.
use Rattle.std.proofs.Common.{sym}
use Rattle.osc_under_way.proofs.OnPages.{is_on}
use Rattle.osc_under_way.proofs.reporting.place_at.Goals as goal

pub difference-requires-clause-above : goal.difference-requires-clause-above
difference-requires-clause-above c =
    (is_on c.args.marks.now c.args.address c.in-Some.object c.fact-fact.result c.fact-fact.ensures.valid (sym c.in-Some.ensures.owner) c.fact-fact.ensures.fact).above

pub difference-requires-clause-below : goal.difference-requires-clause-below
difference-requires-clause-below c =
    (is_on c.args.marks.now c.args.address c.in-Some.object c.fact-fact.result c.fact-fact.ensures.valid (sym c.in-Some.ensures.owner) c.fact-fact.ensures.fact).below
