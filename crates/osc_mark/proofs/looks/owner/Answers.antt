-- The last object that begins at the page or before it has the page, or no object has.
use Rattle.std.proofs.Common.{sym, arith, ◌-◌}
use Rattle.osc_mark.proofs.ObjectPlaces.{owner_found, owner_gap, owner_none}
use Rattle.osc_mark.proofs.looks.owner.Goals as goal

pub returns-then-page-object-clause-owner : goal.returns-then-page-object-clause-owner
returns-then-page-object-clause-owner c =
    sym (owner_found c.args.page c.args.objects.now (c.place_for-place.result - 1) c.from.result _ c.requires
    (omega (arith, c.place_for-place.ensures.place, c.if-place-gt0.true)) c.from.ensures c.if-page-object.true)

pub returns-else-page-object-clause-owner : goal.returns-else-page-object-clause-owner
returns-else-page-object-clause-owner c =
    sym (owner_gap c.args.page c.args.objects.now (c.place_for-place.result - 1) c.from.result _ c.requires
    (omega (arith, c.place_for-place.ensures.place, c.if-place-gt0.true)) c.from.ensures c.if-page-object.false)

pub returns-else-place-gt0-clause-owner : goal.returns-else-place-gt0-clause-owner
returns-else-place-gt0-clause-owner c = sym (owner_none c.args.page c.args.objects.now c.requires (omega (arith, c.place_for-place.ensures.place, c.if-place-gt0.false)))
