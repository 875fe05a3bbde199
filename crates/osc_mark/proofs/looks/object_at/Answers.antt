-- The last object that begins at the address's page or before it has the address, or no object has.
use Rattle.std.proofs.Common.{sym, arith, ◌-◌}
use Rattle.osc_mark.proofs.ObjectPlaces.{at_found, at_other, at_none}
use Rattle.osc_mark.proofs.looks.object_at.Goals as goal

pub returns-then-found-user-clause-object : goal.returns-then-found-user-clause-object
returns-then-found-user-clause-object c =
    sym (at_found c.args.user c.args.objects.now (c.place_for-place.result - 1) _ c.requires
    (omega (arith, c.place_for-place.ensures.within, c.if-place-gt0.true)) c.if-found-user.true)

pub returns-else-found-user-clause-object : goal.returns-else-found-user-clause-object
returns-else-found-user-clause-object c =
    sym (at_other c.args.user c.args.objects.now (c.place_for-place.result - 1) _ c.requires
    (omega (arith, c.place_for-place.ensures.place, c.if-place-gt0.true)) c.if-found-user.false)

pub returns-else-place-gt0-clause-object : goal.returns-else-place-gt0-clause-object
returns-else-place-gt0-clause-object c = sym (at_none c.args.user c.args.objects.now c.requires (omega (arith, c.place_for-place.ensures.place, c.if-place-gt0.false)))
