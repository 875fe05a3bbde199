-- Where a hart is, as its code keeps it.
use Rattle.std.proofs.Common.{◌≡◌, Option, Some, None, arith, refl}
use Rattle.osc_guest.specs.User.{UserHart}
use Rattle.osc_machine.specs.Parts.{Outside}
use Rattle.osc_turns.specs.declared.place.Place.{Place}
use Rattle.osc_turns.specs.declared.place.Place.TheVariants as at
use Rattle.osc_kernel.specs.Seen.{SeenKernel}
use Rattle.osc_turns.specs.Seen.{place_seen}
use Rattle.osc_turns.specs.Places.{Calls, CallsIn}

pub is_outside : (p : Place) (k : Option SeenKernel) → place_seen p k ≡ Outside → p ≡ at.Outside
is_outside at.Outside k e = refl
is_outside (at.TakingBoxes next) k e = absurd (let z : ⊥ = grind (arith, e) in z)
is_outside (at.FirstWord first second) k e = absurd (let z : ⊥ = grind (arith, e) in z)
is_outside (at.SecondWord found second) k e = absurd (let z : ⊥ = grind (arith, e) in z)
is_outside (at.Working p) k e = absurd (let z : ⊥ = grind (arith, e) in z)
is_outside (at.GivingBoxes next) k e = absurd (let z : ⊥ = grind (arith, e) in z)
is_outside (at.Returning full) None e = absurd (let z : ⊥ = grind (arith, e) in z)
is_outside (at.Returning full) (Some k) e = absurd (let z : ⊥ = grind (arith, e) in z)
is_outside (at.Returned full resume label before) k e = absurd (let z : ⊥ = grind (arith, e) in z)

pub calls_outside : (p : Place) (k : Option SeenKernel) (user : UserHart) → place_seen p k ≡ Outside → CallsIn p user
calls_outside p k user e = rw (is_outside p k e) tt

pub calls_anywhere : (p : Place) (user : UserHart) → Calls user → CallsIn p user
calls_anywhere at.Outside user calls = tt
calls_anywhere (at.TakingBoxes next) user calls = calls
calls_anywhere (at.FirstWord first second) user calls = calls
calls_anywhere (at.SecondWord found second) user calls = calls
calls_anywhere (at.Working p) user calls = calls
calls_anywhere (at.GivingBoxes next) user calls = calls
calls_anywhere (at.Returning full) user calls = calls
calls_anywhere (at.Returned full resume label before) user calls = calls
