-- What stays, and where a hart asks for what.
use Rattle.std.proofs.Common.{◌≡◌, arith, refl}
use Rattle.osc_guest.specs.declared.places.Place.{Place}
use Rattle.osc_guest.specs.declared.places.Place.TheVariants as at
use Rattle.osc_guest.specs.declared.places.Stage.TheVariants as stage
use Rattle.osc_guest.specs.declared.places.Ask.TheVariants as asks
use Rattle.osc_guest.specs.Asks.{ask, ask_at}
use Rattle.osc_guest.specs.Told.{told}
use Rattle.osc_guest.specs.Laws.{BusyKeeps, RestStays, GivingLooksAway, TakersOfBox, Loaders, TakersOfGate, Storing, Storers, Openers, Givers, Callers, Resters, GivingMoves}

pub busy_keeps : BusyKeeps
unfolding told
busy_keeps h = grind arith

pub rest_stays : RestStays
unfolding ask told
rest_stays h t e = grind (arith, e)

pub giving_looks_away : GivingLooksAway
unfolding ask told
giving_looks_away h e = grind (arith, e)

pub takers_of_box : TakersOfBox
unfolding ask
takers_of_box h e = grind (arith, e)

pub loaders : Loaders
unfolding ask
loaders h place e = grind (arith, e)

pub takers_of_gate : TakersOfGate
unfolding ask
takers_of_gate h frame only e = grind (arith, e)

pub storers : Storers
unfolding ask
storers h place value e = go h.place refl e
  where
    go : (p : Place) → h.place ≡ p → ask_at p h ≡ asks.Store place value → Storing h place value
    go (at.Access access frame (stage.GatedStore version found)) k e = record {
      access = access;
      version = version;
      found = found;
      at_place = grind (arith, k, e);
      word = grind (arith, e);
      stored = grind (arith, e);
    }
    go _ k e = absurd (let b : ⊥ = grind (arith, e) in b)

pub openers : Openers
unfolding ask
openers h frame version e = grind (arith, e)

pub callers : Callers
unfolding ask
callers h asked e = grind (arith, e)

pub resters : Resters
unfolding ask
resters h e = grind (arith, e)

pub givers : Givers
unfolding ask
givers h e = grind (arith, e)

pub giving_moves : GivingMoves
unfolding ask told
giving_moves h e = grind (arith, e)
