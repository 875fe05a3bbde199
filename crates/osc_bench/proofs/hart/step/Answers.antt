-- A hart that asks for the giving holds its box, and still asks for it once the box was handed back. Each
-- answer leaves it driven.
use Rattle.std.proofs.Common.{◌≡◌, true, sym, ◌∙◌, ap}
use Rattle.osc_guest.specs.Hands.{holds_box}
use Rattle.osc_guest.specs.Fits.{Fits}
use Rattle.osc_guest.specs.Told.{Done}
use Rattle.osc_guest.specs.Asks.{ask}
use Rattle.osc_hart.specs.Seen.{SeenHart}
use Rattle.osc_bench.proofs.hart.step.Goals as goal

pub hand_back-requires : goal.hand_back-requires
hand_back-requires c =
    let giving = c.places_ask.ensures.giving c.args.hart.now.hart (sym c.in-GiveBox.ensures.asked) in
    c.requires.hand ∙ ap holds_box giving.1

pub told-requires-in-GiveBox-clause-fits : goal.told-requires-in-GiveBox-clause-fits
told-requires-in-GiveBox-clause-fits c = rw (c.hand_back.ensures.asks, ← c.in-GiveBox.ensures.asked) tt

pub returns-in-Some : goal.returns-in-Some
returns-in-Some c = rw c.take.ensures.after (c.stays_driven.ensures.takes _ _ _ _ _ _ c.requires (sym c.take.ensures.value ∙ c.in-Some.is) c.told.ensures)

pub returns-in-Load : goal.returns-in-Load
returns-in-Load c = c.stays_driven.ensures.tells _ _ _ _ _ _ c.requires tt c.told-in-Load.ensures

pub returns-in-TakeGate-default-None : goal.returns-in-TakeGate-default-None
returns-in-TakeGate-default-None c = c.stays_driven.ensures.tells _ _ _ _ _ _ c.requires tt c.told-in-TakeGate-default-None.ensures

pub returns-in-Store : goal.returns-in-Store
returns-in-Store c = rw c.store.ensures (c.stays_driven.ensures.tells _ _ _ _ _ _ c.requires tt c.told-in-Store.ensures)

pub returns-in-OpenGate : goal.returns-in-OpenGate
returns-in-OpenGate c = c.stays_driven.ensures.tells _ _ _ _ _ _ c.requires tt c.told-in-OpenGate.ensures

pub returns-in-GiveBox : goal.returns-in-GiveBox
returns-in-GiveBox c = c.stays_driven.ensures.gives _ _ _ _ _ _ _ c.requires (sym c.in-GiveBox.ensures.asked) c.hand_back.ensures.given (ap (λ (s : SeenHart). s.hart) c.hand_back.ensures.rest) c.told-in-GiveBox.ensures
