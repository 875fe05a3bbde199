-- A hart that asks for the giving holds its box, and still asks for it once the box was handed back. Each
-- answer leaves it driven.
use Rattle.std.proofs.Common.{sym, ◌∙◌, ap}
use Rattle.osc_guest.specs.Hands.{holds_box}
use Rattle.osc_hart.specs.Seen.{SeenHart}
use Rattle.osc_hart.proofs.tests.step.Goals as goal

pub hand_back-requires : goal.hand_back-requires
hand_back-requires g c =
    let giving = c.places_ask.ensures.giving c.args.hart.now.hart (sym c.in-GiveBox.ensures.asked) in
    c.requires.hand ∙ ap holds_box giving.1

pub told-requires-in-GiveBox-clause-fits : goal.told-requires-in-GiveBox-clause-fits
told-requires-in-GiveBox-clause-fits g c = rw (c.hand_back.ensures.asks, ← c.in-GiveBox.ensures.asked) tt

pub returns-in-Some : goal.returns-in-Some
returns-in-Some g c = rw c.take.ensures.after (c.stays_driven.ensures.takes _ _ _ _ _ _ c.requires (sym c.take.ensures.value ∙ c.in-Some.is) c.told.ensures)

pub returns-in-Load : goal.returns-in-Load
returns-in-Load g c = c.stays_driven.ensures.tells _ _ _ _ _ _ c.requires tt c.told-in-Load.ensures

pub returns-in-TakeGate : goal.returns-in-TakeGate
returns-in-TakeGate g c = c.stays_driven.ensures.tells _ _ _ _ _ _ c.requires c.take_gate.ensures.machine c.told-in-TakeGate.ensures

pub returns-in-Store : goal.returns-in-Store
returns-in-Store g c = c.stays_driven.ensures.tells _ _ _ _ _ _ c.requires tt c.told-in-Store.ensures

pub returns-in-OpenGate : goal.returns-in-OpenGate
returns-in-OpenGate g c = c.stays_driven.ensures.tells _ _ _ _ _ _ c.requires tt c.told-in-OpenGate.ensures

pub returns-in-GiveBox : goal.returns-in-GiveBox
returns-in-GiveBox g c = c.stays_driven.ensures.gives _ _ _ _ _ _ _ c.requires (sym c.in-GiveBox.ensures.asked) c.hand_back.ensures.given (ap (λ (s : SeenHart). s.hart) c.hand_back.ensures.rest) c.told-in-GiveBox.ensures

pub returns-in-Kernel : goal.returns-in-Kernel
returns-in-Kernel g c = c.stays_driven.ensures.tells _ _ _ _ _ _ c.requires tt c.told-in-Kernel.ensures
