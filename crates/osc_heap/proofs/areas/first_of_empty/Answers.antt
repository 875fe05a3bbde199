-- The least page that is told to hold no block is the least that holds none.
use Rattle.std.proofs.Common.{ap}
use Rattle.osc_slot.specs.Areas.{slots_of}
use Rattle.osc_slot.specs.Slots.{first_slot}
use Rattle.osc_heap.proofs.Tells.{empty_told}
use Rattle.osc_heap.proofs.areas.first_of_empty.Goals as goal

pub returns-in-Some : goal.returns-in-Some
returns-in-Some c =
    rw c.slots_of.ensures.slots (ap (first_slot (slots_of c.args.class)) (empty_told c.args.frames c.args.class c.args.areas.now c.args.told.now c.index-told-class.result _ c.requires.told c.requires.is_class c.index-told-class.is c.in-Some.ensures))

pub returns-in-None : goal.returns-in-None
returns-in-None c =
    ap (first_slot (slots_of c.args.class)) (empty_told c.args.frames c.args.class c.args.areas.now c.args.told.now c.index-told-class.result _ c.requires.told c.requires.is_class c.index-told-class.is c.in-None.ensures)
