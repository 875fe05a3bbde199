-- The least page that is told to have a slot beside a block has the least such slot.
use Rattle.std.proofs.Common.{◌∙◌}
use Rattle.osc_heap.proofs.Tells.{beside_told, partly_within}
use Rattle.osc_heap.proofs.areas.beside.Goals as goal

pub free_beside-requires : goal.free_beside-requires
free_beside-requires c =
    let within = partly_within c.args.frames c.args.class c.in-Some.page c.args.areas.now c.args.told.now c.index-told-class.result c.requires.told c.requires.is_class c.index-told-class.is c.in-Some.ensures in
    rw (c.area_for.ensures.size, c.slots_of.ensures.slots) within

pub returns-in-Some : goal.returns-in-Some
returns-in-Some c =
    c.free_beside.ensures ∙ rw (c.area_for.ensures.row, c.slots_of.ensures.slots)
    (beside_told c.args.frames c.args.class c.args.areas.now c.args.told.now c.index-told-class.result _ c.requires.told c.requires.is_class c.index-told-class.is c.in-Some.ensures)

pub returns-in-None : goal.returns-in-None
returns-in-None c =
    beside_told c.args.frames c.args.class c.args.areas.now c.args.told.now c.index-told-class.result _ c.requires.told c.requires.is_class c.index-told-class.is c.in-None.ensures
