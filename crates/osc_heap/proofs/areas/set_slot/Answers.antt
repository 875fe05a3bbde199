-- What is told of the slot's page is told anew.
use Rattle.std.proofs.Common.{◌≡◌, ◌<◌, [], length, get_or, set, arith, refl, rules}
use Rattle.std.proofs.lemmas.List.{length-set, get_or_default}
use Rattle.osc_slot.specs.Areas.{area_of}
use Rattle.osc_heap.proofs.Changes.{room_sized}
use Rattle.osc_heap.proofs.Tells.{written}
use Rattle.osc_heap.proofs.areas.set_slot.Goals as goal

pub set-requires-clause-slot : goal.set-requires-clause-slot
set-requires-clause-slot c =
    let size = room_sized c.args.frames c.args.areas.now c.args.room c.requires.is_room.0 c.requires.areas.1 c.requires.is_room.1 in
    rw (c.area_of-area.ensures, size) c.requires.within

pub tell-requires-clause-page : goal.tell-requires-clause-page
tell-requires-clause-page c =
    let old = c.args.areas.now in
    let at = area_of c.args.room in
    let row = get_or old at [] in
    let new = set row c.args.slot c.args.held in
    let now = set old at new in
    let long = length-set old at new in
    let w = written c.args.frames old c.args.told.now.items c.args.room c.args.slot c.args.held row new (get_or now at []) c.requires.told c.requires.areas.1 c.requires.is_room.0 c.requires.is_room.1 c.requires.within
    (get_or_default old at [] row c.requires.is_room.1) refl (get_or_default now at [] (get_or now at []) (let l = c.requires.is_room.1 in omega arith)) in
    rw (c.page_slots.ensures.slots, c.wide.ensures, c.set.ensures, c.area_of-area.ensures) w.page

pub returns-then-area-len-clause-told : goal.returns-then-area-len-clause-told
returns-then-area-len-clause-told c =
    let old = c.args.areas.now in
    let at = area_of c.args.room in
    let row = get_or old at [] in
    let new = set row c.args.slot c.args.held in
    let now = set old at new in
    let long = length-set old at new in
    let w = written c.args.frames old c.args.told.now.items c.args.room c.args.slot c.args.held row new (get_or now at []) c.requires.told c.requires.areas.1 c.requires.is_room.0 c.requires.is_room.1 c.requires.within
    (get_or_default old at [] row c.requires.is_room.1) refl (get_or_default now at [] (get_or now at []) (let l = c.requires.is_room.1 in omega arith)) in
    let len : c.len.result ≡ length c.args.told.now.items = search rules in
    let within : area_of c.args.room < length c.args.told.now.items = rw (c.area_of-area.ensures, len) at c.if-area-len.true in
    rw (c.set.ensures, c.area_of-area.ensures) (w.tells c.index_mut.result.now c.tell.new.sets within (rw c.area_of-area.ensures at c.index_mut.ensures.value) (rw (c.page_slots.ensures.slots, c.wide.ensures, c.set.ensures, c.area_of-area.ensures) at c.tell.ensures))
