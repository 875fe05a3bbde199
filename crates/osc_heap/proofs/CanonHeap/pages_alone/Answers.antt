-- The slot that the block's start tells is its own.
use Rattle.std.proofs.Common.{◌≡◌, ◌/◌, false, ap, sym, ◌∙◌}
use Rattle.std.specs.List.{range_with_len}
use Rattle.std.specs.Vec.{vec_capacity}
use Rattle.osc_slot.specs.Slots.{pages_alone}
use Rattle.osc_heap.specs.Layout.{bits, with_bit, pages_of}
use Rattle.osc_heap.proofs.Alone.{starts, own}
use Rattle.osc_heap.proofs.CanonHeap.pages_alone.Goals as goal

pub slot_near-slot-requires : goal.slot_near-slot-requires
slot_near-slot-requires c =
    let x = starts c.self.inside.frames c.self.inside.areas (pages_of c.self.inside.pages) (vec_capacity c.self.inside.pages.rest) c.args.self.now c.args.block c.self.view_is c.self.invariant.parts c.requires in
    record { most = (x.positive, c.self.invariant.parts.most); is_room = x.is_room; past = x.past }

pub own_pages-requires : goal.own_pages-requires
own_pages-requires c =
    let s = starts c.self.inside.frames c.self.inside.areas (pages_of c.self.inside.pages) (vec_capacity c.self.inside.pages.rest) c.args.self.now c.args.block c.self.view_is c.self.invariant.parts c.requires in
    let x = own c.self.inside.frames c.self.inside.areas (pages_of c.self.inside.pages) (vec_capacity c.self.inside.pages.rest) c.args.self.now c.args.block c.self.view_is c.self.invariant.parts c.requires c.slot_near-slot.result c.slot_near-slot.ensures in
    record { most = c.self.invariant.parts.most; areas = (c.self.invariant.parts.areas, c.self.invariant.parts.sized); is_room = s.is_room; within = x.within }

pub returns : goal.returns
returns c =
    let s = starts c.self.inside.frames c.self.inside.areas (pages_of c.self.inside.pages) (vec_capacity c.self.inside.pages.rest) c.args.self.now c.args.block c.self.view_is c.self.invariant.parts c.requires in
    let x = own c.self.inside.frames c.self.inside.areas (pages_of c.self.inside.pages) (vec_capacity c.self.inside.pages.rest) c.args.self.now c.args.block c.self.view_is c.self.invariant.parts c.requires c.slot_near-slot.result c.slot_near-slot.ensures in
    let count : c.own_pages.result ≡ pages_alone (bits (with_bit c.self.inside.areas c.args.block.room c.slot_near-slot.result false)) c.args.block.room c.slot_near-slot.result = c.own_pages.ensures in
    record {
      pages = x.pages ∙ ap (λ n. range_with_len (c.args.block.start / 4096) n) (sym count);
      is_room = s.is_room;
      valid = rw c.self.view_is at c.self.invariant.parts.is_heap;
    }
