-- The slot that the block's start tells is its own, and what is left is the heap without the block.
use Rattle.std.proofs.Common.{◌≡◌, ◌/◌, false, arith, ap, ◌∙◌}
use Rattle.std.specs.Vec.{vec_capacity}
use Rattle.osc_slot.specs.Slots.{pages_alone}
use Rattle.osc_slot.specs.Heap.{Heap}
use Rattle.osc_heap.specs.Layout.{bits, with_bit, pages_of}
use Rattle.osc_heap.proofs.Parts.{to_release, lies, same_lie, released, alone_le}
use Rattle.osc_heap.proofs.CanonHeap.release.Goals as goal

pub slot_near-slot-requires : goal.slot_near-slot-requires
slot_near-slot-requires c =
    let x = lies (to_release c.self.inside.frames c.self.inside.areas (pages_of c.self.inside.pages) (vec_capacity c.self.inside.pages.rest) c.args.self.now c.args.block c.args.frames.now c.self.view_is c.self.invariant.parts c.requires.frames_agree c.requires.held) in
    record { most = (x.positive, c.self.invariant.parts.most); is_room = x.is_room; past = x.past }

pub set_slot-requires : goal.set_slot-requires
set_slot-requires c =
    let x = same_lie (to_release c.self.inside.frames c.self.inside.areas (pages_of c.self.inside.pages) (vec_capacity c.self.inside.pages.rest) c.args.self.now c.args.block c.args.frames.now c.self.view_is c.self.invariant.parts c.requires.frames_agree c.requires.held) c.slot_near-slot.result c.slot_near-slot.ensures in
    record { most = c.self.invariant.parts.most; areas = (c.self.invariant.parts.areas, c.self.invariant.parts.sized); told = c.self.invariant.tell; is_room = (x.is_room, x.area); within = x.within }

pub pages_alone-count-requires : goal.pages_alone-count-requires
pages_alone-count-requires c =
    let x = same_lie (to_release c.self.inside.frames c.self.inside.areas (pages_of c.self.inside.pages) (vec_capacity c.self.inside.pages.rest) c.args.self.now c.args.block c.args.frames.now c.self.view_is c.self.invariant.parts c.requires.frames_agree c.requires.held) c.slot_near-slot.result c.slot_near-slot.ensures in
    record { most = c.self.invariant.parts.most; areas = rw c.set_slot.ensures.areas (x.areas, x.sized); is_room = x.is_room; within = x.within }

pub give_range-requires : goal.give_range-requires
give_range-requires c =
    let x = same_lie (to_release c.self.inside.frames c.self.inside.areas (pages_of c.self.inside.pages) (vec_capacity c.self.inside.pages.rest) c.args.self.now c.args.block c.args.frames.now c.self.view_is c.self.invariant.parts c.requires.frames_agree c.requires.held) c.slot_near-slot.result c.slot_near-slot.ensures in
    let few = alone_le (bits c.set_slot.new.areas) c.args.block.room c.slot_near-slot.result in
    let count = c.pages_alone-count.ensures in
    let bound = x.bound in
    record {
      held = c.self.invariant.held;
      fits = (x.past, omega arith);
      one = (λ l. (let r = x.one (rw c.self.invariant.table at l) in omega arith));
      ascending = c.self.invariant.parts.is_heap.pages_ordered;
      taken = x.can_give_back (c.args.block.start / 4096) c.pages_alone-count.result;
    }

pub invariant_of-self : goal.invariant_of-self
invariant_of-self c =
    let count : c.pages_alone-count.result ≡ pages_alone (bits (with_bit c.self.inside.areas c.args.block.room c.slot_near-slot.result false)) c.args.block.room c.slot_near-slot.result = rw c.set_slot.ensures.areas at c.pages_alone-count.ensures in
    record {
      parts = rw c.set_slot.ensures.areas
          (released (to_release c.self.inside.frames c.self.inside.areas (pages_of c.self.inside.pages) (vec_capacity c.self.inside.pages.rest) c.args.self.now c.args.block c.args.frames.now c.self.view_is c.self.invariant.parts c.requires.frames_agree c.requires.held)
          c.slot_near-slot.result c.pages_alone-count.result c.slot_near-slot.ensures count (pages_of c.give_range.new.self) c.give_range.new.frames (vec_capacity c.give_range.new.self.rest) c.give_range.ensures.room c.give_range.ensures.pages c.give_range.ensures.free).parts;
      tell = c.set_slot.ensures.told;
      held = c.give_range.ensures.held;
      table = c.give_range.ensures.table ∙ c.self.invariant.table;
    }

pub returns : goal.returns
returns c =
    let count : c.pages_alone-count.result ≡ pages_alone (bits (with_bit c.self.inside.areas c.args.block.room c.slot_near-slot.result false)) c.args.block.room c.slot_near-slot.result = rw c.set_slot.ensures.areas at c.pages_alone-count.ensures in
    let d = released (to_release c.self.inside.frames c.self.inside.areas (pages_of c.self.inside.pages) (vec_capacity c.self.inside.pages.rest) c.args.self.now c.args.block c.args.frames.now c.self.view_is c.self.invariant.parts c.requires.frames_agree c.requires.held)
    c.slot_near-slot.result c.pages_alone-count.result c.slot_near-slot.ensures count (pages_of c.give_range.new.self) c.give_range.new.frames (vec_capacity c.give_range.new.self.rest) c.give_range.ensures.room c.give_range.ensures.pages c.give_range.ensures.free in
    record {
      heap = rw c.set_slot.ensures.areas d.heap_is;
      free = d.freed;
      frames_agree = rw c.set_slot.ensures.areas d.agree;
      same_frames = ap (λ (h : Heap). h.frames) c.self.view_is;
      add_up = d.add_up;
      valid = rw c.set_slot.ensures.areas d.valid;
    }
