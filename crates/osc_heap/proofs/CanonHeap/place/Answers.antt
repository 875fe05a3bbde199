-- What was found is the next slot, and what is left is the heap with the block.
use Rattle.std.proofs.Common.{arith, ◌≡◌, Some, sym, ap, ◌∙◌}
use Rattle.std.specs.Vec.{vec_capacity}
use Rattle.osc_slot.specs.Slots.{slot, need_over}
use Rattle.osc_slot.specs.Heap.{Heap}
use Rattle.osc_heap.specs.Layout.{bits, pages_of}
use Rattle.osc_heap.proofs.Parts.{to_place, some_slot, chosen, placed}
use Rattle.osc_heap.proofs.CanonHeap.place.Goals as goal

pub unwrap-slot-requires : goal.unwrap-slot-requires
unwrap-slot-requires c =
    rw c.least_slot.ensures (some_slot (to_place c.self.inside.frames c.self.inside.areas (pages_of c.self.inside.pages) (vec_capacity c.self.inside.pages.rest) c.args.self.now c.args.room c.args.frames.now c.self.view_is c.self.invariant.parts c.requires.frames_agree c.requires.is_room c.requires.enough))

pub start_of-start-requires-clause-within : goal.start_of-start-requires-clause-within
start_of-start-requires-clause-within c =
    let found : slot c.self.inside.frames (bits c.self.inside.areas) c.args.room ≡ Some c.unwrap-slot.result = sym c.least_slot.ensures ∙ c.unwrap-slot.ensures in
    (chosen (to_place c.self.inside.frames c.self.inside.areas (pages_of c.self.inside.pages) (vec_capacity c.self.inside.pages.rest) c.args.self.now c.args.room c.args.frames.now c.self.view_is c.self.invariant.parts c.requires.frames_agree c.requires.is_room c.requires.enough) c.unwrap-slot.result found).within

pub back-requires-clause-held : goal.back-requires-clause-held
back-requires-clause-held c = c.self.invariant.held

pub back-requires-clause-fits : goal.back-requires-clause-fits
back-requires-clause-fits c =
    let found : slot c.self.inside.frames (bits c.self.inside.areas) c.args.room ≡ Some c.unwrap-slot.result = sym c.least_slot.ensures ∙ c.unwrap-slot.ensures in
    let count : c.need_over-count.result ≡ need_over c.self.inside.frames (bits c.self.inside.areas) c.args.room = c.need_over-count.ensures in
    let x = chosen (to_place c.self.inside.frames c.self.inside.areas (pages_of c.self.inside.pages) (vec_capacity c.self.inside.pages.rest) c.args.self.now c.args.room c.args.frames.now c.self.view_is c.self.invariant.parts c.requires.frames_agree c.requires.is_room c.requires.enough) c.unwrap-slot.result found in
    let low = x.low in
    let small = x.small in
    let bound = c.start_of-start.ensures.bound in
    rw count (rw c.start_of-start.ensures.start low, omega arith)

pub back-requires-clause-one : goal.back-requires-clause-one
back-requires-clause-one c = λ l.
    let found : slot c.self.inside.frames (bits c.self.inside.areas) c.args.room ≡ Some c.unwrap-slot.result = sym c.least_slot.ensures ∙ c.unwrap-slot.ensures in
    let count : c.need_over-count.result ≡ need_over c.self.inside.frames (bits c.self.inside.areas) c.args.room = c.need_over-count.ensures in
    let x = chosen (to_place c.self.inside.frames c.self.inside.areas (pages_of c.self.inside.pages) (vec_capacity c.self.inside.pages.rest) c.args.self.now c.args.room c.args.frames.now c.self.view_is c.self.invariant.parts c.requires.frames_agree c.requires.is_room c.requires.enough) c.unwrap-slot.result found in
    rw count (x.one (let table = c.self.invariant.table in rw (c.start_of-start.ensures.start, table) at l))

pub back-requires-clause-ascending : goal.back-requires-clause-ascending
back-requires-clause-ascending c = c.self.invariant.parts.is_heap.pages_ordered

pub back-requires-clause-fresh : goal.back-requires-clause-fresh
back-requires-clause-fresh c =
    let found : slot c.self.inside.frames (bits c.self.inside.areas) c.args.room ≡ Some c.unwrap-slot.result = sym c.least_slot.ensures ∙ c.unwrap-slot.ensures in
    let count : c.need_over-count.result ≡ need_over c.self.inside.frames (bits c.self.inside.areas) c.args.room = c.need_over-count.ensures in
    let x = chosen (to_place c.self.inside.frames c.self.inside.areas (pages_of c.self.inside.pages) (vec_capacity c.self.inside.pages.rest) c.args.self.now c.args.room c.args.frames.now c.self.view_is c.self.invariant.parts c.requires.frames_agree c.requires.is_room c.requires.enough) c.unwrap-slot.result found in
    rw (c.start_of-start.ensures.start, count) x.fresh

pub back-requires-clause-room : goal.back-requires-clause-room
back-requires-clause-room c =
    let found : slot c.self.inside.frames (bits c.self.inside.areas) c.args.room ≡ Some c.unwrap-slot.result = sym c.least_slot.ensures ∙ c.unwrap-slot.ensures in
    let x = chosen (to_place c.self.inside.frames c.self.inside.areas (pages_of c.self.inside.pages) (vec_capacity c.self.inside.pages.rest) c.args.self.now c.args.room c.args.frames.now c.self.view_is c.self.invariant.parts c.requires.frames_agree c.requires.is_room c.requires.enough) c.unwrap-slot.result found in
    let count : c.need_over-count.result ≡ need_over c.self.inside.frames (bits c.self.inside.areas) c.args.room = c.need_over-count.ensures in
    rw count x.fits

pub set_slot-requires-clause-within : goal.set_slot-requires-clause-within
set_slot-requires-clause-within c =
    let found : slot c.self.inside.frames (bits c.self.inside.areas) c.args.room ≡ Some c.unwrap-slot.result = sym c.least_slot.ensures ∙ c.unwrap-slot.ensures in
    (chosen (to_place c.self.inside.frames c.self.inside.areas (pages_of c.self.inside.pages) (vec_capacity c.self.inside.pages.rest) c.args.self.now c.args.room c.args.frames.now c.self.view_is c.self.invariant.parts c.requires.frames_agree c.requires.is_room c.requires.enough) c.unwrap-slot.result found).within

pub invariant_of-self : goal.invariant_of-self
invariant_of-self c =
    let found : slot c.self.inside.frames (bits c.self.inside.areas) c.args.room ≡ Some c.unwrap-slot.result = sym c.least_slot.ensures ∙ c.unwrap-slot.ensures in
    let count : c.need_over-count.result ≡ need_over c.self.inside.frames (bits c.self.inside.areas) c.args.room = c.need_over-count.ensures in
    record {
      parts = rw c.set_slot.ensures.areas
          (placed (to_place c.self.inside.frames c.self.inside.areas (pages_of c.self.inside.pages) (vec_capacity c.self.inside.pages.rest) c.args.self.now c.args.room c.args.frames.now c.self.view_is c.self.invariant.parts c.requires.frames_agree c.requires.is_room c.requires.enough)
          c.unwrap-slot.result found (pages_of c.back.new.self) c.back.new.frames (vec_capacity c.back.new.self.rest) c.back.ensures.room
          (rw (c.start_of-start.ensures.start, count) at c.back.ensures.pages) (rw (c.start_of-start.ensures.start, count) at c.back.ensures.free)).parts;
      tell = c.set_slot.ensures.told;
      held = c.back.ensures.held;
      table = c.back.ensures.table ∙ c.self.invariant.table;
    }

pub returns : goal.returns
returns c =
    let found : slot c.self.inside.frames (bits c.self.inside.areas) c.args.room ≡ Some c.unwrap-slot.result = sym c.least_slot.ensures ∙ c.unwrap-slot.ensures in
    let count : c.need_over-count.result ≡ need_over c.self.inside.frames (bits c.self.inside.areas) c.args.room = c.need_over-count.ensures in
    let d = placed (to_place c.self.inside.frames c.self.inside.areas (pages_of c.self.inside.pages) (vec_capacity c.self.inside.pages.rest) c.args.self.now c.args.room c.args.frames.now c.self.view_is c.self.invariant.parts c.requires.frames_agree c.requires.is_room c.requires.enough)
    c.unwrap-slot.result found (pages_of c.back.new.self) c.back.new.frames (vec_capacity c.back.new.self.rest) c.back.ensures.room
    (rw (c.start_of-start.ensures.start, count) at c.back.ensures.pages) (rw (c.start_of-start.ensures.start, count) at c.back.ensures.free) in
    record {
      start = rw c.start_of-start.ensures.start d.start;
      block = rw c.start_of-start.ensures.start d.block;
      held = rw (c.set_slot.ensures.areas, c.start_of-start.ensures.start) d.there;
      heap = rw c.set_slot.ensures.areas d.heap_is;
      free = d.freed;
      frames_agree = rw c.set_slot.ensures.areas d.agree;
      same_frames = ap (λ (h : Heap). h.frames) c.self.view_is;
      add_up = d.add_up;
      valid = rw c.set_slot.ensures.areas d.valid;
    }
