-- What was found is the next slot.
use Rattle.std.proofs.Common.{arith, ◌≡◌, ◌/◌, Some, refl, sym, ◌∙◌}
use Rattle.std.specs.Vec.{vec_capacity}
use Rattle.osc_slot.specs.Areas.{start_of}
use Rattle.osc_slot.specs.Slots.{slot, need_over}
use Rattle.osc_slot.specs.Heap.{back}
use Rattle.osc_heap.specs.Layout.{bits, pages_of}
use Rattle.osc_heap.proofs.Parts.{to_place, some_slot, chosen, placed}
use Rattle.osc_heap.proofs.CanonHeap.next_block.Goals as goal

pub unwrap-slot-requires : goal.unwrap-slot-requires
unwrap-slot-requires c =
    rw c.least_slot.ensures (some_slot (to_place c.self.inside.frames c.self.inside.areas (pages_of c.self.inside.pages) (vec_capacity c.self.inside.pages.rest) c.args.self.now c.args.room c.args.frames.now c.self.view_is c.self.invariant.parts c.requires.frames_agree c.requires.is_room c.requires.enough))

pub start_of-start-requires-clause-within : goal.start_of-start-requires-clause-within
start_of-start-requires-clause-within c =
    let found : slot c.self.inside.frames (bits c.self.inside.areas) c.args.room ≡ Some c.unwrap-slot.result = sym c.least_slot.ensures ∙ c.unwrap-slot.ensures in
    (chosen (to_place c.self.inside.frames c.self.inside.areas (pages_of c.self.inside.pages) (vec_capacity c.self.inside.pages.rest) c.args.self.now c.args.room c.args.frames.now c.self.view_is c.self.invariant.parts c.requires.frames_agree c.requires.is_room c.requires.enough) c.unwrap-slot.result found).within

pub returns-clause-block : goal.returns-clause-block
returns-clause-block c =
    let found : slot c.self.inside.frames (bits c.self.inside.areas) c.args.room ≡ Some c.unwrap-slot.result = sym c.least_slot.ensures ∙ c.unwrap-slot.ensures in
    rw c.start_of-start.ensures.start
    (placed (to_place c.self.inside.frames c.self.inside.areas (pages_of c.self.inside.pages) (vec_capacity c.self.inside.pages.rest) c.args.self.now c.args.room c.args.frames.now c.self.view_is c.self.invariant.parts c.requires.frames_agree c.requires.is_room c.requires.enough)
    c.unwrap-slot.result found
    (back (need_over c.self.inside.frames (bits c.self.inside.areas) c.args.room) (start_of c.self.inside.frames c.args.room c.unwrap-slot.result / 4096) (record { pages = pages_of c.self.inside.pages; free = c.args.frames.now })).pages
    (back (need_over c.self.inside.frames (bits c.self.inside.areas) c.args.room) (start_of c.self.inside.frames c.args.room c.unwrap-slot.result / 4096) (record { pages = pages_of c.self.inside.pages; free = c.args.frames.now })).free
    (vec_capacity c.self.inside.pages.rest) (omega arith) refl refl).block
