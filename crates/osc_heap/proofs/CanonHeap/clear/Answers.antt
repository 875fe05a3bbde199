-- What is left is an empty heap.
use Rattle.std.proofs.Common.{map, ap, ◌∙◌}
use Rattle.std.specs.Vec.{vec_capacity}
use Rattle.osc_slot.specs.Heap.{Heap, give_back}
use Rattle.osc_heap.specs.Layout.{free_row, pages_of}
use Rattle.osc_heap.proofs.Tells.{none_told, sets_told}
use Rattle.osc_heap.proofs.Whole.{can_clear, cleared, free_cleared}
use Rattle.osc_heap.proofs.CanonHeap.clear.Goals as goal

pub clear-requires : goal.clear-requires
clear-requires c = record {
  held = c.self.invariant.held;
  taken = can_clear c.self.inside.frames c.self.inside.areas (pages_of c.self.inside.pages) (vec_capacity c.self.inside.pages.rest) c.args.self.now c.args.frames.now c.self.view_is c.self.invariant.parts c.requires;
}

pub clear_told-requires : goal.clear_told-requires
clear_told-requires c = sets_told c.self.inside.frames c.self.inside.areas c.self.inside.told.items c.self.invariant.tell

pub invariant_of-self : goal.invariant_of-self
invariant_of-self c = record {
  parts = (cleared c.self.inside.frames c.self.inside.areas (pages_of c.self.inside.pages) (vec_capacity c.self.inside.pages.rest) c.args.self.now c.args.frames.now c.self.view_is c.self.invariant.parts c.requires
      c.clear-2.new.self (pages_of c.clear.new.self) c.clear.new.frames (vec_capacity c.clear.new.self.rest) c.clear-2.ensures c.clear.ensures.pages c.clear.ensures.free c.clear.ensures.room).parts;
  tell = rw c.clear-2.ensures (none_told c.self.inside.frames (map free_row c.self.inside.areas) c.clear_told.new.told.items (free_cleared c.self.inside.areas) c.clear_told.ensures);
  held = c.clear.ensures.held;
  table = c.clear.ensures.table ∙ c.self.invariant.table;
}

pub returns : goal.returns
returns c =
    let d = cleared c.self.inside.frames c.self.inside.areas (pages_of c.self.inside.pages) (vec_capacity c.self.inside.pages.rest) c.args.self.now c.args.frames.now c.self.view_is c.self.invariant.parts c.requires
    c.clear-2.new.self (pages_of c.clear.new.self) c.clear.new.frames (vec_capacity c.clear.new.self.rest) c.clear-2.ensures c.clear.ensures.pages c.clear.ensures.free c.clear.ensures.room in
    record { heap = d.heap_is; free = c.clear.ensures.free ∙ ap (λ (h : Heap). give_back h.pages c.args.frames.now) c.self.view_is; frames_agree = d.agree; same_frames = ap (λ (h : Heap). h.frames) c.self.view_is; add_up = d.add_up; valid = d.parts.is_heap }
