-- The child has the same blocks over its own frames.
use Rattle.std.proofs.Common.{ℕ, ◌*◌, refl, ◌≡◌, sym, ap, ◌∙◌, subst, arith}
use Rattle.std.specs.Vec.{vec_capacity}
use Rattle.osc_slot.specs.Heap.{Heap, AreNames, HaveFrames}
use Rattle.osc_heap.specs.Layout.{AreTold, heap_of, pages_of}
use Rattle.osc_heap.proofs.Tells.{sets_told}
use Rattle.osc_heap.proofs.Whole.{pages_le, copied}
use Rattle.osc_heap.proofs.CanonHeap.copy_to.Goals as goal

pub copy_from-requires : goal.copy_from-requires
copy_from-requires c =
    let same : c.child.inside.frames ≡ c.self.inside.frames = ap (λ (h : Heap). h.frames) (c.child.view_is ∙ c.requires.empty) ∙ sym (ap (λ (h : Heap). h.frames) c.self.view_is) in
    let own = c.child.invariant.parts.areas in
    let other = c.self.invariant.parts.areas in
    omega arith

pub copy_from-requires-2 : goal.copy_from-requires-2
copy_from-requires-2 c =
    let same : c.child.inside.frames ≡ c.self.inside.frames = ap (λ (h : Heap). h.frames) (c.child.view_is ∙ c.requires.empty) ∙ sym (ap (λ (h : Heap). h.frames) c.self.view_is) in
    let few = pages_le c.self.inside.frames (pages_of c.self.inside.pages) c.self.invariant.parts.is_heap.frames_apart in
    let room = c.child.invariant.parts.room_for_all in
    let own = c.child.invariant.table in
    let other = c.self.invariant.table in
    let names : AreNames (heap_of c.self.inside.frames c.self.inside.areas (pages_of c.self.inside.pages)).frames c.args.names.now (pages_of c.self.inside.pages) = (let N : Heap → Type 0 = λ h. AreNames h.frames c.args.names.now h.pages in subst N (sym c.self.view_is) c.requires.names) in
    record {
      empty = ap (λ (h : Heap). h.pages) (c.child.view_is ∙ c.requires.empty);
      held = (c.child.invariant.held, c.self.invariant.held);
      tables = omega arith;
      room = omega arith;
      names = (let P : ℕ → Type 0 = λ n. HaveFrames n (pages_of c.self.inside.pages) in subst P (sym names.0) c.self.invariant.parts.is_heap.frames_apart);
    }

pub copy_told-requires-clause-from : goal.copy_told-requires-clause-from
copy_told-requires-clause-from c = rw c.deref.ensures.value (sets_told c.self.inside.frames c.self.inside.areas c.self.inside.told.items c.self.invariant.tell)

pub copy_told-requires-clause-to : goal.copy_told-requires-clause-to
copy_told-requires-clause-to c =
    let same : c.child.inside.frames ≡ c.self.inside.frames = ap (λ (h : Heap). h.frames) (c.child.view_is ∙ c.requires.empty) ∙ sym (ap (λ (h : Heap). h.frames) c.self.view_is) in
    let P : ℕ → Type 0 = λ n. AreTold n c.child.inside.told.items in
    subst P same (sets_told c.child.inside.frames c.child.inside.areas c.child.inside.told.items c.child.invariant.tell)

pub invariant_of-child : goal.invariant_of-child
invariant_of-child c =
    let same : c.child.inside.frames ≡ c.self.inside.frames = ap (λ (h : Heap). h.frames) (c.child.view_is ∙ c.requires.empty) ∙ sym (ap (λ (h : Heap). h.frames) c.self.view_is) in
    let before = c.child.invariant.parts.room_for_all in
    let room = c.copy_from-2.ensures.room in
    record {
      parts = (copied c.self.inside.frames c.self.inside.areas (pages_of c.self.inside.pages) (vec_capacity c.self.inside.pages.rest) c.args.self.now c.args.names.now c.self.view_is c.self.invariant.parts c.requires.names
          c.child.inside.frames c.copy_from.new.self (pages_of c.copy_from-2.new.self) (vec_capacity c.copy_from-2.new.self.rest) same c.copy_from.ensures c.copy_from-2.ensures.pages (omega arith)).parts;
      tell = rw (same, c.copy_from.ensures, rw c.deref.ensures.value at c.copy_told.ensures) c.self.invariant.tell;
      held = c.copy_from-2.ensures.held;
      table = c.copy_from-2.ensures.table ∙ c.child.invariant.table ∙ ap (λ n. 13 * n) refl;
    }

pub returns : goal.returns
returns c =
    let same : c.child.inside.frames ≡ c.self.inside.frames = ap (λ (h : Heap). h.frames) (c.child.view_is ∙ c.requires.empty) ∙ sym (ap (λ (h : Heap). h.frames) c.self.view_is) in
    let before = c.child.invariant.parts.room_for_all in
    let room = c.copy_from-2.ensures.room in
    let d = copied c.self.inside.frames c.self.inside.areas (pages_of c.self.inside.pages) (vec_capacity c.self.inside.pages.rest) c.args.self.now c.args.names.now c.self.view_is c.self.invariant.parts c.requires.names
    c.child.inside.frames c.copy_from.new.self (pages_of c.copy_from-2.new.self) (vec_capacity c.copy_from-2.new.self.rest) same c.copy_from.ensures c.copy_from-2.ensures.pages (omega arith) in
    record { child = d.heap_is; valid = (d.valid, d.parts.is_heap) }
