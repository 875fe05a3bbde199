-- A held block starts there exactly where a slot does and is held.
use Rattle.std.proofs.Common.{◌≡◌, ◌-◌, true, false, refl, sym, ◌∙◌}
use Rattle.std.specs.Vec.{vec_capacity}
use Rattle.osc_heap.specs.Layout.{bits, pages_of}
use Rattle.osc_heap.proofs.UserBlocks.{below_all, held_here, user_here, no_user_here, no_slot_here}
use Rattle.osc_heap.proofs.CanonHeap.block_at.Goals as goal

pub returns-then-user-lt-HEADER-clause-block : goal.returns-then-user-lt-HEADER-clause-block
returns-then-user-lt-HEADER-clause-block c = sym (below_all c.args.self.now.held c.args.user c.if-user-lt-HEADER.true)

pub returns-in_err-room-clause-block : goal.returns-in_err-room-clause-block
returns-in_err-room-clause-block c =
    c.from_residual.ensures ∙ sym (no_slot_here c.self.inside.frames c.self.inside.areas (pages_of c.self.inside.pages) (vec_capacity c.self.inside.pages.rest) c.args.user (c.args.user - 16) c.args.self.now c.self.view_is c.self.invariant.parts c.if-user-lt-HEADER.false refl c.in_err-room.ensures.none)

pub returns-then-is_held-clause-block : goal.returns-then-is_held-clause-block
returns-then-is_held-clause-block c =
    let held : bits c.self.inside.areas c.in_ok-room.room c.in_ok-room.slot ≡ true = (sym c.is_held.ensures ∙ c.if-is_held.true) in
    sym (user_here c.self.inside.frames c.self.inside.areas (pages_of c.self.inside.pages) (vec_capacity c.self.inside.pages.rest) c.args.user (c.args.user - 16) c.in_ok-room.room c.in_ok-room.slot c.args.self.now c.self.view_is c.self.invariant.parts c.if-user-lt-HEADER.false refl
    c.in_ok-room.ensures.some.0 c.in_ok-room.ensures.some.2 held)

pub returns-else-is_held-clause-block : goal.returns-else-is_held-clause-block
returns-else-is_held-clause-block c =
    let free : bits c.self.inside.areas c.in_ok-room.room c.in_ok-room.slot ≡ false = (sym c.is_held.ensures ∙ c.if-is_held.false) in
    sym (no_user_here c.self.inside.frames c.self.inside.areas (pages_of c.self.inside.pages) (vec_capacity c.self.inside.pages.rest) c.args.user (c.args.user - 16) c.in_ok-room.room c.in_ok-room.slot c.args.self.now c.self.view_is c.self.invariant.parts c.if-user-lt-HEADER.false refl
    c.in_ok-room.ensures.some.0 c.in_ok-room.ensures.some.1 c.in_ok-room.ensures.some.2 free)

pub returns-then-is_held-clause-held : goal.returns-then-is_held-clause-held
returns-then-is_held-clause-held c =
    let held : bits c.self.inside.areas c.in_ok-room.room c.in_ok-room.slot ≡ true = (sym c.is_held.ensures ∙ c.if-is_held.true) in
    (held_here c.self.inside.frames c.self.inside.areas (pages_of c.self.inside.pages) (c.args.user - 16) c.in_ok-room.room c.in_ok-room.slot c.args.self.now c.self.view_is c.in_ok-room.ensures.some.0 c.in_ok-room.ensures.some.2 held, c.in_ok-room.ensures.some.0)
