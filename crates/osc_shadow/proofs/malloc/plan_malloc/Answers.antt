-- The malloc is refused by the first reason, or done; either way it is the plan, which fits.
use Rattle.std.proofs.Common.{◌≡◌, Some, None}
use Rattle.osc_word.specs.declared.calls.Answer.TheVariants as answer
use Rattle.osc_word.specs.declared.settings.HeapKind.TheVariants.{Oscar}
use Rattle.osc_class.specs.Rooms.{shadow_pages}
use Rattle.osc_slot.specs.Slots.{need}
use Rattle.osc_space.specs.Malloc.{malloc_plan}
use Rattle.osc_parts.proofs.MallocParts.{mallocs_fit}
use Rattle.osc_shadow.specs.Parts.{memory_refusal}
use Rattle.osc_shadow.specs.Outcomes.{draft_now, planned}
use Rattle.osc_shadow.specs.declared.malloc.Malloced.TheVariants as malloced
use Rattle.osc_shadow.proofs.Plans.{malloc_done, malloc_refused}
use Rattle.osc_shadow.proofs.Fitting.{fits_after}
use Rattle.osc_shadow.proofs.malloc.plan_malloc.Goals as goal

pub returns-in-Some-Shadow-clause-plan : goal.returns-in-Some-Shadow-clause-plan
returns-in-Some-Shadow-clause-plan c waiting =
    let some : memory_refusal c.args.space.now.tables c.args.space.now.marks c.args.frames.now (need c.args.space.now.heap.frames c.args.space.now.heap.held c.room_of-room.result) (shadow_pages c.room_of-room.result) ≡ Some answer.NoShadow =
    (let e = rw c.in-Some-Shadow.field-0-is at c.in-Some-Shadow.ensures in let f = c.need-block_frames.ensures.need in let g = c.shadow_pages-pages.ensures in cc) in
    malloc_refused c.args.n c.room_of-room.result (draft_now c.args.space.now waiting c.args.frames.now c.args.jobs.now) answer.NoShadow c.room_of-room.ensures.value some

pub returns-in-Some-Shadow-clause-fits : goal.returns-in-Some-Shadow-clause-fits
returns-in-Some-Shadow-clause-fits c batch waiting =
    let before = draft_now c.args.space.now waiting c.args.frames.now c.args.jobs.now in
    fits_after Oscar batch before (planned malloced.NoShadow before) (malloc_plan c.args.n before) (returns-in-Some-Shadow-clause-plan c waiting)
    (λ entries words regions. mallocs_fit batch entries words regions c.args.n before)

pub returns-in-Some-Frames-clause-plan : goal.returns-in-Some-Frames-clause-plan
returns-in-Some-Frames-clause-plan c waiting =
    let some : memory_refusal c.args.space.now.tables c.args.space.now.marks c.args.frames.now (need c.args.space.now.heap.frames c.args.space.now.heap.held c.room_of-room.result) (shadow_pages c.room_of-room.result) ≡ Some answer.NoFrames =
    (let e = rw c.in-Some-Frames.field-0-is at c.in-Some-Frames.ensures in let f = c.need-block_frames.ensures.need in let g = c.shadow_pages-pages.ensures in cc) in
    malloc_refused c.args.n c.room_of-room.result (draft_now c.args.space.now waiting c.args.frames.now c.args.jobs.now) answer.NoFrames c.room_of-room.ensures.value some

pub returns-in-Some-Frames-clause-fits : goal.returns-in-Some-Frames-clause-fits
returns-in-Some-Frames-clause-fits c batch waiting =
    let before = draft_now c.args.space.now waiting c.args.frames.now c.args.jobs.now in
    fits_after Oscar batch before (planned malloced.NoFrames before) (malloc_plan c.args.n before) (returns-in-Some-Frames-clause-plan c waiting)
    (λ entries words regions. mallocs_fit batch entries words regions c.args.n before)

pub returns-in-None-clause-plan : goal.returns-in-None-clause-plan
returns-in-None-clause-plan c waiting =
    let none : memory_refusal c.args.space.now.tables c.args.space.now.marks c.args.frames.now (need c.args.space.now.heap.frames c.args.space.now.heap.held c.room_of-room.result) (shadow_pages c.room_of-room.result) ≡ None =
    (let e = c.in-None.ensures in let f = c.need-block_frames.ensures.need in let g = c.shadow_pages-pages.ensures in cc) in
    malloc_done c.args.n c.room_of-room.result (draft_now c.args.space.now waiting c.args.frames.now c.args.jobs.now) (planned c.give_object.result (draft_now c.give_object.new.space waiting c.give_object.new.frames c.give_object.new.jobs))
    c.room_of-room.ensures.value none (c.give_object.ensures.plan waiting)

pub returns-in-None-clause-fits : goal.returns-in-None-clause-fits
returns-in-None-clause-fits c batch waiting =
    let before = draft_now c.args.space.now waiting c.args.frames.now c.args.jobs.now in
    fits_after Oscar batch before (planned c.give_object.result (draft_now c.give_object.new.space waiting c.give_object.new.frames c.give_object.new.jobs)) (malloc_plan c.args.n before) (returns-in-None-clause-plan c waiting)
    (λ entries words regions. mallocs_fit batch entries words regions c.args.n before)
