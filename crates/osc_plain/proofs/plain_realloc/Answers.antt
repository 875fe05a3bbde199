-- The outcome is the plan's, by the reasons and by whether the block stays.
use Rattle.std.proofs.Common.{arith, ◌≡◌, ◌+◌, ◌∙◌, true, false, ap, sym, subst}
use Rattle.osc_word.specs.declared.settings.HeapKind.TheVariants.{Plain}
use Rattle.osc_class.specs.declared.Room.{Room}
use Rattle.osc_class.specs.Rooms.{room_of}
use Rattle.osc_slot.specs.declared.Block.{Block}
use Rattle.osc_slot.specs.Slots.{is_room}
use Rattle.osc_space.specs.PlainHeap.{plain_realloc_plan, copy_block, let_go_plain, place_plain}
use Rattle.osc_slot.specs.Heap.{block_of_user, next_block}
use Rattle.osc_space.specs.BlockWords.{trim_jobs}
use Rattle.osc_space.specs.Space.{push}
use Rattle.osc_parts.proofs.PlainRealloc.{plain_reallocs_fit}
use Rattle.osc_shadow.proofs.Fitting.{fits_after}
use Rattle.osc_plain.specs.Plan.{draft, realloced_now}
use Rattle.osc_plain.specs.declared.PlainRealloced.TheVariants as realloced
use Rattle.osc_plain.proofs.Lying.{held_bytes, few_of_block}
use Rattle.osc_plain.proofs.Plans.{has_address, moved_nothing, stayed, refused, moved}
use Rattle.osc_plain.proofs.plain_realloc.Goals as goal

pub returns-in_default-clause-plan : goal.returns-in_default-clause-plan
unfolding plain_realloc_plan
returns-in_default-clause-plan c shadows =
    moved_nothing c.args.harts c.args.n c.args.size _ (draft shadows c.args.tables.now c.args.heap.now c.args.frames.now c.args.jobs.now.pushed) (sym c.block_at.ensures.block ∙ c.in_default.is)

pub kept_bytes-bytes-requires-clause-is_room : goal.kept_bytes-bytes-requires-clause-is_room
kept_bytes-bytes-requires-clause-is_room c = c.in-Some.ensures.held.1

pub kept_bytes-bytes-requires-clause-bytes : goal.kept_bytes-bytes-requires-clause-bytes
kept_bytes-bytes-requires-clause-bytes c =
    let frames = c.requires.agree.agrees.frames in
    let few = c.requires.agree.few in
    held_bytes c.args.heap.now c.in-Some.old c.block_at.ensures.valid c.in-Some.ensures.held.0 c.in-Some.ensures.held.1 (omega (arith, frames, few))

pub trim_block-requires : goal.trim_block-requires
trim_block-requires c =
    let frames = c.requires.agree.agrees.frames in
    let few = c.requires.agree.few in
    let bytes = held_bytes c.args.heap.now c.in-Some.old c.block_at.ensures.valid c.in-Some.ensures.held.0 c.in-Some.ensures.held.1 (omega (arith, frames, few)) in
    let within = c.kept_bytes-bytes.ensures.within in
    let many = few_of_block c.args.heap.now c.in-Some.old c.block_at.ensures.valid c.in-Some.ensures.held.0 in
    let spare = c.requires.spare in
    record { is_room = c.in-Some.ensures.held.1; block_bytes = omega (arith, bytes); bytes = omega (arith, bytes, within); spare = omega (arith, frames, many, spare) }

pub returns-then-is_room-clause-plan : goal.returns-then-is_room-clause-plan
unfolding plain_realloc_plan
returns-then-is_room-clause-plan c shadows =
    let room : is_room (room_of c.args.n) c.in-Some.old.room ≡ true = subst (λ (r : Room). is_room r c.in-Some.old.room ≡ true) c.room_of-room.ensures.value (sym c.is_room.ensures ∙ c.if-is_room.true) in
    let jobs : c.trim_block.new.jobs.pushed ≡ _ = c.trim_block.ensures.pushed in
    stayed c.args.harts c.args.n c.args.size c.args.pointer _ c.in-Some.old (draft shadows c.args.tables.now c.args.heap.now c.args.frames.now c.args.jobs.now.pushed) _ (sym c.in-Some.ensures.block) room
    (has_address c.args.heap.now.held c.args.pointer c.in-Some.old (sym c.in-Some.ensures.block))
    (ap (λ x. draft shadows c.args.tables.now c.args.heap.now c.args.frames.now x) jobs
    ∙ ap (λ k. push (trim_jobs c.args.heap.now.pages c.in-Some.old k c.args.n) (draft shadows c.args.tables.now c.args.heap.now c.args.frames.now c.args.jobs.now.pushed)) c.kept_bytes-bytes.ensures.kept)

pub returns-then-lacks_frames-clause-plan : goal.returns-then-lacks_frames-clause-plan
unfolding plain_realloc_plan
returns-then-lacks_frames-clause-plan c shadows =
    let room : is_room (room_of c.args.n) c.in-Some.old.room ≡ false = subst (λ (r : Room). is_room r c.in-Some.old.room ≡ false) c.room_of-room.ensures.value (sym c.is_room.ensures ∙ c.if-is_room.false) in
    refused c.args.harts c.args.n c.args.size shadows c.args.tables.now c.args.heap.now c.args.frames.now c.args.jobs.now.pushed _ c.in-Some.old c.room_of-room.result (sym c.in-Some.ensures.block) c.room_of-room.ensures.value room
    (sym c.lacks_frames.ensures ∙ c.if-lacks_frames.true)

pub move_block-block-requires-clause-held : goal.move_block-block-requires-clause-held
move_block-block-requires-clause-held c = c.in-Some.ensures.held.0

pub returns-clause-plan : goal.returns-clause-plan
unfolding plain_realloc_plan
returns-clause-plan c shadows =
    let room : is_room (room_of c.args.n) c.in-Some.old.room ≡ false = subst (λ (r : Room). is_room r c.in-Some.old.room ≡ false) c.room_of-room.ensures.value (sym c.is_room.ensures ∙ c.if-is_room.false) in
    moved c.args.harts c.args.n c.args.size shadows (c.move_block-block.result.start + 16) c.args.tables.now c.args.heap.now c.args.frames.now c.args.jobs.now.pushed _ c.in-Some.old c.room_of-room.result _ (sym c.in-Some.ensures.block) c.room_of-room.ensures.value room
    (sym c.lacks_frames.ensures ∙ c.if-lacks_frames.false) (ap (λ (b : Block). b.start + 16) c.move_block-block.ensures.block)
    (subst (λ k. draft shadows c.move_block-block.new.tables c.move_block-block.new.heap c.move_block-block.new.frames c.move_block-block.new.jobs.pushed
    ≡ let_go_plain c.args.harts c.in-Some.old (copy_block c.in-Some.old (next_block c.args.heap.now c.room_of-room.result) k (place_plain c.args.n (next_block c.args.heap.now c.room_of-room.result) (draft shadows c.args.tables.now c.args.heap.now c.args.frames.now c.args.jobs.now.pushed))))
    c.kept_bytes-bytes.ensures.kept (c.move_block-block.ensures.plan shadows))

pub returns-in_default-clause-fits : goal.returns-in_default-clause-fits
returns-in_default-clause-fits c batch shadows =
    let before = draft shadows c.args.tables.now c.args.heap.now c.args.frames.now c.args.jobs.now.pushed in
    fits_after Plain batch before (realloced_now realloced.NotAnObject c.args.n (block_of_user c.args.heap.now.held c.args.pointer) before) (plain_realloc_plan c.args.harts c.args.pointer c.args.n c.args.size before) (returns-in_default-clause-plan c shadows)
    (λ entries words regions settled. plain_reallocs_fit batch entries words regions c.args.harts c.args.pointer c.args.n c.args.size before settled c.requires.harts)

pub returns-then-is_room-clause-fits : goal.returns-then-is_room-clause-fits
returns-then-is_room-clause-fits c batch shadows =
    let before = draft shadows c.args.tables.now c.args.heap.now c.args.frames.now c.args.jobs.now.pushed in
    fits_after Plain batch before (realloced_now (realloced.Placed c.args.pointer) c.args.n (block_of_user c.args.heap.now.held c.args.pointer) (draft shadows c.args.tables.now c.args.heap.now c.args.frames.now c.trim_block.new.jobs.pushed)) (plain_realloc_plan c.args.harts c.args.pointer c.args.n c.args.size before) (returns-then-is_room-clause-plan c shadows)
    (λ entries words regions settled. plain_reallocs_fit batch entries words regions c.args.harts c.args.pointer c.args.n c.args.size before settled c.requires.harts)

pub returns-then-lacks_frames-clause-fits : goal.returns-then-lacks_frames-clause-fits
returns-then-lacks_frames-clause-fits c batch shadows =
    let before = draft shadows c.args.tables.now c.args.heap.now c.args.frames.now c.args.jobs.now.pushed in
    fits_after Plain batch before (realloced_now realloced.NoFrames c.args.n (block_of_user c.args.heap.now.held c.args.pointer) before) (plain_realloc_plan c.args.harts c.args.pointer c.args.n c.args.size before) (returns-then-lacks_frames-clause-plan c shadows)
    (λ entries words regions settled. plain_reallocs_fit batch entries words regions c.args.harts c.args.pointer c.args.n c.args.size before settled c.requires.harts)

pub returns-clause-fits : goal.returns-clause-fits
returns-clause-fits c batch shadows =
    let before = draft shadows c.args.tables.now c.args.heap.now c.args.frames.now c.args.jobs.now.pushed in
    fits_after Plain batch before (realloced_now (realloced.Placed (c.move_block-block.result.start + 16)) c.args.n (block_of_user c.args.heap.now.held c.args.pointer) (draft shadows c.move_block-block.new.tables c.move_block-block.new.heap c.move_block-block.new.frames c.move_block-block.new.jobs.pushed)) (plain_realloc_plan c.args.harts c.args.pointer c.args.n c.args.size before) (returns-clause-plan c shadows)
    (λ entries words regions settled. plain_reallocs_fit batch entries words regions c.args.harts c.args.pointer c.args.n c.args.size before settled c.requires.harts)
