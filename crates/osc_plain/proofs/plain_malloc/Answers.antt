-- The outcome is the plan's, by whether frames are lacking.
use Rattle.std.proofs.Common.{◌+◌, ap, sym, ◌∙◌}
use Rattle.osc_word.specs.declared.settings.HeapKind.TheVariants.{Plain}
use Rattle.osc_slot.specs.declared.Block.{Block}
use Rattle.osc_space.specs.PlainHeap.{plain_malloc_plan}
use Rattle.osc_parts.proofs.PlainMalloc.{plain_mallocs_fit}
use Rattle.osc_shadow.proofs.Fitting.{fits_after}
use Rattle.osc_plain.specs.Plan.{draft, malloced_now}
use Rattle.osc_plain.specs.declared.PlainMalloced.TheVariants as malloced
use Rattle.osc_plain.proofs.Plans.{malloc_refused, malloc_done}
use Rattle.osc_plain.proofs.plain_malloc.Goals as goal

pub returns-then-lacks_frames-clause-plan : goal.returns-then-lacks_frames-clause-plan
returns-then-lacks_frames-clause-plan c shadows =
    malloc_refused shadows c.args.n c.args.tables.now c.args.heap.now c.args.frames.now c.args.jobs.now.pushed c.room_of-room.result c.room_of-room.ensures.value (sym c.lacks_frames.ensures ∙ c.if-lacks_frames.true)

pub returns-clause-plan : goal.returns-clause-plan
returns-clause-plan c shadows =
    malloc_done shadows c.args.n (c.give_block-block.result.start + 16) c.args.tables.now c.args.heap.now c.args.frames.now c.args.jobs.now.pushed c.room_of-room.result _
    c.room_of-room.ensures.value (sym c.lacks_frames.ensures ∙ c.if-lacks_frames.false) (ap (λ (b : Block). b.start + 16) c.give_block-block.ensures.block) (c.give_block-block.ensures.plan shadows)

pub returns-then-lacks_frames-clause-fits : goal.returns-then-lacks_frames-clause-fits
returns-then-lacks_frames-clause-fits c batch shadows =
    let before = draft shadows c.args.tables.now c.args.heap.now c.args.frames.now c.args.jobs.now.pushed in
    fits_after Plain batch before (malloced_now malloced.NoFrames before) (plain_malloc_plan c.args.n before) (returns-then-lacks_frames-clause-plan c shadows)
    (λ entries words regions. plain_mallocs_fit batch entries words regions c.args.n before)

pub returns-clause-fits : goal.returns-clause-fits
returns-clause-fits c batch shadows =
    let before = draft shadows c.args.tables.now c.args.heap.now c.args.frames.now c.args.jobs.now.pushed in
    fits_after Plain batch before (malloced_now (malloced.Given (c.give_block-block.result.start + 16)) (draft shadows c.give_block-block.new.tables c.give_block-block.new.heap c.give_block-block.new.frames c.give_block-block.new.jobs.pushed)) (plain_malloc_plan c.args.n before) (returns-clause-plan c shadows)
    (λ entries words regions. plain_mallocs_fit batch entries words regions c.args.n before)
