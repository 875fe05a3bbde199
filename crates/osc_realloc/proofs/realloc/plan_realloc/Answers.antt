-- The pointer is that of a live object.
use Rattle.std.proofs.Common.{◌∙◌, Some, None, refl}
use Rattle.osc_word.specs.declared.calls.Answer.TheVariants as answer
use Rattle.osc_word.specs.declared.settings.HeapKind.TheVariants.{Oscar}
use Rattle.osc_space.specs.Realloc.{realloc_plan}
use Rattle.osc_parts.proofs.ReallocKinds.{reallocs_fit}
use Rattle.osc_shadow.specs.Parts.{draft_of}
use Rattle.osc_shadow.specs.Sight.{damage_answer, seen_of}
use Rattle.osc_shadow.proofs.Looked.{is_seen, seen_live}
use Rattle.osc_shadow.proofs.Fitting.{fits_after}
use Rattle.osc_realloc.specs.declared.answer.Realloced.TheVariants as realloced_to
use Rattle.osc_realloc.specs.Outcomes.{terms, found_of, realloced}
use Rattle.osc_realloc.proofs.Planned.{wants_is, damaged_is, wanted_is}
use Rattle.osc_realloc.proofs.realloc.plan_realloc.Goals as goal

pub unwrap-seen-requires : goal.unwrap-seen-requires
unwrap-seen-requires c = is_seen c.args.tables.now c.args.marks.now.objects c.args.pointer c.object_with.result c.requires.words c.object_with.ensures.object

pub returns-in-Some-clause-plan : goal.returns-in-Some-clause-plan
returns-in-Some-clause-plan c batch =
    let s = seen_live c.args.tables.now c.args.marks.now.objects c.args.pointer c.object_with.result c.unwrap-seen.result c.requires.words c.object_with.ensures.object c.unwrap-seen.ensures in
    damaged_is (terms c.args.harts c.args.call batch) c.args.pointer c.args.n (found_of c.args.found) (draft_of c.args.tables.now c.args.marks.now c.args.heap.now c.args.waiting.now c.args.frames.now c.args.jobs.now.pushed) (seen_of c.unwrap-seen.result)
    (damage_answer c.in-Some.damage) s.is s.state c.in-Some.ensures

pub move_object-requires-clause-live : goal.move_object-requires-clause-live
move_object-requires-clause-live c =
    (seen_live c.args.tables.now c.args.marks.now.objects c.args.pointer c.object_with.result c.unwrap-seen.result c.requires.words c.object_with.ensures.object c.unwrap-seen.ensures).live

pub returns-in-Some-Shadow-clause-plan : goal.returns-in-Some-Shadow-clause-plan
returns-in-Some-Shadow-clause-plan c batch =
    let s = seen_live c.args.tables.now c.args.marks.now.objects c.args.pointer c.object_with.result c.unwrap-seen.result c.requires.words c.object_with.ensures.object c.unwrap-seen.ensures in
    wanted_is (terms c.args.harts c.args.call batch) c.args.pointer c.args.n (found_of c.args.found) (draft_of c.args.tables.now c.args.marks.now c.args.heap.now c.args.waiting.now c.args.frames.now c.args.jobs.now.pushed) (seen_of c.unwrap-seen.result)
    (Some answer.NoShadow) s.is s.state c.in_default.ensures
    (wants_is c.args.tables.now c.args.marks.now c.args.heap.now c.args.waiting.now c.args.frames.now c.args.jobs.now.pushed c.args.n (seen_of c.unwrap-seen.result) c.is_room-in_place.result c.room_of-room.result c.room_of.result c.newly_taken-block_frames.result c.shadow_pages.result (Some answer.NoShadow)
    c.room_of-room.ensures.value c.room_of.ensures.value c.is_room-in_place.ensures c.newly_taken-block_frames.ensures c.shadow_pages.ensures (rw c.in-Some-Shadow.field-0-is at c.in-Some-Shadow.ensures))

pub returns-in-Some-Frames-clause-plan : goal.returns-in-Some-Frames-clause-plan
returns-in-Some-Frames-clause-plan c batch =
    let s = seen_live c.args.tables.now c.args.marks.now.objects c.args.pointer c.object_with.result c.unwrap-seen.result c.requires.words c.object_with.ensures.object c.unwrap-seen.ensures in
    wanted_is (terms c.args.harts c.args.call batch) c.args.pointer c.args.n (found_of c.args.found) (draft_of c.args.tables.now c.args.marks.now c.args.heap.now c.args.waiting.now c.args.frames.now c.args.jobs.now.pushed) (seen_of c.unwrap-seen.result)
    (Some answer.NoFrames) s.is s.state c.in_default.ensures
    (wants_is c.args.tables.now c.args.marks.now c.args.heap.now c.args.waiting.now c.args.frames.now c.args.jobs.now.pushed c.args.n (seen_of c.unwrap-seen.result) c.is_room-in_place.result c.room_of-room.result c.room_of.result c.newly_taken-block_frames.result c.shadow_pages.result (Some answer.NoFrames)
    c.room_of-room.ensures.value c.room_of.ensures.value c.is_room-in_place.ensures c.newly_taken-block_frames.ensures c.shadow_pages.ensures (rw c.in-Some-Frames.field-0-is at c.in-Some-Frames.ensures))

pub returns-in-None-clause-plan : goal.returns-in-None-clause-plan
returns-in-None-clause-plan c batch =
    let s = seen_live c.args.tables.now c.args.marks.now.objects c.args.pointer c.object_with.result c.unwrap-seen.result c.requires.words c.object_with.ensures.object c.unwrap-seen.ensures in
    c.move_object.ensures.plan batch
    ∙ wanted_is (terms c.args.harts c.args.call batch) c.args.pointer c.args.n (found_of c.args.found) (draft_of c.args.tables.now c.args.marks.now c.args.heap.now c.args.waiting.now c.args.frames.now c.args.jobs.now.pushed) (seen_of c.unwrap-seen.result)
    None s.is s.state c.in_default.ensures
    (wants_is c.args.tables.now c.args.marks.now c.args.heap.now c.args.waiting.now c.args.frames.now c.args.jobs.now.pushed c.args.n (seen_of c.unwrap-seen.result) c.is_room-in_place.result c.room_of-room.result c.room_of.result c.newly_taken-block_frames.result c.shadow_pages.result None
    c.room_of-room.ensures.value c.room_of.ensures.value c.is_room-in_place.ensures c.newly_taken-block_frames.ensures c.shadow_pages.ensures c.in-None.ensures)

pub returns-in-None-clause-object : goal.returns-in-None-clause-object
returns-in-None-clause-object c = c.move_object.ensures.object c.args.pointer

pub returns-in-Some-clause-fits : goal.returns-in-Some-clause-fits
returns-in-Some-clause-fits c batch =
    let before = draft_of c.args.tables.now c.args.marks.now c.args.heap.now c.args.waiting.now c.args.frames.now c.args.jobs.now.pushed in
    let t = terms c.args.harts c.args.call batch in
    fits_after Oscar batch before (realloced c.args.n before (realloced_to.HeaderDamaged c.unwrap-seen.result.number c.in-Some.damage.kept c.in-Some.damage.found) before) (realloc_plan t c.args.pointer c.args.n (found_of c.args.found) before) (returns-in-Some-clause-plan c batch)
    (λ entries words regions settled. reallocs_fit batch entries words regions t c.args.pointer c.args.n (found_of c.args.found) before settled (record { is = refl; harts = c.requires.harts }))

pub returns-in-Some-Shadow-clause-fits : goal.returns-in-Some-Shadow-clause-fits
returns-in-Some-Shadow-clause-fits c batch =
    let before = draft_of c.args.tables.now c.args.marks.now c.args.heap.now c.args.waiting.now c.args.frames.now c.args.jobs.now.pushed in
    let t = terms c.args.harts c.args.call batch in
    fits_after Oscar batch before (realloced c.args.n before realloced_to.NoShadow before) (realloc_plan t c.args.pointer c.args.n (found_of c.args.found) before) (returns-in-Some-Shadow-clause-plan c batch)
    (λ entries words regions settled. reallocs_fit batch entries words regions t c.args.pointer c.args.n (found_of c.args.found) before settled (record { is = refl; harts = c.requires.harts }))

pub returns-in-Some-Frames-clause-fits : goal.returns-in-Some-Frames-clause-fits
returns-in-Some-Frames-clause-fits c batch =
    let before = draft_of c.args.tables.now c.args.marks.now c.args.heap.now c.args.waiting.now c.args.frames.now c.args.jobs.now.pushed in
    let t = terms c.args.harts c.args.call batch in
    fits_after Oscar batch before (realloced c.args.n before realloced_to.NoFrames before) (realloc_plan t c.args.pointer c.args.n (found_of c.args.found) before) (returns-in-Some-Frames-clause-plan c batch)
    (λ entries words regions settled. reallocs_fit batch entries words regions t c.args.pointer c.args.n (found_of c.args.found) before settled (record { is = refl; harts = c.requires.harts }))

pub returns-in-None-clause-fits : goal.returns-in-None-clause-fits
returns-in-None-clause-fits c batch =
    let before = draft_of c.args.tables.now c.args.marks.now c.args.heap.now c.args.waiting.now c.args.frames.now c.args.jobs.now.pushed in
    let t = terms c.args.harts c.args.call batch in
    fits_after Oscar batch before (realloced c.args.n before c.move_object.result (draft_of c.move_object.new.tables c.move_object.new.marks c.move_object.new.heap c.args.waiting.now c.move_object.new.frames c.move_object.new.jobs.pushed)) (realloc_plan t c.args.pointer c.args.n (found_of c.args.found) before) (returns-in-None-clause-plan c batch)
    (λ entries words regions settled. reallocs_fit batch entries words regions t c.args.pointer c.args.n (found_of c.args.found) before settled (record { is = refl; harts = c.requires.harts }))
