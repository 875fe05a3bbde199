-- The pointer is that of a live object.
use Rattle.std.proofs.Common.{◌∙◌, Some, None, refl}
use Rattle.osc_word.specs.declared.settings.HeapKind.TheVariants.{Oscar}
use Rattle.osc_space.specs.Free.{free_plan}
use Rattle.osc_parts.proofs.FreeReturn.{frees_fit}
use Rattle.osc_shadow.specs.Parts.{draft_of}
use Rattle.osc_shadow.specs.Sight.{damage_answer, seen_of}
use Rattle.osc_shadow.proofs.Looked.{is_seen, seen_live}
use Rattle.osc_shadow.proofs.Fitting.{fits_after}
use Rattle.osc_release.specs.declared.answer.FreePlan.TheVariants.{HeaderDamaged}
use Rattle.osc_release.specs.Outcomes.{terms, found_of, freed_now}
use Rattle.osc_release.proofs.Made.{free_is}
use Rattle.osc_release.proofs.release.plan_free.Goals as goal

pub unwrap-seen-requires : goal.unwrap-seen-requires
unwrap-seen-requires c = is_seen c.args.tables.now c.args.marks.now.objects c.args.pointer c.object_with.result c.requires.words c.object_with.ensures.object

pub returns-in-Some-clause-plan : goal.returns-in-Some-clause-plan
returns-in-Some-clause-plan c heap free =
    let s = seen_live c.args.tables.now c.args.marks.now.objects c.args.pointer c.object_with.result c.unwrap-seen.result c.requires.words c.object_with.ensures.object c.unwrap-seen.ensures in
    free_is (terms c.args.harts c.args.call c.args.batch) c.args.pointer (found_of c.args.found) (draft_of c.args.tables.now c.args.marks.now heap c.args.waiting.now free c.args.jobs.now.pushed) (seen_of c.unwrap-seen.result)
    (Some (damage_answer c.in-Some.damage)) s.is s.state c.in-Some.ensures

pub returns-in-Some-clause-fits : goal.returns-in-Some-clause-fits
returns-in-Some-clause-fits c heap free =
    let before = draft_of c.args.tables.now c.args.marks.now heap c.args.waiting.now free c.args.jobs.now.pushed in
    let t = terms c.args.harts c.args.call c.args.batch in
    fits_after Oscar c.args.batch before (freed_now (HeaderDamaged c.unwrap-seen.result.number c.in-Some.damage.kept c.in-Some.damage.found) before) (free_plan t c.args.pointer (found_of c.args.found) before) (returns-in-Some-clause-plan c heap free)
    (λ entries words regions settled. frees_fit c.args.batch entries words regions t c.args.pointer (found_of c.args.found) before settled (record { is = refl; harts = c.requires.harts }))

pub free_object-requires-clause-live : goal.free_object-requires-clause-live
free_object-requires-clause-live c =
    (seen_live c.args.tables.now c.args.marks.now.objects c.args.pointer c.object_with.result c.unwrap-seen.result c.requires.words c.object_with.ensures.object c.unwrap-seen.ensures).live

pub returns-clause-plan : goal.returns-clause-plan
returns-clause-plan c heap free =
    let s = seen_live c.args.tables.now c.args.marks.now.objects c.args.pointer c.object_with.result c.unwrap-seen.result c.requires.words c.object_with.ensures.object c.unwrap-seen.ensures in
    c.free_object.ensures.plan heap free
    ∙ free_is (terms c.args.harts c.args.call c.args.batch) c.args.pointer (found_of c.args.found) (draft_of c.args.tables.now c.args.marks.now heap c.args.waiting.now free c.args.jobs.now.pushed) (seen_of c.unwrap-seen.result)
    None s.is s.state c.in_default.ensures

pub returns-clause-fits : goal.returns-clause-fits
returns-clause-fits c heap free =
    let before = draft_of c.args.tables.now c.args.marks.now heap c.args.waiting.now free c.args.jobs.now.pushed in
    let t = terms c.args.harts c.args.call c.args.batch in
    let made = freed_now c.free_object.result (draft_of c.free_object.new.tables c.free_object.new.marks heap c.free_object.new.waiting free c.free_object.new.jobs.pushed) in
    fits_after Oscar c.args.batch before made (free_plan t c.args.pointer (found_of c.args.found) before) (returns-clause-plan c heap free)
    (λ entries words regions settled. frees_fit c.args.batch entries words regions t c.args.pointer (found_of c.args.found) before settled (record { is = refl; harts = c.requires.harts }))
