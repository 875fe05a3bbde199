-- A free of what is no live object is refused; a live one has a header, and no more than a batch waits.
use Rattle.std.proofs.Common.{◌≡◌, ◌≤◌, suc, ◌∙◌, arith, refl, ap, sym, subst, length}
use Rattle.osc_word.specs.declared.settings.HeapKind.TheVariants.{Oscar}
use Rattle.osc_space.specs.Space.{Outcome, Keeps}
use Rattle.osc_space.specs.Free.{free_plan}
use Rattle.osc_shadow.specs.Parts.{draft_of}
use Rattle.osc_shadow.specs.Sight.{seen_of}
use Rattle.osc_release.specs.Outcomes.{found_of, terms}
use Rattle.osc_calls.specs.Kernel.{Process}
use Rattle.osc_process.specs.Fits.{HasBatch}
use Rattle.osc_process.specs.Parts.{draft_at, made}
use Rattle.osc_process.proofs.Plans.{free_gone, has_words, free_waits}
use Rattle.osc_process.proofs.rooms.Process.free_object.Goals as goal

pub returns-in-Err-clause-plan : goal.returns-in-Err-clause-plan
returns-in-Err-clause-plan c free =
    let s = c.self.inside in
    let all = terms c.args.config.now.harts c.args.call c.args.config.now.batch in
    let gone = free_gone all c.args.pointer (found_of c.args.found) (draft_of s.space.tables s.space.marks s.space.heap s.waiting free c.args.jobs.now.pushed) c.in-Err.answer c.in-Err.ensures in
    ap (λ k. made c.in-Err.answer k c.args.self.now free c.args.jobs.now) c.keep.ensures
    ∙ subst (λ (p : Process). made c.in-Err.answer Keeps p free c.args.jobs.now ≡ free_plan all c.args.pointer (found_of c.args.found) (draft_at p free c.args.jobs.now.pushed)) c.self.view_is gone

pub plan_free-planned-requires-clause-words : goal.plan_free-planned-requires-clause-words
plan_free-planned-requires-clause-words c =
    let s = c.self.inside in
    let live = c.in_default.ensures in
    has_words s.space.tables s.space.marks.objects c.args.pointer (seen_of c.in_default.field-0) live.0.at live.0.live live.1

pub give_where-requires : goal.give_where-requires
give_where-requires c =
    let s = c.self.inside in
    let all = terms c.args.config.now.harts c.args.call c.args.config.now.batch in
    let d = draft_of s.space.tables s.space.marks s.space.heap s.waiting c.requires.parts.free c.args.jobs.now.pushed in
    let parts : HasBatch Oscar c.args.config.now.batch d.space = subst (λ (p : Process). HasBatch Oscar c.args.config.now.batch p.space) (sym c.self.view_is) c.requires.parts in
    let now : length c.plan_free-planned.new.waiting ≡ length (free_plan all c.args.pointer (found_of c.args.found) d).draft.space.waiting =
    ap (λ (o : Outcome). length o.draft.space.waiting) (c.in-Freed.ensures.plan s.space.heap c.requires.parts.free) in
    let few = free_waits all c.args.pointer (found_of c.args.found) d in
    let waits = parts.fit.waits in
    let most = parts.fit.few in
    record { few = omega (arith, now, few, waits, most) }
