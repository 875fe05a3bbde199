-- A realloc of what is no live object is refused; a live one has a header, and what it leaves is given
-- back with all that wait.
use Rattle.std.proofs.Common.{◌≡◌, ◌++◌, ◌∙◌, refl, ap, sym, subst}
use Rattle.osc_space.specs.Header.{block_of}
use Rattle.osc_space.specs.Space.{Closing, Keeps, GivesBack}
use Rattle.osc_space.specs.Free.{waiting_blocks}
use Rattle.osc_space.specs.Realloc.{stays, left_block, realloc_plan}
use Rattle.osc_shadow.specs.Parts.{draft_of}
use Rattle.osc_shadow.specs.Sight.{seen_of}
use Rattle.osc_release.specs.Outcomes.{found_of, terms}
use Rattle.osc_calls.specs.Kernel.{Process}
use Rattle.osc_process.specs.Given.{closing_if_moved, maybe_one, left_of}
use Rattle.osc_process.specs.Parts.{draft_at, made}
use Rattle.osc_process.proofs.Plans.{realloc_gone, has_words, left_blocks, realloc_closes}
use Rattle.osc_process.proofs.rooms.Process.realloc_object.Goals as goal

pub returns-in-Err-clause-plan : goal.returns-in-Err-clause-plan
returns-in-Err-clause-plan c =
    let s = c.self.inside in
    let all = terms c.args.config.now.harts c.args.call c.args.config.now.batch in
    let gone = realloc_gone all c.args.pointer c.args.n (found_of c.args.found) (draft_of s.space.tables s.space.marks s.space.heap s.waiting c.args.frames.now c.args.jobs.now.pushed) c.in-Err.answer c.in-Err.ensures in
    ap (λ k. made c.in-Err.answer k c.args.self.now c.args.frames.now c.args.jobs.now) c.keep.ensures
    ∙ subst (λ (p : Process). made c.in-Err.answer Keeps p c.args.frames.now c.args.jobs.now ≡ realloc_plan all c.args.pointer c.args.n (found_of c.args.found) (draft_at p c.args.frames.now c.args.jobs.now.pushed)) c.self.view_is gone

pub plan_realloc-planned-requires-clause-words : goal.plan_realloc-planned-requires-clause-words
plan_realloc-planned-requires-clause-words c =
    let s = c.self.inside in
    has_words s.space.tables s.space.marks.objects c.args.pointer (seen_of c.in-Ok.seen) c.in-Ok.ensures.0.at c.in-Ok.ensures.0.live c.in-Ok.ensures.1

pub returns-clause-plan : goal.returns-clause-plan
returns-clause-plan c =
    let s = c.self.inside in
    let t = c.plan_realloc-planned.new in
    let all = terms c.args.config.now.harts c.args.call c.args.config.now.batch in
    let d = draft_of s.space.tables s.space.marks s.space.heap s.waiting c.args.frames.now c.args.jobs.now.pushed in
    let e = draft_of t.tables t.marks t.heap s.waiting t.frames t.jobs.pushed in
    let o = c.in-Ok.seen in
    let block = c.block_of.ensures in
    let left : maybe_one c.block_left-left.result ≡ left_block (stays o.fact c.args.n) o.fact =
    ap maybe_one (c.block_left-left.ensures ∙ ap (λ b. left_of b c.args.n) block) ∙ left_blocks o.fact c.args.n in
    let closing : c.keep_refused.new.closing ≡ closing_if_moved c.plan_realloc-planned.result (GivesBack (waiting_blocks d.space ++ left_block (stays o.fact c.args.n) o.fact)) =
    c.keep_refused.ensures ∙ ap (closing_if_moved c.plan_realloc-planned.result) (c.give_waiting.ensures ∙ ap (λ xs. GivesBack (waiting_blocks d.space ++ xs)) left) in
    let plan = realloc_closes all c.args.pointer c.args.n (found_of c.args.found) d e (seen_of o) c.plan_realloc-planned.result c.in-Ok.ensures.0.at (c.plan_realloc-planned.ensures.plan c.args.config.now.batch) in
    rw (c.realloc_answer.ensures, closing, ← c.self.view_is) plan
