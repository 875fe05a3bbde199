-- A realloc.
use Rattle.std.proofs.Common.{ap, ◌∙◌, ℕ}
use Rattle.osc_process.specs.Parts.{draft_at}
use Rattle.osc_calls.specs.HeapPlans.{realloc_by, terms_of}
use Rattle.osc_release.specs.Outcomes.{found_of, terms}
use Rattle.osc_kernel.specs.Inside.{kernel_of}
use Rattle.osc_kernel.proofs.Rooms.{rooms_process}
use Rattle.osc_kernel.proofs.Heaps.{caller_is, heap_planned}
use Rattle.osc_kernel.proofs.heap_calls.plan_realloc.Goals as goal

pub returns-clause-rooms : goal.returns-clause-rooms
returns-clause-rooms c =
    rooms_process c.args.state.now _ c.index_mut-process.result.now _ _ _ _ _ _
    (caller_is c.args.state.now c.args.calling.now _ _ _ c.requires.can c.pid.ensures c.index_mut-process.ensures.value)
    (ap (λ q. q.status) c.realloc-answer.ensures.rest) c.realloc-answer.ensures.sizes c.realloc-answer.ensures.room c.requires.can.rooms

pub returns-clause-made : goal.returns-clause-made
returns-clause-made c = λ p at.
    heap_planned (realloc_by c.args.state.now.config.heap (terms_of (kernel_of c.args.state.now)) c.args.pointer c.args.size (found_of c.args.found)) c.args.state.now c.args.calling.now c.index_mut-process.result.now p c.realloc-answer.new.self _ c.realloc-answer.new.jobs _ _ _
    c.requires.can c.pid.ensures
    (caller_is c.args.state.now c.args.calling.now _ _ _ c.requires.can c.pid.ensures c.index_mut-process.ensures.value)
    at c.realloc-answer.ensures.rest c.effect_by-effect.ensures
    (c.realloc-answer.ensures.plan ∙ ap (λ (n : ℕ). realloc_by c.args.state.now.config.heap (terms c.args.state.now.config.harts n c.args.state.now.config.batch) c.args.pointer c.args.size (found_of c.args.found) (draft_at c.index_mut-process.result.now c.args.state.now.frames c.args.state.now.jobs.pushed)) (c.len-place.ensures ∙ c.args.state.now.journal.ok.0))
