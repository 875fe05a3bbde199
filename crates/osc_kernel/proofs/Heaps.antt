-- The plans of the calls on the heap.
use Rattle.std.proofs.Common.{ℕ, ◌≡◌, Bool, Some, List, drop, slice_get, slice_set, get_or, ap, sym, ◌∙◌, subst}
use Rattle.std.specs.Vec.{with_item}
use Rattle.osc_word.specs.JobList.{JobList}
use Rattle.osc_word.specs.declared.calls.Answer.{Answer}
use Rattle.osc_space.specs.Space.{Draft, Closing, Outcome}
use Rattle.osc_calls.specs.Kernel.{Process, Calling, Waiting, process_at}
use Rattle.osc_calls.specs.Refusals.{draft_of}
use Rattle.osc_calls.specs.Planned.{Planned, closing_effect, outcome_planned}
use Rattle.osc_process.specs.Fits.{HasParts, HasBatch}
use Rattle.osc_process.specs.Parts.{draft_at, made, with_space}
use Rattle.osc_under_way.specs.Effects.{effect_of}
use Rattle.osc_settled.proofs.Lists.{some_same}
use Rattle.osc_kernel.specs.declared.state.State.{State}
use Rattle.osc_kernel.specs.declared.commit.Made.{Made}
use Rattle.osc_kernel.specs.Inside.{kernel_of}
use Rattle.osc_kernel.specs.Plans.{CanPlan, planned_by}
use Rattle.osc_kernel.proofs.Rooms.{item_is}

-- ---- before
-- the process of the call, as the fields have it
pub caller_is : (s : State) (c : Calling) (i : ℕ) (d x : Process) → CanPlan s c → i ≡ c.pid → x ≡ get_or s.processes.items i d → slice_get s.processes.items i ≡ Some x
caller_is s c i d x can e g =
    let has = can.caller.has in
    let is : x ≡ has.process = g ∙ (ap (λ k. get_or s.processes.items k d) e ∙ item_is s.processes.items c.pid d has.process has.at) in
    subst (λ k. slice_get s.processes.items k ≡ Some x) (sym e) (has.at ∙ ap (λ y. Some y) (sym is))

pub caller_parts : (s : State) (c : Calling) (x : Process) → CanPlan s c → slice_get s.processes.items c.pid ≡ Some x → HasParts s.config.heap x.space s.frames
caller_parts s c x can e =
    let has = can.caller.has in
    let is = some_same has.process x (sym has.at ∙ e) in
    subst (λ (y : Process). HasParts s.config.heap y.space s.frames) is (record { few = has.fits.few; batch = s.config.batch; regions = s.regions; fit = has.fits.parts })

pub caller_batch : (s : State) (c : Calling) (x : Process) → CanPlan s c → slice_get s.processes.items c.pid ≡ Some x → HasBatch s.config.heap s.config.batch x.space
caller_batch s c x can e =
    let has = can.caller.has in
    let is = some_same has.process x (sym has.at ∙ e) in
    subst (λ (y : Process). HasBatch s.config.heap s.config.batch y.space) is (record { free = s.frames; few = has.fits.few; regions = s.regions; fit = has.fits.parts })

abbrev planned_with : State → ℕ → Process → List Bool → JobList → Closing → Answer → Calling → Planned
planned_with s pid q frames jobs closing answer c = record {
  kernel = record (kernel_of s) {
    free = frames;
    processes = slice_set s.processes.items pid q;
    jobs = jobs.pushed;
    under_way = Waiting c;
  };
  answer = answer;
  effect = closing_effect closing;
  closing = closing;
}

-- ---- after
pub heap_planned : (f : Draft → Outcome) (s : State) (c : Calling) (x p q : Process) (frames : List Bool) (jobs : JobList) (closing : Closing) (m : Made) (i : ℕ)
    → CanPlan s c → i ≡ c.pid → slice_get s.processes.items i ≡ Some x → process_at (kernel_of s) c.pid ≡ Some p → q ≡ with_space q.space x → effect_of m.effect ≡ closing_effect closing
    → made m.answer closing q frames jobs ≡ f (draft_at x s.frames s.jobs.pushed)
    → planned_by (record s { frames = frames; processes = with_item s.processes i q; jobs = jobs; closing = closing }) m ≡ outcome_planned c.pid p (kernel_of s) (f (draft_of (kernel_of s) p))
heap_planned f s c x p q frames jobs closing m i can e there at rest effect is =
    let same : x ≡ p = some_same x p (sym (subst (λ k. slice_get s.processes.items k ≡ Some x) e there) ∙ at) in
    subst (λ y. planned_by (record s { frames = frames; processes = with_item s.processes i q; jobs = jobs; closing = closing }) m ≡ outcome_planned c.pid y (kernel_of s) (f (draft_of (kernel_of s) y))) same
    (subst (λ n. planned_by (record s { frames = frames; processes = with_item s.processes i q; jobs = jobs; closing = closing }) m ≡ outcome_planned c.pid x (kernel_of s) (f (record { space = x.space; free = s.frames; jobs = drop n s.jobs.pushed }))) (sym can.done)
    (subst (λ o. planned_by (record s { frames = frames; processes = with_item s.processes i q; jobs = jobs; closing = closing }) m ≡ outcome_planned c.pid x (kernel_of s) o) is
    (rw (e, effect, can.done, can.waits) (ap (λ y. planned_with s c.pid y frames jobs closing m.answer c) rest))))
