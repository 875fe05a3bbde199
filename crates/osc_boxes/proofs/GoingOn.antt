-- A call that takes no boxes ends no process.
use Rattle.std.proofs.Common.{ℕ, ◌≡◌, not, if◌then◌else◌, Bool, true, false, Option, Some, None, slice_get, arith, refl, sym, ap, subst, ◌∙◌}
use Rattle.osc_word.specs.declared.calls.Answer.{Answer}
use Rattle.osc_word.specs.declared.calls.Call.{Call}
use Rattle.osc_word.specs.declared.calls.Call.TheVariants as calls
use Rattle.osc_space.specs.Space.{Closing, Keeps, GivesBack}
use Rattle.osc_space.specs.Header.{Found}
use Rattle.osc_calls.specs.declared.Begun.{Begun}
use Rattle.osc_calls.specs.declared.Begun.TheVariants as begun
use Rattle.osc_calls.specs.Kernel.{KernelState, Process, Calling, Effect, Nothing, Clears, Starts, Ends, Waiting, process_at, is_last, has_journal_room}
use Rattle.osc_calls.specs.Requests.{calling_of, meant, is_ready}
use Rattle.osc_calls.specs.Refusals.{draft_of, refusal_of}
use Rattle.osc_calls.specs.Planned.{Planned, planned_unless, closing_effect}
use Rattle.osc_calls.specs.HeapPlans.{terms_of, malloc_by, free_of, realloc_by}
use Rattle.osc_calls.specs.ProcessPlans.{done_by, value_left, fork_done, spawn_done, share_done}
use Rattle.osc_calls.specs.Plan.{plan_meant, plan_of, plan_by, plan_waiting, plan}
use Rattle.osc_calls.specs.Begin.{boxes_where, first_step, no_words, begun_in, begin_as, begin_call, begin}
use Rattle.osc_settled.specs.Records.{ends_by, ending}
use Rattle.osc_records.specs.Agreeing.{takes_boxes, TakesNone}
use Rattle.osc_boxes.specs.Ending.{BegunGoOn, PlannedGoOn}

-- ---- plans
abbrev GoesOn : Effect → Type 0
GoesOn (Ends status) = ⊥
GoesOn _ = Unit {0}

closing-goes : (closing : Closing) → GoesOn (closing_effect closing)
closing-goes Keeps = tt
closing-goes (GivesBack blocks) = tt

unless-goes : (refused : Option Answer) (k : KernelState) (made : Planned) → GoesOn made.effect → GoesOn (planned_unless refused k made).effect
unless-goes None k made e = e
unless-goes (Some answer) k made e = tt

done-goes : (last : Bool) (c : Calling) (k : KernelState) → takes_boxes (boxes_where last) ≡ false → GoesOn (done_by last c k).effect
done-goes true c k e = absurd (let b : ⊥ = grind (arith, e) in b)
done-goes false c k e = tt

plan-goes : (found : Found) (k : KernelState) (c : Calling) (p : Process) (call : Call) → takes_boxes (first_step c p k call) ≡ false → GoesOn (plan_meant found c p k call).effect
plan-goes found k c p (calls.Exit status) e = absurd (let b : ⊥ = grind (arith, e) in b)
plan-goes found k c p (calls.Write buf len) e = absurd (let b : ⊥ = grind (arith, e) in b)
plan-goes found k c p (calls.Malloc size) e = closing-goes (malloc_by k.config.heap size (draft_of k p)).closing
plan-goes found k c p (calls.Free pointer) e = closing-goes (free_of k.config.heap (terms_of k) pointer found (draft_of k p)).closing
plan-goes found k c p (calls.Realloc pointer size) e = closing-goes (realloc_by k.config.heap (terms_of k) pointer size found (draft_of k p)).closing
plan-goes found k c p calls.Fork e = unless-goes (refusal_of calls.Fork p k) k (fork_done c p k) tt
plan-goes found k c p (calls.Spawn pc sp arg) e = unless-goes (refusal_of (calls.Spawn pc sp arg) p k) k (spawn_done c p pc sp arg k) tt
plan-goes found k c p (calls.Join number) e = tt
plan-goes found k c p (calls.Done value) e = done-goes (is_last k.records c.pid) c (value_left c.thread value k) e
plan-goes found k c p (calls.Share count) e = unless-goes (refusal_of (calls.Share count) p k) k (share_done c p count k) tt
plan-goes found k c p (calls.Wait number) e = tt
plan-goes found k c p (calls.Unknown number) e = tt
plan-goes found k c p (calls.End fault) e = absurd (let b : ⊥ = grind (arith, e) in b)

none-ends : (pid : ℕ) (effect : Effect) → GoesOn effect → ends_by pid effect ≡ None
none-ends pid Nothing e = refl
none-ends pid Clears e = refl
none-ends pid (Starts hart start) e = refl
none-ends pid (Ends status) e = absurd e

by-goes : (found : Found) (k : KernelState) (c : Calling) (o : Option Process) → k.under_way ≡ Waiting c → process_at k c.pid ≡ o → TakesNone k → ending (plan_by found c o k).kernel.under_way ≡ None
by-goes found k c None u here none = ap ending u
by-goes found k c (Some p) u here none = none-ends c.pid (plan_of found c p k).effect (plan-goes found k c p (meant c.call) (none c p u here))

pub planned_go_on : PlannedGoOn
unfolding plan
planned_go_on found c k u none = ap (λ z. ending (plan_waiting found z k).kernel.under_way) u ∙ by-goes found k c (process_at k c.pid) u refl none

-- ---- a call that begins
abbrev waiting : Calling → KernelState → KernelState
waiting c k = record k { under_way = Waiting c }

same-step : (c : Calling) (p : Process) (k : KernelState) (call : Call) → first_step c p (waiting c k) call ≡ first_step c p k call
same-step c p k (calls.Exit status) = refl
same-step c p k (calls.Write buf len) = refl
same-step c p k (calls.End fault) = refl
same-step c p k (calls.Done value) = refl
same-step c p k calls.Fork = refl
same-step c p k (calls.Share count) = refl
same-step c p k (calls.Free pointer) = refl
same-step c p k (calls.Realloc pointer size) = refl
same-step c p k _ = refl

begun-goes : (b : Begun) (c : Calling) (k : KernelState) → (b ≡ begun.Planned → TakesNone (waiting c k)) → ending (begin_as b c k).kernel.under_way ≡ None
begun-goes begun.Planned c k none = planned_go_on no_words c (waiting c k) refl (none refl)
begun-goes begun.Again c k none = refl
begun-goes begun.JournalFull c k none = refl
begun-goes begun.Gone c k none = refl
begun-goes begun.Boxes c k none = refl
begun-goes (begun.Header first second) c k none = refl

-- a call that is planned at once takes no boxes
at-once : (c : Calling) (k : KernelState) (o : Option Process) → process_at k c.pid ≡ o → begun_in o c k ≡ begun.Planned → TakesNone (waiting c k)
at-once c k None here e d q waits there = absurd (let b : ⊥ = grind (arith, e) in b)
at-once c k (Some p) here e d q waits there =
    let same : c ≡ d = cc in
    let same_p : p ≡ q = (let f : Some p ≡ Some q = sym here ∙ ap (λ (y : Calling). process_at k y.pid) same ∙ there in cc) in
    ap takes_boxes (subst (λ (y : Calling). first_step y q (waiting c k) (meant y.call) ≡ begun.Planned) same
    (subst (λ z. first_step c z (waiting c k) (meant c.call) ≡ begun.Planned) same_p (same-step c p k (meant c.call) ∙ go (is_ready k c.pid c.call) (has_journal_room k) e)))
  where
    go : (ready room : Bool) → (if not ready then begun.Again else if not room then begun.JournalFull else first_step c p k (meant c.call)) ≡ begun.Planned → first_step c p k (meant c.call) ≡ begun.Planned
    go true true f = f
    go true false f = absurd (let b : ⊥ = grind (arith, f) in b)
    go false room f = absurd (let b : ⊥ = grind (arith, f) in b)

called-goes : (hart : ℕ) (o : Option Calling) (k : KernelState) → ending (begin_call hart o k).kernel.under_way ≡ None
called-goes hart None k = refl
called-goes hart (Some c) k = begun-goes (begun_in (process_at k c.pid) c k) c k (at-once c k (process_at k c.pid) refl)

pub begun_go_on : BegunGoOn
unfolding begin
begun_go_on regs hart pc asked k = called-goes hart (calling_of hart regs pc asked (slice_get k.records hart)) k
