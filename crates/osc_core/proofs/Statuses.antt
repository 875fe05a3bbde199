-- Until a call returns no process gets a status.
use Rattle.std.proofs.Common.{ℕ, zero, suc, ◌≡◌, ◌++◌, Bool, true, false, Option, Some, None, List, [], ◌∷◌, slice_get, slice_set, inl, inr, arith, refl, ◌∙◌, ap}
use Rattle.std.specs.Option.{option_and_then}
use Rattle.osc_word.specs.declared.calls.Call.{Call}
use Rattle.osc_word.specs.declared.calls.Call.TheVariants as calls
use Rattle.osc_word.specs.declared.calls.Answer.{Answer}
use Rattle.osc_word.specs.declared.calls.Request.{Request}
use Rattle.osc_space.specs.Header.{Found}
use Rattle.osc_space.specs.Space.{Space}
use Rattle.osc_calls.specs.declared.Begun.{Begun}
use Rattle.osc_calls.specs.declared.Begun.TheVariants as begun
use Rattle.osc_calls.specs.Kernel.{KernelState, Process, Calling, UnderWay, Quiet, Retrying, Leaving, Waiting, Returning, is_last, process_at, ended}
use Rattle.osc_calls.specs.Planned.{Planned, planned_unless}
use Rattle.osc_calls.specs.ProcessPlans.{child_process, done_by, value_left, fork_done, spawn_done, share_done}
use Rattle.osc_calls.specs.WritePlan.{write_by, write_count, first_unreadable}
use Rattle.osc_calls.specs.Requests.{calling_of, meant}
use Rattle.osc_calls.specs.Refusals.{refusal_of}
use Rattle.osc_calls.specs.Plan.{plan, plan_meant, plan_by, plan_waiting}
use Rattle.osc_calls.specs.Begin.{begin, begin_as, begin_call, begun_in, no_words}
use Rattle.osc_calls.specs.JobDone.{job_done}
use Rattle.osc_machine.specs.Laws.{Same, Begins, Plans, EndsJob, Finishes}
use Rattle.osc_core.specs.Ends.{StatusesStay}

abbrev pub status_at : List Process → ℕ → Option ℕ
status_at ps pid = option_and_then (λ (p : Process). p.status) (slice_get ps pid)

abbrev pub SameStatus : KernelState → KernelState → Type 0
SameStatus k next = (pid : ℕ) → ended pid next ≡ ended pid k

pub set_status : (ps : List Process) (n : ℕ) (p : Process) (space : Space) (pid : ℕ) → slice_get ps n ≡ Some p
    → status_at (slice_set ps n (record p { space = space })) pid ≡ status_at ps pid
set_status [] n p space pid e = refl
set_status (x ∷ ps) zero p space zero e = let same : x ≡ p = grind (arith, e) in rw same refl
set_status (x ∷ ps) zero p space (suc pid) e = refl
set_status (x ∷ ps) (suc n) p space zero e = refl
set_status (x ∷ ps) (suc n) p space (suc pid) e = set_status ps n p space pid e

made_status : (ps : List Process) (parent : ℕ) (space : Space) (pid : ℕ) → status_at (ps ++ child_process parent space ∷ []) pid ≡ status_at ps pid
made_status [] parent space zero = refl
made_status [] parent space (suc pid) = refl
made_status (x ∷ ps) parent space zero = refl
made_status (x ∷ ps) parent space (suc pid) = made_status ps parent space pid

unless_same : (refusal : Option Answer) (k : KernelState) (made : Planned) → SameStatus k made.kernel → SameStatus k (planned_unless refusal k made).kernel
unless_same None k made s = s
unless_same (Some answer) k made s = λ pid. refl

left_same : (thread : Option ℕ) (value : ℕ) (k : KernelState) → SameStatus k (value_left thread value k)
left_same None value k pid = refl
left_same (Some number) value k pid = refl

done_same : (last : Bool) (c : Calling) (k : KernelState) → SameStatus k (done_by last c k).kernel
done_same true c k pid = refl
done_same false c k pid = refl

write_same : (unread : Option ℕ) (p : Process) (buf count : ℕ) (k : KernelState) → SameStatus k (write_by unread p.space.tables buf count k).kernel
write_same None p buf count k pid = refl
write_same (Some address) p buf count k pid = refl

meant_same : (found : Found) (c : Calling) (p : Process) (k : KernelState) (call : Call) → process_at k c.pid ≡ Some p → SameStatus k (plan_meant found c p k call).kernel
meant_same found c p k (calls.Exit status) e pid = refl
meant_same found c p k (calls.Write buf len) e pid = write_same (first_unreadable p.space.tables buf (write_count k.output len)) p buf (write_count k.output len) k pid
meant_same found c p k (calls.Malloc size) e pid = set_status k.processes c.pid p _ pid e
meant_same found c p k (calls.Free pointer) e pid = set_status k.processes c.pid p _ pid e
meant_same found c p k (calls.Realloc pointer size) e pid = set_status k.processes c.pid p _ pid e
meant_same found c p k calls.Fork e pid = unless_same (refusal_of calls.Fork p k) k (fork_done c p k) (λ n. made_status k.processes c.pid _ n) pid
meant_same found c p k (calls.Spawn pc sp arg) e pid = unless_same (refusal_of (calls.Spawn pc sp arg) p k) k (spawn_done c p pc sp arg k) (λ n. refl) pid
meant_same found c p k (calls.Join number) e pid = refl
meant_same found c p k (calls.Done value) e pid = done_same (is_last k.records c.pid) c (value_left c.thread value k) pid ∙ left_same c.thread value k pid
meant_same found c p k (calls.Share count) e pid = unless_same (refusal_of (calls.Share count) p k) k (share_done c p count k) (λ n. set_status k.processes c.pid p _ n e) pid
meant_same found c p k (calls.Wait number) e pid = refl
meant_same found c p k (calls.Unknown number) e pid = refl
meant_same found c p k (calls.End fault) e pid = refl

by_same : (found : Found) (c : Calling) (p : Option Process) (k : KernelState) → process_at k c.pid ≡ p → SameStatus k (plan_by found c p k).kernel
by_same found c None k e pid = refl
by_same found c (Some p) k e pid = meant_same found c p k (meant c.call) e pid

waiting_same : (found : Found) (u : UnderWay) (k : KernelState) → SameStatus k (plan_waiting found u k).kernel
waiting_same found (Waiting c) k pid = by_same found c (process_at k c.pid) k refl pid
waiting_same found Quiet k pid = refl
waiting_same found Retrying k pid = refl
waiting_same found (Leaving hart) k pid = refl
waiting_same found (Returning done) k pid = refl

pub plan_same : (found : Found) (k : KernelState) → SameStatus k (plan found k).kernel
unfolding plan
plan_same found k pid = waiting_same found k.under_way k pid

as_same : (b : Begun) (c : Calling) (k : KernelState) → SameStatus k (begin_as b c k).kernel
as_same begun.Planned c k pid = plan_same no_words (record k { under_way = Waiting c }) pid
as_same begun.Again c k pid = refl
as_same begun.JournalFull c k pid = refl
as_same begun.Gone c k pid = refl
as_same begun.Boxes c k pid = refl
as_same (begun.Header first second) c k pid = refl

call_same : (hart : ℕ) (c : Option Calling) (k : KernelState) → SameStatus k (begin_call hart c k).kernel
call_same hart None k pid = refl
call_same hart (Some c) k pid = as_same (begun_in (process_at k c.pid) c k) c k pid

pub begin_same : (hart : ℕ) (regs : List ℕ) (pc : ℕ) (request : Request) (k : KernelState) → SameStatus k (begin hart regs pc request k).kernel
unfolding begin
begin_same hart regs pc request k pid = call_same hart (calling_of hart regs pc request (slice_get k.records hart)) k pid

pub done_keeps_status : (word : ℕ) (k : KernelState) → SameStatus k (job_done word k).kernel
unfolding job_done
done_keeps_status word k pid = refl

pub statuses_stay : StatusesStay
statuses_stay k next (Same is) = inr (λ pid. ap (ended pid) is)
statuses_stay k next (Begins hart regs pc asked is) = inr (λ pid. ap (ended pid) is ∙ begin_same hart regs pc asked k pid)
statuses_stay k next (Plans found is) = inr (λ pid. ap (ended pid) is ∙ plan_same found k pid)
statuses_stay k next (EndsJob word is) = inr (λ pid. ap (ended pid) is ∙ done_keeps_status word k pid)
statuses_stay k next (Finishes is) = inl is
