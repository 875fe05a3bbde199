-- No step of a call changes the configuration.
use Rattle.std.proofs.Common.{ℕ, ◌≡◌, Bool, true, false, Option, Some, None, List, slice_get, refl, ◌∙◌}
use Rattle.osc_word.specs.declared.calls.Call.{Call}
use Rattle.osc_word.specs.declared.calls.Call.TheVariants as calls
use Rattle.osc_word.specs.declared.calls.Answer.{Answer}
use Rattle.osc_word.specs.declared.calls.Request.{Request}
use Rattle.osc_space.specs.Header.{Found}
use Rattle.osc_calls.specs.declared.Begun.{Begun}
use Rattle.osc_calls.specs.declared.Begun.TheVariants as begun
use Rattle.osc_calls.specs.Kernel.{KernelState, Process, Calling, UnderWay, Quiet, Retrying, Leaving, Waiting, Returning, is_last, process_at}
use Rattle.osc_calls.specs.Planned.{Planned, planned_unless}
use Rattle.osc_calls.specs.ProcessPlans.{done_by, value_left}
use Rattle.osc_calls.specs.WritePlan.{write_by, write_count, first_unreadable}
use Rattle.osc_calls.specs.Requests.{calling_of, meant}
use Rattle.osc_calls.specs.Refusals.{refusal_of}
use Rattle.osc_calls.specs.ProcessPlans.{fork_done, spawn_done, share_done}
use Rattle.osc_calls.specs.Plan.{plan, plan_meant, plan_by, plan_waiting}
use Rattle.osc_calls.specs.Begin.{begin, begin_as, begin_call, begun_in, no_words}
use Rattle.osc_calls.specs.JobDone.{job_done}

unless_kept : (refusal : Option Answer) (k : KernelState) (made : Planned) → made.kernel.config ≡ k.config → (planned_unless refusal k made).kernel.config ≡ k.config
unless_kept None k made e = e
unless_kept (Some answer) k made e = refl

left_kept : (thread : Option ℕ) (value : ℕ) (k : KernelState) → (value_left thread value k).config ≡ k.config
left_kept None value k = refl
left_kept (Some number) value k = refl

done_kept : (last : Bool) (c : Calling) (k : KernelState) → (done_by last c k).kernel.config ≡ k.config
done_kept true c k = refl
done_kept false c k = refl

write_kept : (unread : Option ℕ) (p : Process) (buf count : ℕ) (k : KernelState) → (write_by unread p.space.tables buf count k).kernel.config ≡ k.config
write_kept None p buf count k = refl
write_kept (Some address) p buf count k = refl

meant_kept : (found : Found) (c : Calling) (p : Process) (k : KernelState) (call : Call) → (plan_meant found c p k call).kernel.config ≡ k.config
meant_kept found c p k (calls.Exit status) = refl
meant_kept found c p k (calls.Write buf len) = write_kept (first_unreadable p.space.tables buf (write_count k.output len)) p buf (write_count k.output len) k
meant_kept found c p k (calls.Malloc size) = refl
meant_kept found c p k (calls.Free pointer) = refl
meant_kept found c p k (calls.Realloc pointer size) = refl
meant_kept found c p k calls.Fork = unless_kept (refusal_of calls.Fork p k) k (fork_done c p k) refl
meant_kept found c p k (calls.Spawn pc sp arg) = unless_kept (refusal_of (calls.Spawn pc sp arg) p k) k (spawn_done c p pc sp arg k) refl
meant_kept found c p k (calls.Join number) = refl
meant_kept found c p k (calls.Done value) = done_kept (is_last k.records c.pid) c (value_left c.thread value k) ∙ left_kept c.thread value k
meant_kept found c p k (calls.Share count) = unless_kept (refusal_of (calls.Share count) p k) k (share_done c p count k) refl
meant_kept found c p k (calls.Wait number) = refl
meant_kept found c p k (calls.Unknown number) = refl
meant_kept found c p k (calls.End fault) = refl

plan_kept_in : (found : Found) (c : Calling) (p : Option Process) (k : KernelState) → (plan_by found c p k).kernel.config ≡ k.config
plan_kept_in found c None k = refl
plan_kept_in found c (Some p) k = meant_kept found c p k (meant c.call)

plan_kept_by : (found : Found) (u : UnderWay) (k : KernelState) → (plan_waiting found u k).kernel.config ≡ k.config
plan_kept_by found (Waiting c) k = plan_kept_in found c (process_at k c.pid) k
plan_kept_by found Quiet k = refl
plan_kept_by found Retrying k = refl
plan_kept_by found (Leaving hart) k = refl
plan_kept_by found (Returning done) k = refl

pub plan_kept : (found : Found) (k : KernelState) → (plan found k).kernel.config ≡ k.config
unfolding plan
plan_kept found k = plan_kept_by found k.under_way k

as_kept : (b : Begun) (c : Calling) (k : KernelState) → (begin_as b c k).kernel.config ≡ k.config
as_kept begun.Planned c k = plan_kept no_words (record k { under_way = Waiting c })
as_kept begun.Again c k = refl
as_kept begun.JournalFull c k = refl
as_kept begun.Gone c k = refl
as_kept begun.Boxes c k = refl
as_kept (begun.Header first second) c k = refl

call_kept : (hart : ℕ) (c : Option Calling) (k : KernelState) → (begin_call hart c k).kernel.config ≡ k.config
call_kept hart None k = refl
call_kept hart (Some c) k = as_kept (begun_in (process_at k c.pid) c k) c k

pub begin_kept : (hart : ℕ) (regs : List ℕ) (pc : ℕ) (request : Request) (k : KernelState) → (begin hart regs pc request k).kernel.config ≡ k.config
unfolding begin
begin_kept hart regs pc request k = call_kept hart (calling_of hart regs pc request (slice_get k.records hart)) k

pub done_kept_too : (word : ℕ) (k : KernelState) → (job_done word k).kernel.config ≡ k.config
unfolding job_done
done_kept_too word k = refl
