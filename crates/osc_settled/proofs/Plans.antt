-- Each call's plan keeps what holds, by cases on the call.
use Rattle.std.proofs.Common.{ℕ, ◌≡◌, Option, Some, None, List, [], ◌∷◌, ◌++◌, arith, refl, ap, sym, ◌∙◌, subst, ◌%◌, unwrap_or}
use Rattle.osc_word.specs.declared.calls.Call.{Call}
use Rattle.osc_word.specs.declared.calls.Call.TheVariants as calls
use Rattle.osc_word.specs.declared.calls.Answer.TheVariants as answers
use Rattle.osc_word.specs.Environment.{fault_status}
use Rattle.osc_space.specs.Header.{Found}
use Rattle.osc_calls.specs.Threads.{join_look}
use Rattle.osc_calls.specs.Kernel.{KernelState, Process, Calling, process_at, is_last}
use Rattle.osc_calls.specs.Reports.{report_of}
use Rattle.osc_calls.specs.Requests.{meant, wait_look, join_answer, wait_answer}
use Rattle.osc_calls.specs.Plan.{plan_meant, plan_of, plan_by, plan_waiting, plan}
use Rattle.osc_settled.specs.Records.{is_living}
use Rattle.osc_settled.specs.KernelFits.{KernelFits}
use Rattle.osc_settled.specs.KeepLaws.{PlansKeep}
use Rattle.osc_settled.proofs.Commits.{Owed, commits}
use Rattle.osc_settled.proofs.Outcomes.{Asks, asks, caller_lives}
use Rattle.osc_settled.proofs.Answering.{answered_owed, join_no_end, wait_no_end, malloc_owed, free_owed, realloc_owed}
use Rattle.osc_settled.proofs.Ending.{threads_stay, ends_owed, done_owed}
use Rattle.osc_settled.proofs.Spawning.{spawn_owed}
use Rattle.osc_settled.proofs.Forking.{fork_owed}
use Rattle.osc_settled.proofs.Sharing.{share_owed}
use Rattle.osc_settled.proofs.Writing.{write_owed}

pub row : (words : List ℕ) (found : Found) (c : Calling) (p : Process) (k : KernelState) (call : Call)
    → Asks words k c → process_at k c.pid ≡ Some p → Owed words c (plan_meant found c p k call)
row words found c p k (calls.Exit status) a e =
    ends_owed words k c (status % 64) k.threads k.reports a (threads_stay k.processes k.threads k.records None c.hart a.records) refl
row words found c p k (calls.Write buf len) a e = write_owed words k c p buf len a
row words found c p k (calls.Malloc size) a e = malloc_owed words k c p size a e
row words found c p k (calls.Free pointer) a e = free_owed words k c p pointer found a e
row words found c p k (calls.Realloc pointer size) a e = realloc_owed words k c p pointer size found a e
row words found c p k calls.Fork a e = fork_owed words k c p a e
row words found c p k (calls.Spawn pc sp arg) a e = spawn_owed words k c p pc sp arg a e
row words found c p k (calls.Join number) a e =
    answered_owed words k c (unwrap_or (join_answer (join_look k.threads c.pid number)) answers.Unknown) a (join_no_end (join_look k.threads c.pid number))
row words found c p k (calls.Done value) a e = done_owed words k c value (is_last k.records c.pid) refl a
row words found c p k (calls.Share count) a e = share_owed words k c p count a e
row words found c p k (calls.Wait number) a e =
    answered_owed words k c (unwrap_or (wait_answer (wait_look k c.pid number)) answers.Unknown) a (wait_no_end (wait_look k c.pid number))
row words found c p k (calls.Unknown number) a e = answered_owed words k c answers.Unknown a refl
row words found c p k (calls.End fault) a e =
    ends_owed words k c fault_status k.threads (k.reports ++ report_of c.pid c.hart p.space.objects fault ∷ []) a (threads_stay k.processes k.threads k.records None c.hart a.records) refl

-- the call that waits commits
by_process : (words : List ℕ) (found : Found) (k : KernelState) (c : Calling) (o : Option Process) → Asks words k c → process_at k c.pid ≡ o
    → KernelFits words (plan_by found c o k).kernel
by_process words found k c None a e = absurd (let z = sym (caller_lives words k c a) ∙ ap is_living e in let w : ⊥ = grind (arith, z) in w)
by_process words found k c (Some p) a e = commits words c (plan_of found c p k) (row words found c p k (meant c.call) a e)

pub plans_keep : PlansKeep
unfolding plan
plans_keep words found k c f u =
    subst (λ x. KernelFits words (plan_waiting found x k).kernel) (sym u)
    (by_process words found k c (process_at k c.pid) (asks words k c f u) refl)
