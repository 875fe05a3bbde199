-- Each call's plan: one change of the kernel, with which the call commits. This project's own.
use Rattle.std.specs.Prelude.{max, [], ◌∷◌, ◌++◌, length, Option, Some, None, unwrap_or}
use Rattle.osc_word.specs.declared.calls.Call.{Call}
use Rattle.osc_word.specs.declared.calls.Call.TheVariants as calls
use Rattle.osc_word.specs.declared.calls.Answer.{Answer}
use Rattle.osc_word.specs.declared.calls.Answer.TheVariants as answers
use Rattle.osc_word.specs.declared.calls.Entry.{Entry}
use Rattle.osc_space.specs.Header.{Found}
use Rattle.osc_calls.specs.Threads.{join_look}
use Rattle.osc_calls.specs.Kernel.{KernelState, Process, Calling, UnderWay, Waiting, Returning, Shown, process_at, in_use}
use Rattle.osc_calls.specs.Requests.{meant, wait_look, join_answer, wait_answer}
use Rattle.osc_calls.specs.Refusals.{draft_of, refusal_of}
use Rattle.osc_calls.specs.Labels.{plan_shows}
use Rattle.osc_calls.specs.Planned.{Planned, answered, planned_unless, outcome_planned}
use Rattle.osc_calls.specs.HeapPlans.{terms_of, malloc_by, free_of, realloc_by}
use Rattle.osc_calls.specs.WritePlan.{write_plan}
use Rattle.osc_calls.specs.ProcessPlans.{exit_plan, end_plan, done_plan, fork_done, spawn_done, share_done}

-- ---- the plans
abbrev pub plan_meant : Found → Calling → Process → KernelState → Call → Planned
plan_meant found c p kernel (calls.Exit status) = exit_plan c status kernel
plan_meant found c p kernel (calls.Write buf len) = write_plan p buf len kernel
plan_meant found c p kernel (calls.Malloc size) =
    outcome_planned c.pid p kernel (malloc_by kernel.config.heap size (draft_of kernel p))
plan_meant found c p kernel (calls.Free pointer) =
    outcome_planned c.pid p kernel (free_of kernel.config.heap (terms_of kernel) pointer found (draft_of kernel p))
plan_meant found c p kernel (calls.Realloc pointer size) =
    outcome_planned c.pid p kernel (realloc_by kernel.config.heap (terms_of kernel) pointer size found (draft_of kernel p))
plan_meant found c p kernel calls.Fork =
    planned_unless (refusal_of calls.Fork p kernel) kernel (fork_done c p kernel)
plan_meant found c p kernel (calls.Spawn pc sp arg) =
    planned_unless (refusal_of (calls.Spawn pc sp arg) p kernel) kernel (spawn_done c p pc sp arg kernel)
plan_meant found c p kernel (calls.Join number) =
    answered (unwrap_or (join_answer (join_look kernel.threads c.pid number)) answers.Unknown) kernel
plan_meant found c p kernel (calls.Done value) = done_plan c value kernel
plan_meant found c p kernel (calls.Share count) =
    planned_unless (refusal_of (calls.Share count) p kernel) kernel (share_done c p count kernel)
plan_meant found c p kernel (calls.Wait number) =
    answered (unwrap_or (wait_answer (wait_look kernel c.pid number)) answers.Unknown) kernel
plan_meant found c p kernel (calls.Unknown number) = answered answers.Unknown kernel
plan_meant found c p kernel (calls.End fault) = end_plan c fault p kernel

abbrev pub plan_of : Found → Calling → Process → KernelState → Planned
plan_of found c p kernel = plan_meant found c p kernel (meant c.call)

-- ---- the commit
abbrev pub journal_entry : Calling → Answer → Entry
journal_entry c answer = record { pid = c.pid; hart = c.hart; call = c.call; answer = answer }

-- the call is entered in the journal
abbrev pub committed : Calling → Planned → KernelState
committed c made = record (made.kernel) {
  journal = made.kernel.journal ++ journal_entry c made.answer ∷ [];
  under_way = Returning (record { calling = c; answer = made.answer; effect = made.effect; closing = made.closing });
  peak = max made.kernel.peak (in_use made.kernel.free);
}

abbrev pub commit_shown : Calling → Planned → Shown
commit_shown c made =
    record { kernel = committed c made; shows = plan_shows c (length made.kernel.journal) made.answer made.effect }

abbrev pub plan_by : Found → Calling → Option Process → KernelState → Shown
plan_by found c None kernel = record { kernel = kernel; shows = [] }
plan_by found c (Some p) kernel = commit_shown c (plan_of found c p kernel)

abbrev pub plan_waiting : Found → UnderWay → KernelState → Shown
plan_waiting found (Waiting c) kernel = plan_by found c (process_at kernel c.pid) kernel
plan_waiting found _ kernel = record { kernel = kernel; shows = [] }

-- the call that waits for all boxes, or for the two words of a header, commits
unfoldable pub plan : Found → KernelState → Shown
plan found kernel = plan_waiting found kernel.under_way kernel
