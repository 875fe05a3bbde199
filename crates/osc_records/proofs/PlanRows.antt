-- What the plan of each call does to the records, to the settings of threads and to the boxes.
use Rattle.std.proofs.Common.{ℕ, ◌≡◌, ◌≢◌, ◌%◌, ◌==◌, nat_le, not, Bool, true, false, Option, Some, None, is_none, is_some, List, [], ◌∷◌, ◌++◌, length, map, slice_get, slice_set, arith, refl, sym, ap, subst, ◌∙◌}
use Rattle.std.specs.Prelude.{unwrap_or}
use Rattle.std.proofs.lemmas.Bool.Decides.{nat_tests}
use Rattle.osc_word.specs.declared.orders.Start.{Start}
use Rattle.osc_word.specs.declared.job_list.Job.TheVariants.{Tell}
use Rattle.osc_word.specs.declared.job_list.Job.{Job}
use Rattle.osc_word.specs.declared.calls.Answer.{Answer}
use Rattle.osc_word.specs.declared.calls.Answer.TheVariants as answers
use Rattle.osc_word.specs.declared.calls.Call.{Call}
use Rattle.osc_word.specs.declared.calls.Call.TheVariants as calls
use Rattle.osc_paging.specs.KeptTables.{KeptTables, piece_of}
use Rattle.osc_space.specs.Header.{Found}
use Rattle.osc_space.specs.Space.{Space, Outcome, Closing, Keeps, GivesBack}
use Rattle.osc_space.specs.Fork.{copy_by, copy_job, copies, fork_reasons, fork_plan}
use Rattle.osc_space.specs.Share.{share_plan}
use Rattle.osc_calls.specs.declared.HartRecord.TheVariants.{Idle, Runs}
use Rattle.osc_calls.specs.Kernel.{KernelState, Process, Calling, Effect, Nothing, Clears, Starts, Ends, process_at, root_frame, root_in, root, idle_hart, is_last}
use Rattle.osc_calls.specs.Begin.{first_step, boxes_where}
use Rattle.osc_calls.specs.HeapPlans.{terms_of}
use Rattle.osc_calls.specs.Refusals.{draft_of, sharing_of, refusal_of}
use Rattle.osc_calls.specs.Planned.{Planned, answered, planned_unless, outcome_planned, closing_effect}
use Rattle.osc_calls.specs.WritePlan.{write_by, first_unreadable, write_count}
use Rattle.osc_calls.specs.ProcessPlans.{records_ended, process_ends, done_by, value_left, new_hart, child_process, fork_done, spawn_done, share_done}
use Rattle.osc_calls.specs.Threads.{has_room, new_number}
use Rattle.osc_calls.specs.Plan.{plan_meant}
use Rattle.osc_settled.proofs.Lists.{get-put_same, get-put_other}
use Rattle.osc_settled.proofs.Spawning.{idle_there, get-more}
use Rattle.osc_settled.proofs.Forking.{none_of}
use Rattle.osc_records.specs.Agreeing.{is_due, takes_boxes}
use Rattle.osc_records.proofs.Tops.{HasTop, malloc_by-top, free_of-top, realloc_by-top, share-top}

-- an effect on no order
abbrev pub IsCalm : Effect → Type 0
IsCalm Nothing = Unit {0}
IsCalm Clears = Unit {0}
IsCalm _ = ⊥

-- what a plan does to the records, `boxes` tells whether its call takes all boxes
pub data PlanDoes (boxes : Bool) (k : KernelState) (c : Calling) (made : Planned) : Type 0 where
  Calm : IsCalm made.effect → made.kernel.records ≡ k.records → PlanDoes boxes k c made
  EndsThread : made.effect ≡ Nothing → made.kernel.records ≡ slice_set k.records c.hart Idle → PlanDoes boxes k c made
  Spawns : (hart : ℕ) (start : Start) (number : Option ℕ) → made.effect ≡ Starts hart start → slice_get k.records hart ≡ Some Idle
      → made.kernel.records ≡ slice_set k.records hart (Runs start.pid number) → made.kernel.jobs ≡ Tell hart ∷ [] → PlanDoes boxes k c made
  Forks : (hart : ℕ) (start : Start) (number : Option ℕ) → boxes ≡ true → made.effect ≡ Starts hart start → slice_get k.records hart ≡ Some Idle
      → made.kernel.records ≡ slice_set k.records hart (Runs start.pid number) → ((n : ℕ) → is_due n made.kernel.jobs ≡ false) → PlanDoes boxes k c made
  EndsProcess : (status : ℕ) → boxes ≡ true → made.effect ≡ Ends status → made.answer ≡ answers.Ended
      → made.kernel.records ≡ records_ended c.hart c.pid k.records → made.kernel.jobs ≡ [] → PlanDoes boxes k c made

-- and it leaves the configuration, and the settings of the threads of each process that there was
pub record PlanSays (boxes : Bool) (k : KernelState) (c : Calling) (made : Planned) : Type 0 where
  pub config : made.kernel.config ≡ k.config
  pub tops : (pid : ℕ) (q : Process) → process_at k pid ≡ Some q → root made.kernel pid ≡ root k pid
  pub does : PlanDoes boxes k c made

-- ---- the topmost tables of all processes
pub top-frame : (f : ℕ) (s : Space) → HasTop f s.tables → root_frame s ≡ f
top-frame f s h = ap (λ o. unwrap_or o 0) h.root

pub put-top : (f pid at : ℕ) (processes : List Process) (p new : Process) → slice_get processes pid ≡ Some p → HasTop f p.space.tables → HasTop f new.space.tables
    → root_in (slice_get (slice_set processes pid new) at) ≡ root_in (slice_get processes at)
put-top f pid at processes p new e was now = go (pid == at) refl
  where
    go : (b : Bool) → (pid == at) ≡ b → root_in (slice_get (slice_set processes pid new) at) ≡ root_in (slice_get processes at)
    go true d =
        let same : pid ≡ at = grind (arith, nat_tests, d) in
        subst (λ z. root_in (slice_get (slice_set processes pid new) z) ≡ root_in (slice_get processes z)) same
        (ap root_in (get-put_same processes pid p new e) ∙ top-frame f new.space now ∙ sym (top-frame f p.space was) ∙ sym (ap root_in e))
    go false d =
        let other : pid ≢ at = grind (arith, nat_tests, d) in ap root_in (get-put_other processes pid at new other)

-- ---- calls on memory
calm-closing : (closing : Closing) → IsCalm (closing_effect closing)
calm-closing Keeps = tt
calm-closing (GivesBack blocks) = tt

outcome-says : (f : ℕ) (boxes : Bool) (k : KernelState) (c : Calling) (p : Process) (o : Outcome) → process_at k c.pid ≡ Some p → HasTop f p.space.tables → HasTop f o.draft.space.tables
    → PlanSays boxes k c (outcome_planned c.pid p k o)
outcome-says f boxes k c p o e was now = record {
  config = refl;
  tops = λ pid q there. put-top f c.pid pid k.processes p (record p { space = o.draft.space }) e was now;
  does = Calm (calm-closing o.closing) refl;
}

answered-says : (boxes : Bool) (k : KernelState) (c : Calling) (a : Answer) → PlanSays boxes k c (answered a k)
answered-says boxes k c a = record { config = refl; tops = λ pid q there. refl; does = Calm tt refl }

write-says : (boxes : Bool) (k : KernelState) (c : Calling) (bad : Option ℕ) (t : KeptTables) (buf count : ℕ) → PlanSays boxes k c (write_by bad t buf count k)
write-says boxes k c (Some address) t buf count = answered-says boxes k c (answers.BadBuffer address)
write-says boxes k c None t buf count = record { config = refl; tops = λ pid q there. refl; does = Calm tt refl }

-- ---- ends
ends-says : (k kernel : KernelState) (c : Calling) (status : ℕ) → kernel.config ≡ k.config → kernel.processes ≡ k.processes → kernel.records ≡ k.records → kernel.jobs ≡ []
    → PlanSays true k c (process_ends c status kernel)
ends-says k kernel c status config processes records jobs = record {
  config = config;
  tops = λ pid q there. ap (λ ps. root_in (slice_get ps pid)) processes;
  does = EndsProcess status refl refl refl (ap (records_ended c.hart c.pid) records) jobs;
}

done-says : (last : Bool) (thread : Option ℕ) (value : ℕ) (k : KernelState) (c : Calling) → k.jobs ≡ [] → PlanSays (takes_boxes (boxes_where last)) k c (done_by last c (value_left thread value k))
done-says true None value k c jobs = ends-says k k c 0 refl refl refl jobs
done-says true (Some number) value k c jobs = ends-says k (value_left (Some number) value k) c 0 refl refl refl jobs
done-says false None value k c jobs = record { config = refl; tops = λ pid q there. refl; does = EndsThread refl refl }
done-says false (Some number) value k c jobs = record { config = refl; tops = λ pid q there. refl; does = EndsThread refl refl }

-- ---- beginnings
some-hart : (o : Option ℕ) → is_none o ≡ false → o ≡ Some (unwrap_or o 0)
some-hart None e = absurd (let b : ⊥ = grind (arith, e) in b)
some-hart (Some hart) e = refl

copy-nothing : (b : Bool) (c : ℕ × ℕ) (jobs : List Job) (n : ℕ) → is_due n jobs ≡ false → is_due n (copy_by b c ∷ jobs) ≡ false
copy-nothing true c jobs n e = e
copy-nothing false c jobs n e = e

copies-nothing : (t : KeptTables) (pairs : List (ℕ × ℕ)) (n : ℕ) → is_due n (map (copy_job t) pairs) ≡ false
copies-nothing t [] n = refl
copies-nothing t (c ∷ pairs) n = copy-nothing (is_some (piece_of t.tables c.0)) c (map (copy_job t) pairs) n (copies-nothing t pairs n)

fork-says : (r : Option Answer) (k : KernelState) (c : Calling) (p : Process) → refusal_of calls.Fork p k ≡ r → k.jobs ≡ []
    → PlanSays (takes_boxes (boxes_where (is_none r))) k c (planned_unless r k (fork_done c p k))
unfolding fork_plan
fork-says (Some answer) k c p e jobs = answered-says false k c answer
fork-says None k c p e jobs =
    let n = none_of (is_none (idle_hart k.records)) (nat_le k.config.processes (length k.processes)) answers.NoHart answers.NoProcess (fork_reasons p.space k.free) e in record {
      config = refl;
      tops = λ pid q there. (let more = get-more k.processes (child_process c.pid (fork_plan p.space k.free).child ∷ []) pid q there in ap root_in (more ∙ sym there));
      does = Forks (new_hart k) _ None refl refl (idle_there k.records (new_hart k) (some-hart (idle_hart k.records) n.0)) refl
          (λ m. ap (λ js. is_due m (js ++ (fork_plan p.space k.free).jobs)) jobs ∙ copies-nothing p.space.tables (copies p.space k.free) m);
    }

spawn-says : (boxes : Bool) (r : Option Answer) (pc sp arg : ℕ) (k : KernelState) (c : Calling) (p : Process) → refusal_of (calls.Spawn pc sp arg) p k ≡ r → k.jobs ≡ []
    → PlanSays boxes k c (planned_unless r k (spawn_done c p pc sp arg k))
spawn-says boxes (Some answer) pc sp arg k c p e jobs = answered-says boxes k c answer
spawn-says boxes None pc sp arg k c p e jobs =
    let n = none_of (is_none (idle_hart k.records)) (not (has_room k.threads)) answers.NoHart answers.NoThread [] e in record {
      config = refl;
      tops = λ pid q there. refl;
      does = Spawns (new_hart k) _ (Some (new_number k.threads)) refl (idle_there k.records (new_hart k) (some-hart (idle_hart k.records) n.0)) refl (ap (λ js. js ++ Tell (new_hart k) ∷ []) jobs);
    }

share-says : (f count : ℕ) (boxes : Bool) (r : Option Answer) (k : KernelState) (c : Calling) (p : Process) → process_at k c.pid ≡ Some p → HasTop f p.space.tables
    → PlanSays boxes k c (planned_unless r k (share_done c p count k))
share-says f count boxes (Some answer) k c p e was = answered-says boxes k c answer
share-says f count boxes None k c p e was = record {
  config = refl;
  tops = λ pid q there. put-top f c.pid pid k.processes p (record p { space = record (p.space) { tables = (share_plan count (sharing_of k p)).tables } }) e was (share-top f count (sharing_of k p) was);
  does = Calm tt refl;
}

-- ---- each call
pub plan-says : (f : ℕ) (k : KernelState) (c : Calling) (p : Process) (found : Found) (call : Call) → process_at k c.pid ≡ Some p → HasTop f p.space.tables → k.jobs ≡ []
    → PlanSays (takes_boxes (first_step c p k call)) k c (plan_meant found c p k call)
plan-says f k c p found (calls.Exit status) e was jobs = ends-says k k c (status % 64) refl refl refl jobs
plan-says f k c p found (calls.Write buf len) e was jobs =
    write-says true k c (first_unreadable p.space.tables buf (write_count k.output len)) p.space.tables buf (write_count k.output len)
plan-says f k c p found (calls.Malloc size) e was jobs = outcome-says f false k c p _ e was (malloc_by-top f k.config.heap size (draft_of k p) was)
plan-says f k c p found (calls.Free pointer) e was jobs =
    outcome-says f _ k c p _ e was (free_of-top f k.config.heap (terms_of k) pointer found (draft_of k p) was)
plan-says f k c p found (calls.Realloc pointer size) e was jobs =
    outcome-says f _ k c p _ e was (realloc_by-top f k.config.heap (terms_of k) pointer size found (draft_of k p) was)
plan-says f k c p found calls.Fork e was jobs = fork-says (refusal_of calls.Fork p k) k c p refl jobs
plan-says f k c p found (calls.Spawn pc sp arg) e was jobs = spawn-says false (refusal_of (calls.Spawn pc sp arg) p k) pc sp arg k c p refl jobs
plan-says f k c p found (calls.Join number) e was jobs = answered-says false k c _
plan-says f k c p found (calls.Done value) e was jobs = done-says (is_last k.records c.pid) c.thread value k c jobs
plan-says f k c p found (calls.Share count) e was jobs = share-says f count _ (refusal_of (calls.Share count) p k) k c p e was
plan-says f k c p found (calls.Wait number) e was jobs = answered-says false k c _
plan-says f k c p found (calls.Unknown number) e was jobs = answered-says false k c _
plan-says f k c p found (calls.End fault) e was jobs = ends-says k _ c _ refl refl refl jobs
