-- Each step of the kernel keeps that the pages that were granted are those that the journal tells, and so it is all along each run.
use Rattle.std.proofs.Common.{ℕ, zero, suc, ◌+◌, ◌-◌, ◌≡◌, ◌≢◌, ◌≤◌, ◌==◌, ◌⊎◌, inl, inr, Bool, true, false, cond, Option, Some, None, List, [], ◌∷◌, ◌++◌, length, slice_get, slice_set, sum_by, arith, refl, sym, ap, subst, ◌∙◌}
use Rattle.std.proofs.lemmas.Bool.Decides.{nat_tests}
use Rattle.std.proofs.lemmas.List.Sums.{sum_by_push}
use Rattle.osc_word.specs.declared.settings.Config.{Config}
use Rattle.osc_word.specs.declared.calls.Answer.{Answer}
use Rattle.osc_word.specs.declared.calls.Call.{Call}
use Rattle.osc_word.specs.declared.calls.Call.TheVariants as calls
use Rattle.osc_word.specs.declared.calls.Request.{Request}
use Rattle.osc_image.specs.Image.{Image}
use Rattle.osc_paging.specs.KeptTables.{KeptTables}
use Rattle.osc_space.specs.Objects.{mark}
use Rattle.osc_space.specs.Header.{Found}
use Rattle.osc_space.specs.Space.{Outcome}
use Rattle.osc_space.specs.Fork.{fork_plan}
use Rattle.osc_space.specs.Share.{share_plan}
use Rattle.osc_space.specs.Finish.{ended, finished}
use Rattle.osc_calls.specs.declared.Begun.{Begun}
use Rattle.osc_calls.specs.declared.Begun.TheVariants as begun
use Rattle.osc_calls.specs.declared.HartRecord.{HartRecord}
use Rattle.osc_calls.specs.Kernel.{KernelState, Process, Calling, Committed, Effect, Nothing, Clears, Starts, Ends, UnderWay, Quiet, Retrying, Leaving, Waiting, Returning, process_at, is_last}
use Rattle.osc_calls.specs.Requests.{calling_of, meant}
use Rattle.osc_calls.specs.Refusals.{draft_of, sharing_of, refusal_of}
use Rattle.osc_calls.specs.HeapPlans.{terms_of, malloc_by, free_of, realloc_by}
use Rattle.osc_calls.specs.Planned.{Planned, planned_unless, outcome_planned}
use Rattle.osc_calls.specs.WritePlan.{write_by, first_unreadable, write_count}
use Rattle.osc_calls.specs.ProcessPlans.{child_process, done_by, value_left, fork_done, spawn_done, share_done}
use Rattle.osc_calls.specs.Plan.{plan_of, plan_meant, journal_entry, committed, plan_by, plan_waiting, plan}
use Rattle.osc_calls.specs.Begin.{no_words, begun_in, begin_as, begin_call, begin}
use Rattle.osc_calls.specs.JobDone.{job_done}
use Rattle.osc_calls.specs.Finish.{hart_left, settled, returned, finish_by, finish}
use Rattle.osc_calls.specs.Open.{open_kernel}
use Rattle.osc_settled.proofs.Lists.{get-put_same, get-put_other, sum-put, some_same}
use Rattle.osc_settled.proofs.Spawning.{get-either}
use Rattle.osc_machine.specs.Parts.{State}
use Rattle.osc_machine.specs.Step.{step}
use Rattle.osc_machine.specs.Run.{Ran, with_step, run_on}
use Rattle.osc_machine.specs.Start.{start_of}
use Rattle.osc_machine.specs.Laws.{HasKernel}
use Rattle.osc_machine.proofs.KernelLaws.{start_has_kernel}
use Rattle.osc_safe.specs.KernelSteps.{Kept, Begins, Plans, EndsJob, Finishes}
use Rattle.osc_safe.proofs.HoldingSteps.{steps_hold}
use Rattle.osc_safe.proofs.KernelRows.{kernels_step}
use Rattle.osc_safe.proofs.StandingSteps.{steps_stand}
use Rattle.osc_safe.proofs.StandingRuns.{Both, first_ran, started-both}
use Rattle.osc_granted.specs.Granted.{pages_for, pages_granted, granted_told, GrantedFit, StartsFitGranted, StepsKeepGranted, RunsFitGranted, RunsTellGranted}
use Rattle.osc_granted.proofs.Grants.{malloc-raises, null-raises, free-raises, realloc-raises, finished-keeps}

-- ---- lists of processes
-- what a process granted itself
abbrev own : Process → ℕ
own p = mark p.space.objects - p.inherited

abbrev AllInherit : List Process → Type 0
AllInherit processes = (pid : ℕ) (p : Process) → slice_get processes pid ≡ Some p → p.inherited ≤ mark p.space.objects

-- processes that have granted themselves so many pages more
record More (pages : ℕ) (old new : List Process) : Type 0 where
  sum : sum_by own new ≡ sum_by own old + pages
  inherit : AllInherit new

same-more : (old new : List Process) → new ≡ old → AllInherit old → More 0 old new
same-more old new e all = record { sum = (let s = ap (sum_by own) e in omega (arith, s)); inherit = subst AllInherit (sym e) all }

-- the mark of one of them has grown
put-more : (pages pid : ℕ) (processes : List Process) (p new : Process) → slice_get processes pid ≡ Some p → new.inherited ≡ p.inherited
    → mark new.space.objects ≡ mark p.space.objects + pages → AllInherit processes → More pages processes (slice_set processes pid new)
put-more pages pid processes p new here inherited grown all = record { sum = sum; inherit = inherit }
  where
    enough : p.inherited ≤ mark p.space.objects
    enough = all pid p here

    sum : sum_by own (slice_set processes pid new) ≡ sum_by own processes + pages
    sum = let put = sum-put own processes pid p new here in let l = enough in omega (arith, put, l, inherited, grown)

    inherit : AllInherit (slice_set processes pid new)
    inherit at q there = go (pid == at) refl
      where
        go : (b : Bool) → (pid == at) ≡ b → q.inherited ≤ mark q.space.objects
        go true d =
            let is : pid ≡ at = grind (arith, nat_tests, d) in
            let it : new ≡ q = some_same new q (sym (get-put_same processes pid p new here) ∙ ap (slice_get (slice_set processes pid new)) is ∙ there) in
            subst (λ (x : Process). x.inherited ≤ mark x.space.objects) it (let l = enough in omega (arith, l, inherited, grown))
        go false d =
            let other : pid ≢ at = grind (arith, nat_tests, d) in all at q (sym (get-put_other processes pid at new other) ∙ there)

-- a child that has granted itself nothing is one more
child-more : (processes : List Process) (new : Process) → new.inherited ≡ mark new.space.objects → AllInherit processes → More 0 processes (processes ++ new ∷ [])
child-more processes new e all = record {
  sum = (let s = sum_by_push own processes new in omega (arith, s, e));
  inherit = λ pid q there. either pid q (get-either processes new pid q there);
}
  where
    either : (pid : ℕ) (q : Process) → (slice_get processes pid ≡ Some q) ⊎ ((pid ≡ length processes) × (new ≡ q)) → q.inherited ≤ mark q.space.objects
    either pid q (inl g) = all pid q g
    either pid q (inr g) = subst (λ (x : Process). x.inherited ≤ mark x.space.objects) g.1 (omega (arith, e))

-- ---- plans
-- the journal is as before, and the processes have granted themselves what the entry tells
record MadeFit (k : KernelState) (call : Call) (made : Planned) : Type 0 where
  journal : made.kernel.journal ≡ k.journal
  more : More (pages_for call made.answer) k.processes made.kernel.processes

module _ (k : KernelState) (all : AllInherit k.processes) where
  same-fit : (call : Call) (made : Planned) → made.kernel.journal ≡ k.journal → made.kernel.processes ≡ k.processes → pages_for call made.answer ≡ 0 → MadeFit k call made
  same-fit call made journal processes none = record {
    journal = journal;
    more = subst (λ pages. More pages k.processes made.kernel.processes) (sym none) (same-more k.processes made.kernel.processes processes all);
  }

  write-fit : (bad : Option ℕ) (t : KeptTables) (buf len count : ℕ) → MadeFit k (calls.Write buf len) (write_by bad t buf count k)
  write-fit (Some address) t buf len count = same-fit (calls.Write buf len) (write_by (Some address) t buf count k) refl refl refl
  write-fit None t buf len count = same-fit (calls.Write buf len) (write_by None t buf count k) refl refl refl

  done-fit : (last : Bool) (thread : Option ℕ) (value : ℕ) (c : Calling) → MadeFit k (calls.Done value) (done_by last c (value_left thread value k))
  done-fit true None value c = same-fit (calls.Done value) (done_by true c (value_left None value k)) refl refl refl
  done-fit true (Some number) value c = same-fit (calls.Done value) (done_by true c (value_left (Some number) value k)) refl refl refl
  done-fit false None value c = same-fit (calls.Done value) (done_by false c (value_left None value k)) refl refl refl
  done-fit false (Some number) value c = same-fit (calls.Done value) (done_by false c (value_left (Some number) value k)) refl refl refl

  module _ (c : Calling) (p : Process) (here : process_at k c.pid ≡ Some p) where
    outcome-fit : (call : Call) (o : Outcome) → mark o.draft.space.objects ≡ mark p.space.objects + pages_for call o.answer → MadeFit k call (outcome_planned c.pid p k o)
    outcome-fit call o grown = record {
      journal = refl;
      more = put-more (pages_for call o.answer) c.pid k.processes p (record p { space = o.draft.space }) here refl grown all;
    }

    fork-fit : (r : Option Answer) → MadeFit k calls.Fork (planned_unless r k (fork_done c p k))
    fork-fit (Some answer) = same-fit calls.Fork (planned_unless (Some answer) k (fork_done c p k)) refl refl refl
    fork-fit None = record { journal = refl; more = child-more k.processes (child_process c.pid (fork_plan p.space k.free).child) refl all }

    spawn-fit : (r : Option Answer) (pc sp arg : ℕ) → MadeFit k (calls.Spawn pc sp arg) (planned_unless r k (spawn_done c p pc sp arg k))
    spawn-fit (Some answer) pc sp arg = same-fit (calls.Spawn pc sp arg) (planned_unless (Some answer) k (spawn_done c p pc sp arg k)) refl refl refl
    spawn-fit None pc sp arg = same-fit (calls.Spawn pc sp arg) (planned_unless None k (spawn_done c p pc sp arg k)) refl refl refl

    share-fit : (r : Option Answer) (count : ℕ) → MadeFit k (calls.Share count) (planned_unless r k (share_done c p count k))
    share-fit (Some answer) count = same-fit (calls.Share count) (planned_unless (Some answer) k (share_done c p count k)) refl refl refl
    share-fit None count = record {
      journal = refl;
      more = put-more 0 c.pid k.processes p (record p { space = record (p.space) { tables = (share_plan count (sharing_of k p)).tables } }) here refl (omega arith) all;
    }

    realloc-fit : (found : Found) (pointer size : ℕ) (null : Bool) → MadeFit k (calls.Realloc pointer size) (plan_meant found c p k (cond null (calls.Malloc size) (calls.Realloc pointer size)))
    realloc-fit found pointer size true =
        outcome-fit (calls.Realloc pointer size) (malloc_by k.config.heap size (draft_of k p)) (null-raises k.config.heap pointer size (draft_of k p))
    realloc-fit found pointer size false =
        outcome-fit (calls.Realloc pointer size) (realloc_by k.config.heap (terms_of k) pointer size found (draft_of k p)) (realloc-raises k.config.heap (terms_of k) pointer size found (draft_of k p))

    plan-fit : (found : Found) (call : Call) → MadeFit k call (plan_meant found c p k (meant call))
    plan-fit found (calls.Exit status) = same-fit (calls.Exit status) (plan_meant found c p k (calls.Exit status)) refl refl refl
    plan-fit found (calls.Write buf len) = write-fit (first_unreadable p.space.tables buf (write_count k.output len)) p.space.tables buf len (write_count k.output len)
    plan-fit found (calls.Malloc size) = outcome-fit (calls.Malloc size) (malloc_by k.config.heap size (draft_of k p)) (malloc-raises k.config.heap size (draft_of k p))
    plan-fit found (calls.Free pointer) =
        outcome-fit (calls.Free pointer) (free_of k.config.heap (terms_of k) pointer found (draft_of k p)) (free-raises k.config.heap (terms_of k) pointer found (draft_of k p))
    plan-fit found (calls.Realloc pointer size) = realloc-fit found pointer size (pointer == 0)
    plan-fit found calls.Fork = fork-fit (refusal_of calls.Fork p k)
    plan-fit found (calls.Spawn pc sp arg) = spawn-fit (refusal_of (calls.Spawn pc sp arg) p k) pc sp arg
    plan-fit found (calls.Join number) = same-fit (calls.Join number) (plan_meant found c p k (calls.Join number)) refl refl refl
    plan-fit found (calls.Done value) = done-fit (is_last k.records c.pid) c.thread value c
    plan-fit found (calls.Share count) = share-fit (refusal_of (calls.Share count) p k) count
    plan-fit found (calls.Wait number) = same-fit (calls.Wait number) (plan_meant found c p k (calls.Wait number)) refl refl refl
    plan-fit found (calls.Unknown number) = same-fit (calls.Unknown number) (plan_meant found c p k (calls.Unknown number)) refl refl refl
    plan-fit found (calls.End fault) = same-fit (calls.End fault) (plan_meant found c p k (calls.End fault)) refl refl refl

-- ---- the commit
commit-fit : (k : KernelState) (c : Calling) (made : Planned) → MadeFit k c.call made → GrantedFit k → GrantedFit (committed c made)
commit-fit k c made fit f = record {
  inherited = fit.more.inherit;
  told =
      let sum = fit.more.sum in
      let journal = ap granted_told fit.journal in
      let entry = sum_by_push pages_granted made.kernel.journal (journal_entry c made.answer) in
      let was = f.told in omega (arith, sum, journal, entry, was);
}

planned-by : (found : Found) (c : Calling) (o : Option Process) (k : KernelState) → process_at k c.pid ≡ o → GrantedFit k → GrantedFit (plan_by found c o k).kernel
planned-by found c None k here f = f
planned-by found c (Some p) k here f = commit-fit k c (plan_of found c p k) (plan-fit k f.inherited c p here found c.call) f

planned-fit : (found : Found) (k : KernelState) → GrantedFit k → GrantedFit (plan found k).kernel
unfolding plan
planned-fit found k f = go k.under_way
  where
    go : (u : UnderWay) → GrantedFit (plan_waiting found u k).kernel
    go (Waiting c) = planned-by found c (process_at k c.pid) k refl f
    go Quiet = f
    go Retrying = f
    go (Leaving hart) = f
    go (Returning done) = f

-- ---- begin
-- a kernel with the same processes and the same journal
kept-fit : (k m : KernelState) → m.processes ≡ k.processes → m.journal ≡ k.journal → GrantedFit k → GrantedFit m
kept-fit k m processes journal f = record {
  inherited = subst AllInherit (sym processes) f.inherited;
  told = ap (sum_by own) processes ∙ f.told ∙ ap granted_told (sym journal);
}

taken-fit : (k : KernelState) (u : UnderWay) → GrantedFit k → GrantedFit (record k { under_way = u })
taken-fit k u f = kept-fit k (record k { under_way = u }) refl refl f

begun-fit : (b : Begun) (c : Calling) (k : KernelState) → GrantedFit k → GrantedFit (begin_as b c k).kernel
begun-fit begun.Planned c k f = planned-fit no_words (record k { under_way = Waiting c }) (taken-fit k (Waiting c) f)
begun-fit begun.Again c k f = taken-fit k Retrying f
begun-fit begun.JournalFull c k f = taken-fit k Retrying f
begun-fit begun.Gone c k f = taken-fit k (Leaving c.hart) f
begun-fit begun.Boxes c k f = taken-fit k (Waiting c) f
begun-fit (begun.Header first second) c k f = taken-fit k (Waiting c) f

called-fit : (hart : ℕ) (o : Option Calling) (k : KernelState) → GrantedFit k → GrantedFit (begin_call hart o k).kernel
called-fit hart None k f = taken-fit k (Leaving hart) f
called-fit hart (Some c) k f = begun-fit (begun_in (process_at k c.pid) c k) c k f

begin-fit : (hart pc : ℕ) (regs : List ℕ) (asked : Request) (k : KernelState) → GrantedFit k → GrantedFit (begin hart regs pc asked k).kernel
unfolding begin
begin-fit hart pc regs asked k f = called-fit hart (calling_of hart regs pc asked (slice_get k.records hart)) k f

-- ---- jobs, and the end of a call
done_fit : (word : ℕ) (k : KernelState) → GrantedFit k → GrantedFit (job_done word k).kernel
unfolding job_done
done_fit word k f = kept-fit k (job_done word k).kernel refl refl f

-- of one process the memory changes, but not what it was granted
put-fit : (k m : KernelState) (pid : ℕ) (p new : Process) → process_at k pid ≡ Some p → m.processes ≡ slice_set k.processes pid new → m.journal ≡ k.journal
    → new.inherited ≡ p.inherited → new.space.objects ≡ p.space.objects → GrantedFit k → GrantedFit m
put-fit k m pid p new here processes journal inherited objects f =
    let more = put-more 0 pid k.processes p new here inherited (let same = ap mark objects in omega (arith, same)) f.inherited in record {
      inherited = subst AllInherit (sym processes) more.inherit;
      told = ap (sum_by own) processes ∙ more.sum ∙ (let was = f.told in let same = ap granted_told journal in omega (arith, was, same));
    }

settled-fit : (done : Committed) (p : Process) (effect : Effect) (k : KernelState) → process_at k done.calling.pid ≡ Some p → GrantedFit k → GrantedFit (settled done p effect k)
unfolding ended
settled-fit done p effect k here f = go effect
  where
    gives : (m : KernelState) → m ≡ settled done p Nothing k → GrantedFit m
    gives m e =
        put-fit k m done.calling.pid p (record p { space = (finished done.closing (draft_of k p)).space }) here
        (ap (λ (x : KernelState). x.processes) e) (ap (λ (x : KernelState). x.journal) e) refl (finished-keeps done.closing (draft_of k p)) f

    go : (effect : Effect) → GrantedFit (settled done p effect k)
    go (Ends status) =
        put-fit k (settled done p (Ends status) k) done.calling.pid p (record p { space = (ended k.regions p.space k.free).space; status = Some status }) here refl refl refl refl f
    go Nothing = gives (settled done p Nothing k) refl
    go Clears = gives (settled done p Clears k) refl
    go (Starts hart start) = gives (settled done p (Starts hart start) k) refl

returned-fit : (done : Committed) (o : Option Process) (k : KernelState) → process_at k done.calling.pid ≡ o → GrantedFit k → GrantedFit (returned done o k).kernel
returned-fit done None k here f = taken-fit k Quiet f
returned-fit done (Some p) k here f = taken-fit (settled done p done.effect k) Quiet (settled-fit done p done.effect k here f)

left-fit : (hart : ℕ) (o : Option HartRecord) (k : KernelState) → GrantedFit k → GrantedFit (hart_left hart o k)
left-fit hart None k f = f
left-fit hart (Some kept) k f = kept-fit k (hart_left hart (Some kept) k) refl refl f

finish-fit : (k : KernelState) → GrantedFit k → GrantedFit (finish k).kernel
unfolding finish
finish-fit k f = go k.under_way
  where
    go : (u : UnderWay) → GrantedFit (finish_by u k).kernel
    go (Returning done) = returned-fit done (process_at k done.calling.pid) k refl f
    go (Leaving hart) = taken-fit (hart_left hart (slice_get k.records hart) k) Quiet (left-fit hart (slice_get k.records hart) k f)
    go Quiet = taken-fit k Quiet f
    go Retrying = taken-fit k Quiet f
    go (Waiting c) = taken-fit k Quiet f

-- ---- each step
pub steps_keep_granted : StepsKeepGranted
steps_keep_granted old new shows (Kept e q) f = subst GrantedFit (sym e) f
steps_keep_granted old new shows (Begins hart regs pc asked u e q) f = subst GrantedFit (sym e) (begin-fit hart pc regs asked old f)
steps_keep_granted old new shows (Plans found c u e q) f = subst GrantedFit (sym e) (planned-fit found old f)
steps_keep_granted old new shows (EndsJob word job n e q) f = subst GrantedFit (sym e) (done_fit word old f)
steps_keep_granted old new shows (Finishes n e q) f = subst GrantedFit (sym e) (finish-fit old f)

-- ---- the start
pub opens-granted : StartsFitGranted
unfolding open_kernel
opens-granted image config = record { inherited = λ pid p here. none pid p here; told = refl }
  where
    none : (pid : ℕ) (p : Process) → process_at (open_kernel image config) pid ≡ Some p → p.inherited ≤ mark p.space.objects
    none zero p here = subst (λ (x : Process). x.inherited ≤ mark x.space.objects) (some_same _ p here) (omega arith)
    none (suc pid) p here = absurd (let z : ⊥ = grind (arith, here) in z)

-- ---- runs
-- the one kernel of a state
record Stand (s : State) : Type 0 where
  kernel : KernelState
  has : HasKernel s kernel
  fit : GrantedFit kernel

fit-on : (picks : List ℕ) (ran : Ran) → Both ran → Stand ran.state → Stand (run_on picks ran).state
unfolding run_on
fit-on [] ran b w = w
fit-on (n ∷ picks) ran b w =
    let g = kernels_step ran.state n w.kernel b.holds b.stands w.has in
    fit-on picks (with_step ran (step ran.state n)) (record { holds = steps_hold ran.state n b.holds; stands = steps_stand ran.state n b.holds b.stands })
    (record { kernel = g.next; has = g.has; fit = steps_keep_granted w.kernel g.next (step ran.state n).shows g.goes w.fit })

starts-fit : (image : Image) (config : Config) → Stand (start_of image config)
unfolding start_of
starts-fit image config =
    record { kernel = open_kernel image config; has = start_has_kernel image config (open_kernel image config); fit = opens-granted image config }

pub runs_fit_granted : RunsFitGranted
runs_fit_granted file image config picks k fit is_image room has =
    let w = fit-on picks (first_ran image config) (started-both file image config fit is_image room) (starts-fit image config) in
    let stands = w.has in
    let same : w.kernel ∷ [] ≡ k ∷ [] = sym stands.one ∙ has.one in
    subst GrantedFit (let q : w.kernel ≡ k = grind (arith, same) in q) w.fit

pub runs_tell_granted : RunsTellGranted
runs_tell_granted file image config picks k fit is_image room has = (runs_fit_granted file image config picks k fit is_image room has).told
