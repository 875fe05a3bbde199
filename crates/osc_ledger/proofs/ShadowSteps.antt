-- Each step of the kernel keeps how many shadow pages each process may be granted, and so it is all along each run.
use Rattle.std.proofs.Common.{ℕ, zero, suc, ◌≡◌, ◌≢◌, ◌==◌, Bool, true, false, Option, Some, None, List, [], ◌∷◌, ◌++◌, slice_get, slice_set, arith, refl, sym, ap, subst, ◌∙◌}
use Rattle.std.proofs.lemmas.Bool.Decides.{nat_tests}
use Rattle.osc_word.specs.declared.settings.Config.{Config}
use Rattle.osc_word.specs.declared.calls.Answer.{Answer}
use Rattle.osc_word.specs.declared.calls.Call.{Call}
use Rattle.osc_word.specs.declared.calls.Call.TheVariants as calls
use Rattle.osc_word.specs.declared.calls.Request.{Request}
use Rattle.osc_image.specs.Image.{Image}
use Rattle.osc_paging.specs.KeptTables.{KeptTables}
use Rattle.osc_space.specs.Header.{Found}
use Rattle.osc_space.specs.Space.{Outcome}
use Rattle.osc_space.specs.Fork.{fork_plan}
use Rattle.osc_space.specs.Share.{share_plan}
use Rattle.osc_space.specs.Finish.{ended, finished}
use Rattle.osc_calls.specs.declared.Begun.{Begun}
use Rattle.osc_calls.specs.declared.Begun.TheVariants as begun
use Rattle.osc_calls.specs.declared.HartRecord.{HartRecord}
use Rattle.osc_calls.specs.Kernel.{KernelState, Process, Calling, Committed, Effect, Nothing, Clears, Starts, Ends, UnderWay, Quiet, Retrying, Leaving, Waiting, Returning, process_at, is_last}
use Rattle.osc_calls.specs.Requests.{calling_of, meant}
use Rattle.osc_calls.specs.Refusals.{draft_of, sharing_of, refusal_of}
use Rattle.osc_calls.specs.HeapPlans.{terms_of, malloc_by, free_of, realloc_by}
use Rattle.osc_calls.specs.Planned.{Planned, planned_unless, outcome_planned}
use Rattle.osc_calls.specs.WritePlan.{write_by, first_unreadable, write_count}
use Rattle.osc_calls.specs.ProcessPlans.{child_process, done_by, value_left, fork_done, spawn_done, share_done}
use Rattle.osc_calls.specs.Plan.{plan_meant, plan_by, plan_waiting, plan}
use Rattle.osc_calls.specs.Begin.{no_words, begun_in, begin_as, begin_call, begin}
use Rattle.osc_calls.specs.JobDone.{job_done}
use Rattle.osc_calls.specs.Finish.{hart_left, settled, returned, finish_by, finish}
use Rattle.osc_calls.specs.Open.{open_kernel}
use Rattle.osc_settled.proofs.Lists.{get-put_same, get-put_other}
use Rattle.osc_machine.specs.Parts.{State}
use Rattle.osc_machine.specs.Step.{step}
use Rattle.osc_machine.specs.Run.{Ran, with_step, run_on}
use Rattle.osc_machine.specs.Start.{start_of}
use Rattle.osc_machine.specs.Laws.{HasKernel}
use Rattle.osc_machine.proofs.KernelLaws.{start_has_kernel}
use Rattle.osc_safe.specs.KernelSteps.{Kept, Begins, Plans, EndsJob, Finishes}
use Rattle.osc_safe.proofs.HoldingSteps.{steps_hold}
use Rattle.osc_safe.proofs.KernelRows.{kernels_step}
use Rattle.osc_safe.proofs.StandingSteps.{steps_stand}
use Rattle.osc_safe.proofs.StandingRuns.{Both, first_ran, started-both}
use Rattle.osc_ledger.specs.Limits.{ShadowsFit, StepsKeepShadows, RunsFitShadows}
use Rattle.osc_ledger.proofs.ShadowPlans.{malloc_by-same, free_of-same, realloc_by-same, finished-same}

-- ---- lists of processes
abbrev AllHave : ℕ → List Process → Type 0
AllHave most processes = (pid : ℕ) (p : Process) → slice_get processes pid ≡ Some p → p.space.shadows ≡ most

-- of one process the memory changes
put-have : (most pid : ℕ) (processes : List Process) (p new : Process) → slice_get processes pid ≡ Some p → new.space.shadows ≡ p.space.shadows
    → AllHave most processes → AllHave most (slice_set processes pid new)
put-have most pid processes p new here same all at q there = go (pid == at) refl
  where
    go : (b : Bool) → (pid == at) ≡ b → q.space.shadows ≡ most
    go true d =
        let is : pid ≡ at = grind (arith, nat_tests, d) in
        let it : new ≡ q = (let e : Some new ≡ Some q = sym (get-put_same processes pid p new here) ∙ ap (λ z. slice_get (slice_set processes pid new) z) is ∙ there in cc) in
        ap (λ (z : Process). z.space.shadows) (sym it) ∙ same ∙ all pid p here
    go false d =
        let other : pid ≢ at = grind (arith, nat_tests, d) in all at q (sym (get-put_other processes pid at new other) ∙ there)

-- and one is made
more-have : (most : ℕ) (processes : List Process) (new : Process) → new.space.shadows ≡ most → AllHave most processes → AllHave most (processes ++ new ∷ [])
more-have most [] new e all zero q there = (let it : new ≡ q = cc in ap (λ (z : Process). z.space.shadows) (sym it) ∙ e)
more-have most [] new e all (suc at) q there = absurd (let b : ⊥ = grind (arith, there) in b)
more-have most (x ∷ processes) new e all zero q there = all 0 q there
more-have most (x ∷ processes) new e all (suc at) q there = more-have most processes new e (λ pid p h. all (suc pid) p h) at q there

-- ---- plans
abbrev MadeFit : KernelState → Planned → Type 0
MadeFit k made = ShadowsFit made.kernel

outcome-fit : (k : KernelState) (c : Calling) (p : Process) (o : Outcome) → process_at k c.pid ≡ Some p → o.draft.space.shadows ≡ p.space.shadows → ShadowsFit k → MadeFit k (outcome_planned c.pid p k o)
outcome-fit k c p o here same all = put-have k.config.shadows c.pid k.processes p (record p { space = o.draft.space }) here same all

write-fit : (k : KernelState) (bad : Option ℕ) (t : KeptTables) (buf count : ℕ) → ShadowsFit k → MadeFit k (write_by bad t buf count k)
write-fit k (Some address) t buf count all = all
write-fit k None t buf count all = all

done-fit : (last : Bool) (thread : Option ℕ) (value : ℕ) (k : KernelState) (c : Calling) → ShadowsFit k → MadeFit k (done_by last c (value_left thread value k))
done-fit true None value k c all = all
done-fit true (Some number) value k c all = all
done-fit false None value k c all = all
done-fit false (Some number) value k c all = all

fork-fit : (r : Option Answer) (k : KernelState) (c : Calling) (p : Process) → process_at k c.pid ≡ Some p → ShadowsFit k → MadeFit k (planned_unless r k (fork_done c p k))
unfolding fork_plan
fork-fit (Some answer) k c p here all = all
fork-fit None k c p here all = more-have k.config.shadows k.processes (child_process c.pid (fork_plan p.space k.free).child) (all c.pid p here) all

spawn-fit : (r : Option Answer) (pc sp arg : ℕ) (k : KernelState) (c : Calling) (p : Process) → ShadowsFit k → MadeFit k (planned_unless r k (spawn_done c p pc sp arg k))
spawn-fit (Some answer) pc sp arg k c p all = all
spawn-fit None pc sp arg k c p all = all

share-fit : (r : Option Answer) (count : ℕ) (k : KernelState) (c : Calling) (p : Process) → process_at k c.pid ≡ Some p → ShadowsFit k → MadeFit k (planned_unless r k (share_done c p count k))
share-fit (Some answer) count k c p here all = all
share-fit None count k c p here all =
    put-have k.config.shadows c.pid k.processes p (record p { space = record (p.space) { tables = (share_plan count (sharing_of k p)).tables } }) here refl all

plan-fit : (k : KernelState) (c : Calling) (p : Process) (found : Found) (call : Call) → process_at k c.pid ≡ Some p → ShadowsFit k → MadeFit k (plan_meant found c p k call)
plan-fit k c p found (calls.Exit status) e all = all
plan-fit k c p found (calls.Write buf len) e all = write-fit k (first_unreadable p.space.tables buf (write_count k.output len)) p.space.tables buf (write_count k.output len) all
plan-fit k c p found (calls.Malloc size) e all = outcome-fit k c p (malloc_by k.config.heap size (draft_of k p)) e (malloc_by-same k.config.heap size (draft_of k p)) all
plan-fit k c p found (calls.Free pointer) e all = outcome-fit k c p (free_of k.config.heap (terms_of k) pointer found (draft_of k p)) e (free_of-same k.config.heap (terms_of k) pointer found (draft_of k p)) all
plan-fit k c p found (calls.Realloc pointer size) e all = outcome-fit k c p (realloc_by k.config.heap (terms_of k) pointer size found (draft_of k p)) e (realloc_by-same k.config.heap (terms_of k) pointer size found (draft_of k p)) all
plan-fit k c p found calls.Fork e all = fork-fit (refusal_of calls.Fork p k) k c p e all
plan-fit k c p found (calls.Spawn pc sp arg) e all = spawn-fit (refusal_of (calls.Spawn pc sp arg) p k) pc sp arg k c p all
plan-fit k c p found (calls.Join number) e all = all
plan-fit k c p found (calls.Done value) e all = done-fit (is_last k.records c.pid) c.thread value k c all
plan-fit k c p found (calls.Share count) e all = share-fit (refusal_of (calls.Share count) p k) count k c p e all
plan-fit k c p found (calls.Wait number) e all = all
plan-fit k c p found (calls.Unknown number) e all = all
plan-fit k c p found (calls.End fault) e all = all

planned-by : (found : Found) (c : Calling) (o : Option Process) (k : KernelState) → process_at k c.pid ≡ o → ShadowsFit k → ShadowsFit (plan_by found c o k).kernel
planned-by found c None k here all = all
planned-by found c (Some p) k here all = plan-fit k c p found (meant c.call) here all

planned-fit : (found : Found) (k : KernelState) → ShadowsFit k → ShadowsFit (plan found k).kernel
unfolding plan
planned-fit found k all = go k.under_way
  where
    go : (u : UnderWay) → ShadowsFit (plan_waiting found u k).kernel
    go (Waiting c) = planned-by found c (process_at k c.pid) k refl all
    go Quiet = all
    go Retrying = all
    go (Leaving hart) = all
    go (Returning done) = all

-- ---- begin
begun-fit : (b : Begun) (c : Calling) (k : KernelState) → ShadowsFit k → ShadowsFit (begin_as b c k).kernel
begun-fit begun.Planned c k all = planned-fit no_words (record k { under_way = Waiting c }) all
begun-fit begun.Again c k all = all
begun-fit begun.JournalFull c k all = all
begun-fit begun.Gone c k all = all
begun-fit begun.Boxes c k all = all
begun-fit (begun.Header first second) c k all = all

called-fit : (hart : ℕ) (o : Option Calling) (k : KernelState) → ShadowsFit k → ShadowsFit (begin_call hart o k).kernel
called-fit hart None k all = all
called-fit hart (Some c) k all = begun-fit (begun_in (process_at k c.pid) c k) c k all

begin-fit : (hart pc : ℕ) (regs : List ℕ) (asked : Request) (k : KernelState) → ShadowsFit k → ShadowsFit (begin hart regs pc asked k).kernel
unfolding begin
begin-fit hart pc regs asked k all = called-fit hart (calling_of hart regs pc asked (slice_get k.records hart)) k all

-- ---- jobs, and the end of a call
done_fit : (word : ℕ) (k : KernelState) → ShadowsFit k → ShadowsFit (job_done word k).kernel
unfolding job_done
done_fit word k all = all

settled-fit : (done : Committed) (p : Process) (effect : Effect) (k : KernelState) → process_at k done.calling.pid ≡ Some p → ShadowsFit k → ShadowsFit (settled done p effect k)
unfolding ended
settled-fit done p (Ends status) k here all =
    put-have k.config.shadows done.calling.pid k.processes p (record p { space = (ended k.regions p.space k.free).space; status = Some status }) here refl all
settled-fit done p Nothing k here all =
    put-have k.config.shadows done.calling.pid k.processes p (record p { space = (finished done.closing (draft_of k p)).space }) here (finished-same done.closing (draft_of k p)) all
settled-fit done p Clears k here all =
    put-have k.config.shadows done.calling.pid k.processes p (record p { space = (finished done.closing (draft_of k p)).space }) here (finished-same done.closing (draft_of k p)) all
settled-fit done p (Starts hart start) k here all =
    put-have k.config.shadows done.calling.pid k.processes p (record p { space = (finished done.closing (draft_of k p)).space }) here (finished-same done.closing (draft_of k p)) all

returned-fit : (done : Committed) (o : Option Process) (k : KernelState) → process_at k done.calling.pid ≡ o → ShadowsFit k → ShadowsFit (returned done o k).kernel
returned-fit done None k here all = all
returned-fit done (Some p) k here all = settled-fit done p done.effect k here all

left-fit : (hart : ℕ) (o : Option HartRecord) (k : KernelState) → ShadowsFit k → ShadowsFit (hart_left hart o k)
left-fit hart None k all = all
left-fit hart (Some kept) k all = all

finish-fit : (k : KernelState) → ShadowsFit k → ShadowsFit (finish k).kernel
unfolding finish
finish-fit k all = go k.under_way
  where
    go : (u : UnderWay) → ShadowsFit (finish_by u k).kernel
    go (Returning done) = returned-fit done (process_at k done.calling.pid) k refl all
    go (Leaving hart) = left-fit hart (slice_get k.records hart) k all
    go Quiet = all
    go Retrying = all
    go (Waiting c) = all

-- ---- each step
pub steps_keep_shadows : StepsKeepShadows
steps_keep_shadows old new shows (Kept e q) all = subst ShadowsFit (sym e) all
steps_keep_shadows old new shows (Begins hart regs pc asked u e f) all = subst ShadowsFit (sym e) (begin-fit hart pc regs asked old all)
steps_keep_shadows old new shows (Plans found c u e f) all = subst ShadowsFit (sym e) (planned-fit found old all)
steps_keep_shadows old new shows (EndsJob word job n e f) all = subst ShadowsFit (sym e) (done_fit word old all)
steps_keep_shadows old new shows (Finishes n e f) all = subst ShadowsFit (sym e) (finish-fit old all)

-- ---- the start
pub opens-fit : (image : Image) (config : Config) → ShadowsFit (open_kernel image config)
unfolding open_kernel
opens-fit image config zero p here = ap (λ (z : Process). z.space.shadows) (sym (only _ p here))
  where
    only : (x y : Process) → Some x ≡ Some y → x ≡ y
    only x y e = cc
opens-fit image config (suc pid) p here = absurd (let b : ⊥ = grind (arith, here) in b)

-- ---- runs
-- the one kernel of a state
record Stand (s : State) : Type 0 where
  kernel : KernelState
  has : HasKernel s kernel
  fit : ShadowsFit kernel

fit-on : (picks : List ℕ) (ran : Ran) → Both ran → Stand ran.state → Stand (run_on picks ran).state
unfolding run_on
fit-on [] ran b w = w
fit-on (n ∷ picks) ran b w =
    let g = kernels_step ran.state n w.kernel b.holds b.stands w.has in
    fit-on picks (with_step ran (step ran.state n)) (record { holds = steps_hold ran.state n b.holds; stands = steps_stand ran.state n b.holds b.stands })
    (record { kernel = g.next; has = g.has; fit = steps_keep_shadows w.kernel g.next (step ran.state n).shows g.goes w.fit })

starts-fit : (image : Image) (config : Config) → Stand (start_of image config)
unfolding start_of
starts-fit image config =
    record { kernel = open_kernel image config; has = start_has_kernel image config (open_kernel image config); fit = opens-fit image config }

pub runs_fit_shadows : RunsFitShadows
runs_fit_shadows file image config picks k fit is_image room has =
    let w = fit-on picks (first_ran image config) (started-both file image config fit is_image room) (starts-fit image config) in
    let own = w.has in
    let same : w.kernel ∷ [] ≡ k ∷ [] = sym own.one ∙ has.one in
    subst ShadowsFit (let q : w.kernel ≡ k = grind (arith, same) in q) w.fit
