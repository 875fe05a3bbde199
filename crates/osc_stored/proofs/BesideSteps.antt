-- Each step of the kernel keeps what a call does beside running harts, and so it is all along each run.
use Rattle.std.proofs.Common.{ℕ, ◌≡◌, true, Option, Some, None, List, [], ◌∷◌, ◌++◌, slice_get, arith, refl, sym, subst, ◌∙◌}
use Rattle.std.specs.Prelude.{drop}
use Rattle.osc_word.specs.declared.calls.Answer.{Answer}
use Rattle.osc_word.specs.declared.calls.Call.{Call}
use Rattle.osc_word.specs.declared.calls.Call.TheVariants as calls
use Rattle.osc_word.specs.declared.calls.Request.{Request}
use Rattle.osc_word.specs.declared.job_list.Job.{Job}
use Rattle.osc_word.specs.declared.job_list.Job.TheVariants.{Tell}
use Rattle.osc_word.specs.declared.settings.Config.{Config}
use Rattle.osc_image.specs.Image.{Image}
use Rattle.osc_space.specs.Header.{Found}
use Rattle.osc_space.specs.Space.{Closing, Keeps, GivesBack}
use Rattle.osc_calls.specs.declared.Begun.{Begun}
use Rattle.osc_calls.specs.declared.Begun.TheVariants as begun
use Rattle.osc_calls.specs.Kernel.{KernelState, Process, Calling, Committed, UnderWay, Quiet, Retrying, Leaving, Waiting, Returning, process_at}
use Rattle.osc_calls.specs.Requests.{calling_of, meant}
use Rattle.osc_calls.specs.Refusals.{draft_of, refusal_of}
use Rattle.osc_calls.specs.HeapPlans.{terms_of, malloc_by, free_of, realloc_by}
use Rattle.osc_calls.specs.Planned.{planned_unless, closing_effect}
use Rattle.osc_calls.specs.ProcessPlans.{new_hart, spawn_done}
use Rattle.osc_calls.specs.Plan.{plan_meant, plan_of, committed, plan_by, plan_waiting, plan}
use Rattle.osc_calls.specs.Begin.{no_words, begun_in, begin_as, begin_call, begin}
use Rattle.osc_calls.specs.JobDone.{job_done}
use Rattle.osc_calls.specs.Finish.{finish}
use Rattle.osc_calls.specs.Open.{open_kernel}
use Rattle.osc_settled.specs.UnderWay.{made_by, UnderWayFits}
use Rattle.osc_machine.specs.Parts.{State}
use Rattle.osc_machine.specs.Step.{step}
use Rattle.osc_machine.specs.Run.{Ran, with_step, run_on}
use Rattle.osc_machine.specs.Start.{start_of}
use Rattle.osc_machine.specs.Laws.{HasKernel}
use Rattle.osc_machine.proofs.KernelLaws.{start_has_kernel}
use Rattle.osc_safe.specs.KernelSteps.{Kept, Begins, Plans, EndsJob, Finishes}
use Rattle.osc_safe.specs.Standing.{FitsSome}
use Rattle.osc_safe.proofs.CallSteps.{finished-home}
use Rattle.osc_safe.proofs.HoldingSteps.{steps_hold}
use Rattle.osc_safe.proofs.KernelRows.{kernels_step}
use Rattle.osc_safe.proofs.StandingSteps.{steps_stand}
use Rattle.osc_safe.proofs.StandingRuns.{Both, first_ran, started-both}
use Rattle.osc_caches.specs.HeapShows.{is_heap_call}
use Rattle.osc_stored.specs.Beside.{AllTell, BesideFits, StepsKeepBeside, RunsFitBeside}

-- ---- plans
made-own : (closing : Closing) (pid : ℕ) → made_by (closing_effect closing) pid ≡ pid
made-own Keeps pid = refl
made-own (GivesBack blocks) pid = refl

heap-own : (found : Found) (k : KernelState) (c : Calling) (p : Process) (call : Call) → is_heap_call call ≡ true → made_by (plan_meant found c p k call).effect c.pid ≡ c.pid
heap-own found k c p (calls.Malloc size) h = made-own (malloc_by k.config.heap size (draft_of k p)).closing c.pid
heap-own found k c p (calls.Free pointer) h = made-own (free_of k.config.heap (terms_of k) pointer found (draft_of k p)).closing c.pid
heap-own found k c p (calls.Realloc pointer size) h = made-own (realloc_by k.config.heap (terms_of k) pointer size found (draft_of k p)).closing c.pid
heap-own found k c p call h = absurd (let b : ⊥ = grind (arith, h) in b)

spawn-tells : (r : Option Answer) (pc sp arg : ℕ) (k : KernelState) (c : Calling) (p : Process) → k.jobs ≡ [] → AllTell (planned_unless r k (spawn_done c p pc sp arg k)).kernel.jobs
spawn-tells (Some answer) pc sp arg k c p e = subst AllTell (sym e) tt
spawn-tells None pc sp arg k c p e = subst (λ js. AllTell (js ++ Tell (new_hart k) ∷ [])) (sym e) (refl, tt)

-- no call is committed
none-beside : (k : KernelState) (u : UnderWay) → k.under_way ≡ u → ((done : Committed) → u ≡ Returning done → ⊥) → BesideFits k
none-beside k u e none = record { heap = λ done r h. absurd (none done (sym e ∙ r)); spawn = λ done pc sp arg r m. absurd (none done (sym e ∙ r)) }

committed-beside : (found : Found) (k : KernelState) (c : Calling) (p : Process) → k.jobs ≡ [] → BesideFits (committed c (plan_of found c p k))
committed-beside found k c p e = record {
  heap = λ done r h. of-own (λ (z : Committed). is_heap_call (meant z.calling.call) ≡ true → made_by z.effect z.calling.pid ≡ z.calling.pid) done r (heap-own found k c p (meant c.call)) h;
  spawn = λ done pc sp arg r m. of-own (λ (z : Committed). meant z.calling.call ≡ calls.Spawn pc sp arg → AllTell (plan_of found c p k).kernel.jobs) done r
      (λ own. subst (λ call. AllTell (plan_meant found c p k call).kernel.jobs) (sym own) (spawn-tells (refusal_of (calls.Spawn pc sp arg) p k) pc sp arg k c p e)) m;
}
  where
    own : Committed
    own = record { calling = c; answer = (plan_of found c p k).answer; effect = (plan_of found c p k).effect; closing = (plan_of found c p k).closing }

    of-own : (P : Committed → Type 0) (done : Committed) → Returning own ≡ Returning done → P own → P done
    of-own P done r it = subst P (let is : own ≡ done = cc in is) it

by-beside : (found : Found) (c : Calling) (o : Option Process) (k : KernelState) → k.under_way ≡ Waiting c → k.jobs ≡ [] → BesideFits (plan_by found c o k).kernel
by-beside found c None k u e = none-beside k (Waiting c) u (λ done q. (let b : ⊥ = grind (arith, q) in b))
by-beside found c (Some p) k u e = committed-beside found k c p e

planned-beside : (found : Found) (c : Calling) (k : KernelState) → k.under_way ≡ Waiting c → k.jobs ≡ [] → BesideFits (plan found k).kernel
unfolding plan
planned-beside found c k u e = subst (λ w. BesideFits (plan_waiting found w k).kernel) (sym u) (by-beside found c (process_at k c.pid) k u e)

-- ---- a call that begins
begun-beside : (b : Begun) (c : Calling) (k : KernelState) → k.jobs ≡ [] → BesideFits (begin_as b c k).kernel
begun-beside begun.Planned c k e = planned-beside no_words c (record k { under_way = Waiting c }) refl e
begun-beside begun.Again c k e = none-beside (record k { under_way = Retrying }) Retrying refl (λ done q. (let b : ⊥ = grind (arith, q) in b))
begun-beside begun.JournalFull c k e = none-beside (record k { under_way = Retrying }) Retrying refl (λ done q. (let b : ⊥ = grind (arith, q) in b))
begun-beside begun.Gone c k e = none-beside (record k { under_way = Leaving c.hart }) (Leaving c.hart) refl (λ done q. (let b : ⊥ = grind (arith, q) in b))
begun-beside begun.Boxes c k e = none-beside (record k { under_way = Waiting c }) (Waiting c) refl (λ done q. (let b : ⊥ = grind (arith, q) in b))
begun-beside (begun.Header first second) c k e = none-beside (record k { under_way = Waiting c }) (Waiting c) refl (λ done q. (let b : ⊥ = grind (arith, q) in b))

called-beside : (hart : ℕ) (o : Option Calling) (k : KernelState) → k.jobs ≡ [] → BesideFits (begin_call hart o k).kernel
called-beside hart None k e = none-beside (record k { under_way = Leaving hart }) (Leaving hart) refl (λ done q. (let b : ⊥ = grind (arith, q) in b))
called-beside hart (Some c) k e = begun-beside (begun_in (process_at k c.pid) c k) c k e

begin-beside : (hart pc : ℕ) (regs : List ℕ) (asked : Request) (k : KernelState) → k.jobs ≡ [] → BesideFits (begin hart regs pc asked k).kernel
unfolding begin
begin-beside hart pc regs asked k e = called-beside hart (calling_of hart regs pc asked (slice_get k.records hart)) k e

-- ---- jobs
rest-tell : (jobs : List Job) → AllTell jobs → AllTell (drop 1 jobs)
rest-tell [] a = tt
rest-tell (job ∷ jobs) a = a.1

job-beside : (word : ℕ) (k : KernelState) → BesideFits k → BesideFits (job_done word k).kernel
unfolding job_done
job-beside word k b = record { heap = b.heap; spawn = λ done pc sp arg u m. rest-tell k.jobs (b.spawn done pc sp arg u m) }

-- ---- each step
pub quiet-jobs : (k : KernelState) → FitsSome k → k.under_way ≡ Quiet → k.jobs ≡ []
quiet-jobs k f u = let fits = f.fits in let none : UnderWayFits k Quiet = subst (UnderWayFits k) u fits.under_way in none

pub waiting-jobs : (k : KernelState) (c : Calling) → FitsSome k → k.under_way ≡ Waiting c → k.jobs ≡ []
waiting-jobs k c f u = let fits = f.fits in let waits : UnderWayFits k (Waiting c) = subst (UnderWayFits k) u fits.under_way in waits.jobs

pub steps_keep_beside : StepsKeepBeside
steps_keep_beside old new shows f (Kept e q) b = subst BesideFits (sym e) b
steps_keep_beside old new shows f (Begins hart regs pc asked u e s) b = subst BesideFits (sym e) (begin-beside hart pc regs asked old (quiet-jobs old f u))
steps_keep_beside old new shows f (Plans found c u e s) b = subst BesideFits (sym e) (planned-beside found c old u (waiting-jobs old c f u))
steps_keep_beside old new shows f (EndsJob word job n e s) b = subst BesideFits (sym e) (job-beside word old b)
steps_keep_beside old new shows f (Finishes n e s) b =
    let home = finished-home old f n in
    subst BesideFits (sym e) (none-beside (finish old).kernel Quiet home.quiet (λ done q. (let z : ⊥ = grind (arith, q) in z)))

-- ---- runs
opens-beside : (image : Image) (config : Config) → BesideFits (open_kernel image config)
unfolding open_kernel
opens-beside image config = none-beside (open_kernel image config) Quiet refl (λ done q. (let b : ⊥ = grind (arith, q) in b))

-- the one kernel of a state
record Fitting (s : State) : Type 0 where
  kernel : KernelState
  has : HasKernel s kernel
  fit : BesideFits kernel

fit-on : (picks : List ℕ) (ran : Ran) → Both ran → Fitting ran.state → Fitting (run_on picks ran).state
unfolding run_on
fit-on [] ran b w = w
fit-on (n ∷ picks) ran b w =
    let g = kernels_step ran.state n w.kernel b.holds b.stands w.has in
    fit-on picks (with_step ran (step ran.state n)) (record { holds = steps_hold ran.state n b.holds; stands = steps_stand ran.state n b.holds b.stands })
    (record { kernel = g.next; has = g.has; fit = steps_keep_beside w.kernel g.next (step ran.state n).shows g.fits g.goes w.fit })

starts-fit : (image : Image) (config : Config) → Fitting (start_of image config)
unfolding start_of
starts-fit image config =
    record { kernel = open_kernel image config; has = start_has_kernel image config (open_kernel image config); fit = opens-beside image config }

pub runs_fit_beside : RunsFitBeside
runs_fit_beside file image config picks k fit is_image room has =
    let w = fit-on picks (first_ran image config) (started-both file image config fit is_image room) (starts-fit image config) in
    let own = w.has in
    let same : w.kernel ∷ [] ≡ k ∷ [] = sym own.one ∙ has.one in
    subst BesideFits (let q : w.kernel ≡ k = grind (arith, same) in q) w.fit
