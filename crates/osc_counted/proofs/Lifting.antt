-- What each plan and each return keeps, each step of the kernel keeps, and each run.
use Rattle.std.proofs.Common.{ℕ, ◌≡◌, Bool, Option, Some, None, List, [], ◌∷◌, map, slice_get, slice_set, arith, refl, sym, ap, subst, ◌∙◌}
use Rattle.osc_word.specs.declared.calls.Request.{Request}
use Rattle.osc_word.specs.declared.settings.Config.{Config}
use Rattle.osc_word.specs.declared.steps.Label.{Label}
use Rattle.osc_paging.specs.KeptTables.{KeptTables}
use Rattle.osc_space.specs.Header.{Found}
use Rattle.osc_space.specs.Finish.{finished, ended}
use Rattle.osc_calls.specs.declared.Begun.{Begun}
use Rattle.osc_calls.specs.declared.Begun.TheVariants as begun
use Rattle.osc_calls.specs.declared.HartRecord.{HartRecord}
use Rattle.osc_calls.specs.declared.HartRecord.TheVariants.{Runs}
use Rattle.osc_calls.specs.Kernel.{KernelState, Process, Calling, Committed, Effect, Nothing, Clears, Starts, Ends, UnderWay, Quiet, Retrying, Leaving, Waiting, Returning, process_at}
use Rattle.osc_calls.specs.Requests.{calling_of}
use Rattle.osc_calls.specs.Refusals.{draft_of}
use Rattle.osc_calls.specs.Plan.{plan_of, committed, plan_by, plan_waiting, plan}
use Rattle.osc_calls.specs.Begin.{no_words, begun_in, begin_as, begin_call, begin}
use Rattle.osc_calls.specs.JobDone.{job_done}
use Rattle.osc_calls.specs.Finish.{hart_left, settled, returned, finish_by, finish}
use Rattle.osc_settled.specs.Records.{is_living}
use Rattle.osc_settled.specs.KernelFits.{KernelFits}
use Rattle.osc_settled.proofs.Outcomes.{Asks, asks, caller_lives}
use Rattle.osc_settled.proofs.Beginning.{asks_as}
use Rattle.osc_machine.specs.Parts.{State}
use Rattle.osc_machine.specs.Step.{step}
use Rattle.osc_machine.specs.Run.{Ran, with_step, run_on}
use Rattle.osc_machine.specs.Laws.{HasKernel}
use Rattle.osc_machine.specs.Replay.{replay}
use Rattle.osc_machine.specs.Agreements.{account_told, account_kept}
use Rattle.osc_safe.specs.KernelSteps.{KernelStep, Kept, Begins, Plans, EndsJob, Finishes}
use Rattle.osc_safe.proofs.HoldingSteps.{steps_hold}
use Rattle.osc_safe.proofs.KernelRows.{kernels_step}
use Rattle.osc_safe.proofs.StandingSteps.{steps_stand}
use Rattle.osc_safe.proofs.StandingRuns.{Both}
use Rattle.osc_ledger.specs.Replays.{ReplayFits}
use Rattle.osc_ledger.proofs.ReplaySteps.{IsUncommitted, uncommitted, same-waiting, room-there, fits-waiting, steps_keep_replay}
use Rattle.osc_counted.proofs.ImagePlans.{finished-pages}

-- ---- what is to be kept
-- two kernels with the same processes and the same journal
pub record SameKept (k m : KernelState) : Type 0 where
  pub config : m.config ≡ k.config
  pub journal : m.journal ≡ k.journal
  pub processes : m.processes ≡ k.processes

-- a process once a call has returned: it has ended, or maps what it did
abbrev pub Returned : Process → Process → Type 0
Returned p new = new.status ≡ None → (p.status ≡ None) × (new.space.tables.pages ≡ p.space.tables.pages)

pub record Keeps (P : KernelState → Type 0) : Type 0 where
  pub same : (k m : KernelState) → SameKept k m → P k → P m
  pub plans : (words : List ℕ) (found : Found) (k : KernelState) (c : Calling) (p : Process) → Asks words k c → process_at k c.pid ≡ Some p
      → map account_told (replay k.config k.journal) ≡ map account_kept k.processes → P k → P (committed c (plan_of found c p k))
  pub returns : (k m : KernelState) (pid : ℕ) (p new : Process) → process_at k pid ≡ Some p → m.config ≡ k.config → m.journal ≡ k.journal
      → m.processes ≡ slice_set k.processes pid new → Returned p new → P k → P m

module _ (P : KernelState → Type 0) (keeps : Keeps P) where
  -- ---- plans
  planned-on : (words : List ℕ) (found : Found) (k : KernelState) (c : Calling) → KernelFits words k → k.under_way ≡ Waiting c → ReplayFits k → P k → P (plan found k).kernel
  unfolding plan
  planned-on words found k c fits u f h = subst (λ w. P (plan_waiting found w k).kernel) (sym u) (go (process_at k c.pid) refl)
    where
      go : (o : Option Process) → process_at k c.pid ≡ o → P (plan_by found c o k).kernel
      go None e = absurd (let z = sym (caller_lives words k c (asks words k c fits u)) ∙ ap is_living e in let w : ⊥ = grind (arith, z) in w)
      go (Some p) e =
          keeps.plans words found k c p (asks words k c fits u) e
          (f.accounts ∙ ap (map account_kept) (uncommitted k (subst IsUncommitted (sym u) tt))) h

  -- ---- a hart that takes the kernel
  taken : (k : KernelState) (u : UnderWay) → P k → P (record k { under_way = u })
  taken k u h = keeps.same k (record k { under_way = u }) (record { config = refl; journal = refl; processes = refl }) h

  begin-on : (words : List ℕ) (hart pc : ℕ) (regs : List ℕ) (asked : Request) (k : KernelState) → KernelFits words k → k.under_way ≡ Quiet → ReplayFits k → P k → P (begin hart regs pc asked k).kernel
  unfolding begin
  begin-on words hart pc regs asked k fits u f h = called (calling_of hart regs pc asked (slice_get k.records hart)) refl
    where
      begun-on : (b : Begun) (c : Calling) → (b ≡ begun.Planned → KernelFits words (record k { under_way = Waiting c })) → P (begin_as b c k).kernel
      begun-on begun.Planned c w =
          planned-on words no_words (record k { under_way = Waiting c }) c (w refl) refl (same-waiting k c (subst IsUncommitted (sym u) tt) f) (taken k (Waiting c) h)
      begun-on begun.Again c w = taken k Retrying h
      begun-on begun.JournalFull c w = taken k Retrying h
      begun-on begun.Gone c w = taken k (Leaving c.hart) h
      begun-on begun.Boxes c w = taken k (Waiting c) h
      begun-on (begun.Header first second) c w = taken k (Waiting c) h

      called : (o : Option Calling) → calling_of hart regs pc asked (slice_get k.records hart) ≡ o → P (begin_call hart o k).kernel
      called None e = taken k (Leaving hart) h
      called (Some c) e =
          begun-on (begun_in (process_at k c.pid) c k) c
          (λ g. (let who = asks_as hart pc regs asked (slice_get k.records hart) c e in
          fits-waiting words k c fits u (room-there (process_at k c.pid) c k g) (subst (λ h. slice_get k.records h ≡ Some (Runs c.pid c.thread)) who.1 who.0)))

  -- ---- jobs, and the end of a call
  done-on : (word : ℕ) (k : KernelState) → P k → P (job_done word k).kernel
  unfolding job_done
  done-on word k h = keeps.same k (job_done word k).kernel (record { config = refl; journal = refl; processes = refl }) h

  left-on : (hart : ℕ) (o : Option HartRecord) (k : KernelState) → P k → P (hart_left hart o k)
  left-on hart None k h = h
  left-on hart (Some kept) k h = keeps.same k (hart_left hart (Some kept) k) (record { config = refl; journal = refl; processes = refl }) h

  settled-on : (done : Committed) (p : Process) (effect : Effect) (k : KernelState) → process_at k done.calling.pid ≡ Some p → P k → P (settled done p effect k)
  settled-on done p effect k here h = go effect
    where
      gives : (m : KernelState) → m ≡ settled done p Nothing k → P m
      gives m e =
          keeps.returns k m done.calling.pid p (record p { space = (finished done.closing (draft_of k p)).space }) here
          (ap (λ (x : KernelState). x.config) e) (ap (λ (x : KernelState). x.journal) e) (ap (λ (x : KernelState). x.processes) e)
          (λ lives. (lives, finished-pages done.closing (draft_of k p))) h

      go : (effect : Effect) → P (settled done p effect k)
      go (Ends status) =
          keeps.returns k (settled done p (Ends status) k) done.calling.pid p (record p { space = (ended k.regions p.space k.free).space; status = Some status }) here refl refl refl
          (λ lives. absurd (let z : ⊥ = grind (arith, lives) in z)) h
      go Nothing = gives (settled done p Nothing k) refl
      go Clears = gives (settled done p Clears k) refl
      go (Starts hart start) = gives (settled done p (Starts hart start) k) refl

  finish-on : (k : KernelState) → P k → P (finish k).kernel
  unfolding finish
  finish-on k h = go k.under_way
    where
      quiet : (m : KernelState) → P m → P (record m { under_way = Quiet })
      quiet m g = keeps.same m (record m { under_way = Quiet }) (record { config = refl; journal = refl; processes = refl }) g

      by : (done : Committed) (o : Option Process) → process_at k done.calling.pid ≡ o → P (returned done o k).kernel
      by done None e = quiet k h
      by done (Some p) e = quiet (settled done p done.effect k) (settled-on done p done.effect k e h)

      go : (u : UnderWay) → P (finish_by u k).kernel
      go Quiet = quiet k h
      go Retrying = quiet k h
      go (Leaving hart) = quiet (hart_left hart (slice_get k.records hart) k) (left-on hart (slice_get k.records hart) k h)
      go (Waiting c) = quiet k h
      go (Returning done) = by done (process_at k done.calling.pid) refl

  -- ---- each step
  pub step-keeps : (words : List ℕ) (old new : KernelState) (shows : List Label) → KernelFits words old → KernelStep old new shows → ReplayFits old → P old → P new
  step-keeps words old new shows fits (Kept e q) f h = subst P (sym e) h
  step-keeps words old new shows fits (Begins hart regs pc asked u e q) f h = subst P (sym e) (begin-on words hart pc regs asked old fits u f h)
  step-keeps words old new shows fits (Plans found c u e q) f h = subst P (sym e) (planned-on words found old c fits u f h)
  step-keeps words old new shows fits (EndsJob word job n e q) f h = subst P (sym e) (done-on word old h)
  step-keeps words old new shows fits (Finishes n e q) f h = subst P (sym e) (finish-on old h)

  -- ---- runs
  -- the one kernel of a state
  pub record StandsWith (s : State) : Type 0 where
    pub kernel : KernelState
    pub has : HasKernel s kernel
    pub told : ReplayFits kernel
    pub kept : P kernel

  pub runs-keep : (picks : List ℕ) (ran : Ran) → Both ran → StandsWith ran.state → StandsWith (run_on picks ran).state
  unfolding run_on
  runs-keep [] ran b w = w
  runs-keep (n ∷ picks) ran b w =
      let g = kernels_step ran.state n w.kernel b.holds b.stands w.has in
      runs-keep picks (with_step ran (step ran.state n)) (record { holds = steps_hold ran.state n b.holds; stands = steps_stand ran.state n b.holds b.stands })
      (record {
        kernel = g.next;
        has = g.has;
        told = steps_keep_replay g.fits.words w.kernel g.next (step ran.state n).shows g.fits.fits g.goes w.told;
        kept = step-keeps g.fits.words w.kernel g.next (step ran.state n).shows g.fits.fits g.goes w.told w.kept;
      })
