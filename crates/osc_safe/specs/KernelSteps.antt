-- What a step of the machine does to the kernel, which is in one place, and that it shows what that does.
-- This project's own.
use Rattle.std.specs.Prelude.{ℕ, ◌≡◌, Bool, true, false, Some, List, [], ◌∷◌}
use Rattle.osc_word.specs.declared.calls.Request.{Request}
use Rattle.osc_word.specs.declared.job_list.Job.{Job}
use Rattle.osc_word.specs.declared.steps.Label.{Label}
use Rattle.osc_word.specs.declared.steps.Label.TheVariants.{Touched}
use Rattle.osc_space.specs.Header.{Found}
use Rattle.osc_calls.specs.Kernel.{KernelState, Calling, Quiet, Waiting, next_job}
use Rattle.osc_calls.specs.Begin.{begin}
use Rattle.osc_calls.specs.Plan.{plan}
use Rattle.osc_calls.specs.JobDone.{job_done}
use Rattle.osc_calls.specs.Finish.{finish}
use Rattle.osc_machine.specs.Parts.{State}
use Rattle.osc_machine.specs.Step.{Stepped, step}
use Rattle.osc_machine.specs.Laws.{HasKernel}
use Rattle.osc_safe.specs.Holding.{Holds}
use Rattle.osc_safe.specs.Standing.{FitsSome, Stands}

-- ---- labels of accesses alone
abbrev pub is_touch : Label → Bool
is_touch (Touched pid hart address width kind done) = true
is_touch _ = false

abbrev pub AllTouch : List Label → Type 0
AllTouch [] = Unit {0}
AllTouch (label ∷ labels) = (is_touch label ≡ true) × AllTouch labels

-- ---- the kernel in a step, with what the step shows
pub data KernelStep (old new : KernelState) (shows : List Label) : Type 0 where
  Kept : new ≡ old → AllTouch shows → KernelStep old new shows
  Begins : (hart : ℕ) (regs : List ℕ) (pc : ℕ) (asked : Request) → old.under_way ≡ Quiet
      → new ≡ (begin hart regs pc asked old).kernel → shows ≡ (begin hart regs pc asked old).shows → KernelStep old new shows
  Plans : (found : Found) (c : Calling) → old.under_way ≡ Waiting c
      → new ≡ (plan found old).kernel → shows ≡ (plan found old).shows → KernelStep old new shows
  EndsJob : (word : ℕ) (job : Job) → next_job old ≡ Some job
      → new ≡ (job_done word old).kernel → shows ≡ (job_done word old).shows → KernelStep old new shows
  Finishes : old.jobs ≡ [] → new ≡ (finish old).kernel → shows ≡ (finish old).shows → KernelStep old new shows

-- the kernel before a step, which fits, and after it
pub record KernelGoes (s : State) (x : Stepped) (k : KernelState) : Type 0 where
  pub fits : FitsSome k
  pub next : KernelState
  pub has : HasKernel x.state next
  pub goes : KernelStep k next x.shows

-- ---- the law
abbrev pub KernelsStep : Type 0
KernelsStep = (s : State) (n : ℕ) (k : KernelState) → Holds s → Stands s → HasKernel s k → KernelGoes s (step s n) k
