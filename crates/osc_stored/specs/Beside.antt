-- A call whose jobs are done while harts run: one on the heap works for the process that asked, and one that
-- begins a thread has at most to tell its hart. This project's own.
use Rattle.std.specs.Prelude.{ℕ, ◌≡◌, ◌≤◌, Bool, true, false, None, Ok, List, [], ◌∷◌}
use Rattle.osc_word.specs.declared.calls.Call.TheVariants.{Spawn}
use Rattle.osc_word.specs.declared.job_list.Job.{Job}
use Rattle.osc_word.specs.declared.job_list.Job.TheVariants.{Tell}
use Rattle.osc_word.specs.declared.settings.Config.{Config}
use Rattle.osc_word.specs.declared.steps.Label.{Label}
use Rattle.osc_word.specs.Limits.{first_fault}
use Rattle.osc_image.specs.Image.{Image}
use Rattle.osc_image.specs.Frames.{needed_frames}
use Rattle.osc_image.specs.Form.{image_of}
use Rattle.osc_calls.specs.Kernel.{KernelState, Committed, Returning}
use Rattle.osc_calls.specs.Requests.{meant}
use Rattle.osc_settled.specs.UnderWay.{made_by}
use Rattle.osc_machine.specs.Run.{run}
use Rattle.osc_machine.specs.Start.{start_of}
use Rattle.osc_machine.specs.Laws.{HasKernel}
use Rattle.osc_safe.specs.KernelSteps.{KernelStep}
use Rattle.osc_safe.specs.Standing.{FitsSome}
use Rattle.osc_caches.specs.HeapShows.{is_heap_call}

abbrev pub is_tell : Job → Bool
is_tell (Tell hart) = true
is_tell job = false

abbrev pub AllTell : List Job → Type 0
AllTell [] = Unit {0}
AllTell (job ∷ jobs) = (is_tell job ≡ true) × AllTell jobs

pub record BesideFits (k : KernelState) : Type 0 where
  pub heap : (done : Committed) → k.under_way ≡ Returning done → is_heap_call (meant done.calling.call) ≡ true
      → made_by done.effect done.calling.pid ≡ done.calling.pid
  pub spawn : (done : Committed) (pc sp arg : ℕ) → k.under_way ≡ Returning done → meant done.calling.call ≡ Spawn pc sp arg → AllTell k.jobs

-- ---- the laws
abbrev pub StepsKeepBeside : Type 0
StepsKeepBeside = (old new : KernelState) (shows : List Label) → FitsSome old → KernelStep old new shows → BesideFits old → BesideFits new

abbrev pub RunsFitBeside : Type 0
RunsFitBeside =
    (file : List ℕ) (image : Image) (config : Config) (picks : List ℕ) (k : KernelState)
    → first_fault config ≡ None → image_of file ≡ Ok image → needed_frames config.levels image ≤ config.frames
    → HasKernel (run (start_of image config) picks).state k → BesideFits k
