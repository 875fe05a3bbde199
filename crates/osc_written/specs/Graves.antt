-- No write reads a page that is dead or waits. This project's own.
use Rattle.std.specs.Prelude.{ℕ, ◌/◌, ◌≡◌, ◌≤◌, ◌⊎◌, Bool, Some, None, Ok, List, slice_get}
use Rattle.osc_word.specs.declared.settings.Config.{Config}
use Rattle.osc_word.specs.declared.steps.Access.{Access}
use Rattle.osc_word.specs.declared.steps.Label.TheVariants.{Touched}
use Rattle.osc_word.specs.Limits.{first_fault}
use Rattle.osc_image.specs.Image.{Image}
use Rattle.osc_image.specs.Frames.{needed_frames}
use Rattle.osc_image.specs.Form.{image_of}
use Rattle.osc_calls.specs.Kernel.{KernelState}
use Rattle.osc_calls.specs.JobDone.{job_done}
use Rattle.osc_machine.specs.DeadPages.{Grave, dead_at, waiting_at}
use Rattle.osc_machine.specs.Run.{Ran, run}
use Rattle.osc_machine.specs.Start.{start_of}
use Rattle.osc_machine.specs.Laws.{HasKernel}

-- an access that a job shows is to no page that is dead or waits
abbrev pub ReachesNoGrave : Ran → KernelState → Type 0
ReachesNoGrave ran k =
    (word place pid hart address width : ℕ) (kind : Access) (done : Bool) (grave : Grave)
    → slice_get (job_done word k).shows place ≡ Some (Touched pid hart address width kind done)
    → (dead_at ran.trace pid (address / 4096) ≡ Some grave) ⊎ (waiting_at ran.trace pid (address / 4096) ≡ Some grave) → ⊥

abbrev pub RunsReachNoGrave : Type 0
RunsReachNoGrave =
    (file : List ℕ) (image : Image) (config : Config) (picks : List ℕ) (k : KernelState)
    → first_fault config ≡ None → image_of file ≡ Ok image → needed_frames config.levels image ≤ config.frames
    → HasKernel (run (start_of image config) picks).state k → ReachesNoGrave (run (start_of image config) picks) k
