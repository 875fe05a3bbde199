-- How many shadow pages each process may be granted. This project's own.
use Rattle.std.specs.Prelude.{ℕ, ◌≡◌, ◌≤◌, Some, None, Ok, List}
use Rattle.osc_word.specs.declared.settings.Config.{Config}
use Rattle.osc_word.specs.declared.steps.Label.{Label}
use Rattle.osc_word.specs.Limits.{first_fault}
use Rattle.osc_image.specs.Image.{Image}
use Rattle.osc_image.specs.Frames.{needed_frames}
use Rattle.osc_image.specs.Form.{image_of}
use Rattle.osc_calls.specs.Kernel.{KernelState, Process, process_at}
use Rattle.osc_machine.specs.Run.{run}
use Rattle.osc_machine.specs.Start.{start_of}
use Rattle.osc_machine.specs.Laws.{HasKernel}
use Rattle.osc_safe.specs.KernelSteps.{KernelStep}

-- as many as the machine says, also one that has ended
abbrev pub ShadowsFit : KernelState → Type 0
ShadowsFit k = (pid : ℕ) (p : Process) → process_at k pid ≡ Some p → p.space.shadows ≡ k.config.shadows

-- ---- the laws
abbrev pub StepsKeepShadows : Type 0
StepsKeepShadows = (old new : KernelState) (shows : List Label) → KernelStep old new shows → ShadowsFit old → ShadowsFit new

abbrev pub RunsFitShadows : Type 0
RunsFitShadows =
    (file : List ℕ) (image : Image) (config : Config) (picks : List ℕ) (k : KernelState)
    → first_fault config ≡ None → image_of file ≡ Ok image → needed_frames config.levels image ≤ config.frames
    → HasKernel (run (start_of image config) picks).state k → ShadowsFit k
