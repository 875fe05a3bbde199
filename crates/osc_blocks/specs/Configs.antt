-- The configuration stays all along a run. This project's own.
use Rattle.std.specs.Prelude.{ℕ, ◌≡◌, ◌≤◌, None, Ok, List}
use Rattle.osc_word.specs.declared.settings.Config.{Config}
use Rattle.osc_word.specs.declared.steps.Label.{Label}
use Rattle.osc_word.specs.Limits.{first_fault}
use Rattle.osc_image.specs.Image.{Image}
use Rattle.osc_image.specs.Frames.{needed_frames}
use Rattle.osc_image.specs.Form.{image_of}
use Rattle.osc_calls.specs.Kernel.{KernelState}
use Rattle.osc_machine.specs.Run.{run}
use Rattle.osc_machine.specs.Start.{start_of}
use Rattle.osc_machine.specs.Laws.{HasKernel}
use Rattle.osc_safe.specs.KernelSteps.{KernelStep}

abbrev pub StepsKeepConfig : Type 0
StepsKeepConfig = (old new : KernelState) (shows : List Label) → KernelStep old new shows → new.config ≡ old.config

abbrev pub RunsKeepConfig : Type 0
RunsKeepConfig =
    (file : List ℕ) (image : Image) (config : Config) (picks : List ℕ) (k : KernelState)
    → first_fault config ≡ None → image_of file ≡ Ok image → needed_frames config.levels image ≤ config.frames
    → HasKernel (run (start_of image config) picks).state k → k.config ≡ config
