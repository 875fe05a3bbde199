-- The tables of each process have as many levels as the machine. This project's own.
use Rattle.std.specs.Prelude.{ℕ, ◌≡◌, ◌≤◌, Some, None, Ok, List}
use Rattle.osc_word.specs.declared.settings.Config.{Config}
use Rattle.osc_word.specs.declared.steps.Label.{Label}
use Rattle.osc_word.specs.Limits.{first_fault}
use Rattle.osc_image.specs.Image.{Image}
use Rattle.osc_image.specs.Frames.{needed_frames}
use Rattle.osc_image.specs.Form.{image_of}
use Rattle.osc_paging.specs.KeptTables.{levels_of}
use Rattle.osc_calls.specs.Kernel.{KernelState, Process, process_at}
use Rattle.osc_machine.specs.Run.{run}
use Rattle.osc_machine.specs.Start.{start_of}
use Rattle.osc_machine.specs.Laws.{HasKernel}
use Rattle.osc_safe.specs.KernelSteps.{KernelStep}

-- also of one that has ended
abbrev pub LevelsFit : KernelState → Type 0
LevelsFit k = (pid : ℕ) (p : Process) → process_at k pid ≡ Some p → levels_of p.space.tables ≡ k.config.levels

-- ---- the laws
abbrev pub StepsKeepLevels : Type 0
StepsKeepLevels = (old new : KernelState) (shows : List Label) → KernelStep old new shows → LevelsFit old → LevelsFit new

abbrev pub RunsFitLevels : Type 0
RunsFitLevels =
    (file : List ℕ) (image : Image) (config : Config) (picks : List ℕ) (k : KernelState)
    → first_fault config ≡ None → image_of file ≡ Ok image → needed_frames config.levels image ≤ config.frames
    → HasKernel (run (start_of image config) picks).state k → LevelsFit k
