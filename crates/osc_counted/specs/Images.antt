-- How many frames each process has for its image and its stack. This project's own.
use Rattle.std.specs.Prelude.{ℕ, ◌+◌, ◌≡◌, ◌≤◌, Some, None, Ok, List, length}
use Rattle.osc_word.specs.declared.settings.Config.{Config}
use Rattle.osc_word.specs.declared.steps.Label.{Label}
use Rattle.osc_word.specs.AddressMap.{stack_size}
use Rattle.osc_word.specs.Limits.{first_fault}
use Rattle.osc_image.specs.Image.{Image, pages}
use Rattle.osc_image.specs.Frames.{needed_frames}
use Rattle.osc_image.specs.Form.{image_of}
use Rattle.osc_space.specs.Fork.{image_frames}
use Rattle.osc_calls.specs.Kernel.{KernelState, Process, process_at}
use Rattle.osc_settled.specs.KernelFits.{KernelFits}
use Rattle.osc_machine.specs.Run.{run}
use Rattle.osc_machine.specs.Start.{start_of}
use Rattle.osc_machine.specs.Laws.{HasKernel}
use Rattle.osc_safe.specs.KernelSteps.{KernelStep}
use Rattle.osc_ledger.specs.Replays.{ReplayFits}

-- each process that has not ended has a frame of its own for each of these pages of an image and for each
-- page of its stack, also while a call is under way
abbrev pub ImagesFit : List ℕ → KernelState → Type 0
ImagesFit image k =
    (pid : ℕ) (p : Process) → process_at k pid ≡ Some p → p.status ≡ None
    → length (image_frames p.space.tables) ≡ length image + stack_size

-- ---- the laws
abbrev pub StepsKeepImages : Type 0
StepsKeepImages =
    (words image : List ℕ) (old new : KernelState) (shows : List Label)
    → KernelFits words old → KernelStep old new shows → ReplayFits old → ImagesFit image old → ImagesFit image new

-- in each run of a file's image that the frames hold, wherever the kernel is
abbrev pub RunsFitImages : Type 0
RunsFitImages =
    (file : List ℕ) (image : Image) (config : Config) (picks : List ℕ) (k : KernelState)
    → first_fault config ≡ None → image_of file ≡ Ok image → needed_frames config.levels image ≤ config.frames
    → HasKernel (run (start_of image config) picks).state k → ImagesFit (pages image) k
