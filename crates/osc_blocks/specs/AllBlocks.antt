-- The heap of each process is one, and its objects that wait hold their blocks, at every moment. This project's
-- own.
use Rattle.std.specs.Prelude.{ℕ, ◌≡◌, ◌≤◌, Some, None, Ok, List}
use Rattle.osc_word.specs.declared.settings.Config.{Config}
use Rattle.osc_word.specs.declared.settings.HeapKind.TheVariants.{Oscar}
use Rattle.osc_word.specs.declared.steps.Label.{Label}
use Rattle.osc_word.specs.Limits.{first_fault}
use Rattle.osc_image.specs.Image.{Image}
use Rattle.osc_image.specs.Frames.{needed_frames}
use Rattle.osc_image.specs.Form.{image_of}
use Rattle.osc_calls.specs.Kernel.{KernelState, Process, process_at}
use Rattle.osc_settled.specs.KernelFits.{KernelFits}
use Rattle.osc_machine.specs.Run.{run}
use Rattle.osc_machine.specs.Start.{start_of}
use Rattle.osc_machine.specs.Laws.{HasKernel}
use Rattle.osc_safe.specs.KernelSteps.{KernelStep}
use Rattle.osc_caches.specs.Blocks.{BlocksStand}

-- of each process that has not ended
abbrev pub AllBlocksStand : KernelState → Type 0
AllBlocksStand k = (pid : ℕ) (p : Process) → process_at k pid ≡ Some p → p.status ≡ None → BlocksStand p.space

-- ---- the laws
abbrev pub StepsKeepBlocks : Type 0
StepsKeepBlocks =
    (words : List ℕ) (old new : KernelState) (shows : List Label)
    → KernelFits words old → old.config.heap ≡ Oscar → KernelStep old new shows → AllBlocksStand old → AllBlocksStand new

abbrev pub RunsKeepBlocks : Type 0
RunsKeepBlocks =
    (file : List ℕ) (image : Image) (config : Config) (picks : List ℕ) (k : KernelState)
    → first_fault config ≡ None → image_of file ≡ Ok image → needed_frames config.levels image ≤ config.frames
    → HasKernel (run (start_of image config) picks).state k → k.config.heap ≡ Oscar → AllBlocksStand k
