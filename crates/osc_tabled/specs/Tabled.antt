-- At every moment of a run each process has exactly the tables that the journal tells. This project's own.
use Rattle.std.specs.Prelude.{ℕ, ◌≡◌, ◌≤◌, Some, None, Ok, List, slice_get}
use Rattle.osc_word.specs.declared.settings.Config.{Config}
use Rattle.osc_word.specs.declared.steps.Label.{Label}
use Rattle.osc_word.specs.Limits.{first_fault}
use Rattle.osc_image.specs.Image.{Image, pages}
use Rattle.osc_image.specs.Frames.{needed_frames}
use Rattle.osc_image.specs.Form.{image_of}
use Rattle.osc_calls.specs.Kernel.{KernelState, Process}
use Rattle.osc_calls.specs.Open.{open_kernel}
use Rattle.osc_settled.specs.KernelFits.{KernelFits}
use Rattle.osc_machine.specs.Run.{run}
use Rattle.osc_machine.specs.Start.{start_of}
use Rattle.osc_machine.specs.Laws.{HasKernel}
use Rattle.osc_machine.specs.Replay.{ledger_at, replay}
use Rattle.osc_safe.specs.KernelSteps.{KernelStep}
use Rattle.osc_ledger.specs.Replays.{processes_then, ReplayFits}
use Rattle.osc_ledger.specs.Tables.{TablesTold}
use Rattle.osc_ledger.specs.Wanting.{setting}

-- Each process that has not ended, as it is once the call under way has given back what its plan left, has
-- the tables that its ledger tells; `image` has the pages of the image. While no call is committed these are
-- the processes as they are.
abbrev pub TablesFit : List ℕ → KernelState → Type 0
TablesFit image k =
    (pid : ℕ) (p : Process) → slice_get (processes_then k) pid ≡ Some p → p.status ≡ None
    → TablesTold (setting k image) (ledger_at (replay k.config k.journal) pid) p.space.tables

-- ---- the laws
-- the machine that opens with the image of a file has them
abbrev pub StartsFitTables : Type 0
StartsFitTables =
    (file : List ℕ) (image : Image) (config : Config)
    → first_fault config ≡ None → image_of file ≡ Ok image → needed_frames config.levels image ≤ config.frames
    → TablesFit (pages image) (open_kernel image config)

-- each step of the kernel keeps that
abbrev pub StepsKeepTables : Type 0
StepsKeepTables =
    (words image : List ℕ) (old new : KernelState) (shows : List Label)
    → KernelFits words old → KernelStep old new shows → ReplayFits old → TablesFit image old → TablesFit image new

-- in each run of a file's image that the frames hold, wherever the kernel is
abbrev pub RunsFitTables : Type 0
RunsFitTables =
    (file : List ℕ) (image : Image) (config : Config) (picks : List ℕ) (k : KernelState)
    → first_fault config ≡ None → image_of file ≡ Ok image → needed_frames config.levels image ≤ config.frames
    → HasKernel (run (start_of image config) picks).state k → TablesFit (pages image) k
