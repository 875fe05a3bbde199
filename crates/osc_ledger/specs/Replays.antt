-- At every moment of a run the journal tells what the kernel keeps of each process. This project's own.
use Rattle.std.specs.Prelude.{ℕ, ◌≡◌, ◌≤◌, false, Some, None, Ok, List, length, map, slice_get, count_by, sum_by}
use Rattle.osc_word.specs.declared.settings.Config.{Config}
use Rattle.osc_word.specs.declared.steps.Label.{Label}
use Rattle.osc_word.specs.Limits.{first_fault}
use Rattle.osc_image.specs.Image.{Image}
use Rattle.osc_image.specs.Frames.{needed_frames}
use Rattle.osc_image.specs.Form.{image_of}
use Rattle.osc_calls.specs.Kernel.{KernelState, Process, runs}
use Rattle.osc_calls.specs.Finish.{finish}
use Rattle.osc_settled.specs.KernelFits.{KernelFits}
use Rattle.osc_machine.specs.Replay.{Ledger, replay}
use Rattle.osc_machine.specs.Agreements.{account_told, account_kept, ReplayAgrees}
use Rattle.osc_machine.specs.Run.{run}
use Rattle.osc_machine.specs.Start.{start_of}
use Rattle.osc_machine.specs.Laws.{HasKernel}
use Rattle.osc_safe.specs.KernelSteps.{KernelStep}

-- the processes as they are once the call under way has given back what its plan left
abbrev pub processes_then : KernelState → List Process
processes_then k = (finish k).kernel.processes

-- so the objects of each process, those that wait and its held blocks are those that the journal tells
abbrev pub AccountsFit : KernelState → Type 0
AccountsFit k = map account_told (replay k.config k.journal) ≡ map account_kept (processes_then k)

-- as many harts run a process that goes on as the journal tells of its threads
abbrev pub ThreadsFit : KernelState → Type 0
ThreadsFit k =
    (pid : ℕ) (l : Ledger) → slice_get (replay k.config k.journal) pid ≡ Some l → l.over ≡ false
    → l.threads ≡ count_by (runs pid) k.records

-- and as many threads were spawned
abbrev pub SpawnedFit : KernelState → Type 0
SpawnedFit k = sum_by (λ (l : Ledger). l.spawned) (replay k.config k.journal) ≡ length k.threads

pub record ReplayFits (k : KernelState) : Type 0 where
  pub accounts : AccountsFit k
  pub threads : ThreadsFit k
  pub spawned : SpawnedFit k

-- ---- the laws
abbrev pub StepsKeepReplay : Type 0
StepsKeepReplay =
    (words : List ℕ) (old new : KernelState) (shows : List Label)
    → KernelFits words old → KernelStep old new shows → ReplayFits old → ReplayFits new

-- in each run of a file's image that the frames hold, wherever the kernel is
abbrev pub RunsFitReplay : Type 0
RunsFitReplay =
    (file : List ℕ) (image : Image) (config : Config) (picks : List ℕ) (k : KernelState)
    → first_fault config ≡ None → image_of file ≡ Ok image → needed_frames config.levels image ≤ config.frames
    → HasKernel (run (start_of image config) picks).state k → ReplayFits k

-- and so, while no hart holds it, the journal tells what it keeps
abbrev pub RunsAgreeWithReplay : Type 0
RunsAgreeWithReplay =
    (file : List ℕ) (image : Image) (config : Config) (picks : List ℕ)
    → first_fault config ≡ None → image_of file ≡ Ok image → needed_frames config.levels image ≤ config.frames
    → ReplayAgrees config (run (start_of image config) picks).state
