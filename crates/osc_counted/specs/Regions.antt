-- Which frames are those of shared regions, and whose, by the journal. This project's own.
use Rattle.std.specs.Prelude.{ℕ, ◌==◌, ◌≡◌, ◌<◌, ◌≤◌, Bool, false, Option, Some, None, Ok, List, [], ◌∷◌, length, if◌then◌else◌, count_by}
use Rattle.std.specs.List.{range_with_len, flat_map}
use Rattle.osc_word.specs.declared.settings.Config.{Config}
use Rattle.osc_word.specs.declared.steps.Label.{Label}
use Rattle.osc_word.specs.Limits.{first_fault}
use Rattle.osc_image.specs.Image.{Image}
use Rattle.osc_image.specs.Frames.{needed_frames}
use Rattle.osc_image.specs.Form.{image_of}
use Rattle.osc_space.specs.Share.{shared_frames}
use Rattle.osc_parts.specs.Frames.{among}
use Rattle.osc_calls.specs.Kernel.{KernelState, Process, process_at}
use Rattle.osc_settled.specs.FollowLaws.{region_count}
use Rattle.osc_settled.specs.KernelFits.{KernelFits}
use Rattle.osc_machine.specs.Run.{run}
use Rattle.osc_machine.specs.Start.{start_of}
use Rattle.osc_machine.specs.Laws.{HasKernel}
use Rattle.osc_machine.specs.Replay.{Region, Ledger, ledger_at, replay}
use Rattle.osc_machine.specs.Refusals.{region_frames}
use Rattle.osc_safe.specs.KernelSteps.{KernelStep}
use Rattle.osc_ledger.specs.Replays.{ReplayFits}
use Rattle.osc_ledger.specs.Wanting.{is_committed}

-- ---- which call gave a frame, where it is one of a region
abbrev pub Givers : Type 0
Givers = ℕ → Option ℕ

abbrev pub is_giver : ℕ → Option ℕ → Bool
is_giver call None = false
is_giver call (Some other) = other == call

-- how many of these regions the call gave
abbrev pub times : Option ℕ → List Region → ℕ
times giver regions = count_by (λ (r : Region). is_giver r.call giver) regions

-- how many of so many frames the call gave
abbrev pub given_frames : Givers → ℕ → ℕ → ℕ
given_frames givers count call = count_by (λ frame. is_giver call (givers frame)) (range_with_len 0 count)

-- each of these regions was given by one of so many calls, which gave it as many frames as it has pages
abbrev pub AreGiven : Givers → ℕ → ℕ → List Region → Type 0
AreGiven givers calls count [] = Unit {0}
AreGiven givers calls count (r ∷ regions) =
    (r.call < calls) × (given_frames givers count r.call ≡ r.pages) × AreGiven givers calls count regions

-- ---- what is told
-- the regions that the journal tells of a process
abbrev pub regions_told : KernelState → ℕ → List Region
regions_told k pid = (ledger_at (replay k.config k.journal) pid).regions

-- There is a giver for each frame of a region, and each process that has not ended maps a frame as one of
-- a region exactly where the journal tells that it holds the region of the frame's giver: also while a call
-- is under way.
pub record RegionsTold (k : KernelState) : Type 0 where
  pub givers : Givers
  pub past : (frame call : ℕ) → givers frame ≡ Some call → call < length k.journal
  pub given : (pid : ℕ) (p : Process) → process_at k pid ≡ Some p → p.status ≡ None
      → AreGiven givers (length k.journal) k.config.frames (regions_told k pid)
  pub maps : (pid frame : ℕ) (p : Process) → process_at k pid ≡ Some p → p.status ≡ None
      → among frame (shared_frames p.space.tables) ≡ times (givers frame) (regions_told k pid)

-- the regions of all processes that have not ended
abbrev pub regions_of : List Ledger → List Region
regions_of ledgers = flat_map (λ (l : Ledger). if l.over then [] else l.regions) ledgers

-- ---- the laws
abbrev pub StepsKeepRegions : Type 0
StepsKeepRegions =
    (words : List ℕ) (old new : KernelState) (shows : List Label)
    → KernelFits words old → KernelStep old new shows → ReplayFits old → RegionsTold old → RegionsTold new

-- in each run of a file's image that the frames hold, wherever the kernel is
abbrev pub RunsTellRegions : Type 0
RunsTellRegions =
    (file : List ℕ) (image : Image) (config : Config) (picks : List ℕ) (k : KernelState)
    → first_fault config ≡ None → image_of file ≡ Ok image → needed_frames config.levels image ≤ config.frames
    → HasKernel (run (start_of image config) picks).state k → RegionsTold k

-- while no call is committed, the frames of regions are as many as the journal tells, each region once
abbrev pub RegionsAreCounted : Type 0
RegionsAreCounted =
    (words : List ℕ) (k : KernelState)
    → KernelFits words k → is_committed k.under_way ≡ false → ReplayFits k → RegionsTold k
    → region_count k.regions ≡ region_frames (regions_of (replay k.config k.journal))
