-- The frames in use, counted from the journal, are those that are not free. This project's own.
use Rattle.std.specs.Prelude.{ℕ, ◌≡◌, ◌≤◌, false, Some, None, Ok, List, length}
use Rattle.osc_word.specs.declared.settings.Config.{Config}
use Rattle.osc_word.specs.Limits.{first_fault}
use Rattle.osc_image.specs.Image.{Image, pages}
use Rattle.osc_image.specs.Frames.{needed_frames}
use Rattle.osc_image.specs.Form.{image_of}
use Rattle.osc_slot.specs.Heap.{free_count}
use Rattle.osc_paging.specs.KeptTables.{KeptTables}
use Rattle.osc_space.specs.Fork.{private_frames}
use Rattle.osc_space.specs.Used.{tables_used}
use Rattle.osc_calls.specs.Kernel.{KernelState, Process, process_at}
use Rattle.osc_settled.specs.KernelFits.{KernelFits}
use Rattle.osc_machine.specs.Run.{run}
use Rattle.osc_machine.specs.Start.{start_of}
use Rattle.osc_machine.specs.Laws.{HasKernel}
use Rattle.osc_machine.specs.Replay.{Ledger, ledger_at, replay}
use Rattle.osc_machine.specs.Refusals.{Setting, setting_of, ever_mapped, given_up, process_frames, unused}
use Rattle.osc_ledger.specs.Replays.{ReplayFits}
use Rattle.osc_ledger.specs.Wanting.{setting, is_committed}
use Rattle.osc_counted.specs.Images.{ImagesFit}
use Rattle.osc_counted.specs.Regions.{RegionsTold}

-- ---- tables
-- these tables are as many as a ledger tells
abbrev pub HasCount : Setting → Ledger → KeptTables → Type 0
HasCount s l t = tables_used s.config.levels (ever_mapped s l) (given_up l) ≡ length t.tables

-- and so it is for each process that has not ended
abbrev pub TablesNumber : Setting → KernelState → Type 0
TablesNumber s k =
    (pid : ℕ) (p : Process) → process_at k pid ≡ Some p → p.status ≡ None
    → HasCount s (ledger_at (replay s.config k.journal) pid) p.space.tables

-- ---- the laws
-- where its tables are as many as is told, a process that has not ended has as many frames alone as is told
abbrev pub PrivateAreCounted : Type 0
PrivateAreCounted =
    (words image : List ℕ) (k : KernelState) (pid : ℕ) (p : Process)
    → KernelFits words k → is_committed k.under_way ≡ false → ReplayFits k → ImagesFit image k
    → process_at k pid ≡ Some p → p.status ≡ None
    → HasCount (setting k image) (ledger_at (replay k.config k.journal) pid) p.space.tables
    → process_frames (setting k image) (ledger_at (replay k.config k.journal) pid) ≡ length (private_frames p.space (length k.free))

-- where each process's are, the frames that the journal tells as unused are as many as the free ones
abbrev pub UnusedAreFree : Type 0
UnusedAreFree =
    (words image : List ℕ) (k : KernelState)
    → KernelFits words k → is_committed k.under_way ≡ false → ReplayFits k → ImagesFit image k → RegionsTold k
    → TablesNumber (setting k image) k
    → unused (setting k image) (replay k.config k.journal) ≡ free_count k.free

-- what is told of frames: the unused ones, and for each process that has not ended how many it has alone
pub record CountsTold (s : Setting) (k : KernelState) : Type 0 where
  pub unused : unused s (replay s.config k.journal) ≡ free_count k.free
  pub private : (pid : ℕ) (p : Process) → process_at k pid ≡ Some p → p.status ≡ None
      → process_frames s (ledger_at (replay s.config k.journal) pid) ≡ length (private_frames p.space (length k.free))

-- so it is in each run of a file's image that the frames hold, wherever no call is committed
abbrev pub RunsTellUnused : Type 0
RunsTellUnused =
    (file : List ℕ) (image : Image) (config : Config) (picks : List ℕ) (k : KernelState)
    → first_fault config ≡ None → image_of file ≡ Ok image → needed_frames config.levels image ≤ config.frames
    → HasKernel (run (start_of image config) picks).state k → is_committed k.under_way ≡ false
    → TablesNumber (setting_of image config) k → CountsTold (setting_of image config) k
