-- The shadow pages that were granted are those that the journal tells. This project's own.
use Rattle.std.specs.Prelude.{ℕ, ◌+◌, ◌≡◌, ◌≤◌, Some, None, Ok, List, sum_by}
use Rattle.osc_word.specs.declared.settings.Config.{Config}
use Rattle.osc_word.specs.declared.calls.Entry.{Entry}
use Rattle.osc_word.specs.declared.calls.Call.{Call}
use Rattle.osc_word.specs.declared.calls.Call.TheVariants.{Malloc, Realloc}
use Rattle.osc_word.specs.declared.calls.Answer.{Answer}
use Rattle.osc_word.specs.declared.calls.Answer.TheVariants.{Given, Moved}
use Rattle.osc_word.specs.declared.steps.Label.{Label}
use Rattle.osc_word.specs.Limits.{first_fault}
use Rattle.osc_class.specs.Rooms.{room_of, shadow_pages}
use Rattle.osc_image.specs.Image.{Image}
use Rattle.osc_image.specs.Frames.{needed_frames}
use Rattle.osc_image.specs.Form.{image_of}
use Rattle.osc_space.specs.declared.ObjectFact.{ObjectFact}
use Rattle.osc_space.specs.Objects.{mark, fact}
use Rattle.osc_calls.specs.Kernel.{KernelState, Process, process_at, granted}
use Rattle.osc_calls.specs.Open.{open_kernel}
use Rattle.osc_machine.specs.Replay.{Ledger, told_by}
use Rattle.osc_machine.specs.Run.{run}
use Rattle.osc_machine.specs.Start.{start_of}
use Rattle.osc_machine.specs.Laws.{HasKernel}
use Rattle.osc_safe.specs.KernelSteps.{KernelStep}

-- ---- what the journal tells
-- a malloc and each realloc that is answered with a new object grants the shadow pages of its size's room;
-- all other calls and answers grant none
abbrev pub pages_for : Call → Answer → ℕ
pages_for (Malloc size) (Given object pointer) = shadow_pages (room_of size)
pages_for (Realloc pointer size) (Given object new) = shadow_pages (room_of size)
pages_for (Realloc pointer size) (Moved old object new) = shadow_pages (room_of size)
pages_for _ _ = 0

abbrev pub pages_granted : Entry → ℕ
pages_granted entry = pages_for entry.call entry.answer

abbrev pub granted_told : List Entry → ℕ
granted_told journal = sum_by pages_granted journal

-- ---- what the kernel keeps
-- the pages that all processes granted themselves are those that the journal tells, and no process has fewer
-- than it inherited
pub record GrantedFit (k : KernelState) : Type 0 where
  pub inherited : (pid : ℕ) (p : Process) → process_at k pid ≡ Some p → p.inherited ≤ mark p.space.objects
  pub told : granted k ≡ granted_told k.journal

-- ---- the laws
abbrev pub StartsFitGranted : Type 0
StartsFitGranted = (image : Image) (config : Config) → GrantedFit (open_kernel image config)

abbrev pub StepsKeepGranted : Type 0
StepsKeepGranted = (old new : KernelState) (shows : List Label) → KernelStep old new shows → GrantedFit old → GrantedFit new

-- in each run of a file's image that the frames hold, wherever the kernel is
abbrev pub RunsFitGranted : Type 0
RunsFitGranted =
    (file : List ℕ) (image : Image) (config : Config) (picks : List ℕ) (k : KernelState)
    → first_fault config ≡ None → image_of file ≡ Ok image → needed_frames config.levels image ≤ config.frames
    → HasKernel (run (start_of image config) picks).state k → GrantedFit k

abbrev pub RunsTellGranted : Type 0
RunsTellGranted =
    (file : List ℕ) (image : Image) (config : Config) (picks : List ℕ) (k : KernelState)
    → first_fault config ≡ None → image_of file ≡ Ok image → needed_frames config.levels image ≤ config.frames
    → HasKernel (run (start_of image config) picks).state k → granted k ≡ granted_told k.journal

-- an object that was moved is one that the ledger has
abbrev pub KnowsMoved : Answer → Ledger → Type 0
KnowsMoved (Moved old object new) l = (o : ObjectFact) × (fact l.objects old ≡ Some o)
KnowsMoved _ l = Unit {0}

-- so an entry's pages are those by which the mark grows in the ledger of its process
abbrev pub EntriesRaiseMarks : Type 0
EntriesRaiseMarks =
    (config : Config) (place : ℕ) (call : Call) (answer : Answer) (l : Ledger) → KnowsMoved answer l
    → mark (told_by config place call answer l).objects ≡ mark l.objects + pages_for call answer
