-- A call whose jobs are done while no hart is in an instruction: its hart holds all boxes. Those of calls on
-- the heap, and of one that begins a thread, are done while harts run. This project's own.
use Rattle.std.specs.Prelude.{ℕ, ◌≡◌, ◌≤◌, ◌⊎◌, Bool, true, Some, None, Ok, List, [], slice_get}
use Rattle.osc_word.specs.declared.calls.Call.{Call}
use Rattle.osc_word.specs.declared.calls.Call.TheVariants.{Spawn}
use Rattle.osc_word.specs.declared.settings.Config.{Config}
use Rattle.osc_word.specs.Limits.{first_fault}
use Rattle.osc_image.specs.Image.{Image}
use Rattle.osc_image.specs.Frames.{needed_frames}
use Rattle.osc_image.specs.Form.{image_of}
use Rattle.osc_calls.specs.Kernel.{KernelState, Committed, Returning}
use Rattle.osc_calls.specs.Requests.{meant}
use Rattle.osc_machine.specs.Parts.{HartState, State}
use Rattle.osc_machine.specs.Step.{step}
use Rattle.osc_machine.specs.Run.{run}
use Rattle.osc_machine.specs.Start.{start_of}
use Rattle.osc_safe.specs.Holding.{holds_for_call, Holds}
use Rattle.osc_safe.specs.Standing.{Stands}
use Rattle.osc_records.specs.Recorded.{AllRecorded}
use Rattle.osc_caches.specs.HeapShows.{is_heap_call}

-- its jobs are done while harts run
abbrev pub goes_beside : Call → Bool
goes_beside (Spawn pc sp arg) = true
goes_beside call = is_heap_call call

-- box 0 stands for all: a hart that does jobs holds all boxes or none
abbrev pub IsShut : HartState → Type 0
IsShut h =
    (k : KernelState) (done : Committed) → h.kernel ≡ Some k → k.under_way ≡ Returning done
    → (k.jobs ≡ []) ⊎ ((goes_beside (meant done.calling.call) ≡ true) ⊎ (holds_for_call h 0 ≡ true))

abbrev pub AllShut : State → Type 0
AllShut s = (n : ℕ) (h : HartState) → slice_get s.harts n ≡ Some h → IsShut h

-- ---- the laws
abbrev pub StepsShut : Type 0
StepsShut = (s : State) (n : ℕ) → Holds s → Stands s → AllRecorded s → AllShut s → AllShut (step s n).state

abbrev pub RunsShut : Type 0
RunsShut =
    (file : List ℕ) (image : Image) (config : Config) (picks : List ℕ)
    → first_fault config ≡ None → image_of file ≡ Ok image → needed_frames config.levels image ≤ config.frames
    → AllShut (run (start_of image config) picks).state
