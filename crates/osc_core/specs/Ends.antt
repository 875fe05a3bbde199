-- How processes end along a run.
use Rattle.std.specs.Prelude.{ℕ, ◌≡◌, ◌<◌, ◌≤◌, ◌⊎◌, true, Option, Some, None, Ok, IfSome, is_some, List, [], slice_get}
use Rattle.osc_word.specs.declared.settings.Config.{Config}
use Rattle.osc_word.specs.Limits.{first_fault}
use Rattle.osc_image.specs.Image.{Image}
use Rattle.osc_image.specs.Form.{image_of}
use Rattle.osc_image.specs.Frames.{needed_frames}
use Rattle.osc_calls.specs.Kernel.{KernelState, ended}
use Rattle.osc_calls.specs.Finish.{finish}
use Rattle.osc_machine.specs.declared.Ending.{Ending}
use Rattle.osc_machine.specs.declared.Ending.TheVariants.{Exit, Fault}
use Rattle.osc_machine.specs.declared.HartAsk.{HartAsk}
use Rattle.osc_machine.specs.declared.HartAsk.TheVariants as does
use Rattle.osc_machine.specs.Parts.{HartState, State}
use Rattle.osc_machine.specs.Turns.{hart_ask}
use Rattle.osc_machine.specs.Step.{step}
use Rattle.osc_machine.specs.Run.{run}
use Rattle.osc_machine.specs.Start.{start_of}
use Rattle.osc_machine.specs.Views.{ending_of, freed_in, machine_over}
use Rattle.osc_machine.specs.Laws.{Moves}
use Rattle.osc_kernel.specs.Seen.{SeenKernel}
use Rattle.osc_turns.specs.Answers.{freed_of}
use Rattle.osc_core.specs.Sound.{Sound}

-- a step that does anything to the kernel but to return it gives no process a status and takes none
abbrev pub StatusesStay : Type 0
StatusesStay =
    (k next : KernelState) → Moves k next → (next ≡ (finish k).kernel) ⊎ ((pid : ℕ) → ended pid next ≡ ended pid k)

-- ---- the end of process 0
-- an end that a process can have: a guest's status is below 64
abbrev pub IsEnding : Ending → Type 0
IsEnding (Exit status) = status < 64
IsEnding Fault = Unit {0}

-- process 0 has such an end, where it has one, and a machine that is over tells it
pub record EndFits (s : State) : Type 0 where
  pub ending : IfSome (ending_of s) IsEnding
  pub told : machine_over s ≡ true → is_some (ending_of s) ≡ true

-- so it is along each run of the machine of a file's image
abbrev pub EndsFit : Type 0
EndsFit =
    (file : List ℕ) (image : Image) (config : Config) (picks : List ℕ)
    → first_fault config ≡ None → image_of file ≡ Ok image → needed_frames config.levels image ≤ config.frames
    → EndFits (run (start_of image config) picks).state

-- ---- the objects that a step lets go
-- those that the kernel let go that is given, and no step else lets any go
abbrev pub freed_at : HartAsk → Option KernelState → List ℕ
freed_at does.GiveKernel kernel = freed_of kernel
freed_at _ kernel = []

abbrev pub freed_home : HartAsk → Option SeenKernel → List ℕ
freed_home does.GiveKernel (Some k) = k.freed
freed_home _ kernel = []

-- the kernel that comes home let go what its call did
abbrev pub GivesFreed : HartAsk → Option KernelState → Option SeenKernel → Type 0
GivesFreed does.GiveKernel held home = freed_home does.GiveKernel home ≡ freed_of held
GivesFreed _ held home = Unit {0}

abbrev pub StepsFree : Type 0
StepsFree =
    (s : State) (n : ℕ) (h : HartState) → Sound s → slice_get s.harts n ≡ Some h
    → freed_in (step s n).shows ≡ freed_at (hart_ask h) h.kernel
