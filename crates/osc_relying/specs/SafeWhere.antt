-- A run on the heap with shadows is safe where the machine relies at each moment. This project's own.
use Rattle.std.specs.Prelude.{ℕ, ◌≡◌, ◌≤◌, None, Ok, List}
use Rattle.osc_word.specs.declared.settings.Config.{Config}
use Rattle.osc_word.specs.declared.settings.HeapKind.TheVariants.{Oscar}
use Rattle.osc_word.specs.Limits.{first_fault}
use Rattle.osc_image.specs.Image.{Image}
use Rattle.osc_image.specs.Frames.{needed_frames}
use Rattle.osc_image.specs.Form.{image_of}
use Rattle.osc_calls.specs.Kernel.{KernelState}
use Rattle.osc_machine.specs.Laws.{HasKernel}
use Rattle.osc_machine.specs.Parts.{State}
use Rattle.osc_machine.specs.Safe.{Safe, state_at}
use Rattle.osc_machine.specs.Start.{start_of}
use Rattle.osc_relying.specs.Relying.{Relies}

-- so it is with the kernel of a state
pub record ReliesAt (s : State) : Type 0 where
  pub kernel : KernelState
  pub has : HasKernel s kernel
  pub heap : kernel.config.heap ≡ Oscar
  pub relies : Relies s kernel

-- ---- the law
abbrev pub SafeWhereRelying : Type 0
SafeWhereRelying =
    (file : List ℕ) (image : Image) (config : Config) (picks : List ℕ)
    → first_fault config ≡ None → image_of file ≡ Ok image → needed_frames config.levels image ≤ config.frames
    → ((i : ℕ) → ReliesAt (state_at (start_of image config) picks i)) → Safe (start_of image config) picks
