-- What the journal tells at each moment of a machine's run. This project's own.
use Rattle.std.specs.Prelude.{ℕ, ◌≡◌, ◌≤◌, None, Ok, List}
use Rattle.osc_word.specs.declared.settings.Config.{Config}
use Rattle.osc_word.specs.Limits.{first_fault}
use Rattle.osc_image.specs.Image.{Image}
use Rattle.osc_image.specs.Frames.{needed_frames}
use Rattle.osc_image.specs.Form.{image_of}
use Rattle.osc_calls.specs.Kernel.{KernelState}
use Rattle.osc_machine.specs.Parts.{State}
use Rattle.osc_machine.specs.Run.{run}
use Rattle.osc_machine.specs.Start.{start_of}
use Rattle.osc_machine.specs.Laws.{HasKernel}
use Rattle.osc_machine.specs.Agreements.{ReplayAgrees}
use Rattle.osc_ledger.specs.Replays.{ReplayFits}

-- a run of a file's image that the frames hold, in a configuration in range, comes to this state
pub record Reached (config : Config) (s : State) : Type 0 where
  pub file : List ℕ
  pub image : Image
  pub picks : List ℕ
  pub valid : first_fault config ≡ None
  pub taken : image_of file ≡ Ok image
  pub enough : needed_frames config.levels image ≤ config.frames
  pub comes : s ≡ (run (start_of image config) picks).state

-- While no hart holds the kernel, the journal tells the objects of each process, those that wait and its held
-- blocks; while one does, it tells them as they are once its call has given back what its plan left.
pub record JournalTells (config : Config) (s : State) : Type 0 where
  pub reached : Reached config s
  pub home : ReplayAgrees config s
  pub anywhere : (k : KernelState) → HasKernel s k → ReplayFits k
