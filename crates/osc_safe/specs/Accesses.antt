-- What is left to be shown of the accesses of a run for the run to be safe. This project's own.
use Rattle.std.specs.Prelude.{ℕ, ◌≡◌, ◌≤◌, ◌⊎◌, false, None, Ok, List}
use Rattle.osc_word.specs.declared.settings.Config.{Config}
use Rattle.osc_word.specs.Limits.{first_fault}
use Rattle.osc_image.specs.Image.{Image}
use Rattle.osc_image.specs.Frames.{needed_frames}
use Rattle.osc_image.specs.Form.{image_of}
use Rattle.osc_machine.specs.Parts.{State}
use Rattle.osc_machine.specs.Safe.{TouchesDead, TouchesWaiting, ReachesBlock, Safe}
use Rattle.osc_machine.specs.Start.{start_of}

-- an access to a dead page is not done, and one to a page that waits is not, or it stays in its object's block
pub record AccessesSafe (start : State) (picks : List ℕ) : Type 0 where
  pub faults : (i : ℕ) (t : TouchesDead start picks i) → t.done ≡ false
  pub waits : (i : ℕ) (t : TouchesWaiting start picks i)
      → (t.done ≡ false) ⊎ ReachesBlock start picks i t.hart t.pid t.address t.grave.shadow.object

-- a run whose accesses are safe is safe: all else holds of every run
abbrev pub SafeByAccesses : Type 0
SafeByAccesses =
    (file : List ℕ) (image : Image) (config : Config) (picks : List ℕ)
    → first_fault config ≡ None → image_of file ≡ Ok image → needed_frames config.levels image ≤ config.frames
    → AccessesSafe (start_of image config) picks → Safe (start_of image config) picks
