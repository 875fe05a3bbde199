-- A write that is refused appends nothing to the output. This project's own.
use Rattle.std.specs.Prelude.{ℕ, ◌+◌, ◌≡◌, ◌≤◌, None, Ok, List}
use Rattle.osc_word.specs.declared.settings.Config.{Config}
use Rattle.osc_word.specs.Limits.{first_fault}
use Rattle.osc_image.specs.Image.{Image}
use Rattle.osc_image.specs.Frames.{needed_frames}
use Rattle.osc_image.specs.Form.{image_of}
use Rattle.osc_machine.specs.Parts.{State}
use Rattle.osc_machine.specs.Views.{output_of}
use Rattle.osc_machine.specs.Safe.{state_at, HoldsKernel, RefusesWrite}
use Rattle.osc_machine.specs.Start.{start_of}

-- not in the step that commits it, and not until its hart has given the kernel
abbrev pub NothingWritten : State → List ℕ → Type 0
NothingWritten start picks =
    (i hart to : ℕ) → RefusesWrite start picks i hart → i ≤ to → HoldsKernel start picks hart (i + 1) to
    → output_of (state_at start picks (to + 1)) ≡ output_of (state_at start picks i)

abbrev pub RunsRefuse : Type 0
RunsRefuse =
    (file : List ℕ) (image : Image) (config : Config) (picks : List ℕ)
    → first_fault config ≡ None → image_of file ≡ Ok image → needed_frames config.levels image ≤ config.frames
    → NothingWritten (start_of image config) picks
