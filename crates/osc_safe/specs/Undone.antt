-- An access that is shown as not done changes nothing: the hart stores nothing in its instruction, and keeps
-- its registers and its pc. This project's own.
use Rattle.std.specs.Prelude.{ℕ, ◌≡◌, ◌≤◌, false, None, Ok, List}
use Rattle.std.specs.List.{Contains}
use Rattle.osc_word.specs.declared.settings.Config.{Config}
use Rattle.osc_word.specs.declared.steps.Access.{Access}
use Rattle.osc_word.specs.declared.steps.Label.TheVariants.{Touched}
use Rattle.osc_word.specs.Limits.{first_fault}
use Rattle.osc_image.specs.Image.{Image}
use Rattle.osc_image.specs.Frames.{needed_frames}
use Rattle.osc_image.specs.Form.{image_of}
use Rattle.osc_machine.specs.Parts.{State}
use Rattle.osc_machine.specs.Safe.{shows_at, InstructionChangesNothing}
use Rattle.osc_machine.specs.Start.{start_of}

abbrev pub UndoneChangesNothing : State → List ℕ → Type 0
UndoneChangesNothing start picks =
    (i pid hart address width : ℕ) (kind : Access) → Contains (shows_at start picks i) (Touched pid hart address width kind false)
    → InstructionChangesNothing start picks hart i

abbrev pub RunsUndo : Type 0
RunsUndo =
    (file : List ℕ) (image : Image) (config : Config) (picks : List ℕ)
    → first_fault config ≡ None → image_of file ≡ Ok image → needed_frames config.levels image ≤ config.frames
    → UndoneChangesNothing (start_of image config) picks
