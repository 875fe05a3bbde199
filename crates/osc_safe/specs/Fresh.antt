-- No shadow page is granted twice in a run. This project's own.
use Rattle.std.specs.Prelude.{ℕ, ◌≡◌, ◌≤◌, true, Some, None, Ok, List, slice_get, take}
use Rattle.osc_word.specs.declared.settings.Config.{Config}
use Rattle.osc_word.specs.declared.steps.Label.{Label}
use Rattle.osc_word.specs.Limits.{first_fault}
use Rattle.osc_image.specs.Image.{Image}
use Rattle.osc_image.specs.Frames.{needed_frames}
use Rattle.osc_image.specs.Form.{image_of}
use Rattle.osc_machine.specs.DeadPages.{is_page_of, shadow_at}
use Rattle.osc_machine.specs.Safe.{Grant, grant_in}
use Rattle.osc_machine.specs.Run.{run}
use Rattle.osc_machine.specs.Start.{start_of}

-- the labels of a trace before a grant grant none of its pages to its process
abbrev pub GrantsAreFresh : List Label → Type 0
GrantsAreFresh trace =
    (place page : ℕ) (label : Label) (grant : Grant)
    → slice_get trace place ≡ Some label → grant_in label ≡ Some grant → is_page_of page grant.shadow ≡ true
    → shadow_at (take place trace) grant.pid page ≡ None

abbrev pub RunsGrantOnce : Type 0
RunsGrantOnce =
    (file : List ℕ) (image : Image) (config : Config) (picks : List ℕ)
    → first_fault config ≡ None → image_of file ≡ Ok image → needed_frames config.levels image ≤ config.frames
    → GrantsAreFresh (run (start_of image config) picks).trace
