-- A hart walks for canonical pages alone. This project's own.
use Rattle.std.specs.Prelude.{ℕ, ◌≡◌, ◌≤◌, true, Some, None, Ok, List, slice_get}
use Rattle.osc_word.specs.declared.settings.Config.{Config}
use Rattle.osc_word.specs.Limits.{first_fault}
use Rattle.osc_sv39.specs.Walk.{is_canonical}
use Rattle.osc_image.specs.Image.{Image}
use Rattle.osc_image.specs.Frames.{needed_frames}
use Rattle.osc_image.specs.Form.{image_of}
use Rattle.osc_guest.specs.declared.places.Place.{Place}
use Rattle.osc_guest.specs.declared.places.Place.TheVariants as at
use Rattle.osc_guest.specs.Accesses.{access_page}
use Rattle.osc_machine.specs.Parts.{HartState, State}
use Rattle.osc_machine.specs.Step.{step}
use Rattle.osc_machine.specs.Run.{run}
use Rattle.osc_machine.specs.Start.{start_of}

-- with tables of so many levels
abbrev pub WalksCanonical : ℕ → Place → Type 0
WalksCanonical levels (at.Walk access level table) = is_canonical levels (access_page access) ≡ true
WalksCanonical levels _ = Unit {0}

abbrev pub AllCanonical : State → Type 0
AllCanonical s = (n : ℕ) (h : HartState) → slice_get s.harts n ≡ Some h → WalksCanonical h.user.levels h.user.place

-- ---- the laws
abbrev pub StepsStayCanonical : Type 0
StepsStayCanonical = (s : State) (n : ℕ) → AllCanonical s → AllCanonical (step s n).state

abbrev pub RunsStayCanonical : Type 0
RunsStayCanonical =
    (file : List ℕ) (image : Image) (config : Config) (picks : List ℕ)
    → first_fault config ≡ None → image_of file ≡ Ok image → needed_frames config.levels image ≤ config.frames
    → AllCanonical (run (start_of image config) picks).state
