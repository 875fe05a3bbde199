-- Every run on the heap with shadows is safe. This project's own.
use Rattle.std.specs.Prelude.{ℕ, ◌≡◌, ◌≤◌, None, Ok, List}
use Rattle.osc_word.specs.declared.settings.Config.{Config}
use Rattle.osc_word.specs.declared.settings.HeapKind.TheVariants.{Oscar}
use Rattle.osc_word.specs.Limits.{first_fault}
use Rattle.osc_image.specs.Image.{Image}
use Rattle.osc_image.specs.Frames.{needed_frames}
use Rattle.osc_image.specs.Form.{image_of}
use Rattle.osc_machine.specs.Run.{run}
use Rattle.osc_machine.specs.Safe.{Safe}
use Rattle.osc_machine.specs.Start.{start_of}
use Rattle.osc_relying.specs.SafeWhere.{ReliesAt}

-- ---- the laws, for every image of a file that the frames hold, every configuration in range on the heap with
-- shadows, and every list of picks
abbrev pub RunsRely : Type 0
RunsRely =
    (file : List ℕ) (image : Image) (config : Config) (picks : List ℕ)
    → first_fault config ≡ None → image_of file ≡ Ok image → needed_frames config.levels image ≤ config.frames → config.heap ≡ Oscar
    → ReliesAt (run (start_of image config) picks).state

abbrev pub EveryRunIsSafe : Type 0
EveryRunIsSafe =
    (file : List ℕ) (image : Image) (config : Config) (picks : List ℕ)
    → first_fault config ≡ None → image_of file ≡ Ok image → needed_frames config.levels image ≤ config.frames → config.heap ≡ Oscar
    → Safe (start_of image config) picks
