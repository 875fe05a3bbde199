-- The machine before its first step: its words agree with the tables of its process, and no call is under way.
-- This project's own.
use Rattle.std.specs.Prelude.{ℕ, ◌≡◌, ◌≤◌, None, Ok, List}
use Rattle.osc_word.specs.declared.settings.Config.{Config}
use Rattle.osc_word.specs.Limits.{first_fault}
use Rattle.osc_image.specs.Image.{Image}
use Rattle.osc_image.specs.Frames.{needed_frames}
use Rattle.osc_image.specs.Form.{image_of}
use Rattle.osc_machine.specs.Parts.{State}
use Rattle.osc_machine.specs.Start.{start_of}
use Rattle.osc_caches.specs.Words.{WordsAgree}
use Rattle.osc_caches.specs.ShowSteps.{AllShow}

-- what each step keeps of the machine's own words
pub record WordsStand (s : State) : Type 0 where
  pub agree : WordsAgree s s.words
  pub show : AllShow s s.words

abbrev pub StartsStand : Type 0
StartsStand =
    (file : List ℕ) (image : Image) (config : Config)
    → first_fault config ≡ None → image_of file ≡ Ok image → needed_frames config.levels image ≤ config.frames → WordsStand (start_of image config)
