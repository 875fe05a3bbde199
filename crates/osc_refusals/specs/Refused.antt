-- In every run memory is refused exactly for want of it. This project's own.
use Rattle.std.specs.Prelude.{ℕ, ◌≡◌, ◌≤◌, false, None, Ok, List}
use Rattle.osc_word.specs.declared.settings.Config.{Config}
use Rattle.osc_word.specs.Limits.{first_fault}
use Rattle.osc_image.specs.Image.{Image}
use Rattle.osc_image.specs.Frames.{needed_frames}
use Rattle.osc_image.specs.Form.{image_of}
use Rattle.osc_calls.specs.Kernel.{KernelState}
use Rattle.osc_machine.specs.Run.{run}
use Rattle.osc_machine.specs.Start.{start_of}
use Rattle.osc_machine.specs.Laws.{HasKernel}
use Rattle.osc_machine.specs.Refusals.{setting_of, RefusesByRule}
use Rattle.osc_ledger.specs.Wanting.{FramesTold, is_committed}

-- in each run of a file's image that the frames hold the journal tells the kernel's frames, wherever no call
-- is committed
abbrev pub RunsTellFrames : Type 0
RunsTellFrames =
    (file : List ℕ) (image : Image) (config : Config) (picks : List ℕ) (k : KernelState)
    → first_fault config ≡ None → image_of file ≡ Ok image → needed_frames config.levels image ≤ config.frames
    → HasKernel (run (start_of image config) picks).state k → is_committed k.under_way ≡ false
    → FramesTold (setting_of image config) k

-- so each entry of its journal answers by the rule of refusals
abbrev pub RunsRefuseByRule : Type 0
RunsRefuseByRule =
    (file : List ℕ) (image : Image) (config : Config) (picks : List ℕ)
    → first_fault config ≡ None → image_of file ≡ Ok image → needed_frames config.levels image ≤ config.frames
    → RefusesByRule (setting_of image config) (start_of image config) picks
