-- What replaces an object flushes: a call that gives nothing back when it returns has replaced no object. This
-- project's own.
use Rattle.std.specs.Prelude.{ℕ, ◌≡◌, ◌≤◌, false, None, Ok, List}
use Rattle.osc_word.specs.declared.settings.Config.{Config}
use Rattle.osc_word.specs.declared.steps.Label.{Label}
use Rattle.osc_word.specs.Limits.{first_fault}
use Rattle.osc_image.specs.Image.{Image}
use Rattle.osc_image.specs.Frames.{needed_frames}
use Rattle.osc_image.specs.Form.{image_of}
use Rattle.osc_space.specs.Space.{Keeps}
use Rattle.osc_calls.specs.Kernel.{KernelState, Committed, Returning}
use Rattle.osc_machine.specs.Run.{run}
use Rattle.osc_machine.specs.Start.{start_of}
use Rattle.osc_machine.specs.Laws.{HasKernel}
use Rattle.osc_safe.specs.KernelSteps.{KernelStep}
use Rattle.osc_caches.specs.Going.{replaces}

abbrev pub ReplacesAtFlush : KernelState → Type 0
ReplacesAtFlush k = (done : Committed) (object : ℕ) → k.under_way ≡ Returning done → done.closing ≡ Keeps → replaces done.answer object ≡ false

-- ---- the laws, on either heap
abbrev pub StepsKeepReplaced : Type 0
StepsKeepReplaced = (old new : KernelState) (shows : List Label) → KernelStep old new shows → ReplacesAtFlush old → ReplacesAtFlush new

abbrev pub RunsKeepReplaced : Type 0
RunsKeepReplaced =
    (file : List ℕ) (image : Image) (config : Config) (picks : List ℕ) (k : KernelState)
    → first_fault config ≡ None → image_of file ≡ Ok image → needed_frames config.levels image ≤ config.frames
    → HasKernel (run (start_of image config) picks).state k → ReplacesAtFlush k
