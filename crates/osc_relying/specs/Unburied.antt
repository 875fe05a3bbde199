-- The object that a realloc under way replaced is in no grave yet: it lived when the call was planned, and its
-- death is shown when the call returns. This project's own.
use Rattle.std.specs.Prelude.{ℕ, ◌≡◌, ◌≤◌, false, Some, None, Ok, List, [], ◌∷◌, slice_get}
use Rattle.osc_word.specs.declared.settings.Config.{Config}
use Rattle.osc_word.specs.Limits.{first_fault}
use Rattle.osc_image.specs.Image.{Image}
use Rattle.osc_image.specs.Frames.{needed_frames}
use Rattle.osc_image.specs.Form.{image_of}
use Rattle.osc_calls.specs.Kernel.{KernelState, Committed, Returning}
use Rattle.osc_machine.specs.DeadPages.{Grave, Past, no_past, past_of, pasts_from}
use Rattle.osc_machine.specs.Run.{run}
use Rattle.osc_machine.specs.Start.{start_of}
use Rattle.osc_machine.specs.Laws.{HasKernel}
use Rattle.osc_caches.specs.Going.{replaces}

pub record IsUnburied (pasts : List Past) (k : KernelState) : Type 0 where
  pub dead : (done : Committed) (i : ℕ) (g : Grave) → k.under_way ≡ Returning done → slice_get (past_of pasts done.calling.pid).dead i ≡ Some g
      → replaces done.answer g.shadow.object ≡ false
  pub waiting : (done : Committed) (i : ℕ) (g : Grave) → k.under_way ≡ Returning done → slice_get (past_of pasts done.calling.pid).waiting i ≡ Some g
      → replaces done.answer g.shadow.object ≡ false

-- ---- the law
abbrev pub RunsBuryLater : Type 0
RunsBuryLater =
    (file : List ℕ) (image : Image) (config : Config) (picks : List ℕ) (k : KernelState)
    → first_fault config ≡ None → image_of file ≡ Ok image → needed_frames config.levels image ≤ config.frames
    → HasKernel (run (start_of image config) picks).state k
    → IsUnburied (pasts_from (no_past ∷ []) (run (start_of image config) picks).trace) k
