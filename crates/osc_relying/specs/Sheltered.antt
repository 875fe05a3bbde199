-- Where a machine relies, no instruction does an access to a dead page, and one under way to a page that waits
-- stays in the block of the page's object. This project's own.
use Rattle.std.specs.Prelude.{ℕ, ◌/◌, ◌≡◌, ◌≤◌, true, Some, None, Ok, List, slice_get}
use Rattle.osc_word.specs.declared.settings.Config.{Config}
use Rattle.osc_word.specs.declared.settings.HeapKind.TheVariants.{Oscar}
use Rattle.osc_word.specs.Limits.{first_fault}
use Rattle.osc_image.specs.Image.{Image}
use Rattle.osc_image.specs.Frames.{needed_frames}
use Rattle.osc_image.specs.Form.{image_of}
use Rattle.osc_guest.specs.declared.accesses.MemoryAccess.{MemoryAccess}
use Rattle.osc_guest.specs.declared.accesses.Touch.{Touch}
use Rattle.osc_guest.specs.declared.places.Place.TheVariants as at
use Rattle.osc_guest.specs.declared.places.Stage.{Stage}
use Rattle.osc_guest.specs.Accesses.{access_page}
use Rattle.osc_guest.specs.Asks.{word_place}
use Rattle.osc_guest.specs.Told.{Told, told}
use Rattle.osc_calls.specs.Kernel.{KernelState}
use Rattle.osc_machine.specs.DeadPages.{Grave, dead_at, waiting_at}
use Rattle.osc_machine.specs.Laws.{HasKernel}
use Rattle.osc_machine.specs.Parts.{HartState}
use Rattle.osc_machine.specs.Run.{Ran, run}
use Rattle.osc_machine.specs.Safe.{LiesInBlock}
use Rattle.osc_machine.specs.Start.{start_of}
use Rattle.osc_relying.specs.Relying.{Relies}

pub record IsSheltered (ran : Ran) : Type 0 where
  pub dead : (n : ℕ) (h : HartState) (said : Told) (touch : Touch) (grave : Grave) → slice_get ran.state.harts n ≡ Some h
      → (told h.user said).touch ≡ Some touch → touch.done ≡ true → dead_at ran.trace touch.pid (touch.address / 4096) ≡ Some grave → ⊥
  pub waits : (n frame : ℕ) (h : HartState) (access : MemoryAccess) (stage : Stage) (grave : Grave) → slice_get ran.state.harts n ≡ Some h
      → h.user.place ≡ at.Access access frame stage → waiting_at ran.trace h.user.pid (access_page access) ≡ Some grave
      → LiesInBlock ran.state h.user.pid access.address grave.shadow.object (word_place access frame)

-- ---- the law
abbrev pub RelyingShelters : Type 0
RelyingShelters =
    (file : List ℕ) (image : Image) (config : Config) (picks : List ℕ) (k : KernelState)
    → first_fault config ≡ None → image_of file ≡ Ok image → needed_frames config.levels image ≤ config.frames
    → HasKernel (run (start_of image config) picks).state k → k.config.heap ≡ Oscar
    → Relies (run (start_of image config) picks).state k → IsSheltered (run (start_of image config) picks)
