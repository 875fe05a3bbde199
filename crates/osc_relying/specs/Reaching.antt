-- A page of an object that is dead or waits, reached by what a hart may rely on: the object goes, and the frame
-- is that of the page of its block. This project's own.
use Rattle.std.specs.Prelude.{ℕ, ◌+◌, ◌-◌, ◌/◌, ◌≡◌, ◌≤◌, ◌⊎◌, Bool, true, Some, None, Ok, List}
use Rattle.osc_word.specs.declared.settings.Config.{Config}
use Rattle.osc_word.specs.declared.settings.HeapKind.TheVariants.{Oscar}
use Rattle.osc_word.specs.Limits.{first_fault}
use Rattle.osc_image.specs.Image.{Image}
use Rattle.osc_image.specs.Frames.{needed_frames}
use Rattle.osc_image.specs.Form.{image_of}
use Rattle.osc_slot.specs.Heap.{frame_of as heap_frame}
use Rattle.osc_space.specs.declared.ObjectFact.{ObjectFact}
use Rattle.osc_space.specs.Agree.{is_waiting}
use Rattle.osc_space.specs.Objects.{fact, has_page}
use Rattle.osc_calls.specs.Kernel.{KernelState, Process}
use Rattle.osc_machine.specs.DeadPages.{Grave, dead_at, waiting_at}
use Rattle.osc_machine.specs.Run.{Ran, run}
use Rattle.osc_machine.specs.Start.{start_of}
use Rattle.osc_machine.specs.Laws.{HasKernel}
use Rattle.osc_caches.specs.Going.{is_going}
use Rattle.osc_relying.specs.Relying.{answer_for, PageOf}

-- the object of a grave waits or is replaced, and the page of its block is in this frame
pub record GraveGoes (k : KernelState) (p : Process) (pid page frame : ℕ) (grave : Grave) : Type 0 where
  pub o : ObjectFact
  pub is : fact p.space.objects grave.shadow.object ≡ Some o
  pub has : has_page page o ≡ true
  pub goes : is_going p.space (answer_for k.under_way pid) grave.shadow.object ≡ true
  pub at : heap_frame p.space.heap.pages (o.canon / 4096 + (page - o.first)) ≡ Some frame

pub record GravesGo (ran : Ran) (k : KernelState) : Type 0 where
  pub goes : (n pid page frame : ℕ) (called : Bool) (grave : Grave) (reached : PageOf k n called pid page frame)
      → (dead_at ran.trace pid page ≡ Some grave) ⊎ (waiting_at ran.trace pid page ≡ Some grave) → GraveGoes k reached.p pid page frame grave
  -- so none that is dead is reached: what the call under way replaced is in no grave yet
  pub dead : (n pid page frame : ℕ) (called : Bool) (grave : Grave) → PageOf k n called pid page frame → dead_at ran.trace pid page ≡ Some grave → ⊥
  -- and the object of one that waits does
  pub waits : (n pid page frame : ℕ) (called : Bool) (grave : Grave) (reached : PageOf k n called pid page frame) → waiting_at ran.trace pid page ≡ Some grave
      → is_waiting reached.p.space grave.shadow.object ≡ true

-- ---- the law
abbrev pub RunsReachGoing : Type 0
RunsReachGoing =
    (file : List ℕ) (image : Image) (config : Config) (picks : List ℕ) (k : KernelState)
    → first_fault config ≡ None → image_of file ≡ Ok image → needed_frames config.levels image ≤ config.frames
    → HasKernel (run (start_of image config) picks).state k → k.config.heap ≡ Oscar → GravesGo (run (start_of image config) picks) k
