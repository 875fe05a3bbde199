-- The kernel keeps no mapping of a page that is dead or waits. This project's own.
use Rattle.std.specs.Prelude.{ℕ, ◌≡◌, ◌≤◌, ◌⊎◌, true, false, Some, None, Ok, List}
use Rattle.osc_word.specs.declared.settings.Config.{Config}
use Rattle.osc_word.specs.Limits.{first_fault}
use Rattle.osc_image.specs.Image.{Image}
use Rattle.osc_image.specs.Frames.{needed_frames}
use Rattle.osc_image.specs.Form.{image_of}
use Rattle.osc_paging.specs.KeptTables.{mapping_at}
use Rattle.osc_space.specs.declared.ObjectFact.{ObjectFact}
use Rattle.osc_space.specs.Objects.{fact, has_page}
use Rattle.osc_space.specs.Agree.{is_waiting}
use Rattle.osc_calls.specs.Kernel.{KernelState, Process, process_at}
use Rattle.osc_machine.specs.DeadPages.{Grave, dead_at, waiting_at}
use Rattle.osc_machine.specs.Run.{Ran, run}
use Rattle.osc_machine.specs.Start.{start_of}
use Rattle.osc_machine.specs.Laws.{HasKernel}

pub record DeadUnmapped (ran : Ran) (k : KernelState) : Type 0 where
  pub unmapped : (pid page : ℕ) (p : Process) (grave : Grave) → process_at k pid ≡ Some p → p.status ≡ None
      → (dead_at ran.trace pid page ≡ Some grave) ⊎ (waiting_at ran.trace pid page ≡ Some grave)
      → mapping_at p.space.tables.pages page ≡ None
  -- and a dead page is none of an object that waits
  pub over : (pid page object : ℕ) (p : Process) (grave : Grave) (o : ObjectFact) → process_at k pid ≡ Some p → p.status ≡ None
      → dead_at ran.trace pid page ≡ Some grave → is_waiting p.space object ≡ true → fact p.space.objects object ≡ Some o
      → has_page page o ≡ false

-- of each process that has not ended, at every moment of each run
abbrev pub RunsUnmap : Type 0
RunsUnmap =
    (file : List ℕ) (image : Image) (config : Config) (picks : List ℕ) (k : KernelState)
    → first_fault config ≡ None → image_of file ≡ Ok image → needed_frames config.levels image ≤ config.frames
    → HasKernel (run (start_of image config) picks).state k → DeadUnmapped (run (start_of image config) picks) k
