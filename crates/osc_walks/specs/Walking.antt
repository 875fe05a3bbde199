-- Through each step of the machine each hart in an instruction relies on what is kept, or is about to go. This
-- project's own.
use Rattle.std.specs.Prelude.{ℕ, ◌≡◌, false, Some, slice_get}
use Rattle.osc_word.specs.declared.settings.HeapKind.TheVariants.{Oscar}
use Rattle.osc_guest.specs.Carry.{HartOk}
use Rattle.osc_calls.specs.Kernel.{KernelState}
use Rattle.osc_machine.specs.Parts.{HartState, State}
use Rattle.osc_machine.specs.Step.{step}
use Rattle.osc_machine.specs.Laws.{HasKernel}
use Rattle.osc_safe.specs.Holding.{Holds}
use Rattle.osc_safe.specs.Standing.{Stands}
use Rattle.osc_records.specs.Recorded.{AllRecorded}
use Rattle.osc_relying.specs.Relying.{PageOf, TableOf, Relies}
use Rattle.osc_stored.specs.Beside.{BesideFits}
use Rattle.osc_blocks.specs.Replacing.{ReplacesAtFlush}
use Rattle.osc_lasting.specs.Lasting.{StepsLast}
use Rattle.osc_walks.specs.Canonical.{AllCanonical}
use Rattle.osc_walks.specs.Roots.{RootsOpen}

-- what each hart has in an instruction
abbrev pub AllWalk : State → KernelState → Type 0
AllWalk s k = (n : ℕ) (h : HartState) → slice_get s.harts n ≡ Some h → HartOk (PageOf k n false) (TableOf k n) h.user

-- what is kept of a state and of its kernel beside what harts rely on
pub record Walkable (s : State) (k : KernelState) : Type 0 where
  pub holds : Holds s
  pub stands : Stands s
  pub recorded : AllRecorded s
  pub has : HasKernel s k
  pub heap : k.config.heap ≡ Oscar
  pub relies : Relies s k
  pub canonical : AllCanonical s
  pub beside : BesideFits k
  pub roots : RootsOpen k
  pub replaced : ReplacesAtFlush k

-- ---- the law, where each step of the kernel leaves its pages and tables to be relied on
abbrev pub WalksKeep : Type 0
WalksKeep = StepsLast → (s : State) (n : ℕ) (k now : KernelState) → Walkable s k → HasKernel (step s n).state now → AllWalk (step s n).state now
