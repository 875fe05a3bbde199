-- Through each step the machine's own words agree with the kept tables as they did: a guest stores in frames that
-- are no tables, and meanwhile nothing is copied into a table. This project's own.
use Rattle.std.specs.Prelude.{ℕ, ◌≡◌, ◌<◌, Bool, true, Some, List, slice_get}
use Rattle.osc_word.specs.declared.job_list.WordAt.{WordAt}
use Rattle.osc_word.specs.declared.settings.HeapKind.TheVariants.{Oscar}
use Rattle.osc_guest.specs.Hands.{holds_box}
use Rattle.osc_calls.specs.Kernel.{KernelState}
use Rattle.osc_settled.specs.KernelFits.{KernelFits}
use Rattle.osc_machine.specs.declared.HartAsk.TheVariants.{Store}
use Rattle.osc_machine.specs.Parts.{Outside, HartState, State}
use Rattle.osc_machine.specs.Turns.{hart_ask}
use Rattle.osc_machine.specs.Step.{step}
use Rattle.osc_machine.specs.Laws.{HasKernel}
use Rattle.osc_safe.specs.Holding.{Holds}
use Rattle.osc_safe.specs.Standing.{Stands}
use Rattle.osc_caches.specs.DataFrames.{IsNobodysTable}
use Rattle.osc_caches.specs.Stores.{CopiesFit}
use Rattle.osc_caches.specs.StartAgrees.{WordsStand}
use Rattle.osc_relying.specs.Relying.{PageOf, Relies}
use Rattle.osc_stored.specs.Beside.{BesideFits}

-- a word of a frame that is no table
pub record IsDataWord (k : KernelState) (at : WordAt) : Type 0 where
  pub frame : IsNobodysTable k at.frame
  pub index : at.index < 512

-- ---- the laws
abbrev pub PagesAreData : Type 0
PagesAreData =
    (words : List ℕ) (k : KernelState) (n pid page frame : ℕ) (called : Bool)
    → KernelFits words k → k.config.heap ≡ Oscar → PageOf k n called pid page frame → IsNobodysTable k frame

abbrev pub StoresAreData : Type 0
StoresAreData =
    (s : State) (n : ℕ) (h : HartState) (k : KernelState) (to : WordAt) (value : ℕ)
    → Stands s → HasKernel s k → k.config.heap ≡ Oscar → Relies s k
    → slice_get s.harts n ≡ Some h → h.place ≡ Outside → hart_ask h ≡ Store to value → IsDataWord k to

-- a hart that holds its box is in an instruction
abbrev pub QuietCopies : Type 0
QuietCopies =
    (s : State) (n : ℕ) (h : HartState) (k : KernelState)
    → Holds s → Stands s → HasKernel s k → Relies s k → BesideFits k
    → slice_get s.harts n ≡ Some h → holds_box h.user.place ≡ true → CopiesFit k

abbrev pub StoresKeep : Type 0
StoresKeep =
    (s : State) (n : ℕ) (k : KernelState)
    → Holds s → Stands s → HasKernel s k → k.config.heap ≡ Oscar → Relies s k → BesideFits k → WordsStand (step s n).state
