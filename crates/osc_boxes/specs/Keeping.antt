-- Through each step of the machine a cache has only what may be relied on, wherever its box is: at home, in its
-- hart's own hand, or in that of a call. This project's own.
use Rattle.std.specs.Prelude.{ℕ, ◌≡◌, Bool, true, false, Some, slice_get}
use Rattle.osc_word.specs.declared.settings.HeapKind.TheVariants.{Oscar}
use Rattle.osc_paging.specs.Boxes.{BoxState, no_entries}
use Rattle.osc_guest.specs.Carry.{CacheOk, HartOk}
use Rattle.osc_calls.specs.Kernel.{KernelState}
use Rattle.osc_machine.specs.Parts.{HartState, State}
use Rattle.osc_machine.specs.Step.{step}
use Rattle.osc_machine.specs.Laws.{HasKernel}
use Rattle.osc_safe.specs.Holding.{Holds}
use Rattle.osc_safe.specs.Standing.{Stands}
use Rattle.osc_records.specs.Agreeing.{is_start}
use Rattle.osc_records.specs.Recorded.{AllRecorded}
use Rattle.osc_relying.specs.Relying.{PageOf, TableOf, HasBox, Relies}
use Rattle.osc_blocks.specs.Replacing.{ReplacesAtFlush}
use Rattle.osc_lasting.specs.Lasting.{StepsLast}

-- the part of what is relied on that is about boxes
pub record BoxesRely (s : State) (k : KernelState) : Type 0 where
  pub boxes : (n : ℕ) (h : HartState) (box : BoxState) (called : Bool) → slice_get s.harts n ≡ Some h → HasBox s n box called
      → CacheOk (PageOf k n called) h.user.pid box.slots
  pub starts : (n : ℕ) (box : BoxState) (called : Bool) → HasBox s n box called → is_start box.order ≡ true → box.slots ≡ no_entries

-- what a hart has in its own hand, and where it walks, may be relied on
abbrev pub HartRelies : State → ℕ → KernelState → Type 0
HartRelies s n k = (h : HartState) → slice_get s.harts n ≡ Some h → HartOk (PageOf k n false) (TableOf k n) h.user

-- ---- the law
-- where it is so of the hart that takes the step, it is of all boxes
abbrev pub StepsKeepBoxes : Type 0
StepsKeepBoxes =
    (s : State) (n : ℕ) (k now : KernelState) → StepsLast → Holds s → Stands s → AllRecorded s → HasKernel s k → k.config.heap ≡ Oscar → ReplacesAtFlush k
    → Relies s k → HasKernel (step s n).state now → HartRelies (step s n).state n now → BoxesRely (step s n).state now
