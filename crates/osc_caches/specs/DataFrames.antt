-- The frames that a process's pages may reach are no tables, neither its own nor another's. This project's
-- own.
use Rattle.std.specs.Prelude.{ℕ, ◌≡◌, Some, None, List}
use Rattle.osc_word.specs.declared.settings.HeapKind.TheVariants.{Oscar}
use Rattle.osc_sv39.specs.declared.entries.Mapping.{Mapping}
use Rattle.osc_slot.specs.Heap.{frame_of}
use Rattle.osc_paging.specs.KeptTables.{mapping_at}
use Rattle.osc_paging.specs.CopyLaws.{IsNoTable}
use Rattle.osc_space.specs.Space.{Space}
use Rattle.osc_calls.specs.Kernel.{KernelState, Process, process_at}
use Rattle.osc_settled.specs.KernelFits.{KernelFits}

-- the frame of a mapped page, or that of a page that holds a block
pub data IsData (s : Space) (frame : ℕ) : Type 0 where
  Maps : (number : ℕ) (m : Mapping) → mapping_at s.tables.pages number ≡ Some m → m.frame ≡ frame → IsData s frame
  Holds : (page : ℕ) → frame_of s.heap.pages page ≡ Some frame → IsData s frame

-- it is no table, and no leaf table aside, of any process that has not ended
abbrev pub IsNobodysTable : KernelState → ℕ → Type 0
IsNobodysTable k frame = (pid : ℕ) (p : Process) → process_at k pid ≡ Some p → p.status ≡ None → IsNoTable p.space.tables frame

-- at every moment, also in the middle of a call
abbrev pub DataIsNoTable : Type 0
DataIsNoTable =
    (words : List ℕ) (k : KernelState) (pid frame : ℕ) (p : Process)
    → KernelFits words k → k.config.heap ≡ Oscar → process_at k pid ≡ Some p → p.status ≡ None → IsData p.space frame
    → IsNobodysTable k frame
