-- The law of malloc.
use Rattle.std.specs.Prelude.{ℕ, ◌+◌, ◌≡◌, None, List}
use Rattle.osc_word.specs.declared.settings.HeapKind.TheVariants.{Oscar}
use Rattle.osc_class.specs.Rooms.{room_of, shadow_pages}
use Rattle.osc_slot.specs.Heap.{free_count}
use Rattle.osc_paging.specs.KeptTables.{need}
use Rattle.osc_space.specs.Objects.{next_page}
use Rattle.osc_space.specs.Space.{Draft, Keeps, first_reason}
use Rattle.osc_space.specs.Share.{Regions}
use Rattle.osc_space.specs.Malloc.{block_need, malloc_reasons, malloc_plan}
use Rattle.osc_parts.specs.Settled.{Settled}
use Rattle.osc_parts.specs.PlanFits.{PlanFits}

-- each malloc fits, also one that is refused
abbrev pub MallocsFit : Type 0
MallocsFit =
    (batch : ℕ) (entries : ℕ → ℕ → ℕ) (words : List ℕ) (regions : Regions) (n : ℕ) (d : Draft)
    → Settled Oscar batch entries words regions d → PlanFits Oscar batch entries words regions d (malloc_plan n d)

-- one that is not refused takes exactly as many frames as its block and the tables need
abbrev pub MallocsTakeNeed : Type 0
MallocsTakeNeed =
    (batch : ℕ) (entries : ℕ → ℕ → ℕ) (words : List ℕ) (regions : Regions) (n : ℕ) (d : Draft)
    → Settled Oscar batch entries words regions d → first_reason (malloc_reasons n d) ≡ None
    → free_count (malloc_plan n d).draft.free + (block_need d (room_of n) + need d.space.tables (next_page d.space.objects) (shadow_pages (room_of n)))
    ≡ free_count d.free

-- nothing is given back when it returns
abbrev pub MallocsGiveNothing : Type 0
MallocsGiveNothing = (n : ℕ) (d : Draft) → (malloc_plan n d).closing ≡ Keeps
