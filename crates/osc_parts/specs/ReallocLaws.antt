-- The law of realloc.
use Rattle.std.specs.Prelude.{ℕ, ◌+◌, ◌≡◌, Some, None, List}
use Rattle.osc_word.specs.declared.settings.HeapKind.TheVariants.{Oscar}
use Rattle.osc_class.specs.Rooms.{room_of, shadow_pages}
use Rattle.osc_slot.specs.Heap.{free_count}
use Rattle.osc_paging.specs.KeptTables.{need}
use Rattle.osc_space.specs.Objects.{Seen, next_page, object_at}
use Rattle.osc_space.specs.Space.{Draft, Terms, first_reason}
use Rattle.osc_space.specs.Header.{Found}
use Rattle.osc_space.specs.Share.{Regions}
use Rattle.osc_space.specs.Realloc.{stays, frames_for, realloc_reasons, realloc_plan}
use Rattle.osc_parts.specs.Settled.{Settled}
use Rattle.osc_parts.specs.PlanFits.{PlanFits}
use Rattle.osc_parts.specs.FreeLaws.{HasTerms}

-- each realloc fits, whether its block stays or moves or it is refused
abbrev pub ReallocsFit : Type 0
ReallocsFit =
    (batch : ℕ) (entries : ℕ → ℕ → ℕ) (words : List ℕ) (regions : Regions) (terms : Terms) (pointer n : ℕ) (found : Found) (d : Draft)
    → Settled Oscar batch entries words regions d → HasTerms batch terms
    → PlanFits Oscar batch entries words regions d (realloc_plan terms pointer n found d)

-- one that is not refused takes exactly as many frames as its new block, where the old one does not
-- stay, and the tables need; what it gives back is not free before it returns
abbrev pub ReallocsTakeNeed : Type 0
ReallocsTakeNeed =
    (batch : ℕ) (entries : ℕ → ℕ → ℕ) (words : List ℕ) (regions : Regions) (terms : Terms) (pointer n : ℕ) (found : Found) (d : Draft) (s : Seen)
    → Settled Oscar batch entries words regions d → HasTerms batch terms
    → object_at d.space.objects pointer ≡ Some s → first_reason (realloc_reasons (Some s) n found d) ≡ None
    → free_count (realloc_plan terms pointer n found d).draft.free
    + (frames_for (stays s.fact n) n d + need d.space.tables (next_page d.space.objects) (shadow_pages (room_of n)))
    ≡ free_count d.free
