-- The heap of a process after a plan, and the blocks of the objects that wait: they are held until a flush. This
-- project's own.
use Rattle.std.specs.Prelude.{ℕ, ◌≡◌, true, Some, List}
use Rattle.osc_word.specs.declared.settings.HeapKind.TheVariants.{Oscar}
use Rattle.osc_slot.specs.Slots.{is_held}
use Rattle.osc_slot.specs.Heap.{IsHeap}
use Rattle.osc_space.specs.declared.ObjectFact.{ObjectFact}
use Rattle.osc_space.specs.Objects.{fact}
use Rattle.osc_space.specs.Header.{Found, block_of}
use Rattle.osc_space.specs.Space.{Space, Draft, Terms}
use Rattle.osc_space.specs.Share.{Regions}
use Rattle.osc_space.specs.Malloc.{malloc_plan}
use Rattle.osc_space.specs.Free.{free_plan}
use Rattle.osc_space.specs.Realloc.{realloc_plan}
use Rattle.osc_space.specs.Agree.{is_waiting}
use Rattle.osc_parts.specs.Settled.{Settled}
use Rattle.osc_parts.specs.FreeLaws.{HasTerms}

pub record BlocksStand (s : Space) : Type 0 where
  pub heap : IsHeap s.heap
  pub held : (object : ℕ) (o : ObjectFact) → is_waiting s object ≡ true → fact s.objects object ≡ Some o → is_held s.heap.held (block_of o) ≡ true

-- after each malloc, free and realloc, refused or not, until the call has returned
pub record PlansHold : Type 0 where
  pub malloc : (batch n : ℕ) (entries : ℕ → ℕ → ℕ) (words : List ℕ) (regions : Regions) (d : Draft)
      → Settled Oscar batch entries words regions d → BlocksStand (malloc_plan n d).draft.space
  pub free : (batch pointer : ℕ) (entries : ℕ → ℕ → ℕ) (words : List ℕ) (regions : Regions) (terms : Terms) (found : Found) (d : Draft)
      → Settled Oscar batch entries words regions d → HasTerms batch terms → BlocksStand (free_plan terms pointer found d).draft.space
  pub realloc : (batch pointer n : ℕ) (entries : ℕ → ℕ → ℕ) (words : List ℕ) (regions : Regions) (terms : Terms) (found : Found) (d : Draft)
      → Settled Oscar batch entries words regions d → BlocksStand (realloc_plan terms pointer n found d).draft.space
