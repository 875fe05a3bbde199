-- What a plan on the heap with shadows leaves of the pages of its process: each is still mapped, or it is a page
-- of an object that waits or was replaced, with the frame of its page of the object's block. This project's own.
use Rattle.std.specs.Prelude.{ℕ, ◌+◌, ◌-◌, ◌/◌, ◌≡◌, ◌==◌, ◌||◌, ◌⊎◌, Bool, true, false, Some, List}
use Rattle.osc_word.specs.declared.calls.Answer.{Answer}
use Rattle.osc_word.specs.declared.calls.Answer.TheVariants.{Moved, Nothing}
use Rattle.osc_word.specs.declared.settings.HeapKind.TheVariants.{Oscar}
use Rattle.osc_sv39.specs.declared.entries.Mapping.{Mapping}
use Rattle.osc_slot.specs.Heap.{frame_of}
use Rattle.osc_paging.specs.KeptTables.{mapping_at}
use Rattle.osc_space.specs.declared.ObjectFact.{ObjectFact}
use Rattle.osc_space.specs.Objects.{fact, has_page}
use Rattle.osc_space.specs.Space.{Space, Draft, Terms, Outcome}
use Rattle.osc_space.specs.Header.{Found}
use Rattle.osc_space.specs.Share.{Regions}
use Rattle.osc_space.specs.Malloc.{malloc_plan}
use Rattle.osc_space.specs.Free.{free_plan}
use Rattle.osc_space.specs.Realloc.{realloc_plan}
use Rattle.osc_space.specs.Agree.{is_waiting}
use Rattle.osc_parts.specs.Settled.{Settled}

-- the answer tells that this object was replaced
abbrev pub replaces : Answer → ℕ → Bool
replaces (Moved old object pointer) number = old == number
replaces answer number = false

-- the object's pages go: it waits, or it was replaced
abbrev pub is_going : Space → Answer → ℕ → Bool
is_going s answer object = is_waiting s object || replaces answer object

pub record GoingPage (s : Space) (answer : Answer) (number frame : ℕ) : Type 0 where
  pub object : ℕ
  pub o : ObjectFact
  pub is : fact s.objects object ≡ Some o
  pub has : has_page number o ≡ true
  pub goes : is_going s answer object ≡ true
  pub at : frame_of s.heap.pages (o.canon / 4096 + (number - o.first)) ≡ Some frame

-- after a plan
pub record PagesGo (d : Draft) (made : Outcome) : Type 0 where
  pub pages : (number : ℕ) (m : Mapping) → mapping_at d.space.tables.pages number ≡ Some m
      → (mapping_at made.draft.space.tables.pages number ≡ Some m) ⊎ GoingPage made.draft.space made.answer number m.frame
  -- and what went before still does
  pub goes_on : (number frame : ℕ) → GoingPage d.space Nothing number frame → GoingPage made.draft.space made.answer number frame

-- so it is after each malloc, free and realloc, refused or not
pub record PlansGo : Type 0 where
  pub malloc : (batch n : ℕ) (entries : ℕ → ℕ → ℕ) (words : List ℕ) (regions : Regions) (d : Draft)
      → Settled Oscar batch entries words regions d → PagesGo d (malloc_plan n d)
  pub free : (batch pointer : ℕ) (entries : ℕ → ℕ → ℕ) (words : List ℕ) (regions : Regions) (terms : Terms) (found : Found) (d : Draft)
      → Settled Oscar batch entries words regions d → PagesGo d (free_plan terms pointer found d)
  pub realloc : (batch pointer n : ℕ) (entries : ℕ → ℕ → ℕ) (words : List ℕ) (regions : Regions) (terms : Terms) (found : Found) (d : Draft)
      → Settled Oscar batch entries words regions d → PagesGo d (realloc_plan terms pointer n found d)
