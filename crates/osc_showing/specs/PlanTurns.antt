-- What the plans of the heap with shadows make of a process's tables. This project's own.
use Rattle.std.specs.Prelude.{ℕ, ◌≡◌, List, []}
use Rattle.osc_word.specs.declared.settings.HeapKind.TheVariants.{Oscar}
use Rattle.osc_space.specs.Space.{Draft, Terms, Outcome, Closing, Keeps, GivesBack}
use Rattle.osc_space.specs.Header.{Found}
use Rattle.osc_space.specs.Share.{Regions}
use Rattle.osc_space.specs.Malloc.{malloc_plan}
use Rattle.osc_space.specs.Free.{free_plan}
use Rattle.osc_space.specs.Realloc.{realloc_plan}
use Rattle.osc_parts.specs.Settled.{Settled}
use Rattle.osc_parts.specs.FreeLaws.{HasTerms}
use Rattle.osc_showing.specs.Showing.{AllDue, Turned}

-- the caches that are to be cleared before a plan's blocks are given back: none, or each of so many harts'
abbrev pub cleared_by : ℕ → Closing → ℕ
cleared_by harts Keeps = 0
cleared_by harts (GivesBack blocks) = harts

-- the plan turns the tables, and these caches are to be cleared
pub record PlanTurns (harts : ℕ) (d : Draft) (o : Outcome) : Type 0 where
  pub turned : Turned d.space.tables o.draft.space.tables o.draft.free o.draft.jobs
  pub due : AllDue (cleared_by harts o.closing) o.draft.jobs

-- so does each malloc, free and realloc, refused or not, while no job is pending
pub record PlansTurn : Type 0 where
  pub malloc : (harts batch n : ℕ) (entries : ℕ → ℕ → ℕ) (words : List ℕ) (regions : Regions) (d : Draft)
      → Settled Oscar batch entries words regions d → d.jobs ≡ [] → PlanTurns harts d (malloc_plan n d)
  pub free : (batch pointer : ℕ) (entries : ℕ → ℕ → ℕ) (words : List ℕ) (regions : Regions) (terms : Terms) (found : Found) (d : Draft)
      → Settled Oscar batch entries words regions d → HasTerms batch terms → d.jobs ≡ []
      → PlanTurns terms.harts d (free_plan terms pointer found d)
  pub realloc : (batch pointer n : ℕ) (entries : ℕ → ℕ → ℕ) (words : List ℕ) (regions : Regions) (terms : Terms) (found : Found) (d : Draft)
      → Settled Oscar batch entries words regions d → HasTerms batch terms → d.jobs ≡ []
      → PlanTurns terms.harts d (realloc_plan terms pointer n found d)
