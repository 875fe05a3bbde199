-- What a plan leaves of a memory whose parts fit. This project's own.
use Rattle.std.specs.Prelude.{ℕ, List, [], Bool}
use Rattle.osc_word.specs.declared.settings.HeapKind.{HeapKind}
use Rattle.osc_space.specs.Space.{Space, Draft, Outcome}
use Rattle.osc_space.specs.Share.{Regions}
use Rattle.osc_parts.specs.Settled.{Settled}
use Rattle.osc_parts.specs.PlanFits.{PlanFits}

-- Where a memory was settled before the call, for some regions and with some words, its call is under
-- way after the plan, and its return leaves parts that fit and words that agree again.
abbrev pub FitsAfter : HeapKind → ℕ → Draft → Outcome → Type 0
FitsAfter kind batch before made =
    (entries : ℕ → ℕ → ℕ) (words : List ℕ) (regions : Regions)
    → Settled kind batch entries words regions before → PlanFits kind batch entries words regions before made

-- a memory between two calls, with no pending job: it is settled for some batch, regions and words
pub record IsSettled (kind : HeapKind) (space : Space) (free : List Bool) : Type 0 where
  pub batch : ℕ
  pub entries : ℕ → ℕ → ℕ
  pub words : List ℕ
  pub regions : Regions
  pub settled : Settled kind batch entries words regions (record { space = space; free = free; jobs = [] })
