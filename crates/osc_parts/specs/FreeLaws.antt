-- The law of free.
use Rattle.std.specs.Prelude.{ℕ, ◌≡◌, ◌≤◌, List}
use Rattle.osc_word.specs.declared.settings.HeapKind.TheVariants.{Oscar}
use Rattle.osc_space.specs.Space.{Draft, Terms}
use Rattle.osc_space.specs.Header.{Found}
use Rattle.osc_space.specs.Share.{Regions}
use Rattle.osc_space.specs.Free.{free_plan}
use Rattle.osc_parts.specs.Settled.{Settled}
use Rattle.osc_parts.specs.PlanFits.{PlanFits}

-- the batch is the machine's, which has at most eight harts
pub record HasTerms (batch : ℕ) (terms : Terms) : Type 0 where
  pub is : terms.batch ≡ batch
  pub harts : terms.harts ≤ 8

-- each free fits, whether its object waits, a batch is let go or it is refused
abbrev pub FreesFit : Type 0
FreesFit =
    (batch : ℕ) (entries : ℕ → ℕ → ℕ) (words : List ℕ) (regions : Regions) (terms : Terms) (pointer : ℕ) (found : Found) (d : Draft)
    → Settled Oscar batch entries words regions d → HasTerms batch terms
    → PlanFits Oscar batch entries words regions d (free_plan terms pointer found d)
