-- The laws of the plain heap's plans.
use Rattle.std.specs.Prelude.{ℕ, ◌≤◌, List}
use Rattle.osc_word.specs.declared.settings.HeapKind.TheVariants.{Plain}
use Rattle.osc_space.specs.Space.{Draft}
use Rattle.osc_space.specs.Share.{Regions}
use Rattle.osc_space.specs.PlainHeap.{plain_malloc_plan, plain_free_plan, plain_realloc_plan}
use Rattle.osc_parts.specs.Settled.{Settled}
use Rattle.osc_parts.specs.PlanFits.{PlanFits}

abbrev pub PlainMallocsFit : Type 0
PlainMallocsFit =
    (batch : ℕ) (entries : ℕ → ℕ → ℕ) (words : List ℕ) (regions : Regions) (n : ℕ) (d : Draft)
    → Settled Plain batch entries words regions d → PlanFits Plain batch entries words regions d (plain_malloc_plan n d)

abbrev pub PlainFreesFit : Type 0
PlainFreesFit =
    (batch : ℕ) (entries : ℕ → ℕ → ℕ) (words : List ℕ) (regions : Regions) (harts pointer : ℕ) (d : Draft)
    → Settled Plain batch entries words regions d → harts ≤ 8 → PlanFits Plain batch entries words regions d (plain_free_plan harts pointer d)

abbrev pub PlainReallocsFit : Type 0
PlainReallocsFit =
    (batch : ℕ) (entries : ℕ → ℕ → ℕ) (words : List ℕ) (regions : Regions) (harts pointer n size : ℕ) (d : Draft)
    → Settled Plain batch entries words regions d → harts ≤ 8 → PlanFits Plain batch entries words regions d (plain_realloc_plan harts pointer n size d)
