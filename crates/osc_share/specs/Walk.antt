-- The shared pages from one page on, as the walk over them sees them.
use Rattle.std.specs.Prelude.{ℕ, ◌+◌, ◌≡◌, ◌<◌, ◌≤◌, List, ◌∷◌, filter, map}
use Rattle.osc_word.specs.AddressMap.{is_within, first_shadow_page}
use Rattle.osc_paging.specs.declared.Mapped.{Mapped}
use Rattle.osc_paging.specs.KeptTables.{KeptTables}
use Rattle.osc_space.specs.Fork.{frame_of_page}

-- the mapped pages from this one on, up to the end of the shared ones
abbrev pub pages_from : ℕ → KeptTables → List Mapped
pages_from from t = filter (λ (m : Mapped). is_within from first_shadow_page m.number) t.pages

abbrev pub frames_from : ℕ → KeptTables → List ℕ
frames_from from t = map frame_of_page (pages_from from t)

-- it is the first of these pages
pub record IsFirst (from : ℕ) (t : KeptTables) (m : Mapped) : Type 0 where
  pub above : from ≤ m.number
  pub below : m.number < first_shadow_page
  pub rest : pages_from from t ≡ m ∷ pages_from (m.number + 1) t
