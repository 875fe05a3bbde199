-- The mapped pages of a process, as a list with room for so many.
use Rattle.std.specs.Prelude.{ℕ, nat_lt, Option, Some, None, List, [], ◌∷◌, if◌then◌else◌}
use Rattle.osc_paging.specs.declared.Mapped.{Mapped}

pub record Listed : Type 0 where
  pub pages : List Mapped
  pub room : ℕ

-- the least number of a page at or above another, in an ascending list
abbrev pub least_number : ℕ → List Mapped → Option ℕ
least_number from [] = None
least_number from (m ∷ ms) = if nat_lt m.number from then least_number from ms else Some m.number

abbrev pub first_number : List Mapped → Option ℕ
first_number [] = None
first_number (m ∷ ms) = Some m.number
