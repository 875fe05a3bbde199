-- The list of mapped pages as it stands: an unmapped page may leave a gap at its place.
use Rattle.std.specs.Prelude.{ℕ, zero, suc, ◌*◌, ◌≡◌, ◌≤◌, nat_lt, Bool, false, is_none, Option, Some, None, IsSome, option_map, slice_index, length, List, [], ◌∷◌, if◌then◌else◌}
use Rattle.osc_sv39.specs.declared.entries.Mapping.{Mapping}
use Rattle.osc_paging.specs.declared.Mapped.{Mapped}
use Rattle.osc_paging.specs.KeptTables.{mapping_at}
use Rattle.osc_tables.specs.declared.page_list.Slot.{Slot}

abbrev pub page_before : ℕ → Option Mapping → List Mapped → List Mapped
page_before number None pages = pages
page_before number (Some mapping) pages = (record { number = number; mapping = mapping }) ∷ pages

-- the pages without the gaps
abbrev pub pages_in : List Slot → List Mapped
pages_in [] = []
pages_in (s ∷ ss) = page_before s.number s.mapping (pages_in ss)

-- there is a gap at this place
abbrev pub is_gap : List Slot → ℕ → Bool
is_gap [] i = false
is_gap (s ∷ ss) zero = is_none s.mapping
is_gap (s ∷ ss) (suc i) = is_gap ss i

-- the numbers ascend, from `low` on, those of gaps too
abbrev pub SlotsAscend : ℕ → List Slot → Type 0
SlotsAscend low [] = Unit {0}
SlotsAscend low (s ∷ ss) = (low ≤ s.number) × SlotsAscend (suc s.number) ss

-- how many slots have a lower number
abbrev pub slot_place : ℕ → List Slot → ℕ
slot_place number [] = 0
slot_place number (s ∷ ss) = if nat_lt s.number number then suc (slot_place number ss) else 0

-- gaps are at most half of the slots
pub record AreSlots (slots : List Slot) (mapped room : ℕ) : Type 0 where
  pub ascend : SlotsAscend 0 slots
  pub counted : mapped ≡ length (pages_in slots)
  pub few_gaps : length slots ≤ 2 * mapped
  pub fits : mapped ≤ room

-- the page of this number is mapped, and stands at this place
pub record StandsAt (number : ℕ) (slots : List Slot) (at : ℕ) : Type 0 where
  pub place : at ≡ slot_place number slots
  pub there : IsSome (mapping_at (pages_in slots) number)

-- with each frame under its new name
abbrev pub renamed_mapping : List ℕ → Option Mapping → Option Mapping
renamed_mapping names mapping = option_map (λ (m : Mapping). record m { frame = slice_index names m.frame }) mapping

abbrev pub renamed_slot : List ℕ → Slot → Slot
renamed_slot names s = record s { mapping = renamed_mapping names s.mapping }
