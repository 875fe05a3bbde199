-- What holds of each configuration without a fault, and of each memory that fits. This project's own.
use Rattle.std.specs.Prelude.{ℕ, ◌-◌, ◌^◌, ◌≡◌, ◌≤◌, true, None, is_some}
use Rattle.osc_word.specs.AddressMap.{is_in_map}
use Rattle.osc_paging.specs.KeptTables.{KeptTables, mapping_at, mapping_of}

-- with three or four levels the last page of the address space is never mapped
abbrev pub LastUnmapped : Type 0
LastUnmapped =
    (t : KeptTables) → 2 ≤ t.top → t.top ≤ 3 → ((page : ℕ) → is_some (mapping_at t.pages page) ≡ true → is_in_map page ≡ true)
    → mapping_of t (2 ^ 52 - 1) ≡ None
