-- What a hart's box holds: a cache of translations, and an order. It is this project's own.
use Rattle.std.specs.Prelude.{ℕ, ◌%◌, ◌==◌, ◌&&◌, Bool, Option, Some, None, List, slice_index_or, slice_set, replicate, if◌then◌else◌}
use Rattle.osc_word.specs.declared.orders.Order.{Order}
use Rattle.osc_word.specs.declared.orders.Order.TheVariants.{Empty}
use Rattle.osc_sv39.specs.declared.entries.Access.{Access}
use Rattle.osc_sv39.specs.declared.entries.Mapping.{Mapping}
use Rattle.osc_sv39.specs.Entries.{is_allowed}
use Rattle.osc_paging.specs.declared.CacheEntry.{CacheEntry}
use Rattle.osc_paging.specs.declared.Look.{Look}
use Rattle.osc_paging.specs.declared.Look.TheVariants.{Hit, Miss}

-- 32 slots; an entry of page p stands in slot p mod 32
abbrev pub slot_of : ℕ → ℕ
slot_of page = page % 32

unfoldable pub no_entries : List (Option CacheEntry)
no_entries = replicate 32 None

abbrev pub entry_in : List (Option CacheEntry) → ℕ → Option CacheEntry
entry_in slots slot = slice_index_or slots slot None

abbrev pub allows_at : CacheEntry → ℕ → Access → Bool
allows_at entry page access = (entry.page == page) && is_allowed entry.mapping.bits.0 access

abbrev pub seen_in : Option CacheEntry → ℕ → Access → Look
seen_in None page access = Miss
seen_in (Some entry) page access = if allows_at entry page access then Hit entry.mapping.frame else Miss

-- what a look for a page finds
abbrev pub look : List (Option CacheEntry) → ℕ → Access → Look
look slots page access = seen_in (entry_in slots (slot_of page)) page access

-- the slots once a translation was filled in
abbrev pub filled : List (Option CacheEntry) → ℕ → Mapping → List (Option CacheEntry)
filled slots page mapping = slice_set slots (slot_of page) (Some (record { page = page; mapping = mapping }))

pub record BoxState : Type 0 where
  pub slots : List (Option CacheEntry)
  pub order : Order

abbrev pub new_box : BoxState
new_box = record { slots = no_entries; order = Empty }

-- to clear a box is to empty its cache
abbrev pub cleared : BoxState → BoxState
cleared box = record box { slots = no_entries }
