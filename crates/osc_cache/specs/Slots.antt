-- The slots of a cache. They are this project's own.
use Rattle.std.specs.Prelude.{ℕ, ◌≡◌, false, List, Option, Some, slice_get}
use Rattle.osc_sv39.specs.declared.entries.Access.{Access}
use Rattle.osc_paging.specs.declared.CacheEntry.{CacheEntry}
use Rattle.osc_paging.specs.Boxes.{slot_of, allows_at}

-- each entry stands in the slot of its page
abbrev pub StandInTheirSlots : List (Option CacheEntry) → Type 0
StandInTheirSlots slots =
    (slot : ℕ) (entry : CacheEntry) → slice_get slots slot ≡ Some (Some entry) → slot_of entry.page ≡ slot

-- no entry of this page allows this access
abbrev pub NoneAllows : List (Option CacheEntry) → ℕ → Access → Type 0
NoneAllows slots page access =
    (slot : ℕ) (entry : CacheEntry) → slice_get slots slot ≡ Some (Some entry) → allows_at entry page access ≡ false
