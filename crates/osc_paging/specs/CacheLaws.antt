-- The law of caches: a cache gives only what was filled since it was cleared.
use Rattle.std.specs.Prelude.{ℕ, ◌≡◌, ◌==◌, Option, Some, None, List, [], ◌∷◌, if◌then◌else◌}
use Rattle.osc_sv39.specs.declared.entries.Access.{Access}
use Rattle.osc_paging.specs.declared.CacheEntry.{CacheEntry}
use Rattle.osc_paging.specs.Boxes.{slot_of, no_entries, seen_in, look, filled}

-- the slots of a cache that was cleared and then filled, the latest first
abbrev pub slots_after : List CacheEntry → List (Option CacheEntry)
slots_after [] = no_entries
slots_after (entry ∷ earlier) = filled (slots_after earlier) entry.page entry.mapping

-- the latest of them that stands in a slot
abbrev pub latest_in : ℕ → List CacheEntry → Option CacheEntry
latest_in slot [] = None
latest_in slot (entry ∷ earlier) = if slot_of entry.page == slot then Some entry else latest_in slot earlier

abbrev pub LookFindsLatest : Type 0
LookFindsLatest =
    (fills : List CacheEntry) (page : ℕ) (access : Access)
    → look (slots_after fills) page access ≡ seen_in (latest_in (slot_of page) fills) page access
