-- The tables that pages newly take, counted from the journal. This project's own.
use Rattle.std.specs.Prelude.{ℕ, ◌+◌, ◌≡◌, ◌<◌}
use Rattle.osc_word.specs.AddressMap.{first_shared_page, first_shadow_page}
use Rattle.osc_paging.specs.KeptTables.{KeptTables, need}
use Rattle.osc_space.specs.Objects.{next_page}
use Rattle.osc_space.specs.Share.{next_shared_page}
use Rattle.osc_machine.specs.Replay.{Ledger}
use Rattle.osc_machine.specs.Refusals.{Setting, region_pages, new_tables}
use Rattle.osc_ledger.specs.Tables.{TablesTold}

-- where a process has the tables that are told, so many shadow pages from the mark on take as many tables
-- as the journal tells
abbrev pub ShadowNeedIsTold : Type 0
ShadowNeedIsTold =
    (s : Setting) (l : Ledger) (t : KeptTables) (count : ℕ) → TablesTold s l t
    → new_tables s l (next_page l.objects) count ≡ need t (next_page l.objects) count

-- and so do so many pages of the next region, below the shadow pages
abbrev pub RegionNeedIsTold : Type 0
RegionNeedIsTold =
    (s : Setting) (l : Ledger) (t : KeptTables) (count : ℕ) → TablesTold s l t → next_shared_page t + count < first_shadow_page
    → new_tables s l (first_shared_page + region_pages l.regions) count ≡ need t (next_shared_page t) count
