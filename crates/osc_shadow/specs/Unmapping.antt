-- When the pages of an object can be unmapped. This project's own.
use Rattle.std.specs.Prelude.{ℕ, ◌+◌, ◌^◌, ◌≡◌, ◌<◌, ◌≤◌, true, None, is_some, if◌then◌else◌}
use Rattle.osc_word.specs.AddressMap.{is_within}
use Rattle.osc_word.specs.JobList.{JobList, spare}
use Rattle.osc_paging.specs.KeptTables.{KeptTables, mapping_at}
use Rattle.osc_tables.specs.Inside.{IsTop}

-- so many pages from one on are mapped, and there is room for a job for each
pub record CanUnmap (t : KeptTables) (jobs : JobList) (first count : ℕ) : Type 0 where
  pub top : IsTop t.top
  pub low : first + count ≤ 2 ^ 26
  pub mapped : (page : ℕ) → first ≤ page → page < first + count → is_some (mapping_at t.pages page) ≡ true
  pub spare : count ≤ spare jobs

-- these pages are mapped no more, and no other page changes
abbrev pub AreUnmapped : ℕ → ℕ → KeptTables → KeptTables → Type 0
AreUnmapped first count old new =
    (page : ℕ) → mapping_at new.pages page ≡ (if is_within first (first + count) page then None else mapping_at old.pages page)
