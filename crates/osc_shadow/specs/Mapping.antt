-- When pages can be mapped one after another. This project's own.
use Rattle.std.specs.Prelude.{ℕ, ◌+◌, ◌*◌, ◌^◌, ◌≡◌, ◌<◌, ◌≤◌, Bool, None, List, length}
use Rattle.osc_word.specs.JobList.{JobList}
use Rattle.osc_frames.specs.Free.{free_count}
use Rattle.osc_paging.specs.KeptTables.{KeptTables, mapping_at, need}
use Rattle.osc_tables.specs.Calls.{HasTaken, IsOpen}
use Rattle.osc_tables.specs.Inside.{IsTop}

-- so many pages from one on are not mapped and there is room for them, and free frames for the tables
-- that they need. A page leaves one job and each of these frames two, and there is room for those.
pub record CanMap (t : KeptTables) (free : List Bool) (jobs : JobList) (first count : ℕ) : Type 0 where
  pub top : IsTop t.top
  pub opened : IsOpen t
  pub low : first + count ≤ 2 ^ 26
  pub unmapped : (page : ℕ) → first ≤ page → page < first + count → mapping_at t.pages page ≡ None
  pub left : length t.pages + count ≤ t.room
  pub taken : HasTaken t free
  pub need : need t first count ≤ free_count free
  pub spare : length jobs.pushed + 2 * free_count free + count + 6 ≤ jobs.room
