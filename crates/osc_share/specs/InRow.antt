-- Mapping pages in a row.
use Rattle.std.specs.Prelude.{ℕ, ◌+◌, ◌*◌, ◌≡◌, ◌<◌, ◌≤◌, Bool, true, Some, None, List, All, length, slice_get}
use Rattle.osc_word.specs.JobList.{JobList, spare}
use Rattle.osc_frames.specs.Free.{free_count}
use Rattle.osc_paging.specs.KeptTables.{KeptTables, mapping_at, need}
use Rattle.osc_tables.specs.Inside.{IsTop}
use Rattle.osc_tables.specs.Calls.{HasTaken, IsOpen}
use Rattle.osc_space.specs.Share.{Regions, holders}

-- so many pages from this one on can be mapped: they are in the lower half of the range and not
-- mapped yet, and there is room, a frame for each table that is missing, and room for their jobs
pub record CanMap (first count : ℕ) (t : KeptTables) (free : List Bool) (jobs : JobList) : Type 0 where
  pub opened : IsOpen t
  pub range : IsTop t.top
  pub low : first + count ≤ 67108864
  pub unmapped : (k : ℕ) → k < count → mapping_at t.pages (first + k) ≡ None
  pub left : length t.pages + count ≤ t.room
  pub taken : HasTaken t free
  pub need : need t first count ≤ free_count free
  pub spare : 7 * count ≤ spare jobs

-- nobody holds these frames of the machine
abbrev pub AreUnheld : Regions → List ℕ → Type 0
AreUnheld regions frames = All (λ frame. (frame < length regions) × (holders regions frame ≡ 0)) frames

-- so many pages from this one on can be shared: they can be mapped when as many frames were taken
-- and zeroed before, and nobody holds a free frame
pub record CanShare (first count : ℕ) (t : KeptTables) (regions : Regions) (free : List Bool) (jobs : JobList) : Type 0 where
  pub few : count ≤ 4096
  pub map : CanMap first count t free jobs
  pub frames : count + need t first count ≤ free_count free
  pub spare : 8 * count ≤ spare jobs
  pub size : length regions ≡ length free
  pub unheld : (frame : ℕ) → slice_get free frame ≡ Some true → holders regions frame ≡ 0
