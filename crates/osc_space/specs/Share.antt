-- Shared regions: their frames belong to all processes that hold them, and a frame that nobody holds
-- any more is free. This project's own.
use Rattle.std.specs.Prelude.{ℕ, ◌+◌, ◌-◌, ◌*◌, ◌==◌, Bool, true, false, List, [], ◌∷◌, ◌++◌, length, map, filter, take, replicate, slice_index, slice_set, if◌then◌else◌}
use Rattle.osc_word.specs.declared.job_list.Job.{Job}
use Rattle.osc_word.specs.declared.calls.Answer.TheVariants.{Empty}
use Rattle.osc_word.specs.AddressMap.{is_shared, first_shared_page}
use Rattle.osc_paging.specs.declared.Mapped.{Mapped}
use Rattle.osc_paging.specs.KeptTables.{KeptTables}
use Rattle.osc_paging.specs.TableChanges.{Changed, zero_job, map_pages}
use Rattle.osc_space.specs.LeafFlags.{read_write_at}
use Rattle.osc_space.specs.Space.{Reason, reason, lack_of_frames}
use Rattle.osc_space.specs.Fork.{frame_of_page, free_numbers, set_free}

-- for each frame of the machine, how many processes hold it as one of a region
abbrev pub Regions : Type 0
Regions = List ℕ

abbrev pub no_regions : ℕ → Regions
no_regions frames = replicate frames 0

abbrev pub holders : Regions → ℕ → ℕ
holders regions frame = slice_index regions frame

-- ---- the pages and frames of a process's regions
abbrev pub shared_pages : KeptTables → List Mapped
shared_pages t = filter (λ (m : Mapped). is_shared m.number) t.pages

abbrev pub shared_frames : KeptTables → List ℕ
shared_frames t = map frame_of_page (shared_pages t)

-- the page that the next region begins with
abbrev pub next_shared_page : KeptTables → ℕ
next_shared_page t = first_shared_page + length (shared_pages t)

-- ---- holding
-- each of these frames is held once more
abbrev pub hold : List ℕ → Regions → Regions
hold [] regions = regions
hold (frame ∷ frames) regions = hold frames (slice_set regions frame (holders regions frame + 1))

-- a child holds the regions that its tables have
unfoldable pub join : KeptTables → Regions → Regions
join child regions = hold (shared_frames child) regions

pub record RegionsAndFree : Type 0 where
  pub regions : Regions
  pub free : List Bool

-- a frame that is held by so many is held once less, and free where nobody holds it then
abbrev pub drop_frame : ℕ → ℕ → RegionsAndFree → RegionsAndFree
drop_frame frame count r = record {
  regions = slice_set r.regions frame (count - 1);
  free = if count - 1 == 0 then slice_set r.free frame true else r.free;
}

abbrev pub let_regions_go : List ℕ → RegionsAndFree → RegionsAndFree
let_regions_go [] r = r
let_regions_go (frame ∷ frames) r = let_regions_go frames (drop_frame frame (holders r.regions frame) r)

-- a process that ends holds its regions no more
unfoldable pub leave : KeptTables → RegionsAndFree → RegionsAndFree
leave t r = let_regions_go (shared_frames t) r

-- ---- the plan
-- what a share changes
pub record Sharing : Type 0 where
  pub tables : KeptTables
  pub regions : Regions
  pub free : List Bool
  pub jobs : List Job

abbrev pub with_tables : Regions → Changed → Sharing
with_tables regions c = record { tables = c.tables; regions = regions; free = c.free; jobs = c.jobs }

-- no page; so many and the tables that are missing over them are more than the free frames
unfoldable pub share_reasons : ℕ → Sharing → List Reason
share_reasons n s =
    reason (n == 0) Empty ∷ lack_of_frames s.free s.tables n (next_shared_page s.tables) n ∷ []

-- the address of the new pages
abbrev pub share_address : Sharing → ℕ
share_address s = next_shared_page s.tables * 4096

-- these frames are zeroed and then mapped after the shared pages that the process has
abbrev pub share_frames : List ℕ → Sharing → Sharing
share_frames frames s =
    with_tables (hold frames s.regions)
    (map_pages (next_shared_page s.tables) (map read_write_at frames)
    (record { tables = s.tables; free = set_free false frames s.free; jobs = s.jobs ++ map zero_job frames }))

-- so many pages in the least free frames, where it is not refused
unfoldable pub share_plan : ℕ → Sharing → Sharing
share_plan n s = share_frames (take n (free_numbers s.free)) s
