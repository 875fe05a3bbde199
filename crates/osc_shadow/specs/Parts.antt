-- The memory that the parts of a process stand for. This project's own.
use Rattle.std.specs.Prelude.{ℕ, ◌+◌, Bool, nat_lt, Option, List, [], ◌∷◌}
use Rattle.osc_word.specs.declared.job_list.Job.{Job}
use Rattle.osc_word.specs.declared.calls.Answer.{Answer}
use Rattle.osc_word.specs.declared.calls.Answer.TheVariants.{NoShadow}
use Rattle.osc_word.specs.declared.settings.HeapKind.TheVariants.{Oscar}
use Rattle.osc_slot.specs.Heap.{Heap}
use Rattle.osc_paging.specs.KeptTables.{KeptTables}
use Rattle.osc_mark.specs.Grants.{Grants}
use Rattle.osc_space.specs.Objects.{mark, next_page}
use Rattle.osc_space.specs.Space.{Space, Draft, reason, first_reason, lack_of_frames}
use Rattle.osc_space.specs.Share.{Regions}
use Rattle.osc_space.specs.Agree.{SpaceAgrees}

abbrev pub space_of : KeptTables → Grants → Heap → List ℕ → Space
space_of tables marks heap waiting =
    record { tables = tables; objects = marks.objects; waiting = waiting; shadows = marks.limit; heap = heap }

abbrev pub draft_of : KeptTables → Grants → Heap → List ℕ → List Bool → List Job → Draft
draft_of tables marks heap waiting free jobs = record { space = space_of tables marks heap waiting; free = free; jobs = jobs }

-- the parts agree under the heap oscar, for some regions
pub record PartsAgree (tables : KeptTables) (marks : Grants) (heap : Heap) (waiting : List ℕ) (free : List Bool) : Type 0 where
  pub regions : Regions
  pub agree : SpaceAgrees Oscar (space_of tables marks heap waiting) regions free

-- and for some heap in a machine with these frames
pub record PartsAgreeOnHeap (tables : KeptTables) (marks : Grants) (waiting : List ℕ) : Type 0 where
  pub heap : Heap
  pub free : List Bool
  pub agree : PartsAgree tables marks heap waiting free

-- and for some objects that wait
pub record PartsAgreeWaiting (tables : KeptTables) (marks : Grants) (heap : Heap) (free : List Bool) : Type 0 where
  pub waiting : List ℕ
  pub agree : PartsAgree tables marks heap waiting free

-- why so many block frames and fresh shadow pages are refused, if they are
abbrev pub memory_refusal : KeptTables → Grants → List Bool → ℕ → ℕ → Option Answer
memory_refusal tables marks free frames pages =
    first_reason
    (reason (nat_lt marks.limit (mark marks.objects + pages)) NoShadow
    ∷ lack_of_frames free tables frames (next_page marks.objects) pages
    ∷ [])
