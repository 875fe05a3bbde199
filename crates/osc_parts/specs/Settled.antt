-- What holds of one process's memory between two calls, and, as far as the jobs that are pending
-- reach, of the words that its tables stand in. This project's own.
use Rattle.std.specs.Prelude.{ℕ, ◌+◌, ◌≡◌, ◌<◌, ◌≤◌, Bool, List, length}
use Rattle.osc_word.specs.declared.settings.HeapKind.{HeapKind}
use Rattle.osc_word.specs.AddressMap.{first_shadow_page}
use Rattle.osc_word.specs.WaitingList.{most_waiting}
use Rattle.osc_slot.specs.Heap.{IsHeap}
use Rattle.osc_paging.specs.TableChanges.{Changed}
use Rattle.osc_paging.specs.Agree.{AgreesAfter}
use Rattle.osc_space.specs.Space.{Space, Draft}
use Rattle.osc_space.specs.Share.{Regions, holders}
use Rattle.osc_space.specs.Agree.{SpaceAgrees}
use Rattle.osc_parts.specs.Frames.{among, frames_held}

-- the page after the last shadow page
abbrev pub shadows_end : ℕ
shadows_end = 0x2000000

-- the tables of a memory, with the free frames and the jobs
abbrev pub tables_of : Draft → Changed
tables_of d = record { tables = d.space.tables; free = d.free; jobs = d.jobs }

-- The parts of a memory agree; its heap is one; each page that a plan maps has a number that so many
-- levels of tables have; no shadow page lies past the range of shadows; fewer objects wait than a
-- batch has; and no frame that the process holds alone is one of a region.
pub record PartsFit (kind : HeapKind) (batch : ℕ) (regions : Regions) (s : Space) (free : List Bool) : Type 0 where
  pub agrees : SpaceAgrees kind s regions free
  pub heap : IsHeap s.heap
  pub levels : 2 ≤ s.tables.top
  pub shadows : first_shadow_page + s.shadows ≤ shadows_end
  pub few : batch ≤ most_waiting
  pub waits : length s.waiting < batch
  pub private : (frame : ℕ) → 0 < among frame (frames_held s) → holders regions frame ≡ 0

-- the parts fit, and the words agree with the tables once the pending jobs are done
pub record Settled (kind : HeapKind) (batch : ℕ) (entries : ℕ → ℕ → ℕ) (words : List ℕ) (regions : Regions) (d : Draft) : Type 0 where
  pub parts : PartsFit kind batch regions d.space d.free
  pub tables : AgreesAfter entries words (tables_of d)
