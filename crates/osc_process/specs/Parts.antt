-- The process that the parts stand for, the room for one, and what each call leaves of its sizes. This
-- project's own.
use Rattle.std.specs.Prelude.{ℕ, ◌+◌, ◌≡◌, Bool, Option, None, List, []}
use Rattle.osc_word.specs.JobList.{JobList}
use Rattle.osc_word.specs.declared.job_list.Job.{Job}
use Rattle.osc_word.specs.declared.calls.Answer.{Answer}
use Rattle.osc_slot.specs.Heap.{empty_heap}
use Rattle.osc_paging.specs.KeptTables.{KeptTables, closed, levels_of}
use Rattle.osc_space.specs.Space.{Space, Draft, Outcome, Closing}
use Rattle.osc_space.specs.Share.{Regions, Sharing}
use Rattle.osc_shadow.specs.declared.Space.{Space as Parts}
use Rattle.osc_shadow.specs.Parts.{space_of}
use Rattle.osc_calls.specs.Kernel.{Process}

abbrev pub process_of : Parts → List ℕ → ℕ → Option ℕ → Option ℕ → Process
process_of s waiting inherited parent status = record {
  space = space_of s.tables s.marks s.heap waiting;
  inherited = inherited;
  parent = parent;
  status = status;
}

-- a process that is not made yet, of this memory
abbrev pub not_made : Space → Process
not_made s = record { space = s; inherited = 0; parent = None; status = None }

-- the room for one in a machine of so many frames, with so many levels of tables and shadow pages
abbrev pub unused : ℕ → ℕ → ℕ → Process
unused levels frames shadows = not_made (record {
  tables = closed levels frames (frames + shadows);
  objects = [];
  waiting = [];
  shadows = shadows;
  heap = empty_heap frames;
})

-- the room for a child of this memory
abbrev pub room_for : Space → Process
room_for s = not_made (record {
  tables = closed (levels_of s.tables) s.tables.count s.tables.room;
  objects = [];
  waiting = [];
  shadows = s.shadows;
  heap = empty_heap s.heap.frames;
})

-- ---- a call on one process
-- the process with another memory
abbrev pub with_space : Space → Process → Process
with_space s p = record p { space = s }

-- its memory, with the free frames of the machine and the jobs
abbrev pub draft_at : Process → List Bool → List Job → Draft
draft_at p free jobs = record { space = p.space; free = free; jobs = jobs }

-- what a plan answered and made, and what it gives back
abbrev pub made : Answer → Closing → Process → List Bool → JobList → Outcome
made answer closing p free jobs = record { answer = answer; draft = draft_at p free jobs.pushed; closing = closing }

-- the process with other tables
abbrev pub with_tables : KeptTables → Process → Process
with_tables t p = record p { space = record (p.space) { tables = t } }

-- what a share changes
abbrev pub sharing_at : Process → Regions → List Bool → List Job → Sharing
sharing_at p regions free jobs = record { tables = p.space.tables; regions = regions; free = free; jobs = jobs }

-- what no call changes: the levels of tables, and the frames, the shadow pages and the mapped pages that
-- there may be
pub record SameSizes (s t : Space) : Type 0 where
  pub top : t.tables.top ≡ s.tables.top
  pub count : t.tables.count ≡ s.tables.count
  pub room : t.tables.room ≡ s.tables.room
  pub shadows : t.shadows ≡ s.shadows
  pub frames : t.heap.frames ≡ s.heap.frames
