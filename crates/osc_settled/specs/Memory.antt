-- What the memories of all processes have in common with the machine's frames and with the words of
-- memory, at every moment. This project's own.
use Rattle.std.specs.Prelude.{ℕ, zero, suc, ◌+◌, ◌≡◌, ◌<◌, Bool, true, Some, None, List, [], length, slice_get, sum_by}
use Rattle.osc_word.specs.declared.settings.HeapKind.{HeapKind}
use Rattle.osc_word.specs.declared.job_list.Job.{Job}
use Rattle.osc_slot.specs.declared.Block.{Block}
use Rattle.osc_slot.specs.Slots.{is_held}
use Rattle.osc_paging.specs.Agree.{Agrees, AgreesAfter}
use Rattle.osc_space.specs.Space.{Space, Draft, Closing}
use Rattle.osc_space.specs.Share.{Regions, holders, shared_frames}
use Rattle.osc_space.specs.Finish.{finished}
use Rattle.osc_parts.specs.Frames.{among, vacant, frames_held, FramesFit, Trades}
use Rattle.osc_parts.specs.Settled.{tables_of, PartsFit}
use Rattle.osc_parts.specs.PlanFits.{gives_block}
use Rattle.osc_calls.specs.Kernel.{KernelState, Process}
use Rattle.osc_calls.specs.JobDone.{newest, child_entry}

-- ---- what of the kernel speaks of memory
pub record Memory : Type 0 where
  pub heap : HeapKind
  pub batch : ℕ
  pub processes : List Process
  pub regions : Regions
  pub free : List Bool
  pub jobs : List Job

abbrev pub memory_of : KernelState → Memory
memory_of k = record {
  heap = k.config.heap;
  batch = k.config.batch;
  processes = k.processes;
  regions = k.regions;
  free = k.free;
  jobs = k.jobs;
}

-- one memory, with the free frames and the pending jobs
abbrev pub draft_in : Memory → Space → Draft
draft_in m s = record { space = s; free = m.free; jobs = m.jobs }

-- what a copied table's frame gets at an index
abbrev pub entries_in : List Process → ℕ → ℕ → ℕ
entries_in processes frame index = child_entry (newest processes) frame index

-- ---- frames
-- how often a process holds the frame alone, and how often as one of a region
abbrev pub held_by : ℕ → Process → ℕ
held_by frame p = among frame (frames_held p.space)

abbrev pub shared_by : ℕ → Process → ℕ
shared_by frame p = among frame (shared_frames p.space.tables)

-- and how often all processes do
abbrev pub held : ℕ → List Process → ℕ
held frame processes = sum_by (held_by frame) processes

abbrev pub shared : ℕ → List Process → ℕ
shared frame processes = sum_by (shared_by frame) processes

-- one, where there are any
abbrev pub one_if : ℕ → ℕ
one_if zero = 0
one_if (suc more) = 1

-- ---- one process
-- a memory and the free frames once no job is pending
abbrev pub at_rest : Space → List Bool → Draft
at_rest s free = record { space = s; free = free; jobs = [] }

-- What the return of the call under way makes of a memory: it gives back blocks that are held, it
-- frees exactly the frames that the process holds no more, it pushes no job, and it leaves parts that
-- fit and words that agree. Where nothing is given back, it says that the parts fit as they are.
pub record Returns (heap : HeapKind) (batch : ℕ) (regions : Regions) (closing : Closing) (s : Space) (free : List Bool) : Type 0 where
  pub blocks : (block : Block) → gives_block closing block ≡ true → is_held s.heap.held block ≡ true
  pub jobs : (finished closing (at_rest s free)).jobs ≡ []
  pub gives : Trades s free (finished closing (at_rest s free)).space (finished closing (at_rest s free)).free
  pub parts : PartsFit heap batch regions (finished closing (at_rest s free)).space (finished closing (at_rest s free)).free
  pub agrees : (words : List ℕ) → Agrees s.tables free words
      → Agrees (finished closing (at_rest s free)).space.tables (finished closing (at_rest s free)).free words

-- The parts of a process that has not ended fit once the call under way has returned, no frame that
-- it uses is free or used twice, and after the pending jobs the words are those of its tables.
pub record SpaceFits (words : List ℕ) (m : Memory) (closing : Closing) (s : Space) : Type 0 where
  pub returns : Returns m.heap m.batch m.regions closing s m.free
  pub frames : FramesFit s m.free
  pub tables : AgreesAfter (entries_in m.processes) words (tables_of (draft_in m s))

-- a process that has ended has no page, no table, no block and no object that waits
pub record IsBare (s : Space) : Type 0 where
  pub pages : s.tables.pages ≡ []
  pub tables : s.tables.tables ≡ []
  pub aside : s.tables.aside ≡ []
  pub blocks : s.heap.held ≡ []
  pub frames : s.heap.pages ≡ []
  pub waiting : s.waiting ≡ []

-- ---- all processes
-- `closes` tells for each process what the call under way will give back.
-- Each frame is free, or held by one process alone, or held by those whose regions it is in, and never
-- two of these: what the call under way will give back is not free yet. A frame of a region has as
-- many holders as processes map it.
pub record MemoryFits (words : List ℕ) (m : Memory) (closes : ℕ → Closing) : Type 0 where
  pub spaces : (pid : ℕ) (p : Process) → slice_get m.processes pid ≡ Some p → p.status ≡ None → SpaceFits words m (closes pid) p.space
  pub bare : (pid status : ℕ) (p : Process) → slice_get m.processes pid ≡ Some p → p.status ≡ Some status → IsBare p.space
  pub uses : (frame : ℕ) → frame < length m.free → vacant m.free frame + held frame m.processes + one_if (holders m.regions frame) ≡ 1
  pub holders : (frame : ℕ) → holders m.regions frame ≡ shared frame m.processes
