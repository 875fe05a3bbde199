-- The state of the kernel. Words of memory, gates and boxes are not in it. This project's own.
use Rattle.std.specs.Prelude.{ℕ, ◌-◌, ◌==◌, ◌||◌, Bool, true, false, nat_le, nat_lt, List, length, slice_get, slice_set, position, sum_by, count_by, Option, Some, None, is_some, unwrap_or}
use Rattle.std.specs.List.{list_all, range_with_len}
use Rattle.std.specs.Option.{option_and_then}
use Rattle.osc_word.specs.declared.settings.Config.{Config}
use Rattle.osc_word.specs.declared.calls.Call.{Call}
use Rattle.osc_word.specs.declared.calls.Answer.{Answer}
use Rattle.osc_word.specs.declared.calls.Entry.{Entry}
use Rattle.osc_word.specs.declared.orders.Start.{Start}
use Rattle.osc_word.specs.declared.job_list.Job.{Job}
use Rattle.osc_word.specs.declared.steps.Label.{Label}
use Rattle.osc_slot.specs.Heap.{free_count}
use Rattle.osc_paging.specs.KeptTables.{root_of}
use Rattle.osc_space.specs.Space.{Space, Closing}
use Rattle.osc_space.specs.Objects.{mark}
use Rattle.osc_calls.specs.declared.Thread.{Thread}
use Rattle.osc_calls.specs.declared.HartRecord.{HartRecord}
use Rattle.osc_calls.specs.declared.HartRecord.TheVariants.{Idle, Runs}
use Rattle.osc_calls.specs.declared.Report.{Report}

-- ---- the state

pub record Process : Type 0 where
  pub space : Space
  pub inherited : ℕ  -- its mark when it was made: what its parent had granted
  pub parent : Option ℕ
  pub status : Option ℕ  -- once the call of its end has returned: 0 to 63, or 70 for an end by a fault

-- a call that a thread asks for, with the registers and the pc of its hart
pub record Calling : Type 0 where
  pub hart : ℕ
  pub pid : ℕ
  pub thread : Option ℕ  -- its number, where it was spawned
  pub call : Call
  pub regs : List ℕ
  pub pc : ℕ

-- what a committed call does to harts and their boxes
pub data Effect : Type 0 where
  Nothing : Effect
  Clears : Effect  -- a free or a realloc has let memory go: no cache may keep a translation to it
  Starts : ℕ → Start → Effect  -- a thread begins on this hart
  Ends : ℕ → Effect  -- the process of the call ends with this status

-- a call that is committed and has not returned, with what it gives back when it returns
pub record Committed : Type 0 where
  pub calling : Calling
  pub answer : Answer
  pub effect : Effect
  pub closing : Closing

-- what the hart that has the kernel is about
pub data UnderWay : Type 0 where
  Quiet : UnderWay  -- no hart has it
  Retrying : UnderWay  -- the hart will ask again
  Leaving : ℕ → UnderWay  -- this hart's thread is stopped, or it only reports itself idle
  Waiting : Calling → UnderWay  -- the call will commit
  Returning : Committed → UnderWay  -- the call is committed

pub record KernelState : Type 0 where
  pub config : Config
  pub free : List Bool  -- for each frame, true where it is free
  pub processes : List Process  -- by their numbers; ended ones stay
  pub regions : List ℕ  -- for each frame, how many processes hold it as one of a shared region
  pub threads : List Thread  -- the spawned ones
  pub records : List HartRecord  -- for each hart
  pub journal : List Entry
  pub output : List ℕ
  pub reports : List Report
  pub jobs : List Job  -- those that are not done
  pub under_way : UnderWay
  pub peak : ℕ  -- the most frames in use after a plan

-- the kernel after a step, and what the step shows
pub record Shown : Type 0 where
  pub kernel : KernelState
  pub shows : List Label

-- ---- looks

abbrev pub process_at : KernelState → ℕ → Option Process
process_at kernel pid = slice_get kernel.processes pid

abbrev pub with_process : ℕ → Process → KernelState → KernelState
with_process pid process kernel = record kernel { processes = slice_set kernel.processes pid process }

abbrev pub with_record : ℕ → HartRecord → KernelState → KernelState
with_record hart new kernel = record kernel { records = slice_set kernel.records hart new }

-- the frame of the topmost table
abbrev pub root_frame : Space → ℕ
root_frame space = unwrap_or (root_of space.tables) 0

abbrev pub root_in : Option Process → ℕ
root_in None = 0
root_in (Some p) = root_frame p.space

abbrev pub root : KernelState → ℕ → ℕ
root kernel pid = root_in (process_at kernel pid)

abbrev pub is_idle : HartRecord → Bool
is_idle Idle = true
is_idle _ = false

-- the least idle hart
abbrev pub idle_hart : List HartRecord → Option ℕ
idle_hart records = position is_idle records

abbrev pub runs : ℕ → HartRecord → Bool
runs pid (Runs other thread) = other == pid
runs pid _ = false

-- no more than one hart runs a thread of the process
abbrev pub is_last : List HartRecord → ℕ → Bool
is_last records pid = nat_le (count_by (runs pid) records) 1

abbrev pub has_journal_room : KernelState → Bool
has_journal_room kernel = nat_lt (length kernel.journal) kernel.config.journal

-- the frames in use
abbrev pub in_use : List Bool → ℕ
in_use free = length free - free_count free

abbrev pub next_job : KernelState → Option Job
next_job kernel = slice_get kernel.jobs 0

-- ---- what the machine shows of its processes

-- the status of a process; None where no such process was made or the call of its end has not returned
abbrev pub ended : ℕ → KernelState → Option ℕ
ended pid kernel = option_and_then (λ (p : Process). p.status) (process_at kernel pid)

-- every process has ended, and the calls of their ends have returned
abbrev pub is_over : KernelState → Bool
is_over kernel = list_all (λ (p : Process). is_some p.status) kernel.processes

-- no process lives where this one ends, though the call of its end has not returned
abbrev pub none_lives : ℕ → KernelState → Bool
none_lives ending kernel =
    list_all (λ pid. (pid == ending) || is_some (ended pid kernel)) (range_with_len 0 (length kernel.processes))

-- the shadow pages that each process granted itself, together
abbrev pub granted : KernelState → ℕ
granted kernel = sum_by (λ (p : Process). mark p.space.objects - p.inherited) kernel.processes

abbrev pub peak : KernelState → ℕ
peak kernel = kernel.peak
