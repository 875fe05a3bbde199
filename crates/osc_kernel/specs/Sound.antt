-- What is always true of the fields: the kernel fits with some words of memory, the counts count, and there
-- is room for all that a run may add. This project's own.
use Rattle.std.specs.Prelude.{ℕ, ◌+◌, ◌-◌, ◌*◌, ◌≡◌, ◌<◌, ◌≤◌, Bool, is_none, None, List, [], drop, length, replicate, count_by, sum_by, slice_get, Some}
use Rattle.std.specs.Vec.{vec_capacity}
use Rattle.osc_word.specs.declared.job_list.Job.{Job}
use Rattle.osc_word.specs.declared.settings.Config.{Config}
use Rattle.osc_word.specs.Limits.{first_fault}
use Rattle.osc_paging.specs.KeptTables.{levels_of}
use Rattle.osc_space.specs.WordLaws.{StayInFrames}
use Rattle.osc_calls.specs.Kernel.{KernelState, Process, Effect, Ends, UnderWay, Quiet, Returning}
use Rattle.osc_calls.specs.Labels.{out_count}
use Rattle.osc_process.specs.Parts.{unused}
use Rattle.osc_settled.specs.KernelFits.{KernelFits}
use Rattle.osc_kernel.specs.declared.state.State.{State}
use Rattle.osc_kernel.specs.Inside.{kernel_of}

-- ---- the agreement
-- the jobs that are left while nobody has the kernel are those with which it opened
abbrev pub begun : UnderWay → KernelState → KernelState
begun Quiet k = record k { jobs = [] }
begun _ k = k

-- they write nothing out, and none crosses a frame
pub record OpenJobs (jobs : List Job) : Type 0 where
  pub silent : sum_by out_count jobs ≡ 0
  pub within : StayInFrames jobs

abbrev pub opens_with : UnderWay → List Job → Type 0
opens_with Quiet jobs = OpenJobs jobs
opens_with _ jobs = Unit {0}

-- with some words the kernel fits
pub record Fits (k : KernelState) : Type 0 where
  pub words : List ℕ
  pub fits : KernelFits words (begun k.under_way k)
  pub opens : opens_with k.under_way k.jobs

-- ---- the rooms
abbrev pub has_not_ended : Process → Bool
has_not_ended p = is_none p.status

-- each process has the sizes of the machine
pub record IsSized (config : Config) (p : Process) : Type 0 where
  pub levels : levels_of p.space.tables ≡ config.levels
  pub room : p.space.tables.room ≡ config.frames + config.shadows
  pub count : p.space.tables.count ≡ config.frames
  pub shadows : p.space.shadows ≡ config.shadows
  pub frames : p.space.heap.frames ≡ config.frames

abbrev pub AllSized : Config → List Process → Type 0
AllSized config ps = (pid : ℕ) (p : Process) → slice_get ps pid ≡ Some p → IsSized config p

-- one, where the call ends its process
abbrev pub ends_one : Effect → ℕ
ends_one (Ends status) = 1
ends_one _ = 0

abbrev pub ending_by : UnderWay → ℕ
ending_by (Returning done) = ends_one done.effect
ending_by _ = 0

-- `ends` is one while a process ends, whose report may be made already
pub record HasRooms (ends : ℕ) (s : State) : Type 0 where
  pub valid : first_fault s.config ≡ None
  pub few : length s.processes.items ≤ s.config.processes
  pub room : s.config.processes ≤ vec_capacity s.processes
  pub rest : s.rooms.items ≡ replicate (s.config.processes - length s.processes.items) (unused s.config.levels s.config.frames s.config.shadows)
  pub sized : AllSized s.config s.processes.items
  pub counted : s.unended ≡ count_by has_not_ended s.processes.items
  pub reported : length s.reports.items + s.unended ≤ length s.processes.items + ends
  pub for_reports : s.config.processes ≤ vec_capacity s.reports
  pub for_entries : s.config.journal ≤ vec_capacity s.journal
  pub for_output : 4194304 ≤ vec_capacity s.output
  pub for_jobs : s.jobs.room ≡ 8 * s.config.frames + 64 + 524289
  pub named : length s.names.items ≡ s.config.frames

pub record Sound (s : State) : Type 0 where
  pub fits : Fits (kernel_of s)
  pub rooms : HasRooms (ending_by (kernel_of s).under_way) s
  pub few_jobs : length s.jobs.pushed < 4294967295
  pub clean : s.done ≤ length s.jobs.pushed - 1
  pub pending : s.pending ≡ sum_by out_count (drop s.done s.jobs.pushed)
