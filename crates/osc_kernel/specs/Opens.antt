-- What opening a kernel makes, and why it is refused. This project's own.
use Rattle.std.specs.Prelude.{◌≡◌, ◌<◌, ◌≤◌, Bool, None, List, [], ◌∷◌}
use Rattle.osc_word.specs.JobList.{JobList}
use Rattle.osc_word.specs.declared.job_list.Job.{Job}
use Rattle.osc_word.specs.declared.settings.Config.{Config}
use Rattle.osc_calls.specs.Kernel.{KernelState, Process}
use Rattle.osc_calls.specs.Open.{OpenPage, all_pages, first_process, kernel_with, lay_all, rooted}
use Rattle.osc_open.specs.Laying.{frames_for}
use Rattle.osc_tables.specs.Calls.{changed}
use Rattle.osc_kernel.specs.declared.opening.KernelFault.{KernelFault}
use Rattle.osc_kernel.specs.declared.opening.KernelFault.TheVariants.{NoRoom, Memory}
use Rattle.osc_kernel.specs.declared.state.State.{State}
use Rattle.osc_kernel.specs.Sound.{IsSized}

-- the kernel that opens with this first process, these free frames and these jobs
abbrev pub started : Config → Process → List Bool → List Job → KernelState
started config first free jobs = record (kernel_with config (changed first.space.tables free jobs)) { processes = first ∷ [] }

-- no job is done, and nothing was shown
pub record IsFresh (jobs : JobList) (s : State) : Type 0 where
  pub same : s.jobs ≡ jobs
  pub done : s.done ≡ 0
  pub pending : s.pending ≡ 0
  pub shown : s.shown ≡ None
  pub freed : s.freed ≡ []

-- the first process has its pages
pub record Opened (pages : List OpenPage) (config : Config) (first : Process) (free : List Bool) (jobs : List Job) : Type 0 where
  pub enough : frames_for config.levels pages ≤ config.frames
  pub laid : changed first.space.tables free jobs ≡ lay_all (all_pages pages) (rooted config)
  pub first_is : first ≡ first_process config first.space.tables
  pub sized : IsSized config first

-- the frames are too few, or memory was short
abbrev pub Refuses : Config → List OpenPage → KernelFault → Type 0
Refuses config pages (NoRoom needed frames) =
    (needed ≡ frames_for config.levels pages) × (frames ≡ config.frames) × (config.frames < needed)
Refuses config pages Memory = Unit {0}
