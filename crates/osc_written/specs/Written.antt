-- A write that is committed reads mapped pages alone: each byte that is still to be written is one of its
-- buffer, whose bytes are all readable. This project's own.
use Rattle.std.specs.Prelude.{ℕ, ◌/◌, ◌≡◌, ◌≢◌, ◌<◌, ◌≤◌, true, Some, None, Ok, List, [], ◌∷◌, slice_get, sum_by}
use Rattle.osc_word.specs.declared.settings.Config.{Config}
use Rattle.osc_word.specs.declared.calls.Answer.TheVariants.{Number}
use Rattle.osc_word.specs.declared.calls.Call.TheVariants.{Write}
use Rattle.osc_word.specs.declared.job_list.Job.{Job}
use Rattle.osc_word.specs.declared.job_list.Job.TheVariants.{ToOut}
use Rattle.osc_word.specs.declared.steps.Access.TheVariants.{Load}
use Rattle.osc_word.specs.declared.steps.Label.{Label}
use Rattle.osc_word.specs.declared.steps.Label.TheVariants.{Touched}
use Rattle.osc_word.specs.Limits.{first_fault}
use Rattle.osc_image.specs.Image.{Image}
use Rattle.osc_image.specs.Frames.{needed_frames}
use Rattle.osc_image.specs.Form.{image_of}
use Rattle.osc_paging.specs.KeptTables.{mapping_of}
use Rattle.osc_calls.specs.Kernel.{KernelState, Process, Committed, Returning, process_at}
use Rattle.osc_calls.specs.JobDone.{job_done}
use Rattle.osc_calls.specs.Labels.{out_count}
use Rattle.osc_calls.specs.WritePlan.{first_unreadable}
use Rattle.osc_machine.specs.Run.{run}
use Rattle.osc_machine.specs.Start.{start_of}
use Rattle.osc_machine.specs.Laws.{HasKernel}

-- each job that writes out writes some byte
abbrev pub WritesSome : Job → Type 0
WritesSome (ToOut from first count) = 0 < count
WritesSome job = Unit {0}

abbrev pub AllWriteSome : List Job → Type 0
AllWriteSome [] = Unit {0}
AllWriteSome (job ∷ jobs) = WritesSome job × AllWriteSome jobs

-- a write that is committed, with so many bytes of its buffer
pub record WriteStands (k : KernelState) (p : Process) (buf total : ℕ) : Type 0 where
  pub readable : first_unreadable p.space.tables buf total ≡ None
  pub pending : sum_by out_count k.jobs ≤ total
  pub some : AllWriteSome k.jobs

abbrev pub Written : KernelState → Type 0
Written k =
    (done : Committed) (p : Process) (buf len total : ℕ) → k.under_way ≡ Returning done → process_at k done.calling.pid ≡ Some p
    → done.calling.call ≡ Write buf len → done.answer ≡ Number total → WriteStands k p buf total

-- ---- the laws
-- so it is all along each run
abbrev pub RunsWrite : Type 0
RunsWrite =
    (file : List ℕ) (image : Image) (config : Config) (picks : List ℕ) (k : KernelState)
    → first_fault config ≡ None → image_of file ≡ Ok image → needed_frames config.levels image ≤ config.frames
    → HasKernel (run (start_of image config) picks).state k → Written k

-- an access that a job shows is one of the process of the call, to a page that this has mapped
pub record ShowsMapped (k : KernelState) (label : Label) : Type 0 where
  pub done : Committed
  pub returning : k.under_way ≡ Returning done
  pub address : ℕ
  pub width : ℕ
  pub is : label ≡ Touched done.calling.pid done.calling.hart address width Load true
  pub mapped : (p : Process) → process_at k done.calling.pid ≡ Some p → mapping_of p.space.tables (address / 4096) ≢ None

abbrev pub JobsShowMapped : Type 0
JobsShowMapped =
    (k : KernelState) (word place : ℕ) (label : Label) → Written k → slice_get (job_done word k).shows place ≡ Some label → ShowsMapped k label
