-- The laws of what the steps of a call show.
use Rattle.std.specs.Prelude.{ℕ, ◌≡◌, ◌+◌, ◌≤◌, List, [], length, map, take, Option, Some, None}
use Rattle.osc_word.specs.declared.calls.Request.{Request}
use Rattle.osc_slot.specs.declared.Block.{Block}
use Rattle.osc_space.specs.Header.{Found}
use Rattle.osc_space.specs.Space.{Keeps, GivesBack}
use Rattle.osc_calls.specs.Kernel.{KernelState, Process, Committed, Returning, process_at}
use Rattle.osc_calls.specs.Labels.{freed_label}
use Rattle.osc_calls.specs.Begin.{begin}
use Rattle.osc_calls.specs.Plan.{plan}
use Rattle.osc_calls.specs.JobDone.{job_done}
use Rattle.osc_calls.specs.Finish.{finish}

-- no step shows more than one thing, but the return of a flush, which shows each object that it freed
pub record LabelsCounted : Type 0 where
  pub begun : (hart pc : ℕ) (regs : List ℕ) (request : Request) (kernel : KernelState)
      → length (begin hart regs pc request kernel).shows ≤ 1
  pub planned : (found : Found) (kernel : KernelState) → length (plan found kernel).shows ≤ 1
  pub job_done : (word : ℕ) (kernel : KernelState) → length (job_done word kernel).shows ≤ 1
  pub finished : (kernel : KernelState) → length (finish kernel).shows ≤ length (finish kernel).freed + 1

-- what waits in a process
abbrev pub waiting_in : Option Process → List ℕ
waiting_in None = []
waiting_in (Some p) = p.space.waiting

-- at the return of a call that gives something back all that waited is freed, and none waits any more; the
-- freed ones are shown first, in their order
pub record FlushReturns (done : Committed) (p : Process) (kernel : KernelState) : Type 0 where
  pub freed : (finish kernel).freed ≡ p.space.waiting
  pub shown : take (length p.space.waiting) (finish kernel).shows ≡ map (freed_label done.calling.pid p.space.objects) p.space.waiting
  pub emptied : waiting_in (process_at (finish kernel).kernel done.calling.pid) ≡ []

pub record ReturnsFree : Type 0 where
  pub flush : (done : Committed) (p : Process) (blocks : List Block) (kernel : KernelState)
      → kernel.under_way ≡ Returning done → process_at kernel done.calling.pid ≡ Some p
      → done.closing ≡ GivesBack blocks → FlushReturns done p kernel
  pub other : (done : Committed) (kernel : KernelState)
      → kernel.under_way ≡ Returning done → done.closing ≡ Keeps → (finish kernel).freed ≡ []
