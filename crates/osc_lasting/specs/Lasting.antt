-- What each step of the kernel leaves of the pages and tables that a hart may rely on. This project's own.
use Rattle.std.specs.Prelude.{ℕ, ◌≡◌, ◌<◌, if◌then◌else◌, Bool, true, false, Some, List, []}
use Rattle.osc_word.specs.declared.calls.Request.{Request}
use Rattle.osc_word.specs.declared.job_list.Job.{Job}
use Rattle.osc_word.specs.declared.settings.HeapKind.TheVariants.{Oscar}
use Rattle.osc_space.specs.Header.{Found}
use Rattle.osc_calls.specs.Kernel.{KernelState, Calling, Quiet, Waiting, next_job}
use Rattle.osc_calls.specs.Begin.{begin}
use Rattle.osc_calls.specs.Plan.{plan}
use Rattle.osc_calls.specs.JobDone.{job_done}
use Rattle.osc_calls.specs.Finish.{finish}
use Rattle.osc_settled.specs.Records.{ending}
use Rattle.osc_settled.specs.KernelFits.{KernelFits}
use Rattle.osc_showing.specs.Showing.{clears}
use Rattle.osc_blocks.specs.Replacing.{ReplacesAtFlush}
use Rattle.osc_relying.specs.Levels.{LevelsFit}
use Rattle.osc_relying.specs.Relying.{PageOf, TableOf}

-- each page and each table that one of these harts relies on is still to be relied on; where the process ends
-- now, a page of it only with a box that its call has
pub record Lasts (old new : KernelState) (spared : ℕ → Bool) : Type 0 where
  pub pages : (n pid page frame : ℕ) (called : Bool) → n < old.config.harts → spared n ≡ true → (ending new.under_way ≡ Some pid → called ≡ true)
      → PageOf old n called pid page frame → PageOf new n called pid page frame
  pub tables : (n pid level page table : ℕ) → n < old.config.harts → spared n ≡ true
      → TableOf old n pid level page table → TableOf new n pid level page table

-- with each hart
abbrev pub each_hart : ℕ → Bool
each_hart n = true

-- with each but one whose cache the job clears
abbrev pub spared_by : Job → ℕ → Bool
spared_by job n = if clears n job then false else true

-- once the call has returned no box is in its hand, and a process that it ends has no hart left
pub record LastsReturned (old new : KernelState) : Type 0 where
  pub pages : (n pid page frame : ℕ) → n < old.config.harts → PageOf old n false pid page frame → PageOf new n false pid page frame
  pub tables : (n pid level page table : ℕ) → n < old.config.harts → (ending old.under_way ≡ Some pid → ⊥)
      → TableOf old n pid level page table → TableOf new n pid level page table

-- ---- the laws, for each step of the kernel
abbrev pub BeginsLast : Type 0
BeginsLast =
    (words regs : List ℕ) (hart pc : ℕ) (asked : Request) (k : KernelState) → KernelFits words k → LevelsFit k → k.config.heap ≡ Oscar
    → k.under_way ≡ Quiet → Lasts k (begin hart regs pc asked k).kernel each_hart

abbrev pub PlansLast : Type 0
PlansLast =
    (words : List ℕ) (found : Found) (c : Calling) (k : KernelState) → KernelFits words k → LevelsFit k → k.config.heap ≡ Oscar
    → k.under_way ≡ Waiting c → Lasts k (plan found k).kernel each_hart

abbrev pub JobsLast : Type 0
JobsLast =
    (words : List ℕ) (word : ℕ) (job : Job) (k : KernelState) → KernelFits words k → LevelsFit k → k.config.heap ≡ Oscar
    → next_job k ≡ Some job → Lasts k (job_done word k).kernel (spared_by job)

abbrev pub FinishesLast : Type 0
FinishesLast =
    (words : List ℕ) (k : KernelState) → KernelFits words k → LevelsFit k → k.config.heap ≡ Oscar
    → ReplacesAtFlush k → k.jobs ≡ [] → LastsReturned k (finish k).kernel

-- all together
pub record StepsLast : Type 0 where
  pub begins : BeginsLast
  pub plans : PlansLast
  pub jobs : JobsLast
  pub finishes : FinishesLast
