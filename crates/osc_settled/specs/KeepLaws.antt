-- The laws of steps: each keeps what holds of the kernel and of the words.
use Rattle.std.specs.Prelude.{ℕ, ◌≡◌, false, List, [], ◌∷◌, Some, sum_by}
use Rattle.osc_word.specs.declared.calls.Request.{Request}
use Rattle.osc_word.specs.declared.job_list.Job.{Job}
use Rattle.osc_paging.specs.JobWords.{words_done}
use Rattle.osc_space.specs.Space.{Outcome}
use Rattle.osc_space.specs.Header.{Found}
use Rattle.osc_parts.specs.PlanFits.{PlanFits}
use Rattle.osc_calls.specs.Kernel.{KernelState, Process, Calling, Quiet, Waiting, process_at}
use Rattle.osc_calls.specs.Begin.{begin}
use Rattle.osc_calls.specs.Finish.{finish}
use Rattle.osc_calls.specs.Refusals.{draft_of}
use Rattle.osc_calls.specs.Planned.{outcome_planned}
use Rattle.osc_calls.specs.Plan.{committed, plan}
use Rattle.osc_calls.specs.JobDone.{job_done, entries}
use Rattle.osc_calls.specs.Labels.{out_count}
use Rattle.osc_settled.specs.UnderWay.{is_end}
use Rattle.osc_settled.specs.KernelFits.{KernelFits}

-- a job that is done, with the words that it makes
abbrev pub JobsKeep : Type 0
JobsKeep =
    (word : ℕ) (words : List ℕ) (k : KernelState) (job : Job) (jobs : List Job)
    → KernelFits words k → k.jobs ≡ job ∷ jobs
    → KernelFits (words_done (entries k) job words) (job_done word k).kernel

-- a plan on one process's memory that is fit for it, answers no end and writes nothing out
pub record FitsCaller (words : List ℕ) (k : KernelState) (p : Process) (o : Outcome) : Type 0 where
  pub each : (entries : ℕ → ℕ → ℕ) → PlanFits k.config.heap k.config.batch entries words k.regions (draft_of k p) o
  pub answer : is_end o.answer ≡ false
  pub writes : sum_by out_count o.draft.jobs ≡ 0

-- each such plan keeps what holds
abbrev pub OutcomesKeep : Type 0
OutcomesKeep =
    (words : List ℕ) (k : KernelState) (c : Calling) (p : Process) (o : Outcome)
    → KernelFits words k → k.under_way ≡ Waiting c → process_at k c.pid ≡ Some p → FitsCaller words k p o
    → KernelFits words (committed c (outcome_planned c.pid p k o))

-- ---- plans
-- the plan of a call that waits, refused or not
abbrev pub PlansKeep : Type 0
PlansKeep =
    (words : List ℕ) (found : Found) (k : KernelState) (c : Calling)
    → KernelFits words k → k.under_way ≡ Waiting c → KernelFits words (plan found k).kernel

-- ---- begin
-- a hart that takes the kernel, whatever it asks: the call waits, commits at once, or is to be asked again
abbrev pub BeginsKeep : Type 0
BeginsKeep =
    (words : List ℕ) (hart pc : ℕ) (regs : List ℕ) (request : Request) (k : KernelState)
    → KernelFits words k → k.under_way ≡ Quiet → KernelFits words (begin hart regs pc request k).kernel

-- ---- finish
-- the kernel is given back once no job is pending
abbrev pub FinishKeeps : Type 0
FinishKeeps =
    (words : List ℕ) (k : KernelState) → KernelFits words k → k.jobs ≡ [] → KernelFits words (finish k).kernel
