-- A process is ended only by a call that takes all boxes. This project's own.
use Rattle.std.specs.Prelude.{ℕ, ◌≡◌, None, List}
use Rattle.osc_word.specs.declared.calls.Request.{Request}
use Rattle.osc_space.specs.Header.{Found}
use Rattle.osc_calls.specs.Kernel.{KernelState, Calling, Waiting}
use Rattle.osc_calls.specs.Begin.{begin}
use Rattle.osc_calls.specs.Plan.{plan}
use Rattle.osc_settled.specs.Records.{ending}
use Rattle.osc_records.specs.Agreeing.{TakesNone}

-- ---- the laws
-- a call that is planned as it begins ends none
abbrev pub BegunGoOn : Type 0
BegunGoOn = (regs : List ℕ) (hart pc : ℕ) (asked : Request) (k : KernelState) → ending (begin hart regs pc asked k).kernel.under_way ≡ None

-- nor does one that has read a header
abbrev pub PlannedGoOn : Type 0
PlannedGoOn = (found : Found) (c : Calling) (k : KernelState) → k.under_way ≡ Waiting c → TakesNone k → ending (plan found k).kernel.under_way ≡ None
