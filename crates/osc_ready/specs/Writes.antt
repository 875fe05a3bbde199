-- How many bytes the jobs of a plan write out. This project's own.
use Rattle.std.specs.Prelude.{ℕ, ◌≡◌, ◌≤◌, [], sum_by}
use Rattle.osc_word.specs.Environment.{output_limit}
use Rattle.osc_word.specs.declared.calls.Call.{Call}
use Rattle.osc_word.specs.declared.calls.Call.TheVariants.{Write}
use Rattle.osc_word.specs.declared.calls.Answer.{Answer}
use Rattle.osc_word.specs.declared.calls.Answer.TheVariants.{Number}
use Rattle.osc_space.specs.Header.{Found}
use Rattle.osc_calls.specs.Kernel.{KernelState, Process, Calling}
use Rattle.osc_calls.specs.Labels.{out_count}
use Rattle.osc_calls.specs.Requests.{meant}
use Rattle.osc_calls.specs.Plan.{plan_of}

-- as many as a write answers, and no other call writes any
abbrev pub writes_out : Call → Answer → ℕ
writes_out (Write buf len) (Number count) = count
writes_out _ _ = 0

pub record WritesOut (found : Found) (c : Calling) (p : Process) (k : KernelState) : Type 0 where
  pub jobs : sum_by out_count (plan_of found c p k).kernel.jobs ≡ writes_out (meant c.call) (plan_of found c p k).answer
  pub most : writes_out (meant c.call) (plan_of found c p k).answer ≤ output_limit

abbrev pub PlansWrite : Type 0
PlansWrite = (found : Found) (c : Calling) (p : Process) (k : KernelState) → k.jobs ≡ [] → WritesOut found c p k
