-- What a plan makes of the kernel. This project's own.
use Rattle.std.specs.Prelude.{ℕ, Option, Some, None}
use Rattle.osc_word.specs.declared.calls.Answer.{Answer}
use Rattle.osc_space.specs.Space.{Draft, Outcome, Closing, Keeps, GivesBack}
use Rattle.osc_calls.specs.Kernel.{KernelState, Process, Effect, Nothing, Clears, with_process}

-- the kernel with the plan's changes, before the call is entered in the journal
pub record Planned : Type 0 where
  pub kernel : KernelState
  pub answer : Answer
  pub effect : Effect
  pub closing : Closing

-- nothing but an answer
abbrev pub answered : Answer → KernelState → Planned
answered answer kernel = record { kernel = kernel; answer = answer; effect = Nothing; closing = Keeps }

-- a refusal changes nothing
abbrev pub planned_unless : Option Answer → KernelState → Planned → Planned
planned_unless (Some refused) kernel made = answered refused kernel
planned_unless None kernel made = made

-- ---- a plan on one process's memory
abbrev pub with_draft : ℕ → Process → Draft → KernelState → KernelState
with_draft pid p d kernel =
    record (with_process pid (record p { space = d.space }) kernel) { free = d.free; jobs = d.jobs }

-- before blocks are given back, no cache may keep a translation to them
abbrev pub closing_effect : Closing → Effect
closing_effect Keeps = Nothing
closing_effect (GivesBack blocks) = Clears

abbrev pub outcome_planned : ℕ → Process → KernelState → Outcome → Planned
outcome_planned pid p kernel o = record {
  kernel = with_draft pid p o.draft kernel;
  answer = o.answer;
  effect = closing_effect o.closing;
  closing = o.closing;
}
