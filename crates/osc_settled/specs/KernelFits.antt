-- What the kernel, its processes and the words of memory have in common at every moment. This
-- project's own.
use Rattle.std.specs.Prelude.{ℕ, ◌+◌, ◌*◌, ◌≡◌, ◌≤◌, None, List, length, sum_by}
use Rattle.osc_word.specs.Limits.{first_fault}
use Rattle.osc_word.specs.Environment.{thread_limit, output_limit}
use Rattle.osc_calls.specs.Kernel.{KernelState}
use Rattle.osc_calls.specs.Labels.{out_count}
use Rattle.osc_settled.specs.Memory.{memory_of, MemoryFits}
use Rattle.osc_settled.specs.Records.{ending, RecordsFit, AllManned}
use Rattle.osc_settled.specs.UnderWay.{closing_of, UnderWayFits}

-- each list has its length, and no number passes its limit: the output with what is still to be written
pub record SizesFit (words : List ℕ) (k : KernelState) : Type 0 where
  pub config : first_fault k.config ≡ None
  pub memory : length words ≡ k.config.frames * 512
  pub free : length k.free ≡ k.config.frames
  pub regions : length k.regions ≡ k.config.frames
  pub records : length k.records ≡ k.config.harts
  pub processes : length k.processes ≤ k.config.processes
  pub threads : length k.threads ≤ thread_limit
  pub journal : length k.journal ≤ k.config.journal
  pub output : length k.output + sum_by out_count k.jobs ≤ output_limit
  pub peak : k.peak ≤ k.config.frames

pub record KernelFits (words : List ℕ) (k : KernelState) : Type 0 where
  pub sizes : SizesFit words k
  pub memory : MemoryFits words (memory_of k) (closing_of k.under_way)
  pub records : RecordsFit k.processes k.threads k.records (ending k.under_way)
  pub manned : AllManned k.processes k.records (ending k.under_way)
  pub under_way : UnderWayFits k k.under_way
