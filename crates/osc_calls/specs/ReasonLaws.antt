-- The law of causes: what each refusal of a fork, a spawn or a share says, in the order in which they are
-- looked at.
use Rattle.std.specs.Prelude.{ℕ, ◌+◌, ◌≡◌, ◌<◌, ◌≤◌, length, Some, None}
use Rattle.osc_word.specs.Environment.{thread_limit}
use Rattle.osc_word.specs.declared.calls.Call.TheVariants as calls
use Rattle.osc_word.specs.declared.calls.Answer.TheVariants as answer
use Rattle.osc_slot.specs.Heap.{free_count}
use Rattle.osc_paging.specs.KeptTables.{need}
use Rattle.osc_space.specs.Fork.{private_frames}
use Rattle.osc_space.specs.Share.{next_shared_page}
use Rattle.osc_calls.specs.Kernel.{KernelState, Process, idle_hart}
use Rattle.osc_calls.specs.Refusals.{refusal_of}

-- no hart is idle; as many processes were made as may be; the private frames are more than the free ones
pub record ForkRefused (p : Process) (kernel : KernelState) : Type 0 where
  pub hart : idle_hart kernel.records ≡ None → refusal_of calls.Fork p kernel ≡ Some answer.NoHart
  pub process : (hart : ℕ) → idle_hart kernel.records ≡ Some hart → kernel.config.processes ≤ length kernel.processes
      → refusal_of calls.Fork p kernel ≡ Some answer.NoProcess
  pub frames : (hart : ℕ) → idle_hart kernel.records ≡ Some hart → length kernel.processes < kernel.config.processes
      → free_count kernel.free < length (private_frames p.space (length kernel.free))
      → refusal_of calls.Fork p kernel ≡ Some answer.NoFrames
  pub none : (hart : ℕ) → idle_hart kernel.records ≡ Some hart → length kernel.processes < kernel.config.processes
      → length (private_frames p.space (length kernel.free)) ≤ free_count kernel.free
      → refusal_of calls.Fork p kernel ≡ None

-- no hart is idle; as many threads were made as may be
pub record SpawnRefused (pc sp arg : ℕ) (p : Process) (kernel : KernelState) : Type 0 where
  pub hart : idle_hart kernel.records ≡ None → refusal_of (calls.Spawn pc sp arg) p kernel ≡ Some answer.NoHart
  pub thread : (hart : ℕ) → idle_hart kernel.records ≡ Some hart → thread_limit ≤ length kernel.threads
      → refusal_of (calls.Spawn pc sp arg) p kernel ≡ Some answer.NoThread
  pub none : (hart : ℕ) → idle_hart kernel.records ≡ Some hart → length kernel.threads < thread_limit
      → refusal_of (calls.Spawn pc sp arg) p kernel ≡ None

-- no page is asked for; the pages and the tables that are missing over them are more than the free frames
pub record ShareRefused (p : Process) (kernel : KernelState) : Type 0 where
  pub empty : refusal_of (calls.Share 0) p kernel ≡ Some answer.Empty
  pub frames : (count : ℕ) → 0 < count
      → free_count kernel.free < count + need p.space.tables (next_shared_page p.space.tables) count
      → refusal_of (calls.Share count) p kernel ≡ Some answer.NoFrames
  pub none : (count : ℕ) → 0 < count
      → count + need p.space.tables (next_shared_page p.space.tables) count ≤ free_count kernel.free
      → refusal_of (calls.Share count) p kernel ≡ None

pub record RefusedForCause : Type 0 where
  pub fork : (p : Process) (kernel : KernelState) → ForkRefused p kernel
  pub spawn : (pc sp arg : ℕ) (p : Process) (kernel : KernelState) → SpawnRefused pc sp arg p kernel
  pub share : (p : Process) (kernel : KernelState) → ShareRefused p kernel
