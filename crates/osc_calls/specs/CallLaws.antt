-- The laws of calls.
use Rattle.std.specs.Prelude.{ℕ, ◌≡◌, Bool, true, false, List, [], slice_get, slice_set, Some, None}
use Rattle.osc_word.specs.declared.calls.Call.TheVariants.{Malloc, Fork, Share}
use Rattle.osc_word.specs.declared.calls.Request.{Request}
use Rattle.osc_word.specs.declared.calls.Resume.{Resume}
use Rattle.osc_word.specs.declared.calls.Resume.TheVariants as resume
use Rattle.osc_word.specs.declared.calls.Answer.{Answer}
use Rattle.osc_word.specs.declared.calls.Answer.TheVariants as answer
use Rattle.osc_space.specs.Header.{Found}
use Rattle.osc_calls.specs.declared.Begun.{Begun}
use Rattle.osc_calls.specs.declared.Begun.TheVariants as begun
use Rattle.osc_calls.specs.declared.HartRecord.TheVariants.{Idle, Stopped}
use Rattle.osc_calls.specs.Kernel.{KernelState, Process, Calling, Quiet, process_at, has_journal_room}
use Rattle.osc_calls.specs.Refusals.{refusal}
use Rattle.osc_calls.specs.Planned.{answered}
use Rattle.osc_calls.specs.Plan.{plan_of}
use Rattle.osc_calls.specs.Begin.{begin, begun_in}
use Rattle.osc_calls.specs.Finish.{Finished, finish}

-- the kernel is as when nobody has it, nothing was freed and nothing is shown
abbrev pub nothing_done : Resume → KernelState → Finished
nothing_done how kernel = record { kernel = record kernel { under_way = Quiet }; resume = how; freed = []; shows = [] }

-- a hart whose thread was stopped leaves, whatever it asks, and is idle from then on
pub record IsGone (hart pc : ℕ) (regs : List ℕ) (request : Request) (kernel : KernelState) : Type 0 where
  pub begun : (begin hart regs pc request kernel).begun ≡ begun.Gone
  pub shows : (begin hart regs pc request kernel).shows ≡ []
  pub finished : finish (begin hart regs pc request kernel).kernel
      ≡ nothing_done resume.Idle (record kernel { records = slice_set kernel.records hart Idle })

abbrev pub StoppedAreGone : Type 0
StoppedAreGone =
    (hart pc pid : ℕ) (regs : List ℕ) (request : Request) (kernel : KernelState)
    → slice_get kernel.records hart ≡ Some (Stopped pid) → IsGone hart pc regs request kernel

-- a hart that is to ask again has changed nothing
abbrev pub is_retry : Begun → Bool
is_retry begun.Again = true
is_retry begun.JournalFull = true
is_retry _ = false

pub record AsksAgain (hart pc : ℕ) (regs : List ℕ) (request : Request) (kernel : KernelState) : Type 0 where
  pub shows : (begin hart regs pc request kernel).shows ≡ []
  pub finished : finish (begin hart regs pc request kernel).kernel ≡ nothing_done resume.Again kernel

abbrev pub RetriesKeep : Type 0
RetriesKeep =
    (hart pc : ℕ) (regs : List ℕ) (request : Request) (kernel : KernelState)
    → is_retry (begin hart regs pc request kernel).begun ≡ true → AsksAgain hart pc regs request kernel

-- ---- refusals
-- for want of a hart, a process, a thread or memory
abbrev pub is_want : Answer → Bool
is_want answer.NoShadow = true
is_want answer.NoFrames = true
is_want answer.NoHart = true
is_want answer.NoProcess = true
is_want answer.NoThread = true
is_want answer.Empty = true
is_want _ = false

-- what was given back is no object, or not as it was left
abbrev pub is_heap_fault : Answer → Bool
is_heap_fault (answer.DoubleFree object call) = true
is_heap_fault answer.NotAnObject = true
is_heap_fault (answer.HeaderDamaged kept found) = true
is_heap_fault _ = false

abbrev pub is_denied : Answer → Bool
is_denied (answer.DoubleFree object call) = true
is_denied answer.NotAnObject = true
is_denied (answer.HeaderDamaged kept found) = true
is_denied (answer.BadBuffer address) = true
is_denied given = is_want given

-- the plan of a refused call changes nothing and gives nothing back; the call is then entered in the journal
abbrev pub RefusedCallsKeep : Type 0
RefusedCallsKeep =
    (found : Found) (c : Calling) (p : Process) (kernel : KernelState)
    → process_at kernel c.pid ≡ Some p → is_denied (plan_of found c p kernel).answer ≡ true
    → plan_of found c p kernel ≡ answered (plan_of found c p kernel).answer kernel

-- a call is refused exactly for the first reason that holds of it, unless what it gives back is at fault
pub record RefusedByFirstReason : Type 0 where
  pub only : (found : Found) (c : Calling) (p : Process) (kernel : KernelState)
      → is_want (plan_of found c p kernel).answer ≡ true → refusal c p kernel ≡ Some (plan_of found c p kernel).answer
  pub each : (found : Found) (c : Calling) (p : Process) (kernel : KernelState) (first : Answer)
      → refusal c p kernel ≡ Some first → is_heap_fault (plan_of found c p kernel).answer ≡ false
      → (plan_of found c p kernel).answer ≡ first

-- a fork or a share takes all boxes exactly where it is not refused
pub record RefusedAtOnce (c : Calling) (p : Process) (kernel : KernelState) : Type 0 where
  pub refused : (first : Answer) → refusal c p kernel ≡ Some first → begun_in (Some p) c kernel ≡ begun.Planned
  pub granted : refusal c p kernel ≡ None → begun_in (Some p) c kernel ≡ begun.Boxes

pub record RefusedBegin : Type 0 where
  pub fork : (c : Calling) (p : Process) (kernel : KernelState)
      → c.call ≡ Fork → has_journal_room kernel ≡ true → RefusedAtOnce c p kernel
  pub share : (c : Calling) (p : Process) (kernel : KernelState) (count : ℕ)
      → c.call ≡ Share count → has_journal_room kernel ≡ true → RefusedAtOnce c p kernel

-- ---- malloc
abbrev pub is_moved : Answer → Bool
is_moved (answer.Moved old object pointer) = true
is_moved _ = false

abbrev pub MallocsMoveNothing : Type 0
MallocsMoveNothing =
    (found : Found) (c : Calling) (p : Process) (kernel : KernelState) (size : ℕ)
    → c.call ≡ Malloc size → is_moved (plan_of found c p kernel).answer ≡ false
