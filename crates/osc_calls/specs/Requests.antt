-- What a hart that has taken the kernel asks for, and whether its call is ready. This project's own.
use Rattle.std.specs.Prelude.{ℕ, ◌==◌, Bool, true, false, if◌then◌else◌, List, Option, Some, None, is_some}
use Rattle.osc_word.specs.declared.calls.Answer.{Answer}
use Rattle.osc_word.specs.declared.calls.Answer.TheVariants as answers
use Rattle.osc_word.specs.declared.calls.Call.{Call}
use Rattle.osc_word.specs.declared.calls.Call.TheVariants.{Malloc, Realloc, Join, Wait}
use Rattle.osc_word.specs.declared.calls.Request.{Request}
use Rattle.osc_word.specs.declared.calls.Request.TheVariants as request
use Rattle.osc_calls.specs.declared.HartRecord.{HartRecord}
use Rattle.osc_calls.specs.declared.HartRecord.TheVariants.{Runs}
use Rattle.osc_calls.specs.declared.JoinLook.{JoinLook}
use Rattle.osc_calls.specs.declared.JoinLook.TheVariants as joined
use Rattle.osc_calls.specs.declared.WaitLook.{WaitLook}
use Rattle.osc_calls.specs.declared.WaitLook.TheVariants as waited
use Rattle.osc_calls.specs.Threads.{join_look}
use Rattle.osc_calls.specs.Kernel.{KernelState, Process, Calling, process_at}

-- ---- who asks
-- the call of a hart that runs a thread; None where the thread is stopped, or where the hart only reports
-- itself idle
abbrev pub calling_of : ℕ → List ℕ → ℕ → Request → Option HartRecord → Option Calling
calling_of hart regs pc (request.Call call) (Some (Runs pid thread)) =
    Some (record { hart = hart; pid = pid; thread = thread; call = call; regs = regs; pc = pc })
calling_of hart regs pc _ _ = None

-- a realloc of nothing is a malloc
abbrev pub meant : Call → Call
meant (Realloc pointer size) = if pointer == 0 then Malloc size else Realloc pointer size
meant call = call

-- ---- join and wait
abbrev pub is_parent : ℕ → Option ℕ → Bool
is_parent pid None = false
is_parent pid (Some parent) = parent == pid

abbrev pub status_look : Option ℕ → WaitLook
status_look None = waited.NotYet
status_look (Some status) = waited.Status status

abbrev pub child_look : ℕ → Option Process → WaitLook
child_look pid None = waited.Unknown
child_look pid (Some p) = if is_parent pid p.parent then status_look p.status else waited.Unknown

-- what a wait of a process for the process of this number finds
abbrev pub wait_look : KernelState → ℕ → ℕ → WaitLook
wait_look kernel pid number = child_look pid (process_at kernel number)

-- what has ended has left a number; what is not known at all is no thread or child of the caller
abbrev pub join_answer : JoinLook → Option Answer
join_answer (joined.Value value) = Some (answers.Number value)
join_answer joined.NotYet = None
join_answer joined.Unknown = Some answers.Unknown

abbrev pub wait_answer : WaitLook → Option Answer
wait_answer (waited.Status status) = Some (answers.Number status)
wait_answer waited.NotYet = None
wait_answer waited.Unknown = Some answers.Unknown

-- a join or a wait is ready where what it looks at has ended or is unknown, and any other call is
abbrev pub is_ready : KernelState → ℕ → Call → Bool
is_ready kernel pid (Join number) = is_some (join_answer (join_look kernel.threads pid number))
is_ready kernel pid (Wait number) = is_some (wait_answer (wait_look kernel pid number))
is_ready kernel pid _ = true
