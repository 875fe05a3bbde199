-- How a call begins, once its hart has taken the kernel. This project's own.
use Rattle.std.specs.Prelude.{ℕ, Bool, not, if◌then◌else◌, List, [], slice_get, Option, Some, None, is_none}
use Rattle.osc_word.specs.declared.calls.Call.{Call}
use Rattle.osc_word.specs.declared.calls.Call.TheVariants as calls
use Rattle.osc_word.specs.declared.calls.Request.{Request}
use Rattle.osc_word.specs.declared.steps.Label.{Label}
use Rattle.osc_space.specs.Header.{Found}
use Rattle.osc_calls.specs.declared.Begun.{Begun}
use Rattle.osc_calls.specs.declared.Begun.TheVariants.{Again, JournalFull, Gone, Boxes, Planned}
use Rattle.osc_calls.specs.Kernel.{KernelState, Process, Calling, UnderWay, Retrying, Leaving, Waiting, Shown, process_at, is_last, has_journal_room}
use Rattle.osc_calls.specs.Requests.{calling_of, meant, is_ready}
use Rattle.osc_calls.specs.Refusals.{refusal_of}
use Rattle.osc_calls.specs.HeapPlans.{free_step, realloc_step}
use Rattle.osc_calls.specs.Plan.{plan}

-- the kernel once a hart has taken it, what it answers, and what that shows
pub record Began : Type 0 where
  pub kernel : KernelState
  pub begun : Begun
  pub shows : List Label

-- ---- what a call needs before it commits
abbrev pub boxes_where : Bool → Begun
boxes_where held = if held then Boxes else Planned

abbrev pub first_step : Calling → Process → KernelState → Call → Begun
first_step c p kernel (calls.Exit status) = Boxes
first_step c p kernel (calls.Write buf len) = Boxes
first_step c p kernel (calls.End fault) = Boxes
first_step c p kernel (calls.Done value) = boxes_where (is_last kernel.records c.pid)
first_step c p kernel calls.Fork = boxes_where (is_none (refusal_of calls.Fork p kernel))
first_step c p kernel (calls.Share count) = boxes_where (is_none (refusal_of (calls.Share count) p kernel))
first_step c p kernel (calls.Free pointer) = free_step kernel.config.heap p.space pointer
first_step c p kernel (calls.Realloc pointer size) = realloc_step kernel.config.heap p.space pointer
first_step c p kernel _ = Planned

-- without a process there is nobody to answer; a call that is not ready, or else finds no room in the
-- journal, is to be asked again
abbrev pub begun_in : Option Process → Calling → KernelState → Begun
begun_in None c kernel = Gone
begun_in (Some p) c kernel =
    if not (is_ready kernel c.pid c.call) then Again
    else if not (has_journal_room kernel) then JournalFull
    else first_step c p kernel (meant c.call)

-- ---- the answers
abbrev pub stands : Begun → Calling → UnderWay
stands Again c = Retrying
stands JournalFull c = Retrying
stands Gone c = Leaving c.hart
stands _ c = Waiting c

abbrev pub no_words : Found
no_words = record { first = 0; second = 0 }

abbrev pub at_once : Shown → Began
at_once s = record { kernel = s.kernel; begun = Planned; shows = s.shows }

-- a call that needs nothing more commits at once
abbrev pub began : Begun → KernelState → Began
began Planned kernel = at_once (plan no_words kernel)
began begun kernel = record { kernel = kernel; begun = begun; shows = [] }

abbrev pub begin_as : Begun → Calling → KernelState → Began
begin_as begun c kernel = began begun (record kernel { under_way = stands begun c })

abbrev pub begin_call : ℕ → Option Calling → KernelState → Began
begin_call hart None kernel = began Gone (record kernel { under_way = Leaving hart })
begin_call hart (Some c) kernel = begin_as (begun_in (process_at kernel c.pid) c kernel) c kernel

-- a hart with these registers and this pc asks; the pc of an environment call is that of its ecall
unfoldable pub begin : ℕ → List ℕ → ℕ → Request → KernelState → Began
begin hart regs pc request kernel =
    begin_call hart (calling_of hart regs pc request (slice_get kernel.records hart)) kernel
