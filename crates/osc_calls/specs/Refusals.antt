-- Why a call is refused: one table of reasons, of which the first that holds is answered. Begin, plan and
-- whoever looks at a run use the same table. This project's own.
use Rattle.std.specs.Prelude.{ℕ, nat_le, not, List, [], ◌∷◌, length, Option, Some, None, is_none}
use Rattle.osc_word.specs.declared.settings.HeapKind.{HeapKind}
use Rattle.osc_word.specs.declared.settings.HeapKind.TheVariants.{Oscar, Plain}
use Rattle.osc_word.specs.declared.calls.Call.{Call}
use Rattle.osc_word.specs.declared.calls.Call.TheVariants.{Malloc, Realloc, Fork, Spawn, Share}
use Rattle.osc_word.specs.declared.calls.Answer.{Answer}
use Rattle.osc_word.specs.declared.calls.Answer.TheVariants.{NoHart, NoProcess, NoThread}
use Rattle.osc_class.specs.Rooms.{room_of, shadow_pages}
use Rattle.osc_slot.specs.declared.Block.{Block}
use Rattle.osc_slot.specs.Heap.{block_of_user}
use Rattle.osc_space.specs.Objects.{Seen, object_at}
use Rattle.osc_space.specs.Space.{Draft, Reason, reason, first_reason}
use Rattle.osc_space.specs.Malloc.{memory_reasons, malloc_reasons}
use Rattle.osc_space.specs.Realloc.{stays, frames_for}
use Rattle.osc_space.specs.PlainHeap.{plain_reasons, plain_realloc_reasons}
use Rattle.osc_space.specs.Fork.{fork_reasons}
use Rattle.osc_space.specs.Share.{Sharing, share_reasons}
use Rattle.osc_calls.specs.Threads.{has_room}
use Rattle.osc_calls.specs.Kernel.{KernelState, Process, Calling, idle_hart}
use Rattle.osc_calls.specs.Requests.{meant}

-- ---- one process's memory, and what it shares
abbrev pub draft_of : KernelState → Process → Draft
draft_of kernel p = record { space = p.space; free = kernel.free; jobs = kernel.jobs }

abbrev pub sharing_of : KernelState → Process → Sharing
sharing_of kernel p =
    record { tables = p.space.tables; regions = kernel.regions; free = kernel.free; jobs = kernel.jobs }

-- ---- the reasons
abbrev pub no_hart : KernelState → Reason
no_hart kernel = reason (is_none (idle_hart kernel.records)) NoHart

abbrev pub no_process : KernelState → Reason
no_process kernel = reason (nat_le kernel.config.processes (length kernel.processes)) NoProcess

abbrev pub no_thread : KernelState → Reason
no_thread kernel = reason (not (has_room kernel.threads)) NoThread

abbrev pub malloc_wants : HeapKind → ℕ → Draft → List Reason
malloc_wants Oscar size d = malloc_reasons size d
malloc_wants Plain size d = plain_reasons (room_of size) d

-- what is given back must be an object, or a held block; else a realloc is no want but a fault
abbrev pub object_wants : Option Seen → ℕ → Draft → List Reason
object_wants None size d = []
object_wants (Some seen) size d =
    memory_reasons (frames_for (stays seen.fact size) size d) (shadow_pages (room_of size)) d

abbrev pub block_wants : Option Block → ℕ → Draft → List Reason
block_wants None size d = []
block_wants (Some block) size d = plain_realloc_reasons (Some block) size d

abbrev pub realloc_wants : HeapKind → ℕ → ℕ → Draft → List Reason
realloc_wants Oscar pointer size d = object_wants (object_at d.space.objects pointer) size d
realloc_wants Plain pointer size d = block_wants (block_of_user d.space.heap.held pointer) size d

abbrev pub reasons_of : Call → Process → KernelState → List Reason
reasons_of (Malloc size) p kernel = malloc_wants kernel.config.heap size (draft_of kernel p)
reasons_of (Realloc pointer size) p kernel = realloc_wants kernel.config.heap pointer size (draft_of kernel p)
reasons_of Fork p kernel = no_hart kernel ∷ no_process kernel ∷ fork_reasons p.space kernel.free
reasons_of (Spawn pc sp arg) p kernel = no_hart kernel ∷ no_thread kernel ∷ []
reasons_of (Share count) p kernel = share_reasons count (sharing_of kernel p)
reasons_of _ p kernel = []

-- the answer of a call that is refused
abbrev pub refusal_of : Call → Process → KernelState → Option Answer
refusal_of call p kernel = first_reason (reasons_of call p kernel)

abbrev pub call_reasons : Calling → Process → KernelState → List Reason
call_reasons c p kernel = reasons_of (meant c.call) p kernel

abbrev pub refusal : Calling → Process → KernelState → Option Answer
refusal c p kernel = refusal_of (meant c.call) p kernel
