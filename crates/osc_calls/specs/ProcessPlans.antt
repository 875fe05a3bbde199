-- The calls on processes and threads: exit, done and the end by a fault, fork, spawn, and share. This
-- project's own.
use Rattle.std.specs.Prelude.{ℕ, ◌+◌, ◌%◌, ◌^◌, Bool, true, false, if◌then◌else◌, List, [], ◌∷◌, ◌++◌, length, map, replicate, slice_set, Option, Some, None, unwrap_or}
use Rattle.osc_word.specs.declared.settings.Config.{Config}
use Rattle.osc_word.specs.declared.orders.Start.{Start}
use Rattle.osc_word.specs.declared.job_list.Job.TheVariants.{Tell}
use Rattle.osc_word.specs.declared.calls.Fault.{Fault}
use Rattle.osc_word.specs.declared.calls.Answer.TheVariants.{Number, Ended}
use Rattle.osc_word.specs.Environment.{fault_status, answer_register}
use Rattle.osc_word.specs.Registers.{with_register}
use Rattle.osc_space.specs.Objects.{mark}
use Rattle.osc_space.specs.Space.{Space, Keeps}
use Rattle.osc_space.specs.Fork.{Forked, fork_plan}
use Rattle.osc_space.specs.Share.{Sharing, share_plan, share_address, join as hold_regions}
use Rattle.osc_calls.specs.declared.HartRecord.{HartRecord}
use Rattle.osc_calls.specs.declared.HartRecord.TheVariants.{Idle, Runs, Stopped}
use Rattle.osc_calls.specs.Threads.{new_number, spawned, thread_done}
use Rattle.osc_calls.specs.Kernel.{KernelState, Process, Calling, Starts, Ends, with_process, with_record, root_frame, idle_hart, is_last, runs}
use Rattle.osc_calls.specs.Reports.{report_of}
use Rattle.osc_calls.specs.Refusals.{sharing_of}
use Rattle.osc_calls.specs.Planned.{Planned, answered}

-- ---- the end of a process
-- a hart that runs the process is stopped
abbrev pub record_stopped : ℕ → HartRecord → HartRecord
record_stopped pid kept = if runs pid kept then Stopped pid else kept

-- the calling hart is idle, and the process's other harts are stopped
abbrev pub records_ended : ℕ → ℕ → List HartRecord → List HartRecord
records_ended hart pid records = slice_set (map (record_stopped pid) records) hart Idle

-- what the process has is given back when the call returns
abbrev pub process_ends : Calling → ℕ → KernelState → Planned
process_ends c status kernel = record {
  kernel = record kernel { records = records_ended c.hart c.pid kernel.records };
  answer = Ended;
  effect = Ends status;
  closing = Keeps;
}

abbrev pub exit_plan : Calling → ℕ → KernelState → Planned
exit_plan c status kernel = process_ends c (status % 64) kernel

-- a fault is reported
abbrev pub end_plan : Calling → Fault → Process → KernelState → Planned
end_plan c fault p kernel =
    process_ends c fault_status (record kernel { reports = kernel.reports ++ report_of c.pid c.hart p.space.objects fault ∷ [] })

-- ---- the end of a thread
-- a spawned thread leaves its value; that of a process's first is dropped
abbrev pub value_left : Option ℕ → ℕ → KernelState → KernelState
value_left None value kernel = kernel
value_left (Some number) value kernel = record kernel { threads = thread_done number value kernel.threads }

-- its hart is idle, and where it is the last of its process, the process ends with the status 0
abbrev pub done_by : Bool → Calling → KernelState → Planned
done_by true c kernel = process_ends c 0 kernel
done_by false c kernel = answered Ended (with_record c.hart Idle kernel)

abbrev pub done_plan : Calling → ℕ → KernelState → Planned
done_plan c value kernel = done_by (is_last kernel.records c.pid) c (value_left c.thread value kernel)

-- ---- the beginning of a thread
abbrev pub no_registers : List ℕ
no_registers = replicate 32 0

-- in a process whose topmost table is in this frame
abbrev pub thread_start : Config → ℕ → ℕ → List ℕ → ℕ → Start
thread_start config pid root regs pc =
    record { pid = pid; root = root; regs = regs; pc = pc; levels = config.levels; frames = config.frames }

-- a child's thread has its parent's registers but the answer 0, and goes on after the ecall
abbrev pub fork_start : Config → Calling → ℕ → ℕ → Start
fork_start config c child root =
    thread_start config child root (with_register c.regs answer_register 0) ((c.pc + 4) % 2 ^ 64)

-- a spawned thread has its stack pointer in x2 and its argument in x10, and else zeros
abbrev pub spawn_start : Config → ℕ → ℕ → ℕ → ℕ → ℕ → Start
spawn_start config pid root pc sp arg =
    thread_start config pid root (with_register (with_register no_registers 2 sp) 10 arg) pc

-- ---- fork and spawn, where no reason to refuse them holds
-- the least idle hart
abbrev pub new_hart : KernelState → ℕ
new_hart kernel = unwrap_or (idle_hart kernel.records) 0

-- a child of a process: it inherits what its parent has granted
abbrev pub child_process : ℕ → Space → Process
child_process pid child = record { space = child; inherited = mark child.objects; parent = Some pid; status = None }

abbrev pub fork_made : ℕ → ℕ → Calling → Forked → KernelState → Planned
fork_made hart child c f kernel = record {
  kernel = record (with_record hart (Runs child None) kernel) {
    processes = kernel.processes ++ child_process c.pid f.child ∷ [];
    regions = hold_regions f.child.tables kernel.regions;
    free = f.free;
    jobs = kernel.jobs ++ f.jobs;
  };
  answer = Number child;
  effect = Starts hart (fork_start kernel.config c child (root_frame f.child));
  closing = Keeps;
}

abbrev pub fork_done : Calling → Process → KernelState → Planned
fork_done c p kernel = fork_made (new_hart kernel) (length kernel.processes) c (fork_plan p.space kernel.free) kernel

abbrev pub spawn_made : ℕ → ℕ → ℕ → Start → KernelState → Planned
spawn_made hart number pid start kernel = record {
  kernel = record (with_record hart (Runs pid (Some number)) kernel) {
    threads = spawned pid kernel.threads;
    jobs = kernel.jobs ++ Tell hart ∷ [];
  };
  answer = Number number;
  effect = Starts hart start;
  closing = Keeps;
}

abbrev pub spawn_done : Calling → Process → ℕ → ℕ → ℕ → KernelState → Planned
spawn_done c p pc sp arg kernel =
    spawn_made (new_hart kernel) (new_number kernel.threads) c.pid
    (spawn_start kernel.config c.pid (root_frame p.space) pc sp arg) kernel

-- ---- share, where no reason to refuse it holds
abbrev pub with_sharing : ℕ → Process → Sharing → KernelState → KernelState
with_sharing pid p s kernel =
    record (with_process pid (record p { space = record (p.space) { tables = s.tables } }) kernel) {
      regions = s.regions;
      free = s.free;
      jobs = s.jobs;
    }

abbrev pub share_done : Calling → Process → ℕ → KernelState → Planned
share_done c p count kernel =
    answered (Number (share_address (sharing_of kernel p)))
    (with_sharing c.pid p (share_plan count (sharing_of kernel p)) kernel)
