-- The end of a call: what it gives back, and how its hart goes on. This project's own.
use Rattle.std.specs.Prelude.{ℕ, ◌-◌, List, [], length, slice_get, Option, Some, None}
use Rattle.std.specs.Option.{option_map_or}
use Rattle.osc_word.specs.declared.calls.Fault.TheVariants as faults
use Rattle.osc_word.specs.declared.calls.Call.{Call}
use Rattle.osc_word.specs.declared.calls.Call.TheVariants as calls
use Rattle.osc_word.specs.declared.calls.Answer.{Answer}
use Rattle.osc_word.specs.declared.calls.Answer.TheVariants as answers
use Rattle.osc_word.specs.declared.calls.Resume.{Resume}
use Rattle.osc_word.specs.declared.calls.Resume.TheVariants.{Return, Again, Idle, Fault as Faulted}
use Rattle.osc_word.specs.declared.steps.Label.{Label}
use Rattle.osc_word.specs.Environment.{minus_one}
use Rattle.osc_space.specs.declared.ObjectFact.{ObjectFact}
use Rattle.osc_space.specs.Space.{Closing, Keeps, GivesBack}
use Rattle.osc_space.specs.Objects.{Seen, object_at}
use Rattle.osc_space.specs.Finish.{finished, ended, Ended as SpaceEnded}
use Rattle.osc_calls.specs.declared.HartRecord.{HartRecord}
use Rattle.osc_calls.specs.declared.HartRecord.TheVariants as records
use Rattle.osc_calls.specs.Kernel.{KernelState, Process, Committed, Effect, Ends, UnderWay, Quiet, Leaving, Returning, process_at, with_process, with_record}
use Rattle.osc_calls.specs.Refusals.{draft_of}
use Rattle.osc_calls.specs.Labels.{return_shows}
use Rattle.osc_calls.specs.Planned.{with_draft}

-- ---- how the hart goes on
-- the number that a refusal answers
abbrev pub refused_number : Call → ℕ
refused_number calls.Fork = minus_one
refused_number (calls.Spawn pc sp arg) = minus_one
refused_number _ = 0

-- what was joined or waited for is unknown, or else the call is
abbrev pub unknown_resume : Call → Resume
unknown_resume (calls.Unknown number) = Faulted (faults.UnknownCall number)
unknown_resume _ = Return minus_one

-- the pointer that a call gives back
abbrev pub pointer_of : Call → ℕ
pointer_of (calls.Free pointer) = pointer
pointer_of (calls.Realloc pointer size) = pointer
pointer_of _ = 0

abbrev pub object_of : List ObjectFact → Call → ℕ
object_of objects call = option_map_or (λ (s : Seen). s.number) (object_at objects (pointer_of call)) 0

-- a byte of a buffer that cannot be read is a load page fault (RISC-V Privileged manual, "Supervisor
-- Cause Register")
abbrev pub resume_of : List ObjectFact → Call → Answer → Resume
resume_of objects call (answers.Number number) = Return number
resume_of objects call (answers.Given object pointer) = Return pointer
resume_of objects call (answers.Placed pointer) = Return pointer
resume_of objects call (answers.Moved old object pointer) = Return pointer
resume_of objects call (answers.Freed object) = Return 0
resume_of objects call answers.Nothing = Return 0
resume_of objects call answers.Ended = Idle
resume_of objects call answers.Unknown = unknown_resume call
resume_of objects call (answers.DoubleFree object since) = Faulted (faults.DoubleFree (pointer_of call) object since)
resume_of objects call answers.NotAnObject = Faulted (faults.BadFree (pointer_of call))
resume_of objects call (answers.HeaderDamaged kept found) = Faulted (faults.Header (object_of objects call) kept found)
resume_of objects call (answers.BadBuffer address) = Faulted (faults.Access 13 address)
resume_of objects call _ = Return (refused_number call)

-- ---- the kernel is given back
-- and how the hart that had it goes on, the objects that waited and do not any more, and what the step shows
pub record Finished : Type 0 where
  pub kernel : KernelState
  pub resume : Resume
  pub freed : List ℕ
  pub shows : List Label

abbrev pub quiet : KernelState → KernelState
quiet kernel = record kernel { under_way = Quiet }

abbrev pub given_back : Resume → KernelState → Finished
given_back resume kernel = record { kernel = quiet kernel; resume = resume; freed = []; shows = [] }

-- ---- a hart that leaves: a stopped one is idle from now on
abbrev pub record_left : HartRecord → HartRecord
record_left (records.Stopped pid) = records.Idle
record_left kept = kept

abbrev pub hart_left : ℕ → Option HartRecord → KernelState → KernelState
hart_left hart None kernel = kernel
hart_left hart (Some kept) kernel = with_record hart (record_left kept) kernel

-- ---- a call that returns
abbrev pub with_ended : ℕ → ℕ → Process → SpaceEnded → KernelState → KernelState
with_ended pid status p e kernel =
    record (with_process pid (record p { space = e.space; status = Some status }) kernel) {
      free = e.free;
      regions = e.regions;
    }

-- a process that ends gives back all that it has, and any other call what its plan left
abbrev pub settled : Committed → Process → Effect → KernelState → KernelState
settled done p (Ends status) kernel =
    with_ended done.calling.pid status p (ended kernel.regions p.space kernel.free) kernel
settled done p _ kernel = with_draft done.calling.pid p (finished done.closing (draft_of kernel p)) kernel

-- a flush frees all that waited
abbrev pub freed_by : Closing → List ℕ → List ℕ
freed_by Keeps waiting = []
freed_by (GivesBack blocks) waiting = waiting

-- the call is the last of the journal
abbrev pub returned_from : Committed → Process → List ℕ → KernelState → Finished
returned_from done p freed kernel = record {
  kernel = quiet (settled done p done.effect kernel);
  resume = resume_of p.space.objects done.calling.call done.answer;
  freed = freed;
  shows = return_shows done.calling.pid (length kernel.journal - 1) p.space.objects freed done.answer;
}

abbrev pub returned : Committed → Option Process → KernelState → Finished
returned done None kernel = given_back Idle kernel
returned done (Some p) kernel = returned_from done p (freed_by done.closing p.space.waiting) kernel

abbrev pub finish_by : UnderWay → KernelState → Finished
finish_by (Returning done) kernel = returned done (process_at kernel done.calling.pid) kernel
finish_by (Leaving hart) kernel = given_back Idle (hart_left hart (slice_get kernel.records hart) kernel)
finish_by _ kernel = given_back Again kernel

unfoldable pub finish : KernelState → Finished
finish kernel = finish_by kernel.under_way kernel
