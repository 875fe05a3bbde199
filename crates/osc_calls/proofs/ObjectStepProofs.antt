-- The law of objects for whole steps, by induction over processes and by cases on the call.
use Rattle.std.proofs.Common.{ℕ, zero, suc, ◌≡◌, Bool, true, false, Option, Some, None, List, [], ◌∷◌, ◌++◌, slice_get, slice_set, refl, sym}
use Rattle.osc_word.specs.declared.calls.Answer.{Answer}
use Rattle.osc_word.specs.declared.calls.Call.{Call}
use Rattle.osc_word.specs.declared.calls.Call.TheVariants as calls
use Rattle.osc_paging.specs.KeptTables.{KeptTables}
use Rattle.osc_space.specs.Header.{Found}
use Rattle.osc_space.specs.Finish.{ended}
use Rattle.osc_calls.specs.declared.Begun.{Begun}
use Rattle.osc_calls.specs.declared.Begun.TheVariants as begun
use Rattle.osc_calls.specs.declared.HartRecord.{HartRecord}
use Rattle.osc_calls.specs.Kernel.{KernelState, Process, Calling, Committed, Effect, Nothing, Clears, Starts, Ends, UnderWay, Quiet, Retrying, Leaving, Waiting, Returning, process_at, is_last}
use Rattle.osc_calls.specs.Requests.{calling_of, meant}
use Rattle.osc_calls.specs.Refusals.{draft_of, refusal_of}
use Rattle.osc_calls.specs.Planned.{Planned, planned_unless}
use Rattle.osc_calls.specs.HeapPlans.{terms_of}
use Rattle.osc_calls.specs.WritePlan.{write_by, first_unreadable, write_count}
use Rattle.osc_calls.specs.ProcessPlans.{done_by, value_left, fork_done, spawn_done, share_done}
use Rattle.osc_calls.specs.Plan.{plan, plan_meant, plan_by, plan_waiting}
use Rattle.osc_calls.specs.Begin.{begin, begin_as, begin_call, begun_in, no_words}
use Rattle.osc_calls.specs.JobDone.{job_done}
use Rattle.osc_calls.specs.Finish.{finish, settled, returned, hart_left, finish_by}
use Rattle.osc_calls.specs.ObjectLaws.{Grown, HasGrown, KeepsObjects, ObjectsGrow}
use Rattle.osc_calls.proofs.ObjectLawProofs.{grown-same, malloc-grows, free-grows, realloc-grows, finished-same, same-grown}

-- ---- lists of processes
abbrev KeepsAll : List Process → List Process → Type 0
KeepsAll ps qs = (pid : ℕ) (p : Process) → slice_get ps pid ≡ Some p → HasGrown p.space.objects (slice_get qs pid)

stays : (ps : List Process) → KeepsAll ps ps
stays ps pid p e = rw e (grown-same p.space.objects)

put : (ps : List Process) (i : ℕ) (q y : Process) → slice_get ps i ≡ Some q → Grown q.space.objects y.space.objects → KeepsAll ps (slice_set ps i y)
put [] i q y e g pid p f = stays [] pid p f
put (x ∷ xs) zero q y e g zero p f = put-here x q y e g p f
  where
    put-here : (x q y : Process) → Some x ≡ Some q → Grown q.space.objects y.space.objects → (p : Process) → Some x ≡ Some p → Grown p.space.objects y.space.objects
    put-here x q y e g p f = let i : q ≡ p = cc in rw (sym i) g
put (x ∷ xs) zero q y e g (suc pid) p f = stays xs pid p f
put (x ∷ xs) (suc i) q y e g zero p f = stays (x ∷ xs) zero p f
put (x ∷ xs) (suc i) q y e g (suc pid) p f = put xs i q y e g pid p f

added : (ps : List Process) (y : Process) → KeepsAll ps (ps ++ y ∷ [])
added [] y pid p f = cc
added (x ∷ xs) y zero p f = stays (x ∷ xs) zero p f
added (x ∷ xs) y (suc pid) p f = added xs y pid p f

-- ---- plans
planned : (r : Option Answer) (kernel : KernelState) (made : Planned) → KeepsObjects kernel made.kernel → KeepsObjects kernel (planned_unless r kernel made).kernel
planned (Some a) kernel made k = stays kernel.processes
planned None kernel made k = k

write : (bad : Option ℕ) (t : KeptTables) (buf count : ℕ) (kernel : KernelState) → KeepsObjects kernel (write_by bad t buf count kernel).kernel
write (Some address) t buf count kernel = stays kernel.processes
write None t buf count kernel = stays kernel.processes

done : (last : Bool) (thread : Option ℕ) (value : ℕ) (c : Calling) (kernel : KernelState) → KeepsObjects kernel (done_by last c (value_left thread value kernel)).kernel
done true None value c kernel = stays kernel.processes
done true (Some number) value c kernel = stays kernel.processes
done false None value c kernel = stays kernel.processes
done false (Some number) value c kernel = stays kernel.processes

plans : (found : Found) (c : Calling) (q : Process) (kernel : KernelState) (call : Call) → process_at kernel c.pid ≡ Some q → KeepsObjects kernel (plan_meant found c q kernel call).kernel
plans found c q kernel (calls.Exit status) e = stays kernel.processes
plans found c q kernel (calls.Write buf len) e =
    write (first_unreadable q.space.tables buf (write_count kernel.output len)) q.space.tables buf (write_count kernel.output len) kernel
plans found c q kernel (calls.Malloc size) e = put kernel.processes c.pid q _ e (malloc-grows kernel.config.heap size (draft_of kernel q))
plans found c q kernel (calls.Free pointer) e =
    put kernel.processes c.pid q _ e (free-grows kernel.config.heap (terms_of kernel) pointer found (draft_of kernel q))
plans found c q kernel (calls.Realloc pointer size) e =
    put kernel.processes c.pid q _ e (realloc-grows kernel.config.heap (terms_of kernel) pointer size found (draft_of kernel q))
plans found c q kernel calls.Fork e =
    planned (refusal_of calls.Fork q kernel) kernel (fork_done c q kernel) (added kernel.processes _)
plans found c q kernel (calls.Spawn pc sp arg) e =
    planned (refusal_of (calls.Spawn pc sp arg) q kernel) kernel (spawn_done c q pc sp arg kernel) (stays kernel.processes)
plans found c q kernel (calls.Join number) e = stays kernel.processes
plans found c q kernel (calls.Done value) e = done (is_last kernel.records c.pid) c.thread value c kernel
plans found c q kernel (calls.Share count) e =
    planned (refusal_of (calls.Share count) q kernel) kernel (share_done c q count kernel) (put kernel.processes c.pid q _ e (grown-same q.space.objects))
plans found c q kernel (calls.Wait number) e = stays kernel.processes
plans found c q kernel (calls.Unknown number) e = stays kernel.processes
plans found c q kernel (calls.End fault) e = stays kernel.processes

plan-in : (found : Found) (c : Calling) (q : Option Process) (kernel : KernelState) → process_at kernel c.pid ≡ q → KeepsObjects kernel (plan_by found c q kernel).kernel
plan-in found c None kernel e = stays kernel.processes
plan-in found c (Some q) kernel e = plans found c q kernel (meant c.call) e

plan-waiting : (found : Found) (u : UnderWay) (kernel : KernelState) → KeepsObjects kernel (plan_waiting found u kernel).kernel
plan-waiting found (Waiting c) kernel = plan-in found c (process_at kernel c.pid) kernel refl
plan-waiting found Quiet kernel = stays kernel.processes
plan-waiting found Retrying kernel = stays kernel.processes
plan-waiting found (Leaving hart) kernel = stays kernel.processes
plan-waiting found (Returning done) kernel = stays kernel.processes

plan-keeps : (found : Found) (kernel : KernelState) → KeepsObjects kernel (plan found kernel).kernel
unfolding plan
plan-keeps found kernel = plan-waiting found kernel.under_way kernel

-- ---- begin
begin-as : (b : Begun) (c : Calling) (kernel : KernelState) → KeepsObjects kernel (begin_as b c kernel).kernel
begin-as begun.Planned c kernel = plan-keeps no_words (record kernel { under_way = Waiting c })
begin-as begun.Again c kernel = stays kernel.processes
begin-as begun.JournalFull c kernel = stays kernel.processes
begin-as begun.Gone c kernel = stays kernel.processes
begin-as begun.Boxes c kernel = stays kernel.processes
begin-as (begun.Header first second) c kernel = stays kernel.processes

begin-in : (hart : ℕ) (c : Option Calling) (kernel : KernelState) → KeepsObjects kernel (begin_call hart c kernel).kernel
begin-in hart None kernel = stays kernel.processes
begin-in hart (Some c) kernel = begin-as (begun_in (process_at kernel c.pid) c kernel) c kernel

-- ---- finish
settles : (c : Committed) (q : Process) (effect : Effect) (kernel : KernelState) → process_at kernel c.calling.pid ≡ Some q → KeepsObjects kernel (settled c q effect kernel)
unfolding ended
settles c q (Ends status) kernel e = put kernel.processes c.calling.pid q _ e (grown-same q.space.objects)
settles c q Nothing kernel e = put kernel.processes c.calling.pid q _ e (same-grown q.space.objects _ (finished-same c.closing (draft_of kernel q)))
settles c q Clears kernel e = put kernel.processes c.calling.pid q _ e (same-grown q.space.objects _ (finished-same c.closing (draft_of kernel q)))
settles c q (Starts hart start) kernel e = put kernel.processes c.calling.pid q _ e (same-grown q.space.objects _ (finished-same c.closing (draft_of kernel q)))

returns : (c : Committed) (q : Option Process) (kernel : KernelState) → process_at kernel c.calling.pid ≡ q → KeepsObjects kernel (returned c q kernel).kernel
returns c None kernel e = stays kernel.processes
returns c (Some q) kernel e = settles c q c.effect kernel e

leaves : (hart : ℕ) (r : Option HartRecord) (kernel : KernelState) → KeepsObjects kernel (hart_left hart r kernel)
leaves hart None kernel = stays kernel.processes
leaves hart (Some r) kernel = stays kernel.processes

finishes : (u : UnderWay) (kernel : KernelState) → KeepsObjects kernel (finish_by u kernel).kernel
finishes (Returning c) kernel = returns c (process_at kernel c.calling.pid) kernel refl
finishes (Leaving hart) kernel = leaves hart (slice_get kernel.records hart) kernel
finishes Quiet kernel = stays kernel.processes
finishes Retrying kernel = stays kernel.processes
finishes (Waiting c) kernel = stays kernel.processes

pub objects_grow : ObjectsGrow
unfolding begin job_done finish
objects_grow = record {
  begun = λ hart pc regs r kernel. begin-in hart (calling_of hart regs pc r (slice_get kernel.records hart)) kernel;
  planned = λ found kernel. plan-keeps found kernel;
  job_done = λ word kernel. stays kernel.processes;
  finished = λ kernel. finishes kernel.under_way kernel;
}
