-- Which steps of the kernel make a report, and of what.
use Rattle.std.proofs.Common.{ℕ, ◌≡◌, Bool, true, false, Option, Some, None, List, [], ◌∷◌, ◌++◌, slice_get, arith, refl, sym, ap, subst, ◌∙◌}
use Rattle.osc_word.specs.declared.calls.Answer.{Answer}
use Rattle.osc_word.specs.declared.calls.Call.{Call}
use Rattle.osc_word.specs.declared.calls.Call.TheVariants as calls
use Rattle.osc_word.specs.declared.calls.Fault.{Fault}
use Rattle.osc_word.specs.declared.calls.Request.{Request}
use Rattle.osc_word.specs.declared.calls.Request.TheVariants as request
use Rattle.osc_word.specs.declared.steps.Label.{Label}
use Rattle.osc_paging.specs.KeptTables.{KeptTables}
use Rattle.osc_space.specs.Header.{Found}
use Rattle.osc_calls.specs.declared.Begun.{Begun}
use Rattle.osc_calls.specs.declared.Begun.TheVariants as begun
use Rattle.osc_calls.specs.declared.HartRecord.{HartRecord}
use Rattle.osc_calls.specs.declared.HartRecord.TheVariants as records
use Rattle.osc_calls.specs.Kernel.{KernelState, Process, Calling, Committed, Effect, Nothing, Clears, Starts, Ends, UnderWay, Quiet, Retrying, Leaving, Waiting, Returning, process_at, is_last}
use Rattle.osc_calls.specs.Reports.{report_of}
use Rattle.osc_calls.specs.Requests.{calling_of, meant}
use Rattle.osc_calls.specs.Refusals.{refusal_of}
use Rattle.osc_calls.specs.Planned.{Planned, planned_unless}
use Rattle.osc_calls.specs.WritePlan.{write_by, first_unreadable, write_count}
use Rattle.osc_calls.specs.ProcessPlans.{done_by, value_left, fork_done, spawn_done, share_done}
use Rattle.osc_calls.specs.Plan.{plan, plan_meant, plan_by}
use Rattle.osc_calls.specs.Begin.{no_words, begun_in, begin_as, begin_call, begin}
use Rattle.osc_calls.specs.Plan.{plan_waiting}
use Rattle.osc_calls.specs.JobDone.{job_done}
use Rattle.osc_calls.specs.Finish.{settled, returned, hart_left, finish_by, finish}
use Rattle.osc_settled.specs.UnderWay.{UnderWayFits}
use Rattle.osc_settled.specs.KernelFits.{KernelFits}
use Rattle.osc_safe.specs.Standing.{FitsSome}
use Rattle.osc_safe.specs.KernelSteps.{KernelStep, Kept, Begins, Plans, EndsJob, Finishes}

-- a report is that of a process's end by a fault of a thread
pub data ReportGoes (old new : KernelState) (c : Calling) (p : Process) : Type 0 where
  NoReport : new.reports ≡ old.reports → ReportGoes old new c p
  OneReport : (fault : Fault) → new.processes ≡ old.processes → new.reports ≡ old.reports ++ report_of c.pid c.hart p.space.objects fault ∷ [] → ReportGoes old new c p

-- ---- plans
unless-none : (k : KernelState) (r : Option Answer) (made : Planned) → made.kernel.reports ≡ k.reports → (planned_unless r k made).kernel.reports ≡ k.reports
unless-none k (Some a) made e = refl
unless-none k None made e = e

write-none : (k : KernelState) (bad : Option ℕ) (t : KeptTables) (buf count : ℕ) → (write_by bad t buf count k).kernel.reports ≡ k.reports
write-none k (Some address) t buf count = refl
write-none k None t buf count = refl

done-none : (k : KernelState) (c : Calling) (last : Bool) (thread : Option ℕ) (value : ℕ) → (done_by last c (value_left thread value k)).kernel.reports ≡ k.reports
done-none k c true None value = refl
done-none k c true (Some number) value = refl
done-none k c false None value = refl
done-none k c false (Some number) value = refl

plan-reports : (k : KernelState) (c : Calling) (p : Process) (found : Found) (call : Call) → ReportGoes k (plan_meant found c p k call).kernel c p
plan-reports k c p found (calls.Exit status) = NoReport refl
plan-reports k c p found (calls.Write buf len) = NoReport (write-none k (first_unreadable p.space.tables buf (write_count k.output len)) p.space.tables buf (write_count k.output len))
plan-reports k c p found (calls.Malloc size) = NoReport refl
plan-reports k c p found (calls.Free pointer) = NoReport refl
plan-reports k c p found (calls.Realloc pointer size) = NoReport refl
plan-reports k c p found calls.Fork = NoReport (unless-none k (refusal_of calls.Fork p k) (fork_done c p k) refl)
plan-reports k c p found (calls.Spawn pc sp arg) = NoReport (unless-none k (refusal_of (calls.Spawn pc sp arg) p k) (spawn_done c p pc sp arg k) refl)
plan-reports k c p found (calls.Join number) = NoReport refl
plan-reports k c p found (calls.Done value) = NoReport (done-none k c (is_last k.records c.pid) c.thread value)
plan-reports k c p found (calls.Share count) = NoReport (unless-none k (refusal_of (calls.Share count) p k) (share_done c p count k) refl)
plan-reports k c p found (calls.Wait number) = NoReport refl
plan-reports k c p found (calls.Unknown number) = NoReport refl
plan-reports k c p found (calls.End fault) = OneReport fault refl refl

-- ---- each step
-- a report is made of a process that the calling hart runs a thread of
pub data ReportStep (old new : KernelState) : Type 0 where
  NoneMade : new.reports ≡ old.reports → ReportStep old new
  OneMade : (c : Calling) (p : Process) (fault : Fault) → slice_get old.records c.hart ≡ Some (records.Runs c.pid c.thread) → process_at old c.pid ≡ Some p → process_at new c.pid ≡ Some p
      → new.reports ≡ old.reports ++ report_of c.pid c.hart p.space.objects fault ∷ [] → ReportStep old new

reports-made : (old made new : KernelState) (c : Calling) (p : Process) → slice_get old.records c.hart ≡ Some (records.Runs c.pid c.thread) → process_at old c.pid ≡ Some p
    → new.reports ≡ made.reports → new.processes ≡ made.processes → ReportGoes old made c p → ReportStep old new
reports-made old made new c p runs e f g (NoReport r) = NoneMade (f ∙ r)
reports-made old made new c p runs e f g (OneReport fault ps r) = OneMade c p fault runs e (ap (λ (xs : List Process). slice_get xs c.pid) (g ∙ ps) ∙ e) (f ∙ r)

plan-by-reports : (old k : KernelState) (c : Calling) (found : Found) (o : Option Process) → old.reports ≡ k.reports → old.processes ≡ k.processes → slice_get old.records c.hart ≡ Some (records.Runs c.pid c.thread) → process_at old c.pid ≡ o
    → ReportStep old (plan_by found c o k).kernel
plan-by-reports old k c found None r ps runs e = NoneMade (sym r)
plan-by-reports old k c found (Some p) r ps runs e =
    reports-made old (plan_meant found c p k (meant c.call)).kernel (plan_by found c (Some p) k).kernel c p runs e refl refl (again (plan-reports k c p found (meant c.call)))
  where
    again : ReportGoes k (plan_meant found c p k (meant c.call)).kernel c p → ReportGoes old (plan_meant found c p k (meant c.call)).kernel c p
    again (NoReport x) = NoReport (x ∙ sym r)
    again (OneReport fault qs x) = OneReport fault (qs ∙ sym ps) (x ∙ ap (λ rs. rs ++ report_of c.pid c.hart p.space.objects fault ∷ []) (sym r))

planned-reports : (old k : KernelState) (c : Calling) (found : Found) → k.under_way ≡ Waiting c → old.reports ≡ k.reports → old.processes ≡ k.processes → slice_get old.records c.hart ≡ Some (records.Runs c.pid c.thread)
    → ReportStep old (plan found k).kernel
unfolding plan
planned-reports old k c found u r ps runs =
    subst (λ w. ReportStep old (plan_waiting found w k).kernel) (sym u) (plan-by-reports old k c found (process_at k c.pid) r ps runs (ap (λ (xs : List Process). slice_get xs c.pid) ps))

begin-as-reports : (b : Begun) (k : KernelState) (c : Calling) → slice_get k.records c.hart ≡ Some (records.Runs c.pid c.thread) → ReportStep k (begin_as b c k).kernel
begin-as-reports begun.Planned k c runs = planned-reports k (record k { under_way = Waiting c }) c no_words refl refl refl runs
begin-as-reports begun.Again k c runs = NoneMade refl
begin-as-reports begun.JournalFull k c runs = NoneMade refl
begin-as-reports begun.Gone k c runs = NoneMade refl
begin-as-reports begun.Boxes k c runs = NoneMade refl
begin-as-reports (begun.Header first second) k c runs = NoneMade refl

begin-call-reports : (hart : ℕ) (o : Option Calling) (k : KernelState) → ((c : Calling) → o ≡ Some c → slice_get k.records c.hart ≡ Some (records.Runs c.pid c.thread)) → ReportStep k (begin_call hart o k).kernel
begin-call-reports hart None k f = NoneMade refl
begin-call-reports hart (Some c) k f = begin-as-reports (begun_in (process_at k c.pid) c k) k c (f c refl)

calling-runs : (n : ℕ) (regs : List ℕ) (pc : ℕ) (asked : Request) (rs : List HartRecord) (o : Option HartRecord) (c : Calling) → slice_get rs n ≡ o → calling_of n regs pc asked o ≡ Some c → slice_get rs c.hart ≡ Some (records.Runs c.pid c.thread)
calling-runs n regs pc (request.Call call) rs (Some (records.Runs pid thread)) c e f =
    let own : (record { hart = n; pid = pid; thread = thread; call = call; regs = regs; pc = pc }) ≡ c = grind (arith, f) in
    subst (λ (z : Calling). slice_get rs z.hart ≡ Some (records.Runs z.pid z.thread)) own e
calling-runs n regs pc asked rs o c e f = absurd (let b : ⊥ = grind (arith, f) in b)

begun-reports : (hart : ℕ) (regs : List ℕ) (pc : ℕ) (asked : Request) (k : KernelState) → ReportStep k (begin hart regs pc asked k).kernel
unfolding begin
begun-reports hart regs pc asked k =
    begin-call-reports hart (calling_of hart regs pc asked (slice_get k.records hart)) k (λ c e. calling-runs hart regs pc asked k.records (slice_get k.records hart) c refl e)

job-reports : (word : ℕ) (k : KernelState) → (job_done word k).kernel.reports ≡ k.reports
unfolding job_done
job-reports word k = refl

settled-reports : (done : Committed) (p : Process) (effect : Effect) (k : KernelState) → (settled done p effect k).reports ≡ k.reports
settled-reports done p (Ends status) k = refl
settled-reports done p Nothing k = refl
settled-reports done p Clears k = refl
settled-reports done p (Starts hart start) k = refl

returned-reports : (done : Committed) (o : Option Process) (k : KernelState) → (returned done o k).kernel.reports ≡ k.reports
returned-reports done None k = refl
returned-reports done (Some p) k = settled-reports done p done.effect k

left-reports : (hart : ℕ) (o : Option HartRecord) (k : KernelState) → (hart_left hart o k).reports ≡ k.reports
left-reports hart None k = refl
left-reports hart (Some kept) k = refl

finish-by-reports : (u : UnderWay) (k : KernelState) → (finish_by u k).kernel.reports ≡ k.reports
finish-by-reports (Returning done) k = returned-reports done (process_at k done.calling.pid) k
finish-by-reports (Leaving hart) k = left-reports hart (slice_get k.records hart) k
finish-by-reports Quiet k = refl
finish-by-reports Retrying k = refl
finish-by-reports (Waiting c) k = refl

finished-reports : (k : KernelState) → (finish k).kernel.reports ≡ k.reports
unfolding finish
finished-reports k = finish-by-reports k.under_way k

waiting-runs : (words : List ℕ) (k : KernelState) (c : Calling) → KernelFits words k → k.under_way ≡ Waiting c → slice_get k.records c.hart ≡ Some (records.Runs c.pid c.thread)
waiting-runs words k c fits u = let w : UnderWayFits k (Waiting c) = subst (λ z. UnderWayFits k z) u fits.under_way in w.caller

pub step-reports : (old new : KernelState) (shows : List Label) → FitsSome old → KernelStep old new shows → ReportStep old new
step-reports old new shows fits (Kept e q) = NoneMade (ap (λ (z : KernelState). z.reports) e)
step-reports old new shows fits (Begins hart regs pc asked u e f) = rw e (begun-reports hart regs pc asked old)
step-reports old new shows fits (Plans found c u e f) = rw e (planned-reports old old c found u refl refl (waiting-runs fits.words old c fits.fits u))
step-reports old new shows fits (EndsJob word job n e f) = NoneMade (ap (λ (z : KernelState). z.reports) e ∙ job-reports word old)
step-reports old new shows fits (Finishes n e f) = NoneMade (ap (λ (z : KernelState). z.reports) e ∙ finished-reports old)
