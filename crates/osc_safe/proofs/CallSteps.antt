-- What the kernel is about after each of its steps.
use Rattle.std.proofs.Common.{ℕ, ◌≡◌, true, false, not, if◌then◌else◌, Option, Some, None, List, [], ◌∷◌, slice_get, arith, refl, sym, ap, subst, ◌∙◌}
use Rattle.std.specs.Option.{option_map_or}
use Rattle.osc_word.specs.declared.calls.Request.{Request}
use Rattle.osc_word.specs.declared.calls.Request.TheVariants as request
use Rattle.osc_word.specs.declared.job_list.Job.{Job}
use Rattle.osc_paging.specs.Boxes.{BoxState}
use Rattle.osc_space.specs.Header.{Found}
use Rattle.osc_calls.specs.declared.HartRecord.{HartRecord}
use Rattle.osc_calls.specs.declared.HartRecord.TheVariants as records
use Rattle.osc_calls.specs.declared.Begun.{Begun}
use Rattle.osc_calls.specs.declared.Begun.TheVariants as begun
use Rattle.osc_calls.specs.Kernel.{KernelState, Process, Calling, Committed, UnderWay, Quiet, Retrying, Leaving, Waiting, Returning as CallReturning, Shown, next_job, process_at, has_journal_room}
use Rattle.osc_calls.specs.Requests.{calling_of, meant, is_ready}
use Rattle.osc_calls.specs.Begin.{no_words, first_step, begun_in, begin_as, begin_call, begin}
use Rattle.osc_calls.specs.Plan.{plan, plan_by, plan_waiting}
use Rattle.osc_calls.specs.Moves.{moves_of}
use Rattle.osc_calls.specs.JobDone.{job_done, entries}
use Rattle.osc_calls.specs.Finish.{finish, finish_by, returned}
use Rattle.osc_settled.specs.Records.{is_living}
use Rattle.osc_settled.specs.UnderWay.{UnderWayFits}
use Rattle.osc_settled.specs.KernelFits.{KernelFits}
use Rattle.osc_settled.proofs.Plans.{plans_keep}
use Rattle.osc_settled.proofs.Beginning.{begins_keep}
use Rattle.osc_settled.proofs.JobsDone.{jobs_keep}
use Rattle.osc_settled.proofs.Returning.{finish_keeps}
use Rattle.osc_machine.specs.Parts.{Working, GivingBoxes, Returning}
use Rattle.osc_machine.specs.Turns.{place_on, place_begun, first_held, return_of}
use Rattle.osc_safe.specs.Standing.{FitsSome, IsFor, Waits, IsCommitted, is_decided, StandsAt, AtHome, InHand}

-- ---- no job is pending
none-pending : (words : List ℕ) (k : KernelState) (u : UnderWay) → KernelFits words k → k.under_way ≡ u → UnderWayFits k u
none-pending words k u fits e = subst (λ w. UnderWayFits k w) e fits.under_way

no-next : (jobs : List Job) → slice_get jobs 0 ≡ None → jobs ≡ []
no-next [] e = refl
no-next (job ∷ jobs) e = absurd (let b : ⊥ = grind (arith, e) in b)

-- ---- where a committed call goes on
gives-at : (k : KernelState) (o : Option ℕ) → IsCommitted k → k.jobs ≡ [] → StandsAt (option_map_or (λ box. GivingBoxes box) o (Returning (return_of false k))) k
gives-at k None c e = (ap is_decided c.1, e, refl)
gives-at k (Some box) c e = (c, e)

goes-at : (k : KernelState) (boxes : List (Option BoxState)) (o : Option Job) → IsCommitted k → next_job k ≡ o
    → StandsAt (option_map_or (λ job. Working (moves_of (entries k) job) None) o (option_map_or (λ box. GivingBoxes box) (first_held boxes) (Returning (return_of false k)))) k
goes-at k boxes None c e = gives-at k (first_held boxes) c (no-next k.jobs e)
goes-at k boxes (Some job) c e = (c, record { job = job; next = e; before = []; rest = refl })

pub on-stands : (k : KernelState) (boxes : List (Option BoxState)) → IsCommitted k → StandsAt (place_on k boxes) k
on-stands k boxes c = goes-at k boxes (next_job k) c refl

-- ---- begin
abbrev BegunAt : Begun → KernelState → Type 0
BegunAt begun.Again k = k.under_way ≡ Retrying
BegunAt begun.JournalFull k = k.under_way ≡ Retrying
BegunAt begun.Gone k = (hart : ℕ) × (k.under_way ≡ Leaving hart)
BegunAt begun.Boxes k = Waits k
BegunAt (begun.Header first second) k = Waits k
BegunAt begun.Planned k = IsCommitted k

begun-place : (b : Begun) (words : List ℕ) (k : KernelState) (boxes : List (Option BoxState)) → KernelFits words k → BegunAt b k → StandsAt (place_begun b k boxes) k
begun-place begun.Again words k boxes fits e = (ap is_decided e, none-pending words k Retrying fits e, refl)
begun-place begun.JournalFull words k boxes fits e = (ap is_decided e, none-pending words k Retrying fits e, refl)
begun-place begun.Gone words k boxes fits e = (ap is_decided e.1, none-pending words k (Leaving e.0) fits e.1, refl)
begun-place begun.Boxes words k boxes fits e = e
begun-place (begun.Header first second) words k boxes fits e = e
begun-place begun.Planned words k boxes fits e = on-stands k boxes e

record BegunFor (n : ℕ) (b : Begun) (k : KernelState) : Type 0 where
  caller : IsFor n k.under_way
  at : BegunAt b k

-- a plan of a process that there is commits the call
abbrev Commits : Calling → Shown → Type 0
Commits c s = (done : Committed) × (s.kernel.under_way ≡ CallReturning done) × (done.calling ≡ c)

plan-by-commits : (found : Found) (c : Calling) (k : KernelState) (o : Option Process) (p : Process) → o ≡ Some p → Commits c (plan_by found c o k)
plan-by-commits found c k o p e = rw e (_, refl, refl)

plan-commits : (found : Found) (c : Calling) (k : KernelState) (p : Process) → k.under_way ≡ Waiting c → process_at k c.pid ≡ Some p → Commits c (plan found k)
unfolding plan
plan-commits found c k p e f = subst (λ u. Commits c (plan_waiting found u k)) (sym e) (plan-by-commits found c k (process_at k c.pid) p f)

began-for : (n : ℕ) (b : Begun) (c : Calling) (k : KernelState) (p : Process) → c.hart ≡ n → process_at k c.pid ≡ Some p
    → BegunFor n (begin_as b c k).begun (begin_as b c k).kernel
began-for n begun.Again c k p e f = record { caller = tt; at = refl }
began-for n begun.JournalFull c k p e f = record { caller = tt; at = refl }
began-for n begun.Gone c k p e f = record { caller = e; at = (c.hart, refl) }
began-for n begun.Boxes c k p e f = record { caller = e; at = (c, refl) }
began-for n (begun.Header first second) c k p e f = record { caller = e; at = (c, refl) }
began-for n begun.Planned c k p e f =
    let done = plan-commits no_words c (record k { under_way = Waiting c }) p refl f in
    record { caller = subst (IsFor n) (sym done.1) (ap (λ (z : Calling). z.hart) done.2 ∙ e); at = (done.0, done.1) }

begin-in : (n : ℕ) (c : Calling) (k : KernelState) (o : Option Process) → c.hart ≡ n → process_at k c.pid ≡ o
    → BegunFor n (begin_as (begun_in o c k) c k).begun (begin_as (begun_in o c k) c k).kernel
begin-in n c k None e f = record { caller = e; at = (c.hart, refl) }
begin-in n c k (Some p) e f =
    began-for n (if not (is_ready k c.pid c.call) then begun.Again else if not (has_journal_room k) then begun.JournalFull else first_step c p k (meant c.call)) c k p e f

begin-by : (n : ℕ) (o : Option Calling) (k : KernelState) → ((c : Calling) → o ≡ Some c → c.hart ≡ n) → BegunFor n (begin_call n o k).begun (begin_call n o k).kernel
begin-by n None k e = record { caller = refl; at = (n, refl) }
begin-by n (Some c) k e = begin-in n c k (process_at k c.pid) (e c refl) refl

pub calling-hart : (n : ℕ) (regs : List ℕ) (pc : ℕ) (asked : Request) (o : Option HartRecord) (c : Calling) → calling_of n regs pc asked o ≡ Some c → c.hart ≡ n
calling-hart n regs pc (request.Call call) (Some (records.Runs pid thread)) c e = grind (arith, e)
calling-hart n regs pc asked o c e = absurd (let b : ⊥ = grind (arith, e) in b)

pub begun-stands : (n : ℕ) (regs : List ℕ) (pc : ℕ) (asked : Request) (k : KernelState) (boxes : List (Option BoxState)) → AtHome k
    → InHand n (place_begun (begin n regs pc asked k).begun (begin n regs pc asked k).kernel boxes) (begin n regs pc asked k).kernel
unfolding begin
begun-stands n regs pc asked k boxes home =
    let fits = begins_keep home.fits.words n pc regs asked k home.fits.fits home.quiet in
    let b = begin-by n (calling_of n regs pc asked (slice_get k.records n)) k (calling-hart n regs pc asked (slice_get k.records n)) in record {
      fits = record { words = home.fits.words; fits = fits };
      caller = b.caller;
      stands = begun-place (begin n regs pc asked k).begun home.fits.words (begin n regs pc asked k).kernel boxes fits b.at;
    }

-- ---- plan
there-is : (o : Option Process) → is_living o ≡ true → (p : Process) × (o ≡ Some p)
there-is None e = absurd (let b : ⊥ = grind (arith, e) in b)
there-is (Some p) e = (p, refl)

pub planned-stands : (n : ℕ) (found : Found) (k : KernelState) (boxes : List (Option BoxState)) → FitsSome k → IsFor n k.under_way → Waits k
    → InHand n (place_on (plan found k).kernel boxes) (plan found k).kernel
planned-stands n found k boxes fits caller waits =
    let c = waits.0 in
    let w = none-pending fits.words k (Waiting c) fits.fits waits.1 in
    let p = there-is (process_at k c.pid) (fits.fits.records.lives c.hart c.pid c.thread w.caller) in
    let done = plan-commits found c k p.0 waits.1 p.1 in
    let own : c.hart ≡ n = subst (IsFor n) waits.1 caller in record {
      fits = record { words = fits.words; fits = plans_keep fits.words found k c fits.fits waits.1 };
      caller = subst (IsFor n) (sym done.1) (ap (λ (z : Calling). z.hart) done.2 ∙ own);
      stands = on-stands (plan found k).kernel boxes (done.0, done.1);
    }

-- ---- jobs
first-and-rest : (jobs : List Job) (job : Job) → slice_get jobs 0 ≡ Some job → (rest : List Job) × (jobs ≡ job ∷ rest)
first-and-rest [] job e = absurd (let b : ⊥ = grind (arith, e) in b)
first-and-rest (x ∷ jobs) job e = (jobs, (let q : x ≡ job = grind (arith, e) in ap (λ y. y ∷ jobs) q))

pub done-stands : (n word : ℕ) (k : KernelState) (job : Job) (boxes : List (Option BoxState)) → FitsSome k → IsFor n k.under_way → IsCommitted k → next_job k ≡ Some job
    → InHand n (place_on (job_done word k).kernel boxes) (job_done word k).kernel
unfolding job_done
done-stands n word k job boxes fits caller done next =
    let r = first-and-rest k.jobs job next in record {
      fits = record { words = _; fits = jobs_keep word fits.words k job r.0 fits.fits r.1 };
      caller = caller;
      stands = on-stands (job_done word k).kernel boxes done;
    }

-- ---- finish
finished-quiet : (u : UnderWay) (k : KernelState) → (finish_by u k).kernel.under_way ≡ Quiet
finished-quiet (CallReturning done) k = go (process_at k done.calling.pid)
  where
    go : (o : Option Process) → (returned done o k).kernel.under_way ≡ Quiet
    go None = refl
    go (Some p) = refl
finished-quiet Quiet k = refl
finished-quiet Retrying k = refl
finished-quiet (Leaving hart) k = refl
finished-quiet (Waiting c) k = refl

pub finished-home : (k : KernelState) → FitsSome k → k.jobs ≡ [] → AtHome (finish k).kernel
unfolding finish
finished-home k fits none = record { fits = record { words = fits.words; fits = finish_keeps fits.words k fits.fits none }; quiet = finished-quiet k.under_way k }
