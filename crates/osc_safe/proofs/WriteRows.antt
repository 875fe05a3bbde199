-- Which steps of the kernel commit a call, and which write something out.
use Rattle.std.proofs.Common.{ℕ, ◌≡◌, ◌⊎◌, inl, inr, true, Option, Some, None, List, [], ◌∷◌, ◌++◌, length, slice_get, arith, refl, sym, ap, subst, ◌∙◌}
use Rattle.std.proofs.lemmas.List.{length-append}
use Rattle.osc_word.specs.declared.calls.Answer.TheVariants as answer
use Rattle.osc_word.specs.declared.calls.Entry.{Entry}
use Rattle.osc_word.specs.declared.calls.Request.{Request}
use Rattle.osc_word.specs.declared.job_list.Job.{Job}
use Rattle.osc_word.specs.declared.steps.Label.{Label}
use Rattle.osc_space.specs.Header.{Found}
use Rattle.osc_calls.specs.declared.Begun.{Begun}
use Rattle.osc_calls.specs.declared.Begun.TheVariants as begun
use Rattle.osc_calls.specs.declared.HartRecord.{HartRecord}
use Rattle.osc_calls.specs.Kernel.{KernelState, Process, Calling, Committed, Effect, Nothing, Clears, Starts, Ends, UnderWay, Quiet, Retrying, Leaving, Waiting, Returning, process_at, next_job}
use Rattle.osc_calls.specs.Requests.{calling_of, meant}
use Rattle.osc_calls.specs.Planned.{Planned, answered}
use Rattle.osc_calls.specs.Plan.{journal_entry, committed, plan_of, plan_by, plan_waiting, plan}
use Rattle.osc_calls.specs.CallLaws.{is_denied}
use Rattle.osc_calls.specs.Begin.{no_words, begun_in, begin_as, begin_call, begin}
use Rattle.osc_calls.specs.JobDone.{job_done}
use Rattle.osc_calls.specs.Finish.{settled, returned, hart_left, finish_by, finish}
use Rattle.osc_calls.proofs.RefusalLawProofs.{refused_calls_keep}
use Rattle.osc_settled.specs.UnderWay.{UnderWayFits}
use Rattle.osc_settled.specs.KernelFits.{KernelFits}
use Rattle.osc_safe.specs.Standing.{FitsSome}
use Rattle.osc_safe.specs.KernelSteps.{KernelStep, Kept, Begins, Plans, EndsJob, Finishes}
use Rattle.osc_safe.proofs.PlanRows.{plan-row}
use Rattle.osc_safe.proofs.Tells.{is_returning}

-- ---- commits
-- a call of a process is committed with the kernel as it was, but for what it is about
pub record CallCommits (old new : KernelState) : Type 0 where
  pub k : KernelState
  pub c : Calling
  pub p : Process
  pub found : Found
  pub there : process_at k c.pid ≡ Some p
  pub journal : k.journal ≡ old.journal
  pub output : k.output ≡ old.output
  pub jobs : k.jobs ≡ old.jobs
  pub is : new ≡ committed c (plan_of found c p k)

pub data CommitStep (old new : KernelState) : Type 0 where
  NoCommit : new.journal ≡ old.journal → CommitStep old new
  OneCommit : old.jobs ≡ [] → CallCommits old new → CommitStep old new

commits-in : (old k : KernelState) (c : Calling) (found : Found) (o : Option Process) → old.jobs ≡ [] → k.journal ≡ old.journal → k.output ≡ old.output → k.jobs ≡ old.jobs → process_at k c.pid ≡ o
    → CommitStep old (plan_by found c o k).kernel
commits-in old k c found None n j w q e = NoCommit j
commits-in old k c found (Some p) n j w q e = OneCommit n (record { k = k; c = c; p = p; found = found; there = e; journal = j; output = w; jobs = q; is = refl })

planned-commits : (old k : KernelState) (c : Calling) (found : Found) → k.under_way ≡ Waiting c → old.jobs ≡ [] → k.journal ≡ old.journal → k.output ≡ old.output → k.jobs ≡ old.jobs → CommitStep old (plan found k).kernel
unfolding plan
planned-commits old k c found u n j w q = subst (λ z. CommitStep old (plan_waiting found z k).kernel) (sym u) (commits-in old k c found (process_at k c.pid) n j w q refl)

begin-as-commits : (b : Begun) (k : KernelState) (c : Calling) → k.jobs ≡ [] → CommitStep k (begin_as b c k).kernel
begin-as-commits begun.Planned k c n = planned-commits k (record k { under_way = Waiting c }) c no_words refl n refl refl refl
begin-as-commits begun.Again k c n = NoCommit refl
begin-as-commits begun.JournalFull k c n = NoCommit refl
begin-as-commits begun.Gone k c n = NoCommit refl
begin-as-commits begun.Boxes k c n = NoCommit refl
begin-as-commits (begun.Header first second) k c n = NoCommit refl

begin-call-commits : (hart : ℕ) (o : Option Calling) (k : KernelState) → k.jobs ≡ [] → CommitStep k (begin_call hart o k).kernel
begin-call-commits hart None k n = NoCommit refl
begin-call-commits hart (Some c) k n = begin-as-commits (begun_in (process_at k c.pid) c k) k c n

begun-commits : (hart : ℕ) (regs : List ℕ) (pc : ℕ) (asked : Request) (k : KernelState) → k.jobs ≡ [] → CommitStep k (begin hart regs pc asked k).kernel
unfolding begin
begun-commits hart regs pc asked k n = begin-call-commits hart (calling_of hart regs pc asked (slice_get k.records hart)) k n

-- ---- returns
record Settles (k new : KernelState) : Type 0 where
  journal : new.journal ≡ k.journal
  output : new.output ≡ k.output

settled-same : (done : Committed) (p : Process) (effect : Effect) (k : KernelState) → Settles k (settled done p effect k)
settled-same done p (Ends status) k = record { journal = refl; output = refl }
settled-same done p Nothing k = record { journal = refl; output = refl }
settled-same done p Clears k = record { journal = refl; output = refl }
settled-same done p (Starts hart start) k = record { journal = refl; output = refl }

returned-same : (done : Committed) (o : Option Process) (k : KernelState) → Settles k (returned done o k).kernel
returned-same done None k = record { journal = refl; output = refl }
returned-same done (Some p) k = let s = settled-same done p done.effect k in record { journal = s.journal; output = s.output }

left-same : (hart : ℕ) (o : Option HartRecord) (k : KernelState) → Settles k (hart_left hart o k)
left-same hart None k = record { journal = refl; output = refl }
left-same hart (Some kept) k = record { journal = refl; output = refl }

finish-by-same : (u : UnderWay) (k : KernelState) → Settles k (finish_by u k).kernel
finish-by-same (Returning done) k = returned-same done (process_at k done.calling.pid) k
finish-by-same (Leaving hart) k = let s = left-same hart (slice_get k.records hart) k in record { journal = s.journal; output = s.output }
finish-by-same Quiet k = record { journal = refl; output = refl }
finish-by-same Retrying k = record { journal = refl; output = refl }
finish-by-same (Waiting c) k = record { journal = refl; output = refl }

finished-same-journal : (k : KernelState) → Settles k (finish k).kernel
unfolding finish
finished-same-journal k = finish-by-same k.under_way k

finish-by-quiet : (u : UnderWay) (k : KernelState) → (finish_by u k).kernel.under_way ≡ Quiet
finish-by-quiet (Returning done) k = go (process_at k done.calling.pid)
  where
    go : (o : Option Process) → (returned done o k).kernel.under_way ≡ Quiet
    go None = refl
    go (Some p) = refl
finish-by-quiet (Leaving hart) k = refl
finish-by-quiet Quiet k = refl
finish-by-quiet Retrying k = refl
finish-by-quiet (Waiting c) k = refl

finished-is-quiet : (k : KernelState) → (finish k).kernel.under_way ≡ Quiet
unfolding finish
finished-is-quiet k = finish-by-quiet k.under_way k

job-journal : (word : ℕ) (k : KernelState) → (job_done word k).kernel.journal ≡ k.journal
unfolding job_done
job-journal word k = refl

none-pending : (words : List ℕ) (k : KernelState) (c : Calling) → KernelFits words k → k.under_way ≡ Waiting c → k.jobs ≡ []
none-pending words k c fits u = let w : UnderWayFits k (Waiting c) = subst (λ z. UnderWayFits k z) u fits.under_way in w.jobs

quiet-pending : (words : List ℕ) (k : KernelState) → KernelFits words k → k.under_way ≡ Quiet → k.jobs ≡ []
quiet-pending words k fits u = subst (λ z. UnderWayFits k z) u fits.under_way

pub step-commits : (old new : KernelState) (shows : List Label) → FitsSome old → KernelStep old new shows → CommitStep old new
step-commits old new shows fits (Kept e q) = NoCommit (ap (λ (z : KernelState). z.journal) e)
step-commits old new shows fits (Begins hart regs pc asked u e f) = rw e (begun-commits hart regs pc asked old (quiet-pending fits.words old fits.fits u))
step-commits old new shows fits (Plans found c u e f) = rw e (planned-commits old old c found u (none-pending fits.words old c fits.fits u) refl refl refl)
step-commits old new shows fits (EndsJob word job n e f) = NoCommit (ap (λ (z : KernelState). z.journal) e ∙ job-journal word old)
step-commits old new shows fits (Finishes n e f) = NoCommit (ap (λ (z : KernelState). z.journal) e ∙ (finished-same-journal old).journal)

-- ---- nothing is written out
-- a call that is committed and has no job left, with this output
pub record Silent (text : List ℕ) (k : KernelState) : Type 0 where
  pub output : k.output ≡ text
  pub jobs : k.jobs ≡ []
  pub returning : is_returning k.under_way ≡ true

-- once it has returned nobody has the kernel
pub record Over (text : List ℕ) (k : KernelState) : Type 0 where
  pub output : k.output ≡ text
  pub quiet : k.under_way ≡ Quiet

pub silent-step : (output : List ℕ) (old new : KernelState) (shows : List Label) → Silent output old → KernelStep old new shows → Silent output new ⊎ Over output new
silent-step output old new shows s (Kept e q) = rw e (inl s)
silent-step output old new shows s (Begins hart regs pc asked u e f) = absurd (let r = s.returning in let b : ⊥ = grind (arith, r, u) in b)
silent-step output old new shows s (Plans found c u e f) = absurd (let r = s.returning in let b : ⊥ = grind (arith, r, u) in b)
silent-step output old new shows s (EndsJob word job n e f) = absurd (let none : next_job old ≡ None = ap (λ (js : List Job). slice_get js 0) s.jobs in let b : ⊥ = grind (arith, n, none) in b)
silent-step output old new shows s (Finishes n e f) =
    inr (record { output = ap (λ (z : KernelState). z.output) e ∙ (finished-same-journal old).output ∙ s.output; quiet = ap (λ (z : KernelState). z.under_way) e ∙ finished-is-quiet old })

-- ---- a write that is refused
last-same : {X : Type 0} (a b : List X) (x y : X) → b ≡ a → a ++ x ∷ [] ≡ b ++ y ∷ [] → x ≡ y
last-same a b x y e f = go a (f ∙ ap (λ zs. zs ++ y ∷ []) e)
  where
    go : (a : List _) → a ++ x ∷ [] ≡ a ++ y ∷ [] → x ≡ y
    go [] f = grind (arith, f)
    go (z ∷ a) f = go a (let q : a ++ x ∷ [] ≡ a ++ y ∷ [] = grind (arith, f) in q)

pub refused-silent : (old new : KernelState) (entry : Entry) (address : ℕ) → CommitStep old new → new.journal ≡ old.journal ++ entry ∷ [] → entry.answer ≡ answer.BadBuffer address → Silent old.output new
refused-silent old new entry address (NoCommit e) j a =
    absurd (let l : length old.journal ≡ length (old.journal ++ entry ∷ []) = ap length (sym e ∙ j) in let m = length-append old.journal (entry ∷ []) in let b : ⊥ = omega (arith, l, m) in b)
refused-silent old new entry address (OneCommit none w) j a =
    let made = plan_of w.found w.c w.p w.k in
    let row = plan-row w.k w.c w.p 0 w.found (meant w.c.call) refl in
    let own : entry ≡ journal_entry w.c made.answer = last-same old.journal made.kernel.journal entry (journal_entry w.c made.answer) (row.journal ∙ w.journal) (sym j ∙ ap (λ (z : KernelState). z.journal) w.is) in
    let denied : is_denied made.answer ≡ true = ap is_denied (ap (λ (z : Entry). z.answer) (sym own) ∙ a) in
    let same : made ≡ answered made.answer w.k = refused_calls_keep w.found w.c w.p w.k w.there denied in record {
      output = ap (λ (z : KernelState). z.output) w.is ∙ ap (λ (z : Planned). z.kernel.output) same ∙ w.output;
      jobs = ap (λ (z : KernelState). z.jobs) w.is ∙ ap (λ (z : Planned). z.kernel.jobs) same ∙ w.jobs ∙ none;
      returning = ap (λ (z : KernelState). is_returning z.under_way) w.is;
    }
