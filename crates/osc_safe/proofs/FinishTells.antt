-- What a run has shown stays true when a call begins and when it returns.
use Rattle.std.proofs.Common.{ℕ, zero, suc, ◌-◌, ◌≡◌, ◌==◌, ◌⊎◌, inl, inr, ⊎_elim, true, false, Option, Some, None, List, [], ◌∷◌, ◌++◌, map, length, slice_get, slice_set, arith, refl, sym, ap, subst, ◌∙◌}
use Rattle.std.specs.List.{list_any}
use Rattle.std.proofs.lemmas.Bool.Decides.{nat_tests}
use Rattle.osc_word.specs.declared.calls.Answer.{Answer}
use Rattle.osc_word.specs.declared.calls.Answer.TheVariants as answer
use Rattle.osc_word.specs.declared.calls.Request.{Request}
use Rattle.osc_word.specs.declared.job_list.Job.{Job}
use Rattle.osc_word.specs.declared.job_list.Job.TheVariants.{ToOut}
use Rattle.osc_word.specs.declared.calls.Call.{Call}
use Rattle.osc_word.specs.declared.calls.Call.TheVariants as calls
use Rattle.osc_word.specs.declared.steps.Label.{Label}
use Rattle.osc_space.specs.declared.ObjectFact.{ObjectFact}
use Rattle.osc_space.specs.declared.ObjectState.TheVariants.{Dead}
use Rattle.osc_space.specs.Space.{Space, Draft, Closing, Keeps, GivesBack}
use Rattle.osc_space.specs.Objects.{fact}
use Rattle.osc_space.specs.Header.{Found}
use Rattle.osc_space.specs.Agree.{is_waiting}
use Rattle.osc_space.specs.Finish.{finished, ended}
use Rattle.osc_calls.specs.declared.HartRecord.{HartRecord}
use Rattle.osc_calls.specs.declared.Begun.{Begun}
use Rattle.osc_calls.specs.declared.Begun.TheVariants as begun
use Rattle.osc_calls.specs.Kernel.{KernelState, Process, Calling, Committed, Effect, Nothing, Clears, Starts, Ends, UnderWay, Quiet, Retrying, Leaving, Waiting, Returning, Shown, process_at}
use Rattle.osc_calls.specs.Labels.{buffer_shows, out_shows, death_of, death_of_state, freed_label, gave_shows, moved_shows, answer_shows, return_shows}
use Rattle.osc_calls.specs.Refusals.{draft_of}
use Rattle.osc_calls.specs.Requests.{calling_of, meant}
use Rattle.osc_calls.specs.Begin.{no_words, begun_in, begin_as, begin_call, begin}
use Rattle.osc_calls.specs.Plan.{plan, plan_by, plan_waiting, plan_of}
use Rattle.osc_calls.specs.JobDone.{job_done}
use Rattle.osc_calls.specs.Finish.{settled, freed_by, returned_from, returned, hart_left, finish_by, finish}
use Rattle.osc_calls.proofs.ObjectLawProofs.{finished-same}
use Rattle.osc_machine.specs.DeadPages.{Past, past_of, change_past, pasts_with, pasts_from, shadow, grants, buries}
use Rattle.osc_safe.specs.KernelSteps.{AllTouch}
use Rattle.osc_safe.specs.Telling.{IsDead, AnswerFits, KernelTold}
use Rattle.osc_safe.proofs.PastLabels.{grows-same, told-grant, told-death}
use Rattle.osc_safe.proofs.PlanRows.{plan-row}
use Rattle.osc_safe.proofs.PlanTells.{plan-tells}
use Rattle.osc_safe.proofs.Tells.{touches-keep, Rests, rests-of, told-of, is_returning, rests-change, Moves, rests-put}

-- ---- plans
plan-in-tells : (pasts : List Past) (k : KernelState) (c : Calling) (found : Found) (o : Option Process) → process_at k c.pid ≡ o → k.under_way ≡ Waiting c → Rests pasts k.processes
    → KernelTold (pasts_from pasts (plan_by found c o k).shows) (plan_by found c o k).kernel
plan-in-tells pasts k c found None e u r = told-of pasts k (ap is_returning u) r
plan-in-tells pasts k c found (Some p) e u r =
    let row = plan-row k c p (length (plan_of found c p k).kernel.journal) found (meant c.call) refl in
    plan-tells pasts k c p (plan_of found c p k) e row.journal r row.goes

abbrev ToldBy : List Past → Shown → Type 0
ToldBy pasts s = KernelTold (pasts_from pasts s.shows) s.kernel

pub planned-tells : (pasts : List Past) (k : KernelState) (c : Calling) (found : Found) → k.under_way ≡ Waiting c → Rests pasts k.processes
    → KernelTold (pasts_from pasts (plan found k).shows) (plan found k).kernel
unfolding plan
planned-tells pasts k c found u r =
    subst (λ w. ToldBy pasts (plan_waiting found w k)) (sym u) (plan-in-tells pasts k c found (process_at k c.pid) refl u r)

-- ---- begin
begin-as-tells : (b : Begun) (pasts : List Past) (k : KernelState) (c : Calling) → Rests pasts k.processes → KernelTold (pasts_from pasts (begin_as b c k).shows) (begin_as b c k).kernel
begin-as-tells begun.Planned pasts k c r = planned-tells pasts (record k { under_way = Waiting c }) c no_words refl r
begin-as-tells begun.Again pasts k c r = told-of pasts (record k { under_way = Retrying }) refl r
begin-as-tells begun.JournalFull pasts k c r = told-of pasts (record k { under_way = Retrying }) refl r
begin-as-tells begun.Gone pasts k c r = told-of pasts (record k { under_way = Leaving c.hart }) refl r
begin-as-tells begun.Boxes pasts k c r = told-of pasts (record k { under_way = Waiting c }) refl r
begin-as-tells (begun.Header first second) pasts k c r = told-of pasts (record k { under_way = Waiting c }) refl r

begin-in-tells : (hart : ℕ) (o : Option Calling) (pasts : List Past) (k : KernelState) → Rests pasts k.processes → KernelTold (pasts_from pasts (begin_call hart o k).shows) (begin_call hart o k).kernel
begin-in-tells hart None pasts k r = told-of pasts (record k { under_way = Leaving hart }) refl r
begin-in-tells hart (Some c) pasts k r = begin-as-tells (begun_in (process_at k c.pid) c k) pasts k c r

pub begun-tells : (hart : ℕ) (regs : List ℕ) (pc : ℕ) (asked : Request) (pasts : List Past) (k : KernelState) → Rests pasts k.processes
    → KernelTold (pasts_from pasts (begin hart regs pc asked k).shows) (begin hart regs pc asked k).kernel
unfolding begin
begun-tells hart regs pc asked pasts k r = begin-in-tells hart (calling_of hart regs pc asked (slice_get k.records hart)) pasts k r

-- ---- jobs
buffer-touches : (c : Calling) (call : Call) (a : Answer) (pending count : ℕ) → AllTouch (buffer_shows c call a pending count)
buffer-touches c (calls.Write buf len) (answer.Number total) pending count = (refl, tt)
buffer-touches c call a pending count = tt

pub out-touches : (u : UnderWay) (jobs : List Job) → AllTouch (out_shows u jobs)
out-touches (Returning done) (ToOut place first count ∷ jobs) = buffer-touches done.calling done.calling.call done.answer _ count
out-touches u jobs = tt

pub done-tells : (word : ℕ) (pasts : List Past) (k : KernelState) → KernelTold pasts k → KernelTold (pasts_from pasts (job_done word k).shows) (job_done word k).kernel
unfolding job_done
done-tells word pasts k t =
    subst (λ z. KernelTold z (job_done word k).kernel) (sym (touches-keep (out_shows k.under_way k.jobs) pasts (out-touches k.under_way k.jobs)))
    (record { count = t.count; each = t.each; waits = t.waits; answer = t.answer })

-- ---- finish
-- a process's memory after a return: its objects stay, and none waits any more or all do
record Returned (s t : Space) (freed : List ℕ) : Type 0 where
  objects : t.objects ≡ s.objects
  waiting : (t.waiting ≡ []) ⊎ ((t.waiting ≡ s.waiting) × (freed ≡ []))

abbrev Puts : KernelState → ℕ → Process → List ℕ → KernelState → Type 0
Puts k pid p freed new = (q : Process) × (new.processes ≡ slice_set k.processes pid q) × Returned p.space q.space freed

finished-waiting : (closing : Closing) (d : Draft) → ((finished closing d).space.waiting ≡ []) ⊎ (((finished closing d).space.waiting ≡ d.space.waiting) × (freed_by closing d.space.waiting ≡ []))
unfolding finished
finished-waiting Keeps d = inr (refl, refl)
finished-waiting (GivesBack blocks) d = inl refl

settles : (done : Committed) (p : Process) (effect : Effect) (k : KernelState) → Puts k done.calling.pid p (freed_by done.closing p.space.waiting) (settled done p effect k)
unfolding ended
settles done p (Ends status) k = (_, refl, record { objects = refl; waiting = inl refl })
settles done p Nothing k = (_, refl, record { objects = finished-same done.closing (draft_of k p); waiting = finished-waiting done.closing (draft_of k p) })
settles done p Clears k = (_, refl, record { objects = finished-same done.closing (draft_of k p); waiting = finished-waiting done.closing (draft_of k p) })
settles done p (Starts hart start) k = (_, refl, record { objects = finished-same done.closing (draft_of k p); waiting = finished-waiting done.closing (draft_of k p) })

returned-moves : (s t : Space) (freed : List ℕ) → Returned s t freed → Moves s t
returned-moves s t freed x = record {
  grows = grows-same s.objects t.objects x.objects;
  over = λ object d w. ⊎_elim
      (λ (q : t.waiting ≡ []). ap (λ ws. list_any (λ waits. waits == object) ws) q)
      (λ (q : (t.waiting ≡ s.waiting) × (freed ≡ [])). ap (λ ws. list_any (λ waits. waits == object) ws) q.0 ∙ w) x.waiting;
  waits = λ object w. ⊎_elim
      (λ (q : t.waiting ≡ []). absurd (let n : is_waiting t object ≡ false = ap (λ ws. list_any (λ waits. waits == object) ws) q in let b : ⊥ = grind (arith, n, w) in b))
      (λ (q : (t.waiting ≡ s.waiting) × (freed ≡ [])). inl (ap (λ ws. list_any (λ waits. waits == object) ws) (sym q.0) ∙ w)) x.waiting;
}

-- the objects that a flush has freed
abbrev AllFreed : Space → List ℕ → Type 0
AllFreed s [] = Unit {0}
AllFreed s (object ∷ freed) = IsDead s.objects object × (is_waiting s object ≡ false) × AllFreed s freed

freed-tells : (freed : List ℕ) (pasts : List Past) (ps : List Process) (pid : ℕ) (q : Process) (objects : List ObjectFact) → objects ≡ q.space.objects → slice_get ps pid ≡ Some q → AllFreed q.space freed → Rests pasts ps
    → Rests (pasts_from pasts (map (freed_label pid objects) freed)) ps
freed-tells [] pasts ps pid q objects same e a r = r
freed-tells (object ∷ freed) pasts ps pid q objects same e a r =
    let d = a.0 in
    let call : death_of (fact objects object) ≡ d.call = ap (λ (xs : List ObjectFact). death_of (fact xs object)) same ∙ ap death_of d.is ∙ ap death_of_state d.state in
    freed-tells freed (change_past pid (buries object (death_of (fact objects object))) pasts) ps pid q objects same e a.2
    (rests-change pasts ps pid q (buries object (death_of (fact objects object))) e
    (λ f. told-death (past_of pasts pid) q.space (length q.space.objects) object (death_of (fact objects object)) d.o d.is (d.state ∙ ap (λ n. Dead n) (sym call)) a.1 f) r)

-- what the call gave
gave-tells : (pasts : List Past) (ps : List Process) (pid object : ℕ) (q : Process) (o : Option ObjectFact) → fact q.space.objects object ≡ o → slice_get ps pid ≡ Some q → Rests pasts ps
    → Rests (pasts_from pasts (gave_shows pid object o)) ps
gave-tells pasts ps pid object q None f e r = r
gave-tells pasts ps pid object q (Some o) f e r =
    rests-change pasts ps pid q (grants (shadow object o.first o.pages)) e (λ z. told-grant (past_of pasts pid) q.space object o f z) r

moved-tells : (pasts : List Past) (ps : List Process) (pid old place object : ℕ) (q : Process) (x : ObjectFact) (o : Option ObjectFact) → fact q.space.objects old ≡ Some x → x.state ≡ Dead place → is_waiting q.space old ≡ false
    → fact q.space.objects object ≡ o → slice_get ps pid ≡ Some q → Rests pasts ps → Rests (pasts_from pasts (moved_shows pid old place object o)) ps
moved-tells pasts ps pid old place object q x None is st none f e r = r
moved-tells pasts ps pid old place object q x (Some o) is st none f e r =
    rests-change pasts ps pid q (λ past. grants (shadow object o.first o.pages) (buries old place past)) e
    (λ z. told-grant (buries old place (past_of pasts pid)) q.space object o f (told-death (past_of pasts pid) q.space (length q.space.objects) old place x is st none z)) r

answer-tells : (a : Answer) (pasts : List Past) (ps : List Process) (pid calls : ℕ) (s : Space) (q : Process) (freed : List ℕ) → Returned s q.space freed → AnswerFits a calls s → slice_get ps pid ≡ Some q → Rests pasts ps
    → Rests (pasts_from pasts (answer_shows pid (calls - 1) s.objects a)) ps
answer-tells (answer.Given object pointer) pasts ps pid calls s q freed back fits e r =
    gave-tells pasts ps pid object q (fact s.objects object) (ap (λ (xs : List ObjectFact). slice_get xs object) back.objects) e r
answer-tells (answer.Moved old object pointer) pasts ps pid calls s q freed back fits e r =
    moved-tells pasts ps pid old (calls - 1) object q fits.0 (fact s.objects object) (ap (λ (xs : List ObjectFact). slice_get xs old) back.objects ∙ fits.1) fits.2
    ((returned-moves s q.space freed back).over old (record { o = fits.0; call = calls - 1; is = fits.1; state = fits.2 }) fits.3)
    (ap (λ (xs : List ObjectFact). slice_get xs object) back.objects) e r
answer-tells a pasts ps pid calls s q freed back fits e r = r

-- those that waited
all-freed : (s t : Space) (freed : List ℕ) → t.objects ≡ s.objects → ((object : ℕ) → is_waiting t object ≡ false) → ((object : ℕ) → list_any (λ waits. waits == object) freed ≡ true → IsDead s.objects object) → AllFreed t freed
all-freed s t [] same none dead = tt
all-freed s t (object ∷ freed) same none dead = (
  subst (λ (xs : List ObjectFact). IsDead xs object) (sym same) (dead object (let q : list_any (λ waits. waits == object) (object ∷ freed) ≡ true = grind (arith, nat_tests) in q)),
  none object,
  all-freed s t freed same none (λ other w. dead other (let q : list_any (λ waits. waits == other) (object ∷ freed) ≡ true = grind (arith, nat_tests, w) in q)),
)

freed-all : (pasts : List Past) (ps : List Process) (pid : ℕ) (p : Process) (t : Space) (closing : Closing) → slice_get ps pid ≡ Some p → Rests pasts ps → Returned p.space t (freed_by closing p.space.waiting) → AllFreed t (freed_by closing p.space.waiting)
freed-all pasts ps pid p t Keeps e r x = tt
freed-all pasts ps pid p t (GivesBack blocks) e r x =
    ⊎_elim
    (λ (q : t.waiting ≡ []). all-freed p.space t p.space.waiting x.objects (λ object. ap (λ ws. list_any (λ waits. waits == object) ws) q) (λ object w. r.waits pid object p e w))
    (λ (q : (t.waiting ≡ p.space.waiting) × (p.space.waiting ≡ [])). subst (AllFreed t) (sym q.1) tt) x.waiting

pub labels-on : (a b : List Label) (pasts : List Past) → pasts_from pasts (a ++ b) ≡ pasts_from (pasts_from pasts a) b
labels-on [] b pasts = refl
labels-on (label ∷ a) b pasts = labels-on a b (pasts_with label pasts)

put-there : (ps : List Process) (pid : ℕ) (p new : Process) → slice_get ps pid ≡ Some p → slice_get (slice_set ps pid new) pid ≡ Some new
put-there [] pid p new e = absurd (let b : ⊥ = grind (arith, e) in b)
put-there (x ∷ ps) zero p new e = refl
put-there (x ∷ ps) (suc pid) p new e = put-there ps pid p new e

returned-from-tells : (pasts : List Past) (k : KernelState) (done : Committed) (p : Process) → k.under_way ≡ Returning done → process_at k done.calling.pid ≡ Some p → KernelTold pasts k
    → KernelTold (pasts_from pasts (returned_from done p (freed_by done.closing p.space.waiting) k).shows) (returned_from done p (freed_by done.closing p.space.waiting) k).kernel
returned-from-tells pasts k done p u e t =
    let pid = done.calling.pid in
    let freed = freed_by done.closing p.space.waiting in
    let r = rests-of pasts k t in
    let s = settles done p done.effect k in
    let q = s.0 in
    let there = put-there k.processes pid p q e in
    let put = rests-put pasts k.processes pid p q e (returned-moves p.space q.space freed s.2) r in
    let let_go = freed-tells freed pasts (slice_set k.processes pid q) pid q p.space.objects (sym s.2.objects) there (freed-all pasts k.processes pid p q.space done.closing e r s.2) put in
    let gave = answer-tells done.answer (pasts_from pasts (map (freed_label pid p.space.objects) freed)) (slice_set k.processes pid q) pid (length k.journal) p.space q freed s.2 (t.answer done p u e) there let_go in
    told-of _ (returned_from done p freed k).kernel refl
    (subst (λ ps. Rests (pasts_from pasts (return_shows pid (length k.journal - 1) p.space.objects freed done.answer)) ps) (sym s.1)
    (subst (λ z. Rests z (slice_set k.processes pid q)) (sym (labels-on (map (freed_label pid p.space.objects) freed) (answer_shows pid (length k.journal - 1) p.space.objects done.answer) pasts)) gave))

returned-tells : (pasts : List Past) (k : KernelState) (done : Committed) (o : Option Process) → k.under_way ≡ Returning done → process_at k done.calling.pid ≡ o → KernelTold pasts k
    → KernelTold (pasts_from pasts (returned done o k).shows) (returned done o k).kernel
returned-tells pasts k done None u e t = told-of pasts (record k { under_way = Quiet }) refl (rests-of pasts k t)
returned-tells pasts k done (Some p) u e t = returned-from-tells pasts k done p u e t

left-tells : (pasts : List Past) (k : KernelState) (hart : ℕ) (o : Option HartRecord) → Rests pasts k.processes → KernelTold pasts (record (hart_left hart o k) { under_way = Quiet })
left-tells pasts k hart None r = told-of pasts (record k { under_way = Quiet }) refl r
left-tells pasts k hart (Some kept) r = told-of pasts (record (hart_left hart (Some kept) k) { under_way = Quiet }) refl r

finish-by-tells : (u : UnderWay) (pasts : List Past) (k : KernelState) → k.under_way ≡ u → KernelTold pasts k → KernelTold (pasts_from pasts (finish_by u k).shows) (finish_by u k).kernel
finish-by-tells (Returning done) pasts k e t = returned-tells pasts k done (process_at k done.calling.pid) e refl t
finish-by-tells (Leaving hart) pasts k e t = left-tells pasts k hart (slice_get k.records hart) (rests-of pasts k t)
finish-by-tells Quiet pasts k e t = told-of pasts (record k { under_way = Quiet }) refl (rests-of pasts k t)
finish-by-tells Retrying pasts k e t = told-of pasts (record k { under_way = Quiet }) refl (rests-of pasts k t)
finish-by-tells (Waiting c) pasts k e t = told-of pasts (record k { under_way = Quiet }) refl (rests-of pasts k t)

pub finished-tells : (pasts : List Past) (k : KernelState) → KernelTold pasts k → KernelTold (pasts_from pasts (finish k).shows) (finish k).kernel
unfolding finish
finished-tells pasts k t = finish-by-tells k.under_way pasts k refl t
