-- No step grants a page again.
use Rattle.std.proofs.Common.{ℕ, zero, suc, ◌-◌, ◌≡◌, ◌<◌, ◌==◌, true, if◌then◌else◌, is_none, Option, Some, None, List, [], ◌∷◌, ◌++◌, map, find, take, length, slice_get, arith, refl, sym, ap, subst, ◌∙◌}
use Rattle.std.proofs.lemmas.Bool.Decides.{nat_tests}
use Rattle.osc_word.specs.declared.calls.Answer.{Answer}
use Rattle.osc_word.specs.declared.calls.Answer.TheVariants as answer
use Rattle.osc_word.specs.declared.calls.Call.{Call}
use Rattle.osc_word.specs.declared.calls.Call.TheVariants as calls
use Rattle.osc_word.specs.declared.calls.Request.{Request}
use Rattle.osc_word.specs.declared.settings.HeapKind.{HeapKind}
use Rattle.osc_word.specs.declared.settings.HeapKind.TheVariants.{Oscar, Plain}
use Rattle.osc_word.specs.declared.steps.Label.{Label}
use Rattle.osc_word.specs.declared.steps.Label.TheVariants.{Gave, Moved, Touched}
use Rattle.osc_space.specs.declared.ObjectFact.{ObjectFact}
use Rattle.osc_space.specs.Space.{Space}
use Rattle.osc_space.specs.Objects.{AreGranted, fact, has_page}
use Rattle.osc_space.specs.Header.{Found}
use Rattle.osc_space.specs.Agree.{HeapAgrees}
use Rattle.osc_space.specs.Finish.{finished}
use Rattle.osc_space.proofs.ObjectLawProofs.{pages_are_granted_once}
use Rattle.osc_calls.specs.declared.Begun.{Begun}
use Rattle.osc_calls.specs.declared.Begun.TheVariants as begun
use Rattle.osc_calls.specs.Kernel.{KernelState, Process, Calling, Committed, Effect, Nothing, Clears, Starts, Ends, UnderWay, Quiet, Retrying, Leaving, Waiting, Returning, process_at}
use Rattle.osc_calls.specs.Labels.{child_shows, effect_shows, plan_shows, freed_label, gave_shows, moved_shows, answer_shows}
use Rattle.osc_calls.specs.Requests.{calling_of}
use Rattle.osc_calls.specs.Begin.{no_words, begun_in, begin_as, begin_call, begin}
use Rattle.osc_calls.specs.Plan.{plan, plan_by, plan_waiting, plan_of}
use Rattle.osc_calls.specs.JobDone.{job_done}
use Rattle.osc_calls.specs.Finish.{freed_by, returned_from, returned, finish_by, finish}
use Rattle.osc_calls.proofs.ObjectLawProofs.{finished-same}
use Rattle.osc_settled.specs.Memory.{at_rest}
use Rattle.osc_settled.specs.Records.{is_living}
use Rattle.osc_settled.specs.UnderWay.{closing_of, UnderWayFits}
use Rattle.osc_settled.specs.KernelFits.{KernelFits}
use Rattle.osc_machine.specs.DeadPages.{Shadow, Past, no_past, past_of, change_past, pasts_with, pasts_from, is_page_of, buries}
use Rattle.osc_machine.specs.Safe.{Grant, grant_in}
use Rattle.osc_safe.specs.KernelSteps.{is_touch, AllTouch, KernelStep, Kept, Begins, Plans, EndsJob, Finishes}
use Rattle.osc_safe.specs.Standing.{FitsSome}
use Rattle.osc_safe.specs.Telling.{PastFits, told_before, said_by, KernelTold}
use Rattle.osc_safe.specs.Fresh.{GrantsAreFresh}
use Rattle.osc_safe.proofs.PastLabels.{found}
use Rattle.osc_safe.proofs.FinishTells.{out-touches}

-- ---- labels, one after another
abbrev pub FreshLabel : List Past → Label → Type 0
FreshLabel pasts label =
    (page : ℕ) (grant : Grant) → grant_in label ≡ Some grant → is_page_of page grant.shadow ≡ true → find (λ s. is_page_of page s) (past_of pasts grant.pid).granted ≡ None

abbrev pub FreshIn : List Past → List Label → Type 0
FreshIn pasts [] = Unit {0}
FreshIn pasts (label ∷ labels) = FreshLabel pasts label × FreshIn (pasts_with label pasts) labels

pub fresh-append : (a b : List Label) (pasts : List Past) → FreshIn pasts a → FreshIn (pasts_from pasts a) b → FreshIn pasts (a ++ b)
fresh-append [] b pasts f g = g
fresh-append (label ∷ a) b pasts f g = (f.0, fresh-append a b (pasts_with label pasts) f.1 g)

fresh-at : (labels : List Label) (pasts : List Past) (place page : ℕ) (label : Label) (grant : Grant) → FreshIn pasts labels → slice_get labels place ≡ Some label → grant_in label ≡ Some grant → is_page_of page grant.shadow ≡ true
    → find (λ s. is_page_of page s) (past_of (pasts_from pasts (take place labels)) grant.pid).granted ≡ None
fresh-at [] pasts place page label grant f e g h = absurd (let b : ⊥ = grind (arith, e) in b)
fresh-at (x ∷ labels) pasts zero page label grant f e g h = f.0 page grant (let same : x ≡ label = grind (arith, e) in ap grant_in same ∙ g) h
fresh-at (x ∷ labels) pasts (suc place) page label grant f e g h = fresh-at labels (pasts_with x pasts) place page label grant f.1 e g h

pub fresh-trace : (trace : List Label) → FreshIn (no_past ∷ []) trace → GrantsAreFresh trace
fresh-trace trace f place page label grant e g h = fresh-at trace (no_past ∷ []) place page label grant f e g h

-- ---- labels that grant nothing
abbrev NoGrants : List Label → Type 0
NoGrants [] = Unit {0}
NoGrants (label ∷ labels) = (grant_in label ≡ None) × NoGrants labels

no-grants-fresh : (labels : List Label) (pasts : List Past) → NoGrants labels → FreshIn pasts labels
no-grants-fresh [] pasts n = tt
no-grants-fresh (label ∷ labels) pasts n = ((λ page grant g h. absurd (let first = n.0 in let b : ⊥ = grind (arith, first, g) in b)), no-grants-fresh labels (pasts_with label pasts) n.1)

touch-grants : (label : Label) → is_touch label ≡ true → grant_in label ≡ None
touch-grants (Touched pid hart address width kind done) e = refl
touch-grants (Gave pid object first pages size) e = absurd (let b : ⊥ = grind (arith, e) in b)
touch-grants (Moved pid old call object first pages size) e = absurd (let b : ⊥ = grind (arith, e) in b)
touch-grants label e = refl

touches-grant : (labels : List Label) → AllTouch labels → NoGrants labels
touches-grant [] a = tt
touches-grant (label ∷ labels) a = (touch-grants label a.0, touches-grant labels a.1)

child-grants : (pid child : ℕ) (call : Call) → NoGrants (child_shows pid call child)
child-grants pid child calls.Fork = (refl, tt)
child-grants pid child call = tt

effect-grants : (c : Calling) (e : Effect) → NoGrants (effect_shows c e)
effect-grants c (Starts hart start) = child-grants c.pid start.pid c.call
effect-grants c (Ends status) = (refl, tt)
effect-grants c Nothing = tt
effect-grants c Clears = tt

plan-grants : (c : Calling) (place : ℕ) (a : Answer) (e : Effect) → NoGrants (plan_shows c place a e)
plan-grants c place (answer.Freed object) e = (refl, tt)
plan-grants c place (answer.Moved old object pointer) e = (refl, tt)
plan-grants c place (answer.BadBuffer address) e = (refl, tt)
plan-grants c place a e = effect-grants c e

plan-by-grants : (found : Found) (c : Calling) (o : Option Process) (k : KernelState) → NoGrants (plan_by found c o k).shows
plan-by-grants found c None k = tt
plan-by-grants found c (Some p) k = let made = plan_of found c p k in plan-grants c (length made.kernel.journal) made.answer made.effect

plan-waiting-grants : (found : Found) (u : UnderWay) (k : KernelState) → NoGrants (plan_waiting found u k).shows
plan-waiting-grants found (Waiting c) k = plan-by-grants found c (process_at k c.pid) k
plan-waiting-grants found Quiet k = tt
plan-waiting-grants found Retrying k = tt
plan-waiting-grants found (Leaving hart) k = tt
plan-waiting-grants found (Returning done) k = tt

planned-grants : (found : Found) (k : KernelState) → NoGrants (plan found k).shows
unfolding plan
planned-grants found k = plan-waiting-grants found k.under_way k

begin-as-grants : (b : Begun) (c : Calling) (k : KernelState) → NoGrants (begin_as b c k).shows
begin-as-grants begun.Planned c k = planned-grants no_words (record k { under_way = Waiting c })
begin-as-grants begun.Again c k = tt
begin-as-grants begun.JournalFull c k = tt
begin-as-grants begun.Gone c k = tt
begin-as-grants begun.Boxes c k = tt
begin-as-grants (begun.Header first second) c k = tt

begin-call-grants : (hart : ℕ) (o : Option Calling) (k : KernelState) → NoGrants (begin_call hart o k).shows
begin-call-grants hart None k = tt
begin-call-grants hart (Some c) k = begin-as-grants (begun_in (process_at k c.pid) c k) c k

begun-grants : (hart : ℕ) (regs : List ℕ) (pc : ℕ) (asked : Request) (k : KernelState) → NoGrants (begin hart regs pc asked k).shows
unfolding begin
begun-grants hart regs pc asked k = begin-call-grants hart (calling_of hart regs pc asked (slice_get k.records hart)) k

freed-grants : (freed : List ℕ) (pid : ℕ) (objects : List ObjectFact) → NoGrants (map (freed_label pid objects) freed)
freed-grants [] pid objects = tt
freed-grants (object ∷ freed) pid objects = (refl, freed-grants freed pid objects)

-- ---- what a death leaves
granted-same : (pasts : List Past) (pid q : ℕ) (F : Past → Past) → ((p : Past) → (F p).granted ≡ p.granted) → (past_of (change_past pid F pasts) q).granted ≡ (past_of pasts q).granted
granted-same [] pid q F same = refl
granted-same (x ∷ pasts) zero zero F same = same x
granted-same (x ∷ pasts) zero (suc q) F same = refl
granted-same (x ∷ pasts) (suc pid) zero F same = refl
granted-same (x ∷ pasts) (suc pid) (suc q) F same = granted-same pasts pid q F same

freed-granted : (freed : List ℕ) (pasts : List Past) (pid q : ℕ) (objects : List ObjectFact) → (past_of (pasts_from pasts (map (freed_label pid objects) freed)) q).granted ≡ (past_of pasts q).granted
freed-granted [] pasts pid q objects = refl
freed-granted (object ∷ freed) pasts pid q objects =
    freed-granted freed (pasts_with (freed_label pid objects object) pasts) pid q objects ∙ granted-same pasts pid q (buries object _) (λ p. refl)

-- ---- a return
-- a page of a later object is none of those that were granted
none-has : (s : Space) (said object page : ℕ) (past : Past) (o : ObjectFact) → AreGranted s.objects → PastFits s said past → said ≡ object → fact s.objects object ≡ Some o
    → has_page page o ≡ true → (r : Option Shadow) → find (λ x. is_page_of page x) past.granted ≡ r → r ≡ None
none-has s said object page past o granted f same is has None e = refl
none-has s said object page past o granted f same is has (Some x) e = absurd
    (let at = found (λ (z : Shadow). is_page_of page z) past.granted x e in
    let w = f.granted at.place x at.is in
    let once = pages_are_granted_once s.objects granted in
    let less : x.object < object = subst (λ z. x.object < z) same w.less in
    let apart = once.ascending x.object object w.o o less w.is is in
    let passes = at.passes in
    let first = w.first in
    let pages = w.pages in
    let b : ⊥ = grind (arith, nat_tests, apart, passes, first, pages, has) in b)

gave-fresh : (s : Space) (pasts : List Past) (pid object : ℕ) (o : Option ObjectFact) → AreGranted s.objects → PastFits s object (past_of pasts pid) → fact s.objects object ≡ o → (again : List Past)
    → ((q : ℕ) → (past_of again q).granted ≡ (past_of pasts q).granted) → FreshIn again (gave_shows pid object o)
gave-fresh s pasts pid object None granted f is again same = tt
gave-fresh s pasts pid object (Some o) granted f is again same = (
  (λ page grant g h. (let own : (record { pid = pid; shadow = record { object = object; first = o.first; pages = o.pages } }) ≡ grant = grind (arith, g) in
      subst (λ (z : Grant). find (λ x. is_page_of page x) (past_of again z.pid).granted ≡ None) own
      (ap (λ xs. find (λ x. is_page_of page x) xs) (same pid) ∙ none-has s object object page (past_of pasts pid) o granted f refl is (ap (λ (z : Grant). is_page_of page z.shadow) own ∙ h) _ refl))),
  tt,
)

moved-fresh : (s : Space) (pasts : List Past) (pid old place object : ℕ) (o : Option ObjectFact) → AreGranted s.objects → PastFits s object (past_of pasts pid) → fact s.objects object ≡ o → (again : List Past)
    → ((q : ℕ) → (past_of again q).granted ≡ (past_of pasts q).granted) → FreshIn again (moved_shows pid old place object o)
moved-fresh s pasts pid old place object None granted f is again same = tt
moved-fresh s pasts pid old place object (Some o) granted f is again same = (
  (λ page grant g h. (let own : (record { pid = pid; shadow = record { object = object; first = o.first; pages = o.pages } }) ≡ grant = grind (arith, g) in
      subst (λ (z : Grant). find (λ x. is_page_of page x) (past_of again z.pid).granted ≡ None) own
      (ap (λ xs. find (λ x. is_page_of page x) xs) (same pid) ∙ none-has s object object page (past_of pasts pid) o granted f refl is (ap (λ (z : Grant). is_page_of page z.shadow) own ∙ h) _ refl))),
  tt,
)

answer-fresh : (a : Answer) (s : Space) (pasts : List Past) (pid place : ℕ) → AreGranted s.objects → PastFits s (told_before a (length s.objects)) (past_of pasts pid) → (again : List Past)
    → ((q : ℕ) → (past_of again q).granted ≡ (past_of pasts q).granted) → FreshIn again (answer_shows pid place s.objects a)
answer-fresh (answer.Given object pointer) s pasts pid place granted f again same = gave-fresh s pasts pid object (fact s.objects object) granted f refl again same
answer-fresh (answer.Moved old object pointer) s pasts pid place granted f again same = moved-fresh s pasts pid old place object (fact s.objects object) granted f refl again same
answer-fresh a s pasts pid place granted f again same = tt

-- the objects of the process that called were granted one after another
heap-granted : (kind : HeapKind) (s : Space) → HeapAgrees kind s → AreGranted s.objects
heap-granted Oscar s h = h.granted
heap-granted Plain s h = subst AreGranted (sym h.objects) tt

lives-none : (o : Option ℕ) → is_none o ≡ true → o ≡ None
lives-none None e = refl
lives-none (Some x) e = absurd (let b : ⊥ = grind (arith, e) in b)

pub process-granted : (words : List ℕ) (k : KernelState) (pid : ℕ) (p : Process) → KernelFits words k → process_at k pid ≡ Some p → is_living (process_at k pid) ≡ true → AreGranted p.space.objects
process-granted words k pid p fits e lives =
    let s = fits.memory.spaces pid p e (lives-none p.status (ap is_living (sym e) ∙ lives)) in
    let closing = closing_of k.under_way pid in
    subst AreGranted (finished-same closing (at_rest p.space k.free)) (heap-granted k.config.heap (finished closing (at_rest p.space k.free)).space s.returns.parts.agrees.heap)

caller-granted : (words : List ℕ) (k : KernelState) (done : Committed) (p : Process) → KernelFits words k → k.under_way ≡ Returning done → process_at k done.calling.pid ≡ Some p → AreGranted p.space.objects
caller-granted words k done p fits u e =
    let under : UnderWayFits k (Returning done) = subst (λ w. UnderWayFits k w) u fits.under_way in
    process-granted words k done.calling.pid p fits e under.lives

same-pid : (pid a b : ℕ) → (if pid == pid then a else b) ≡ a
same-pid pid a b = grind (arith, nat_tests)

returned-from-fresh : (words : List ℕ) (pasts : List Past) (k : KernelState) (done : Committed) (p : Process) → KernelFits words k → k.under_way ≡ Returning done → process_at k done.calling.pid ≡ Some p → KernelTold pasts k
    → FreshIn pasts (returned_from done p (freed_by done.closing p.space.waiting) k).shows
returned-from-fresh words pasts k done p fits u e t =
    let pid = done.calling.pid in
    let freed = freed_by done.closing p.space.waiting in
    let said : said_by pid k.under_way (length p.space.objects) ≡ told_before done.answer (length p.space.objects) = ap (λ w. said_by pid w (length p.space.objects)) u ∙ same-pid pid _ _ in
    let f : PastFits p.space (told_before done.answer (length p.space.objects)) (past_of pasts pid) = subst (λ z. PastFits p.space z (past_of pasts pid)) said (t.each pid p e) in
    fresh-append (map (freed_label pid p.space.objects) freed) (answer_shows pid (length k.journal - 1) p.space.objects done.answer) pasts
    (no-grants-fresh (map (freed_label pid p.space.objects) freed) pasts (freed-grants freed pid p.space.objects))
    (answer-fresh done.answer p.space pasts pid (length k.journal - 1) (caller-granted words k done p fits u e) f
    (pasts_from pasts (map (freed_label pid p.space.objects) freed)) (λ q. freed-granted freed pasts pid q p.space.objects))

returned-fresh : (words : List ℕ) (pasts : List Past) (k : KernelState) (done : Committed) (o : Option Process) → KernelFits words k → k.under_way ≡ Returning done → process_at k done.calling.pid ≡ o → KernelTold pasts k
    → FreshIn pasts (returned done o k).shows
returned-fresh words pasts k done None fits u e t = tt
returned-fresh words pasts k done (Some p) fits u e t = returned-from-fresh words pasts k done p fits u e t

finish-by-fresh : (w : UnderWay) (words : List ℕ) (pasts : List Past) (k : KernelState) → k.under_way ≡ w → KernelFits words k → KernelTold pasts k → FreshIn pasts (finish_by w k).shows
finish-by-fresh (Returning done) words pasts k u fits t = returned-fresh words pasts k done (process_at k done.calling.pid) fits u refl t
finish-by-fresh (Leaving hart) words pasts k u fits t = tt
finish-by-fresh Quiet words pasts k u fits t = tt
finish-by-fresh Retrying words pasts k u fits t = tt
finish-by-fresh (Waiting c) words pasts k u fits t = tt

finished-fresh : (words : List ℕ) (pasts : List Past) (k : KernelState) → KernelFits words k → KernelTold pasts k → FreshIn pasts (finish k).shows
unfolding finish
finished-fresh words pasts k fits t = finish-by-fresh k.under_way words pasts k refl fits t

job-grants : (word : ℕ) (k : KernelState) → NoGrants (job_done word k).shows
unfolding job_done
job-grants word k = touches-grant _ (out-touches k.under_way k.jobs)

-- ---- a step
pub step-fresh : (pasts : List Past) (old new : KernelState) (shows : List Label) → FitsSome old → KernelTold pasts old → KernelStep old new shows → FreshIn pasts shows
step-fresh pasts old new shows fits t (Kept e q) = no-grants-fresh shows pasts (touches-grant shows q)
step-fresh pasts old new shows fits t (Begins hart regs pc asked u e f) = rw f (no-grants-fresh _ pasts (begun-grants hart regs pc asked old))
step-fresh pasts old new shows fits t (Plans found c u e f) = rw f (no-grants-fresh _ pasts (planned-grants found old))
step-fresh pasts old new shows fits t (EndsJob word job n e f) = rw f (no-grants-fresh _ pasts (job-grants word old))
step-fresh pasts old new shows fits t (Finishes n e f) = rw f (finished-fresh fits.words pasts old fits.fits t)
