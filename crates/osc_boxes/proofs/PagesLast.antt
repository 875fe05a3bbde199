-- What a box may be relied on for stays so where the box goes into a call's hand and back, and through each
-- step of the kernel.
use Rattle.std.proofs.Common.{ℕ, ◌≡◌, ◌<◌, ◌==◌, not, if◌then◌else◌, Bool, true, false, ◌&&◌, ◌||◌, Option, Some, None, List, [], slice_get, arith, refl, sym, ap, subst, ◌∙◌}
use Rattle.std.specs.Prelude.{drop, nat_lt}
use Rattle.std.specs.List.{list_any}
use Rattle.osc_word.specs.declared.calls.Request.{Request}
use Rattle.osc_word.specs.declared.job_list.Job.{Job}
use Rattle.osc_word.specs.declared.settings.HeapKind.TheVariants.{Oscar}
use Rattle.osc_word.specs.declared.orders.Order.TheVariants as orders
use Rattle.osc_sv39.specs.Walk.{number_of}
use Rattle.osc_paging.specs.KeptTables.{levels_of}
use Rattle.osc_space.specs.Header.{Found}
use Rattle.osc_space.specs.Space.{Keeps}
use Rattle.osc_calls.specs.declared.BoxChange.TheVariants.{Keep, Clear, Put}
use Rattle.osc_calls.specs.Kernel.{KernelState, Calling, Committed, Effect, Nothing, Clears, Starts, Ends, Quiet, Waiting, Returning, none_lives, next_job}
use Rattle.osc_calls.specs.Boxes.{is_stopped, end_change, change_of, change_by, box_change}
use Rattle.osc_calls.specs.Begin.{begin}
use Rattle.osc_calls.specs.Plan.{plan}
use Rattle.osc_calls.specs.JobDone.{job_done}
use Rattle.osc_calls.specs.Finish.{finish}
use Rattle.osc_settled.specs.KernelFits.{KernelFits}
use Rattle.osc_settled.specs.Records.{ending, ends_by}
use Rattle.osc_settled.specs.UnderWay.{UnderWayFits, ReturningFits, EffectFits}
use Rattle.osc_showing.specs.Showing.{clears}
use Rattle.osc_showing.specs.PlanTurns.{cleared_by}
use Rattle.osc_relying.specs.Levels.{LevelsFit}
use Rattle.osc_relying.specs.Relying.{flushes, may_keep, HasPage, Kept, Goes, PageOf}
use Rattle.osc_blocks.specs.Replacing.{ReplacesAtFlush}
use Rattle.osc_lasting.specs.Lasting.{StepsLast}
use Rattle.osc_boxes.proofs.GoingOn.{begun_go_on}

-- what hart m's box is relied on for in one hand, it may be in another then
abbrev pub LastsFor : KernelState → KernelState → ℕ → Bool → Bool → Type 0
LastsFor k later m was called = (pid page frame : ℕ) → PageOf k m was pid page frame → PageOf later m called pid page frame

pub still-lasts : (k later : KernelState) (m : ℕ) (called : Bool) → k ≡ later → LastsFor k later m called called
still-lasts k later m called e pid page frame a = subst (λ z. PageOf z m called pid page frame) e a

-- ---- into a call's hand, and back where no process ends
pub to-call : (k later : KernelState) (m : ℕ) (was : Bool) → LastsFor k later m true true → LastsFor k later m was true
to-call k later m was lasts pid page frame a =
    lasts pid page frame (record { p = a.p; is = a.is; lives = a.lives; goes_on = λ e. refl; canonical = a.canonical; has = a.has })

pub from-call : (k : KernelState) (m : ℕ) → ending k.under_way ≡ None → LastsFor k k m true false
from-call k m none pid page frame a = record {
  p = a.p;
  is = a.is;
  lives = a.lives;
  goes_on = λ e. absurd (let q : None ≡ Some pid = sym none ∙ e in let b : ⊥ = grind (arith, q) in b);
  canonical = a.canonical;
  has = a.has;
}

-- ---- what is known of the kernel before its step
pub record Ready (k : KernelState) : Type 0 where
  pub lasts : StepsLast
  pub words : List ℕ
  pub fits : KernelFits words k
  pub levels : LevelsFit k
  pub oscar : k.config.heap ≡ Oscar
  pub replaced : ReplacesAtFlush k

ends-none : (o : Option ℕ) (pid : ℕ) (called : Bool) → o ≡ None → o ≡ Some pid → called ≡ true
ends-none o pid called e f = absurd (let q : None ≡ Some pid = sym e ∙ f in let b : ⊥ = grind (arith, q) in b)

pub begin-lasts : (regs : List ℕ) (hart pc m : ℕ) (asked : Request) (k : KernelState) (called : Bool) → Ready k → k.under_way ≡ Quiet → m < k.config.harts
    → LastsFor k (begin hart regs pc asked k).kernel m called called
begin-lasts regs hart pc m asked k called r quiet l pid page frame a =
    let lasts = r.lasts in
    let new = lasts.begins r.words regs hart pc asked k r.fits r.levels r.oscar quiet in
    new.pages m pid page frame called l refl (ends-none _ pid called (begun_go_on regs hart pc asked k)) a

-- by a call that ends no process, or with the box in its hand
pub plan-lasts : (m : ℕ) (found : Found) (c : Calling) (k : KernelState) (called : Bool) → Ready k → k.under_way ≡ Waiting c → m < k.config.harts
    → ((pid : ℕ) → ending (plan found k).kernel.under_way ≡ Some pid → called ≡ true) → LastsFor k (plan found k).kernel m called called
plan-lasts m found c k called r u l goes pid page frame a =
    let lasts = r.lasts in
    let new = lasts.plans r.words found c k r.fits r.levels r.oscar u in
    new.pages m pid page frame called l refl (goes pid) a

pub goes-on : (k : KernelState) (called : Bool) → ending k.under_way ≡ None → (pid : ℕ) → ending k.under_way ≡ Some pid → called ≡ true
goes-on k called none pid = ends-none (ending k.under_way) pid called none

pub finish-lasts : (m : ℕ) (k : KernelState) → Ready k → k.jobs ≡ [] → m < k.config.harts → LastsFor k (finish k).kernel m false false
finish-lasts m k r none l pid page frame a =
    let lasts = r.lasts in
    let new = lasts.finishes r.words k r.fits r.levels r.oscar r.replaced none in
    new.pages m pid page frame l a

-- ---- a job that is done
done-under_way : (word : ℕ) (k : KernelState) → (job_done word k).kernel.under_way ≡ k.under_way
unfolding job_done
done-under_way word k = refl

pub job-lasts : (word m : ℕ) (job : Job) (k : KernelState) (called : Bool) → Ready k → next_job k ≡ Some job → m < k.config.harts → clears m job ≡ false
    → LastsFor k (job_done word k).kernel m called called
job-lasts word m job k called r next l spared pid page frame a =
    let lasts = r.lasts in
    let new = lasts.jobs r.words word job k r.fits r.levels r.oscar next in
    new.pages m pid page frame called l (ap (λ b. if b then false else true) spared) (λ e. a.goes_on (ap ending (sym (done-under_way word k)) ∙ e)) a

-- ---- a call that leaves the box as it is gives nothing back, and ends no process
pub record Leaves (k : KernelState) : Type 0 where
  pub done : Committed
  pub is : k.under_way ≡ Returning done
  pub closing : done.closing ≡ Keeps
  pub goes_on : ending k.under_way ≡ None

ends-change : (k : KernelState) (pid m : ℕ) → end_change k pid m ≡ Keep → ⊥
ends-change k pid m = go (none_lives pid k) (is_stopped pid (slice_get k.records m))
  where
    go : (none stopped : Bool) → (if none then Put orders.Over else if stopped then Put orders.Stop else Clear) ≡ Keep → ⊥
    go true stopped e = grind (arith, e)
    go false true e = grind (arith, e)
    go false false e = grind (arith, e)

pub leaves-of : (words : List ℕ) (m : ℕ) (k : KernelState) (done : Committed) → KernelFits words k → k.under_way ≡ Returning done → box_change m k ≡ Keep → Leaves k
unfolding box_change
leaves-of words m k done fits u keep =
    let w : ReturningFits k done = subst (UnderWayFits k) u fits.under_way in
    let g = go done.effect w.effect (ap (change_by k m) (sym u) ∙ keep) in
    record { done = done; is = u; closing = g.0; goes_on = ap ending u ∙ g.1 }
  where
    go : (effect : Effect) → EffectFits k done.calling done.closing effect → change_of k done.calling.pid m effect ≡ Keep
        → (done.closing ≡ Keeps) × (ends_by done.calling.pid effect ≡ None)
    go Nothing f e = (f, refl)
    go Clears f e = absurd (let b : ⊥ = grind (arith, e) in b)
    go (Starts hart start) f e = (f.0, refl)
    go (Ends status) f e = absurd (ends-change k done.calling.pid m e)

flushes-none : (harts pid : ℕ) (done : Committed) → done.closing ≡ Keeps → flushes harts (Returning done) pid ≡ false
flushes-none harts pid done e = ap (λ c. (done.calling.pid == pid) && nat_lt 0 (cleared_by harts c)) e ∙ go (done.calling.pid == pid)
  where
    go : (b : Bool) → (b && nat_lt 0 0) ≡ false
    go true = refl
    go false = refl

-- then no page goes that was kept
pub left-lasts : (word m : ℕ) (k : KernelState) (called : Bool) → Leaves k → LastsFor k (job_done word k).kernel m called called
unfolding job_done
left-lasts word m k called w pid page frame a =
    record { p = a.p; is = a.is; lives = a.lives; goes_on = a.goes_on; canonical = a.canonical; has = go (number_of (levels_of a.p.space.tables) page) a.has }
  where
    kept : may_keep (job_done word k).kernel m pid ≡ true
    kept = ap (λ b. not b || list_any (clears m) (drop 1 k.jobs)) (ap (λ u. flushes k.config.harts u pid) w.is ∙ flushes-none k.config.harts pid w.done w.closing)

    go : (number : ℕ) → HasPage k m pid a.p.space number frame → HasPage (job_done word k).kernel m pid a.p.space number frame
    go number (Kept mapping e f) = Kept mapping e f
    go number (Goes going may) = Goes going kept
