-- A report names the object of the page.
use Rattle.std.proofs.Common.{ℕ, ◌+◌, ◌/◌, ◌≡◌, ◌≤◌, ◌⊎◌, ⊎_elim, true, pos, ◌-ℤ◌, Some, List, [], ◌∷◌, length, slice_get, option_map, arith, sym, ap, subst, ◌∙◌}
use Rattle.std.specs.Option.{option_map_or, option_and_then}
use Rattle.std.proofs.lemmas.Bool.Decides.{nat_tests}
use Rattle.std.proofs.lemmas.Option.{slice_get_within}
use Rattle.osc_word.specs.declared.calls.Fault.TheVariants as fault
use Rattle.osc_word.specs.declared.steps.Label.{Label}
use Rattle.osc_space.specs.declared.ObjectFact.{ObjectFact}
use Rattle.osc_space.specs.Space.{Space}
use Rattle.osc_space.specs.Objects.{AreGranted, fact, has_page}
use Rattle.osc_space.proofs.ObjectLawProofs.{looks_find_objects}
use Rattle.osc_calls.specs.declared.Place.TheVariants as place
use Rattle.osc_calls.specs.declared.Report.{Report}
use Rattle.osc_calls.specs.Kernel.{KernelState, Process, process_at}
use Rattle.osc_calls.specs.Reports.{offset_of, object_place, seen_place, fault_place, report_of}
use Rattle.osc_machine.specs.Parts.{State}
use Rattle.osc_machine.specs.Step.{step}
use Rattle.osc_machine.specs.Run.{Ran, with_step, at}
use Rattle.osc_machine.specs.Laws.{HasKernel}
use Rattle.osc_machine.specs.Views.{reports_of}
use Rattle.osc_machine.specs.DeadPages.{Grave, Past, no_past, pasts_from, past_after, is_page_of, grave_in, dead_at, waiting_at}
use Rattle.osc_machine.specs.Safe.{state_at, trace_at, fact_of, Reports, NamesGrave}
use Rattle.osc_machine.specs.Start.{start_of}
use Rattle.osc_machine.proofs.KernelLaws.{kernel_seen}
use Rattle.osc_safe.specs.Standing.{FitsSome}
use Rattle.osc_safe.specs.Telling.{WasBuried, PastFits, said_by, KernelTold}
use Rattle.osc_safe.specs.Naming.{RunsReport}
use Rattle.osc_safe.proofs.KernelRows.{kernels_step}
use Rattle.osc_safe.proofs.PastLabels.{found}
use Rattle.osc_safe.proofs.Tells.{added-cases}
use Rattle.osc_safe.proofs.TellingRuns.{Known}
use Rattle.osc_safe.proofs.FreshGrants.{process-granted}
use Rattle.osc_safe.proofs.ReportRows.{ReportStep, NoneMade, OneMade, step-reports}
use Rattle.osc_safe.proofs.Moments.{further, known-at}

-- ---- the kernel that a state shows
reports-are : (s : State) (k : KernelState) → HasKernel s k → reports_of s ≡ k.reports
reports-are s k has = ap (λ o. option_map_or (λ (z : KernelState). z.reports) o []) (kernel_seen s k has)

fact-is : (s : State) (k : KernelState) (pid object : ℕ) (p : Process) → HasKernel s k → process_at k pid ≡ Some p → fact_of s pid object ≡ fact p.space.objects object
fact-is s k pid object p has e =
    ap (λ o. option_and_then (λ (z : Space). fact z.objects object) (option_map (λ (z : Process). z.space) (option_and_then (λ (z : KernelState). process_at z pid) o))) (kernel_seen s k has)
    ∙ ap (λ o. option_and_then (λ (z : Space). fact z.objects object) (option_map (λ (z : Process). z.space) o)) e

-- ---- whose page it is
-- the place of an address on the page of a grave
record Names (objects : List ObjectFact) (address : ℕ) (g : Grave) : Type 0 where
  o : ObjectFact
  is : fact objects g.shadow.object ≡ Some o
  names : fault_place objects (fault.Access 0 address) ≡ place.Dead g.shadow.object (pos address -ℤ pos o.user) g.call

grave-names : (objects : List ObjectFact) (said address : ℕ) (g : Grave) → AreGranted objects → WasBuried objects said g → is_page_of (address / 4096) g.shadow ≡ true → Names objects address g
grave-names objects said address g granted b has =
    let first = b.was.first in
    let pages = b.was.pages in
    let on : has_page (address / 4096) b.was.o ≡ true = grind (arith, nat_tests, has, first, pages) in
    let look = (looks_find_objects objects granted).by_page (address / 4096) (record { number = g.shadow.object; fact = b.was.o }) b.was.is on in
    record {
      o = b.was.o;
      is = b.was.is;
      names = ap (seen_place address) look ∙ ap (λ st. object_place g.shadow.object (offset_of address b.was.o) st) b.state;
    }

past-names : (s : Space) (said address : ℕ) (past : Past) (g : Grave) → AreGranted s.objects → PastFits s said past
    → (grave_in past.dead (address / 4096) ≡ Some g) ⊎ (grave_in past.waiting (address / 4096) ≡ Some g) → Names s.objects address g
past-names s said address past g granted f w = ⊎_elim
    (λ (e : grave_in past.dead (address / 4096) ≡ Some g). (let at = found (λ (x : Grave). is_page_of (address / 4096) x.shadow) past.dead g e in grave-names s.objects said address g granted (f.dead at.place g at.is) at.passes))
    (λ (e : grave_in past.waiting (address / 4096) ≡ Some g). (let at = found (λ (x : Grave). is_page_of (address / 4096) x.shadow) past.waiting g e in grave-names s.objects said address g granted (f.waiting at.place g at.is) at.passes))
    w

-- ---- the step
abbrev Marked : List Label → ℕ → ℕ → Grave → Type 0
Marked trace pid address g = (dead_at trace pid (address / 4096) ≡ Some g) ⊎ (waiting_at trace pid (address / 4096) ≡ Some g)

made-names : (ran : Ran) (s : State) (old new : KernelState) (cause address n : ℕ) (report : Report) (g : Grave) → FitsSome old → KernelTold (pasts_from (no_past ∷ []) ran.trace) old → HasKernel s new → ReportStep old new
    → length old.reports ≤ n → slice_get new.reports n ≡ Some report → report.fault ≡ fault.Access cause address → Marked ran.trace report.pid address g → NamesGrave s report address g
made-names ran s old new cause address n report g fits told has (NoneMade e) l there is marked =
    absurd (let w = slice_get_within old.reports n report (ap (λ (xs : List Report). slice_get xs n) (sym e) ∙ there) in let b : ⊥ = omega (arith, l, w) in b)
made-names ran s old new cause address n report g fits told has (OneMade c p cause_of runs e f r) l there is marked =
    ⊎_elim
    (λ (q : slice_get old.reports n ≡ Some report). absurd (let w = slice_get_within old.reports n report q in let b : ⊥ = omega (arith, l, w) in b))
    (λ (q : (n ≡ length old.reports) × (report_of c.pid c.hart p.space.objects cause_of ≡ report)). made q.1)
    (added-cases old.reports (report_of c.pid c.hart p.space.objects cause_of) n report (ap (λ (xs : List Report). slice_get xs n) (sym r) ∙ there))
  where
    made : report_of c.pid c.hart p.space.objects cause_of ≡ report → NamesGrave s report address g
    made own =
        let pid : c.pid ≡ report.pid = ap (λ (z : Report). z.pid) own in
        let cause_is : cause_of ≡ fault.Access cause address = ap (λ (z : Report). z.fault) own ∙ is in
        let granted = process-granted fits.words old c.pid p fits.fits e (fits.fits.records.lives c.hart c.pid c.thread runs) in
        let names = past-names p.space (said_by c.pid old.under_way (length p.space.objects)) address (past_after ran.trace c.pid) g granted (told.each c.pid p e) (subst (λ z. Marked ran.trace z address g) (sym pid) marked) in
        record {
          o = names.o;
          is_object = ap (λ z. fact_of s z g.shadow.object) (sym pid) ∙ fact-is s new c.pid g.shadow.object p has f ∙ names.is;
          names = ap (λ (z : Report). z.place) (sym own) ∙ ap (fault_place p.space.objects) cause_is ∙ names.names;
        }

known-names : (ran : Ran) (x cause address n : ℕ) (report : Report) (g : Grave) → Known ran → length (reports_of ran.state) ≤ n → slice_get (reports_of (step ran.state x).state) n ≡ Some report
    → report.fault ≡ fault.Access cause address → Marked ran.trace report.pid address g → NamesGrave (step ran.state x).state report address g
known-names ran x cause address n report g k l at is marked =
    let w = kernels_step ran.state x k.kernel k.both.holds k.both.stands k.has in
    made-names ran (step ran.state x).state k.kernel w.next cause address n report g w.fits k.told w.has (step-reports k.kernel w.next (step ran.state x).shows w.fits w.goes)
    (subst (λ (rs : List Report). length rs ≤ n) (reports-are ran.state k.kernel k.has) l)
    (ap (λ (rs : List Report). slice_get rs n) (sym (reports-are (step ran.state x).state w.next w.has)) ∙ at) is marked

moment-names : (start : State) (picks : List ℕ) (i cause address : ℕ) (report : Report) (g : Grave) → Known (at start picks i) → Reports start picks i report → report.fault ≡ fault.Access cause address
    → Marked (trace_at start picks i) report.pid address g → NamesGrave (state_at start picks (i + 1)) report address g
moment-names start picks i cause address report g k made is marked = ⊎_elim
    (λ (same : at start picks (i + 1) ≡ at start picks i).
    absurd (let l = made.1 in let w = slice_get_within (reports_of (state_at start picks (i + 1))) made.0 report made.2 in
    let e : length (reports_of (state_at start picks (i + 1))) ≡ length (reports_of (state_at start picks i)) = ap (λ (z : Ran). length (reports_of z.state)) same in let b : ⊥ = omega (arith, l, w, e) in b))
    (λ (next : (x : ℕ) × (slice_get picks i ≡ Some x) × (at start picks (i + 1) ≡ with_step (at start picks i) (step (state_at start picks i) x))).
    subst (λ (z : Ran). NamesGrave z.state report address g) (sym next.2)
    (known-names (at start picks i) next.0 cause address made.0 report g k made.1
    (ap (λ (z : Ran). slice_get (reports_of z.state) made.0) (sym next.2) ∙ made.2) is marked))
    (further start picks i)

pub runs_report : RunsReport
runs_report file image config picks fit is_image room i cause address report grave made is marked =
    moment-names (start_of image config) picks i cause address report grave (known-at file image config picks fit is_image room i) made is marked
