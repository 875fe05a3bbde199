-- No write reads a page that is dead or waits.
use Rattle.std.proofs.Common.{ℕ, suc, ◌+◌, ◌/◌, ◌%◌, ◌^◌, ◌≡◌, ◌<◌, ◌≤◌, ⊎_elim, Bool, true, false, cond, is_none, Option, Some, None, List, [], ◌∷◌, slice_get, arith, refl, sym, ap, subst, ◌∙◌}
use Rattle.std.proofs.Math.Nat.{mod-eq_of_lt}
use Rattle.std.proofs.lemmas.Bool.Decides.{nat_tests}
use Rattle.osc_word.specs.declared.settings.HeapKind.{HeapKind}
use Rattle.osc_word.specs.declared.settings.HeapKind.TheVariants.{Oscar, Plain}
use Rattle.osc_word.specs.declared.steps.Access.TheVariants.{Load}
use Rattle.osc_word.specs.declared.steps.Label.TheVariants.{Touched}
use Rattle.osc_sv39.specs.Walk.{is_canonical}
use Rattle.osc_paging.specs.KeptTables.{KeptTables, levels_of, mapping_at, mapping_of}
use Rattle.osc_space.specs.declared.ObjectFact.{ObjectFact}
use Rattle.osc_slot.specs.declared.Block.{Block}
use Rattle.osc_slot.specs.Heap.{release}
use Rattle.osc_space.specs.Space.{Closing, Keeps, GivesBack, Draft, with_heap}
use Rattle.osc_space.specs.Objects.{AreGranted, fact}
use Rattle.osc_space.specs.Agree.{HeapAgrees}
use Rattle.osc_space.specs.Finish.{give_blocks, finished}
use Rattle.osc_space.proofs.ObjectLawProofs.{pages_are_granted_once}
use Rattle.osc_parts.proofs.MallocParts.{high_enough}
use Rattle.osc_calls.specs.Kernel.{KernelState, Process, Returning, process_at}
use Rattle.osc_calls.proofs.ObjectLawProofs.{finished-same}
use Rattle.osc_settled.specs.Memory.{at_rest}
use Rattle.osc_settled.specs.Records.{is_living}
use Rattle.osc_settled.specs.UnderWay.{closing_of, UnderWayFits}
use Rattle.osc_settled.specs.KernelFits.{KernelFits}
use Rattle.osc_machine.specs.DeadPages.{Grave, is_page_of, grave_in, past_after}
use Rattle.osc_machine.specs.Run.{run}
use Rattle.osc_machine.specs.Start.{start_of}
use Rattle.osc_safe.specs.Telling.{WasBuried, said_by}
use Rattle.osc_safe.proofs.PastLabels.{found}
use Rattle.osc_safe.proofs.KernelRows.{fits-of}
use Rattle.osc_safe.proofs.StandingRuns.{first_ran}
use Rattle.osc_safe.proofs.TellingRuns.{known-on, first-known, runs_tell}
use Rattle.osc_safe.proofs.FreshGrants.{process-granted}
use Rattle.osc_safe.proofs.UnmappedRuns.{runs_unmap}
use Rattle.osc_written.specs.Graves.{RunsReachNoGrave}
use Rattle.osc_written.proofs.WrittenRuns.{runs_write}
use Rattle.osc_written.proofs.WrittenShows.{jobs_show_mapped}

-- ---- shadow pages have low numbers
-- a page of an object of a process
record PageOf (objects : List ObjectFact) (page : ℕ) : Type 0 where
  object : ℕ
  o : ObjectFact
  is : fact objects object ≡ Some o
  below : page < o.first + o.pages

buried-page : (objects : List ObjectFact) (said page : ℕ) (g : Grave) → WasBuried objects said g → is_page_of page g.shadow ≡ true → PageOf objects page
buried-page objects said page g b has =
    let first = b.was.first in
    let pages = b.was.pages in
    record { object = g.shadow.object; o = b.was.o; is = b.was.is; below = (let q : page < b.was.o.first + b.was.o.pages = grind (arith, nat_tests, has, first, pages) in q) }

no-object : (objects : List ObjectFact) (i : ℕ) (o : ObjectFact) → objects ≡ [] → fact objects i ≡ Some o → ⊥
no-object objects i o e f = (let g : fact [] i ≡ Some o = ap (λ (xs : List ObjectFact). slice_get xs i) (sym e) ∙ f in grind (arith, g))

page-low : (kind : HeapKind) (words : List ℕ) (k : KernelState) (pid page : ℕ) (p : Process) → k.config.heap ≡ kind → KernelFits words k → process_at k pid ≡ Some p → p.status ≡ None → AreGranted p.space.objects
    → PageOf p.space.objects page → page < 0x2000000
unfolding finished
page-low Oscar words k pid page p kind fits e lives granted b =
    let closing = closing_of k.under_way pid in
    let parts = (fits.memory.spaces pid p e lives).returns.parts in
    let after = (finished closing (at_rest p.space k.free)).space in
    let heap = subst (λ z. HeapAgrees z after) kind parts.agrees.heap in
    let same = finished-same closing (at_rest p.space k.free) in
    let once = (pages_are_granted_once after.objects (subst AreGranted (sym same) granted)).within b.object b.o (ap (λ (xs : List ObjectFact). slice_get xs b.object) same ∙ b.is) in
    let high = once.1 in
    let limit = heap.limit in
    let range = parts.shadows in
    let below = b.below in
    omega (arith, high, limit, range, below)
page-low Plain words k pid page p kind fits e lives granted b =
    let closing = closing_of k.under_way pid in
    let parts = (fits.memory.spaces pid p e lives).returns.parts in
    let heap = subst (λ z. HeapAgrees z (finished closing (at_rest p.space k.free)).space) kind parts.agrees.heap in
    absurd (no-object p.space.objects b.object b.o (sym (finished-same closing (at_rest p.space k.free)) ∙ heap.objects) b.is)

-- a page with a low number that is not mapped has no mapping
low-unmapped : (t : KeptTables) (page : ℕ) → 2 ≤ t.top → page < 0x2000000 → mapping_at t.pages page ≡ None → mapping_of t page ≡ None
low-unmapped t page levels low none = go (is_canonical (levels_of t) page)
  where
    number : page % 512 ^ suc t.top ≡ page
    number = let h = high_enough t.top levels in mod-eq_of_lt (omega (arith, low, h))

    go : (b : Bool) → cond b (mapping_at t.pages (page % 512 ^ suc t.top)) None ≡ None
    go true = ap (mapping_at t.pages) number ∙ none
    go false = refl

-- ---- the levels of a process that lives
blocks-tops : (closing : Closing) (d : Draft) → (finished closing d).space.tables.top ≡ d.space.tables.top
unfolding finished
blocks-tops Keeps d = refl
blocks-tops (GivesBack blocks) d = ap (λ (t : KeptTables). t.top) (given blocks d)
  where
    given : (blocks : List Block) (d : Draft) → (give_blocks blocks d).space.tables ≡ d.space.tables
    given [] d = refl
    given (block ∷ blocks) d = given blocks (with_heap (release d.space.heap block d.free) d)

has-levels : (words : List ℕ) (k : KernelState) (pid : ℕ) (p : Process) → KernelFits words k → process_at k pid ≡ Some p → p.status ≡ None → 2 ≤ p.space.tables.top
has-levels words k pid p fits e lives =
    let parts = (fits.memory.spaces pid p e lives).returns.parts in
    subst (λ z. 2 ≤ z) (blocks-tops (closing_of k.under_way pid) (at_rest p.space k.free)) parts.levels

-- ---- runs
there : (o : Option Process) → is_living o ≡ true → (p : Process) × (o ≡ Some p) × (p.status ≡ None)
there None e = absurd (let b : ⊥ = grind (arith, e) in b)
there (Some p) e = (p, refl, none p.status e)
  where
    none : (s : Option ℕ) → is_none s ≡ true → s ≡ None
    none None e = refl
    none (Some status) e = absurd (let b : ⊥ = grind (arith, e) in b)

pub runs_reach_no_grave : RunsReachNoGrave
runs_reach_no_grave file image config picks k fit is_image room has word place pid hart address width kind done grave shown graves =
    let ran = run (start_of image config) picks in
    let known = known-on picks (first_ran image config) (first-known file image config fit is_image room) in
    let fits = fits-of ran.state k known.both.stands has in
    let m = jobs_show_mapped k word place (Touched pid hart address width kind done) (runs_write file image config picks k fit is_image room has) shown in
    let is : Touched pid hart address width kind done ≡ Touched m.done.calling.pid m.done.calling.hart m.address m.width Load true = m.is in
    let pid_is : pid ≡ m.done.calling.pid = cc in
    let address_is : address ≡ m.address = cc in
    let r : UnderWayFits k (Returning m.done) = subst (UnderWayFits k) m.returning fits.fits.under_way in
    let p = there (process_at k m.done.calling.pid) r.lives in
    let here : process_at k pid ≡ Some p.0 = ap (process_at k) pid_is ∙ p.1 in
    let unmaps = runs_unmap file image config picks k fit is_image room has in
    let none = unmaps.unmapped pid (address / 4096) p.0 grave here p.2 graves in
    let told = runs_tell file image config picks fit is_image room k has in
    let f = told.each pid p.0 here in
    let page_of = (λ (page : ℕ) (x : Grave). is_page_of page x.shadow) in
    let page : PageOf p.0.space.objects (address / 4096) = ⊎_elim
    (λ (d : grave_in (past_after ran.trace pid).dead (address / 4096) ≡ Some grave). (let at = found (page_of (address / 4096)) (past_after ran.trace pid).dead grave d in
    buried-page p.0.space.objects (said_by pid k.under_way _) (address / 4096) grave (f.dead at.place grave at.is) at.passes))
    (λ (d : grave_in (past_after ran.trace pid).waiting (address / 4096) ≡ Some grave). (let at = found (page_of (address / 4096)) (past_after ran.trace pid).waiting grave d in
    buried-page p.0.space.objects (said_by pid k.under_way _) (address / 4096) grave (f.waiting at.place grave at.is) at.passes))
    graves in
    let living : is_living (process_at k pid) ≡ true = ap (λ z. is_living (process_at k z)) pid_is ∙ r.lives in
    let low = page-low k.config.heap fits.words k pid (address / 4096) p.0 refl fits.fits here p.2 (process-granted fits.words k pid p.0 fits.fits here living) page in
    let unmapped = low-unmapped p.0.space.tables (address / 4096) (has-levels fits.words k pid p.0 fits.fits here p.2) low none in
    m.mapped p.0 p.1 (subst (λ z. mapping_of p.0.space.tables (z / 4096) ≡ None) address_is unmapped)
