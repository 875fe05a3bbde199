-- A page that is dead or waits is not mapped.
use Rattle.std.proofs.Common.{ℕ, suc, ◌+◌, ◌≡◌, ◌≢◌, ◌≤◌, ◌==◌, ◌&&◌, ⊎_elim, Bool, true, false, is_none, is_some, Option, Some, None, List, [], ◌∷◌, slice_get, arith, refl, sym, ap, subst, ◌∙◌}
use Rattle.std.specs.List.{list_any}
use Rattle.std.proofs.lemmas.Bool.Decides.{nat_tests}
use Rattle.osc_word.specs.declared.settings.HeapKind.{HeapKind}
use Rattle.osc_word.specs.declared.settings.HeapKind.TheVariants.{Oscar, Plain}
use Rattle.osc_word.specs.AddressMap.{is_shadow, first_shadow_page}
use Rattle.osc_sv39.specs.declared.entries.Mapping.{Mapping}
use Rattle.osc_paging.specs.KeptTables.{mapping_at}
use Rattle.osc_space.specs.declared.ObjectFact.{ObjectFact}
use Rattle.osc_space.specs.Space.{Space}
use Rattle.osc_space.specs.Objects.{AreGranted, fact, has_page, is_live, is_live_state, is_live_page, mark}
use Rattle.osc_space.specs.Agree.{is_waiting, HeapAgrees}
use Rattle.osc_space.specs.Finish.{finished}
use Rattle.osc_space.proofs.ObjectLawProofs.{pages_are_granted_once}
use Rattle.osc_parts.proofs.Killing.{one_owner}
use Rattle.osc_calls.specs.Kernel.{KernelState, Process, process_at}
use Rattle.osc_calls.proofs.ObjectLawProofs.{finished-same}
use Rattle.osc_settled.specs.Memory.{at_rest}
use Rattle.osc_settled.specs.Records.{is_living}
use Rattle.osc_settled.specs.UnderWay.{closing_of}
use Rattle.osc_settled.specs.KernelFits.{KernelFits}
use Rattle.osc_settled.proofs.Shadows.{shadows_follow}
use Rattle.osc_machine.specs.DeadPages.{Grave, is_page_of, grave_in, past_after}
use Rattle.osc_machine.specs.Run.{run}
use Rattle.osc_machine.specs.Start.{start_of}
use Rattle.osc_safe.specs.Telling.{WasBuried, said_by}
use Rattle.osc_safe.specs.DeadUnmapped.{RunsUnmap}
use Rattle.osc_safe.proofs.PastLabels.{found}
use Rattle.osc_safe.proofs.KernelRows.{fits-of}
use Rattle.osc_safe.proofs.StandingRuns.{first_ran}
use Rattle.osc_safe.proofs.TellingRuns.{known-on, first-known, runs_tell}
use Rattle.osc_safe.proofs.FreshGrants.{process-granted}

-- ---- the object of a grave
record Buried (s : Space) (page : ℕ) (g : Grave) : Type 0 where
  o : ObjectFact
  is : fact s.objects g.shadow.object ≡ Some o
  has : has_page page o ≡ true
  dead : is_live o ≡ false

buried-on : (s : Space) (said page : ℕ) (g : Grave) → WasBuried s.objects said g → is_page_of page g.shadow ≡ true → Buried s page g
buried-on s said page g b has =
    let first = b.was.first in
    let pages = b.was.pages in record {
      o = b.was.o;
      is = b.was.is;
      has = grind (arith, nat_tests, has, first, pages);
      dead = ap is_live_state b.state;
    }

-- none lives that has the page
any-none : (f : ObjectFact → Bool) (xs : List ObjectFact) → ((i : ℕ) (x : ObjectFact) → slice_get xs i ≡ Some x → f x ≡ false) → list_any f xs ≡ false
any-none f [] all = refl
any-none f (x ∷ xs) all = let a = all 0 x refl in let b = any-none f xs (λ i y e. all (suc i) y e) in grind (arith, a, b)

unowned : (s : Space) (page : ℕ) (g : Grave) → AreGranted s.objects → Buried s page g → is_live_page s.objects page ≡ false
unowned s page g granted b = any-none (λ o. is_live o && has_page page o) s.objects (λ i x e. go i x e (i == g.shadow.object) refl)
  where
    go : (i : ℕ) (x : ObjectFact) → slice_get s.objects i ≡ Some x → (t : Bool) → (i == g.shadow.object) ≡ t → (is_live x && has_page page x) ≡ false
    go i x e true d =
        let same : i ≡ g.shadow.object = grind (arith, nat_tests, d) in
        let is = b.is in
        let own : x ≡ b.o = grind (arith, is, e, same) in
        let dead : is_live x ≡ false = ap is_live own ∙ b.dead in grind (arith, dead)
    go i x e false d =
        let differs : i ≢ g.shadow.object = (λ q. (let z : ⊥ = grind (arith, nat_tests, d, q) in z)) in
        let none = one_owner s.objects g.shadow.object i page b.o x granted b.is e differs b.has in grind (arith, none)

-- ---- its page is one of the shadows
record Shadowed (s : Space) : Type 0 where
  limit : mark s.objects ≤ s.shadows
  range : first_shadow_page + s.shadows ≤ 0x2000000

in-shadows : (s : Space) (page object : ℕ) (o : ObjectFact) → AreGranted s.objects → Shadowed s → fact s.objects object ≡ Some o → has_page page o ≡ true → is_shadow page ≡ true
in-shadows s page object o granted w is has =
    let once = (pages_are_granted_once s.objects granted).within object o is in
    let low = once.0 in
    let high = once.1 in
    let limit = w.limit in
    let range = w.range in
    grind (arith, nat_tests, low, high, limit, range, has)

no-mapping : (o : Option Mapping) → is_some o ≡ false → o ≡ None
no-mapping None e = refl
no-mapping (Some m) e = absurd (let b : ⊥ = grind (arith, e) in b)

same-none : (objects : List ObjectFact) (i : ℕ) (o : ObjectFact) → objects ≡ [] → fact objects i ≡ Some o → ⊥
same-none objects i o e f = (let g : fact [] i ≡ Some o = ap (λ (xs : List ObjectFact). slice_get xs i) (sym e) ∙ f in grind (arith, g))

unmapped-by : (kind : HeapKind) (words : List ℕ) (k : KernelState) (pid page : ℕ) (p : Process) (g : Grave) → k.config.heap ≡ kind → KernelFits words k → process_at k pid ≡ Some p → p.status ≡ None → AreGranted p.space.objects
    → Buried p.space page g → mapping_at p.space.tables.pages page ≡ None
unfolding finished
unmapped-by Oscar words k pid page p g kind fits e lives granted b =
    let follow = shadows_follow words k pid p fits kind e lives in
    let closing = closing_of k.under_way pid in
    let parts = (fits.memory.spaces pid p e lives).returns.parts in
    let after = (finished closing (at_rest p.space k.free)).space in
    let heap = subst (λ z. HeapAgrees z after) kind parts.agrees.heap in
    let same = finished-same closing (at_rest p.space k.free) in
    let shadow : is_shadow page ≡ true = in-shadows after page g.shadow.object b.o (subst AreGranted (sym same) granted) (record { limit = heap.limit; range = parts.shadows })
    (ap (λ (xs : List ObjectFact). slice_get xs g.shadow.object) same ∙ b.is) b.has in
    no-mapping (mapping_at p.space.tables.pages page) (follow.live page shadow ∙ unowned p.space page g granted b)
unmapped-by Plain words k pid page p g kind fits e lives granted b =
    let closing = closing_of k.under_way pid in
    let parts = (fits.memory.spaces pid p e lives).returns.parts in
    let heap = subst (λ z. HeapAgrees z (finished closing (at_rest p.space k.free)).space) kind parts.agrees.heap in
    absurd (same-none p.space.objects g.shadow.object b.o (sym (finished-same closing (at_rest p.space k.free)) ∙ heap.objects) b.is)

-- ---- runs
lives-on : (k : KernelState) (pid : ℕ) (p : Process) → process_at k pid ≡ Some p → p.status ≡ None → is_living (process_at k pid) ≡ true
lives-on k pid p e n = ap is_living e ∙ ap is_none n

pub runs_unmap : RunsUnmap
runs_unmap file image config picks k fit is_image room has =
    let known = known-on picks (first_ran image config) (first-known file image config fit is_image room) in
    let ran = run (start_of image config) picks in
    let fits = fits-of ran.state k known.both.stands has in
    let told = runs_tell file image config picks fit is_image room k has in
    let grants = (λ (pid : ℕ) (p : Process) (e : process_at k pid ≡ Some p) (n : p.status ≡ None). process-granted fits.words k pid p fits.fits e (lives-on k pid p e n)) in
    let page_of = (λ (page : ℕ) (x : Grave). is_page_of page x.shadow) in record {
      unmapped = λ pid page p g e n w. (let f = told.each pid p e in
          unmapped-by k.config.heap fits.words k pid page p g refl fits.fits e n (grants pid p e n)
          (⊎_elim
          (λ (d : grave_in (past_after ran.trace pid).dead page ≡ Some g). (let at = found (page_of page) (past_after ran.trace pid).dead g d in buried-on p.space (said_by pid k.under_way _) page g (f.dead at.place g at.is) at.passes))
          (λ (d : grave_in (past_after ran.trace pid).waiting page ≡ Some g). (let at = found (page_of page) (past_after ran.trace pid).waiting g d in buried-on p.space (said_by pid k.under_way _) page g (f.waiting at.place g at.is) at.passes))
          w));
      over = λ pid page object p g o e n d waits is. (let f = told.each pid p e in
          let at = found (page_of page) (past_after ran.trace pid).dead g d in
          let b = buried-on p.space (said_by pid k.under_way _) page g (f.dead at.place g at.is) at.passes in
          let none = f.over at.place g at.is in
          let differs : object ≢ g.shadow.object = (λ q. (let same = ap (is_waiting p.space) q in let z : ⊥ = grind (arith, same, none, waits) in z)) in
          one_owner p.space.objects g.shadow.object object page b.o o (grants pid p e n) b.is is differs b.has);
    }
