-- While a hart is in an instruction nothing is copied into a table.
use Rattle.std.proofs.Common.{ℕ, suc, ◌+◌, ◌≡◌, ◌≢◌, ◌≤◌, ◌<◌, ◌==◌, ◌⊎◌, ⊎_elim, if◌then◌else◌, Bool, true, false, Option, Some, None, is_some, List, [], ◌∷◌, ◌++◌, length, slice_get, arith, refl, sym, ap, subst, ◌∙◌}
use Rattle.std.specs.Option.{option_to_list}
use Rattle.std.proofs.lemmas.Bool.Decides.{nat_tests}
use Rattle.std.proofs.lemmas.Option.{slice_get_within}
use Rattle.osc_word.specs.declared.calls.Call.{Call}
use Rattle.osc_word.specs.declared.calls.Call.TheVariants as calls
use Rattle.osc_word.specs.declared.job_list.Job.{Job}
use Rattle.osc_word.specs.declared.job_list.Job.TheVariants.{Tell}
use Rattle.osc_paging.specs.KeptTables.{KeptTables}
use Rattle.osc_paging.specs.Boxes.{BoxState}
use Rattle.osc_guest.specs.declared.places.Place.{Place}
use Rattle.osc_guest.specs.declared.places.Place.TheVariants as at
use Rattle.osc_guest.specs.Hands.{holds_box}
use Rattle.osc_calls.specs.Kernel.{KernelState, Committed, Returning as CallReturning}
use Rattle.osc_calls.specs.Moves.{Move}
use Rattle.osc_calls.specs.Requests.{meant}
use Rattle.osc_machine.specs.Parts.{CallPlace, Outside, TakingBoxes, FirstWord, SecondWord, Working, GivingBoxes, Returning, HartState, State}
use Rattle.osc_machine.specs.Step.{box_at}
use Rattle.osc_machine.specs.Laws.{is_in_call, kernels_held, HasKernel}
use Rattle.osc_safe.specs.Holding.{one_if, own_hand, hands, holds_for_call, is_asking, HoldsAt, Holds}
use Rattle.osc_safe.specs.Holders.{OneHas}
use Rattle.osc_safe.specs.Standing.{FitsSome, StandsAt}
use Rattle.osc_safe.proofs.HoldersLaws.{one_holds}
use Rattle.osc_safe.proofs.KernelRows.{fits-of}
use Rattle.osc_caches.specs.HeapShows.{is_heap_call}
use Rattle.osc_caches.specs.Stores.{AllCopyElsewhere, CopiesFit}
use Rattle.osc_caches.specs.Working.{ShowsAt}
use Rattle.osc_caches.proofs.Copies.{heap_calls_copy}
use Rattle.osc_relying.specs.Shut.{goes_beside}
use Rattle.osc_stored.specs.Beside.{AllTell}
use Rattle.osc_stored.specs.Stored.{QuietCopies}
use Rattle.osc_stored.proofs.BesideSteps.{quiet-jobs, waiting-jobs}

-- ---- where the kernel is
in-hands : (P : Type 0) (harts : List HartState) (k : KernelState) → kernels_held harts ≡ k ∷ [] → ((m : ℕ) (h : HartState) → slice_get harts m ≡ Some h → h.kernel ≡ Some k → P) → P
in-hands P [] k e found = absurd (let b : ⊥ = grind (arith, e) in b)
in-hands P (y ∷ harts) k e found = go y.kernel refl e (λ one. in-hands P harts k one (λ m h here ke. found (suc m) h here ke))
  where
    go : (o : Option KernelState) → y.kernel ≡ o → option_to_list o ++ kernels_held harts ≡ k ∷ [] → (kernels_held harts ≡ k ∷ [] → P) → P
    go None f one later = later one
    go (Some own) f one later = found 0 y refl (f ∙ ap Some (let same : own ≡ k = grind (arith, one) in same))

wherever : (P : Type 0) (s : State) (k : KernelState) → HasKernel s k → (s.kernel ≡ Some k → P) → ((m : ℕ) (h : HartState) → slice_get s.harts m ≡ Some h → h.kernel ≡ Some k → P) → P
wherever P s k has home hand = go s.kernel refl has.one
  where
    go : (o : Option KernelState) → s.kernel ≡ o → option_to_list o ++ kernels_held s.harts ≡ k ∷ [] → P
    go None f one = in-hands P s.harts k one hand
    go (Some own) f one = home (f ∙ ap Some (let same : own ≡ k = grind (arith, one) in same))

-- ---- a box is in one hand
zero-not : (x : ℕ) → x ≡ 0 → 1 ≤ x → ⊥
zero-not x e l = omega (arith, e, l)

not-two : (hand : HartState → ℕ) (harts : List HartState) (n m : ℕ) (h g : HartState) → OneHas hand harts → n ≢ m → slice_get harts n ≡ Some h → slice_get harts m ≡ Some g → 1 ≤ hand h → 1 ≤ hand g → ⊥
not-two hand harts n m h g one apart here there a b = go (n == one.n) refl
  where
    go : (c : Bool) → (n == one.n) ≡ c → ⊥
    go true q =
        let same : n ≡ one.n = grind (arith, nat_tests, q) in zero-not (hand g) (one.others m g there (λ z. apart (same ∙ sym z))) b
    go false q = zero-not (hand h) (one.others n h here (λ z. let x : ⊥ = grind (arith, nat_tests, q, z) in x)) a

two-hands : (s : State) (box n m : ℕ) (h g : HartState) → Holds s → box < length s.boxes → n ≢ m → slice_get s.harts n ≡ Some h → slice_get s.harts m ≡ Some g → 1 ≤ hands box h → 1 ≤ hands box g → ⊥
two-hands s box n m h g holds l apart here there a b = go (box_at s box) refl
  where
    go : (o : Option BoxState) → box_at s box ≡ o → ⊥
    go (Some state) e = zero-not (hands box h) (one_holds.home s box n state h holds l e here) a
    go None e = not-two (hands box) s.harts n m h g (one_holds.away s box holds l e) apart here there a b

more-first : (x y : ℕ) → x ≡ 1 → 1 ≤ x + y
more-first x y e = omega (arith, e)

more-second : (x y : ℕ) → y ≡ 1 → 1 ≤ x + y
more-second x y e = omega (arith, e)

own-hand : (n : ℕ) (h : HartState) → h.number ≡ n → is_some h.user.held ≡ true → 1 ≤ hands n h
own-hand n h e f =
    let mine : (h.number == n) ≡ true = grind (arith, nat_tests, e) in
    more-first (own_hand n h) (one_if (holds_for_call h n)) (ap (λ b. if b then one_if (is_some h.user.held) else 0) mine ∙ ap one_if f)

call-hand : (n : ℕ) (g : HartState) → holds_for_call g n ≡ true → 1 ≤ hands n g
call-hand n g e = more-second (own_hand n g) (one_if (holds_for_call g n)) (ap one_if e)

not-asking : (p : Place) → holds_box p ≡ true → is_asking p ≡ true → ⊥
not-asking (at.Call asked) e f = grind (arith, e)
not-asking at.Run e f = grind (arith, e)
not-asking at.Idle e f = grind (arith, e)
not-asking (at.Walk access level table) e f = grind (arith, f)
not-asking (at.Access access frame stage) e f = grind (arith, f)
not-asking (at.OpenGate frame version) e f = grind (arith, f)
not-asking (at.GiveBox follows) e f = grind (arith, f)
not-asking at.Rest e f = grind (arith, e)

-- ---- jobs
tells-nowhere : (t : KeptTables) (jobs : List Job) → AllTell jobs → AllCopyElsewhere t jobs
tells-nowhere t [] a = tt
tells-nowhere t (Tell hart ∷ jobs) a = (tt, tells-nowhere t jobs a.1)
tells-nowhere t (job ∷ jobs) a = absurd (let q = a.0 in let b : ⊥ = grind (arith, q) in b)

no-copies : (k : KernelState) → k.jobs ≡ [] → CopiesFit k
no-copies k e pid p here lives = subst (AllCopyElsewhere p.space.tables) (sym e) tt

-- ---- the law
pub quiet_copies : QuietCopies
quiet_copies s n h k holds stands has r beside here holding =
    wherever (CopiesFit k) s k has (λ e. (let a = stands.home k e in no-copies k (quiet-jobs k fits a.quiet)))
    (λ m g there ke. by-place m g there ke g.place refl (stands.hand m g there k ke).stands)
  where
    fits : FitsSome k
    fits = fits-of s k stands has

    -- a hart that holds all boxes holds that of the instruction too
    not-shut : (m : ℕ) (g : HartState) (moves : List Move) (read : Option ℕ) → slice_get s.harts m ≡ Some g → g.place ≡ Working moves read → holds_for_call g 0 ≡ true → ⊥
    not-shut m g moves read there pl all =
        let own = holds.hart n h here in
        let other = holds.hart m g there in
        let held : HoldsAt (Working moves read) (length s.harts) (holds_for_call g) = subst (λ p. HoldsAt p (length s.harts) (holds_for_call g)) pl other.boxes in
        let inside : n < length s.harts = slice_get_within s.harts n h here in
        let asks : is_asking g.user.place ≡ true = other.asking (ap is_in_call pl) in
        two-hands s n n m h g holds (subst (λ c. n < c) (sym holds.room) inside)
        (λ same. (let one : h ≡ g = (let q : Some h ≡ Some g = sym here ∙ ap (slice_get s.harts) same ∙ there in cc) in
        not-asking g.user.place (subst (λ (z : HartState). holds_box z.user.place ≡ true) one holding) asks))
        here there (own-hand n h own.number (own.own ∙ holding)) (call-hand n g (held n inside ∙ all))

    heap-copies : (done : Committed) (m : ℕ) (g : HartState) (moves : List Move) (read : Option ℕ) → k.under_way ≡ CallReturning done → slice_get s.harts m ≡ Some g → g.kernel ≡ Some k → g.place ≡ Working moves read
        → is_heap_call (meant done.calling.call) ≡ true → CopiesFit k
    heap-copies done m g moves read u there ke pl c =
        let shows : ShowsAt (Working moves read) k done.calling.pid s.words = subst (λ p. ShowsAt p k done.calling.pid s.words) pl (r.shows m g there k done ke u c) in
        heap_calls_copy fits.words s.words k done fits.fits u (beside.heap done u c) shows.now

    beside-copies : (done : Committed) (m : ℕ) (g : HartState) (moves : List Move) (read : Option ℕ) → k.under_way ≡ CallReturning done → slice_get s.harts m ≡ Some g → g.kernel ≡ Some k → g.place ≡ Working moves read
        → (call : Call) → meant done.calling.call ≡ call → goes_beside call ≡ true → CopiesFit k
    beside-copies done m g moves read u there ke pl (calls.Spawn pc sp arg) e b = λ pid p is lives. tells-nowhere p.space.tables k.jobs (beside.spawn done pc sp arg u e)
    beside-copies done m g moves read u there ke pl (calls.Malloc size) e b = heap-copies done m g moves read u there ke pl (ap is_heap_call e)
    beside-copies done m g moves read u there ke pl (calls.Free pointer) e b = heap-copies done m g moves read u there ke pl (ap is_heap_call e)
    beside-copies done m g moves read u there ke pl (calls.Realloc pointer size) e b = heap-copies done m g moves read u there ke pl (ap is_heap_call e)
    beside-copies done m g moves read u there ke pl call e b = absurd (let z : ⊥ = grind (arith, b) in z)

    by-place : (m : ℕ) (g : HartState) → slice_get s.harts m ≡ Some g → g.kernel ≡ Some k → (place : CallPlace) → g.place ≡ place → StandsAt place k → CopiesFit k
    by-place m g there ke Outside e st = absurd st
    by-place m g there ke (TakingBoxes box) e st = no-copies k (waiting-jobs k st.0 fits st.1)
    by-place m g there ke (FirstWord first second) e st = no-copies k (waiting-jobs k st.0 fits st.1)
    by-place m g there ke (SecondWord found second) e st = no-copies k (waiting-jobs k st.0 fits st.1)
    by-place m g there ke (Working moves read) e st =
        let done = st.0.0 in
        let u = st.0.1 in
        ⊎_elim (λ (none : k.jobs ≡ []). no-copies k none)
        (λ (more : (goes_beside (meant done.calling.call) ≡ true) ⊎ (holds_for_call g 0 ≡ true)).
        ⊎_elim (λ (b : goes_beside (meant done.calling.call) ≡ true). beside-copies done m g moves read u there ke e (meant done.calling.call) refl b)
        (λ (all : holds_for_call g 0 ≡ true). absurd (not-shut m g moves read there e all)) more)
        (r.shut m g there k done ke u)
    by-place m g there ke (GivingBoxes box) e st = no-copies k st.1
    by-place m g there ke (Returning return) e st = no-copies k st.1
