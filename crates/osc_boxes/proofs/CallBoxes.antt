-- Where the boxes come from in a step of a hart in a call.
use Rattle.std.proofs.Common.{ℕ, ◌+◌, ◌≡◌, ◌≢◌, ◌<◌, ◌≤◌, ◌==◌, ◌⊎◌, inl, inr, Bool, true, false, Option, Some, None, is_some, List, [], length, get_or, slice_get, slice_set, arith, refl, sym, ap, subst, ◌∙◌}
use Rattle.std.proofs.lemmas.Bool.Decides.{nat_tests}
use Rattle.std.proofs.lemmas.List.{length-set}
use Rattle.std.proofs.lemmas.Option.{slice_get_within}
use Rattle.osc_word.specs.declared.calls.Request.{Request}
use Rattle.osc_word.specs.declared.job_list.Job.{Job}
use Rattle.osc_word.specs.declared.job_list.Job.TheVariants.{PutWord, ZeroWords, CopyWords, CopyPart, CopyTable, ClearBox, Tell, ToOut}
use Rattle.osc_word.specs.declared.job_list.WordAt.{WordAt}
use Rattle.osc_paging.specs.Boxes.{BoxState, no_entries}
use Rattle.osc_guest.specs.declared.places.Place.TheVariants as at
use Rattle.osc_guest.specs.Told as heard
use Rattle.osc_guest.specs.Hands.{holds_box}
use Rattle.osc_space.specs.Header.{Found}
use Rattle.osc_calls.specs.declared.BoxChange.{BoxChange}
use Rattle.osc_calls.specs.declared.BoxChange.TheVariants.{Keep, Clear, Put}
use Rattle.osc_calls.specs.Kernel.{KernelState, Committed, Returning as CallReturning, next_job}
use Rattle.osc_calls.specs.Begin.{begin}
use Rattle.osc_calls.specs.Plan.{plan}
use Rattle.osc_calls.specs.Boxes.{box_change, changed}
use Rattle.osc_calls.specs.JobDone.{job_done}
use Rattle.osc_calls.specs.Finish.{finish}
use Rattle.osc_settled.proofs.Lists.{get-put_same, two_within}
use Rattle.osc_machine.specs.Parts.{CallPlace, Outside, TakingBoxes, FirstWord, SecondWord, Working, GivingBoxes, Returning, Return, HartState, State}
use Rattle.osc_machine.specs.Turns.{kernel_gone}
use Rattle.osc_machine.specs.Step.{box_at, with_box}
use Rattle.osc_machine.specs.Laws.{is_in_call}
use Rattle.osc_safe.specs.Holding.{hands, call_box, holds_for_call, HoldsAt, Holds}
use Rattle.osc_safe.specs.Standing.{IsFor, InHand as KernelInHand, Waits, is_decided, IsCommitted}
use Rattle.osc_safe.proofs.CallBoxes.{box-set, some-within}
use Rattle.osc_safe.proofs.HoldersLaws.{one_holds}
use Rattle.osc_safe.proofs.KernelRows.{hand-is-one}
use Rattle.osc_showing.specs.Showing.{clears}
use Rattle.osc_records.specs.Agreeing.{changes_box}
use Rattle.osc_records.specs.Recorded.{CallFits}
use Rattle.osc_records.proofs.Rows.{after, Before}
use Rattle.osc_records.proofs.CallRows.{Calls, hand-place}
use Rattle.osc_relying.specs.Relying.{HasBox, AtHome, InHand, Called}
use Rattle.osc_boxes.proofs.GoingOn.{planned_go_on}
use Rattle.osc_boxes.proofs.PagesLast.{LastsFor, still-lasts, to-call, from-call, begin-lasts, plan-lasts, goes-on, finish-lasts, job-lasts, leaves-of, left-lasts}
use Rattle.osc_boxes.proofs.Came.{each-box, less-boxes, more-boxes, box-within, not-called, not-held, Came, Emptied, Was, Own, AllCame, Known, moved, stayed-boxes}
use Rattle.osc_boxes.proofs.GuestBoxes.{same-pid}

user-pid : (h x : HartState) → x.user ≡ h.user → x.user.pid ≡ h.user.pid
user-pid h x e = rw e refl

-- ---- the kernel is taken, or goes on with a header that was read
pub begins-came : (s u : State) (n pc : ℕ) (h x : HartState) (k : KernelState) (regs : List ℕ) (asked : Request) → Known s n h k → s.kernel ≡ Some k → u.harts ≡ s.harts → u.boxes ≡ s.boxes
    → x.boxes ≡ h.boxes → x.user ≡ h.user → AllCame s u n h x k (begin n regs pc asked k).kernel
begins-came s u n pc h x k regs asked a home hs bs boxes user =
    let b = a.before in
    let stands = b.stands in
    let at_home = stands.home k home in
    stayed-boxes s u n h x k (begin n regs pc asked k).kernel b.here hs bs boxes (user-pid h x user)
    (λ m box called has. begin-lasts regs n pc m asked k called a.ready at_home.quiet (box-within s n m h k box called b has))

pub finds-came : (s : State) (n first : ℕ) (second : WordAt) (h x : HartState) (k : KernelState) (found : Found) → Known s n h k → Calls s n h (SecondWord first second) k
    → x.boxes ≡ h.boxes → x.user ≡ h.user → AllCame s s n h x k (plan found k).kernel
finds-came s n first second h x k found a calls boxes user =
    let b = a.before in
    let old = b.recorded in
    let i = hand-place s n h (SecondWord first second) k calls in
    let w = i.stands in
    let fits : CallFits (SecondWord first second) h.user.place k = subst (λ z. CallFits z h.user.place k) calls.place (old.calls n h k b.here calls.kernel) in
    stayed-boxes s s n h x k (plan found k).kernel b.here refl refl boxes (user-pid h x user)
    (λ m box called has. plan-lasts m found w.0 k called a.ready w.1 (box-within s n m h k box called b has)
    (goes-on (plan found k).kernel called (planned_go_on found w.0 k w.1 fits.1)))

-- nothing changes but the hart's place
pub still-came : (s u : State) (n : ℕ) (h x : HartState) (k : KernelState) → Known s n h k → u.harts ≡ s.harts → u.boxes ≡ s.boxes → x.boxes ≡ h.boxes → x.user ≡ h.user → AllCame s u n h x k k
still-came s u n h x k a hs bs boxes user =
    let b = a.before in
    stayed-boxes s u n h x k k b.here hs bs boxes (user-pid h x user) (λ m box called has. still-lasts k k m called refl)

-- ---- a box is taken
taken-came : (s : State) (n box : ℕ) (h x : HartState) (state : BoxState) (k later : KernelState) → Before s n h k → box_at s box ≡ Some state → x.user ≡ h.user
    → ((m : ℕ) (b : BoxState) (was : Bool) → HasBox s m b was → LastsFor k later m was true) → (m : ℕ) (b : BoxState)
    → ((m ≡ box) × (state ≡ b)) ⊎ ((m ≢ box) × (get_or h.boxes m None ≡ Some b)) → Came s n h x k later m b true
taken-came s n box h x state k later b home user lasts m own (inl q) =
    let had : HasBox s m own false = AtHome refl (ap (λ z. box_at s z) q.0 ∙ home ∙ ap (λ z. Some z) q.1) in Was false had (lasts m own false had) (λ z. user-pid h x user)
taken-came s n box h x state k later b home user lasts m own (inr q) =
    let had : HasBox s m own true = Called n h refl b.here q.1 in Was true had (lasts m own true had) (λ z. user-pid h x user)

pub takes-next : (s : State) (n box : ℕ) (h x : HartState) (state : BoxState) (k : KernelState) → Known s n h k → box_at s box ≡ Some state → x.user ≡ h.user
    → x.boxes ≡ slice_set h.boxes box (Some state) → AllCame s (with_box s box None) n h x k k
takes-next s n box h x state k a home user boxes =
    let b = a.before in
    moved s (with_box s box None) n h x k k refl (user-pid h x user) (λ m own called has. still-lasts k k m called refl)
    (λ m own e. (let q = less-boxes s.boxes box m own e in Was false (AtHome refl q.1) (still-lasts k k m false refl) (λ z. user-pid h x user)))
    (λ m own e. taken-came s n box h x state k k b home user (λ i o was has. to-call k k i was (still-lasts k k i true refl)) m own
    (more-boxes h.boxes box m state own (ap (λ xs. get_or xs m None) (sym boxes) ∙ e)))

-- with the last one all are in the call's hand
has-all : (s : State) (n box : ℕ) (h : HartState) (state : BoxState) (k : KernelState) → Calls s n h (TakingBoxes box) k → (box + 1 == h.count) ≡ true
    → (m : ℕ) → m < length s.harts → is_some (get_or (slice_set h.boxes box (Some state)) m None) ≡ true
has-all s n box h state k a last m l =
    let b = a.before in
    let holds = b.holds in
    let own = holds.hart n h b.here in
    let held : HoldsAt (TakingBoxes box) (length s.harts) (holds_for_call h) = subst (λ z. HoldsAt z (length s.harts) (holds_for_call h)) a.place own.boxes in
    let count : box + 1 ≡ length s.harts = (let e : box + 1 ≡ h.count = grind (arith, nat_tests, last) in e ∙ own.count) in
    let before = held.1 m in
    let room = own.room in
    grind (arith, nat_tests, before, count, room, l, box-set h.boxes box m (Some state))

none-held : (o : Option BoxState) → is_some o ≡ false → (b : BoxState) → o ≡ Some b → ⊥
none-held o e b f = let q : is_some o ≡ true = ap (λ z. is_some z) f in grind (arith, e, q)

all-called : (t : State) (n m : ℕ) (x : HartState) (b : BoxState) → Holds t → slice_get t.harts n ≡ Some x → is_some x.user.held ≡ false → ((i : ℕ) → i < length t.harts → is_some (call_box x i) ≡ true)
    → HasBox t m b false → ⊥
all-called t n m x b holds here none all (AtHome q e) =
    let within = some-within t.boxes m (ap (λ z. is_some z) e) in
    let laws = one_holds in
    let w = laws.home t m n b x holds within e here in
    let some = all m (subst (λ z. m < z) holds.room within) in grind (arith, w, some)
all-called t n m x b holds here none all (InHand g q e f) = go (m == n) refl
  where
    go : (same : Bool) → (m == n) ≡ same → ⊥
    go true d =
        let at_n : m ≡ n = grind (arith, nat_tests, d) in
        let same : x ≡ g = (let r : Some x ≡ Some g = sym here ∙ ap (λ z. slice_get t.harts z) (sym at_n) ∙ e in cc) in
        none-held x.user.held none b (ap (λ (z : HartState). z.user.held) same ∙ f)
    go false d =
        let apart : n ≢ m = (λ r. (let z : ⊥ = grind (arith, nat_tests, d, r) in z)) in
        let l = slice_get_within t.harts m g e in
        let two = two_within (hands m) t.harts n m x g apart here e in
        let sum = holds.box m (subst (λ z. m < z) (sym holds.room) l) in
        let some = all m l in
        let own = holds.hart m g e in
        let number = own.number in
        let held : is_some g.user.held ≡ true = ap (λ z. is_some z) f in
        let mine : 1 ≤ hands m x = grind (arith, nat_tests, some) in
        let its : 1 ≤ hands m g = grind (arith, nat_tests, number, held) in
        omega (arith, two, sum, mine, its)
all-called t n m x b holds here none all (Called i g q e f) = grind (arith, q)

own-hand : (s : State) (n : ℕ) (h : HartState) (p : CallPlace) (k : KernelState) → Calls s n h p k → is_some h.user.held ≡ false
own-hand s n h p k a = let b = a.before in let holds = b.holds in let m = holds.hart n h b.here in m.own ∙ ap holds_box a.user

pub takes-last : (s : State) (n box : ℕ) (h x : HartState) (state : BoxState) (k : KernelState) (found : Found) → Known s n h k → Calls s n h (TakingBoxes box) k → box_at s box ≡ Some state
    → (box + 1 == h.count) ≡ true → x.user ≡ h.user → x.boxes ≡ slice_set h.boxes box (Some state) → Holds (after (with_box s box None) n x)
    → AllCame s (with_box s box None) n h x k (plan found k).kernel
takes-last s n box h x state k found a calls home last user boxes now m b called has = go called has
  where
    later : KernelState
    later = (plan found k).kernel

    before : Before s n h k
    before = a.before

    w : Waits k
    w = let i = hand-place s n h (TakingBoxes box) k calls in i.stands

    lasts : (m : ℕ) (b : BoxState) (was : Bool) → HasBox s m b was → LastsFor k later m was true
    lasts m b was had = to-call k later m was (plan-lasts m found w.0 k true a.ready w.1 (box-within s n m h k b was before had) (λ pid e. refl))

    not_yet : (m : ℕ) (b : BoxState) → false ≡ true → Came s n h x k later m b false
    not_yet m b q = absurd (let z : ⊥ = grind (arith, q) in z)

    all : (i : ℕ) → i < length (after (with_box s box None) n x).harts → is_some (call_box x i) ≡ true
    all i l = ap (λ xs. is_some (get_or xs i None)) boxes ∙ has-all s n box h state k calls last i (subst (λ z. i < z) (length-set s.harts n x) l)

    go : (called : Bool) → HasBox (after (with_box s box None) n x) m b called → Came s n h x k later m b called
    go false has =
        absurd (all-called (after (with_box s box None) n x) n m x b now (get-put_same s.harts n h x before.here)
        (ap (λ z. is_some z.held) user ∙ own-hand s n h (TakingBoxes box) k calls) all has)
    go true has =
        each-box s (with_box s box None) n x (λ m b called. called ≡ true → Came s n h x k later m b called) refl
        (λ m b e q. not_yet m b q)
        (λ b e q. not_yet n b q)
        (λ m b e q. taken-came s n box h x state k later before home user lasts m b (more-boxes h.boxes box m state b (ap (λ xs. get_or xs m None) (sym boxes) ∙ e)))
        (λ m g b apart here e q. not_yet m b q)
        (λ i g m b apart here e q. (let had : HasBox s m b true = Called i g refl here e in Was true had (lasts m b true had) (λ z. user-pid h x user)))
        m b true has refl

-- ---- a job is done
plain-clears : (m : ℕ) (job : Job) → changes_box m job ≡ false → clears m job ≡ false
plain-clears m (ClearBox hart) e = e
plain-clears m (Tell hart) e = refl
plain-clears m (PutWord to value) e = refl
plain-clears m (ZeroWords to count) e = refl
plain-clears m (CopyWords from to count) e = refl
plain-clears m (CopyPart from to bytes) e = refl
plain-clears m (CopyTable from to) e = refl
plain-clears m (ToOut from first count) e = refl

-- on no box
pub done-came : (s u : State) (n word : ℕ) (h x : HartState) (k : KernelState) (job : Job) → Known s n h k → next_job k ≡ Some job → ((m : ℕ) → changes_box m job ≡ false)
    → u.harts ≡ s.harts → u.boxes ≡ s.boxes → x.boxes ≡ h.boxes → x.user ≡ h.user → AllCame s u n h x k (job_done word k).kernel
done-came s u n word h x k job a next none hs bs boxes user =
    let b = a.before in
    stayed-boxes s u n h x k (job_done word k).kernel b.here hs bs boxes (user-pid h x user)
    (λ m box called has. job-lasts word m job k called a.ready next (box-within s n m h k box called b has) (plain-clears m job (none m)))

-- a box that a call gives, or changes at home: its cache was emptied, or the call leaves the box as it is
pub data Given (c : BoxChange) (state given : BoxState) : Type 0 where
  Empties : given.slots ≡ no_entries → Given c state given
  Same : c ≡ Keep → given ≡ state → Given c state given

given-is : (c : BoxChange) (state given : BoxState) → given ≡ changed c state → Given c state given
given-is Keep state given e = Same refl e
given-is Clear state given e = Empties (ap (λ (z : BoxState). z.slots) e)
given-is (Put order) state given e = Empties (ap (λ (z : BoxState). z.slots) e)

-- on a box at home
pub changed-came : (s : State) (n word box : ℕ) (h x : HartState) (k : KernelState) (job : Job) (done : Committed) (state given : BoxState) → Known s n h k → k.under_way ≡ CallReturning done
    → next_job k ≡ Some job → ((m : ℕ) → changes_box m job ≡ (box == m)) → box_at s box ≡ Some state → given ≡ changed (box_change box k) state → x.boxes ≡ h.boxes → x.user ≡ h.user
    → AllCame s (with_box s box (Some given)) n h x k (job_done word k).kernel
changed-came s n word box h x k job done state given a u next one home is boxes user =
    each-box s (with_box s box (Some given)) n x (λ m b called. Came s n h x k later m b called) refl
    (λ m b e. at_home m b (more-boxes s.boxes box m given b e))
    (λ b e. Own refl refl e)
    (λ m b e. called n m h b before.here (ap (λ xs. get_or xs m None) (sym boxes) ∙ e))
    (λ m g b apart here e. other m b false (InHand g refl here e) (λ q. not-held s m g state b before.holds (ap (λ z. box_at s z) q ∙ home) here e))
    (λ i g m b apart here e. called i m g b here e)
  where
    later : KernelState
    later = (job_done word k).kernel

    before : Before s n h k
    before = a.before

    other : (m : ℕ) (b : BoxState) (c : Bool) → HasBox s m b c → m ≢ box → Came s n h x k later m b c
    other m b c had apart =
        Was c had (job-lasts word m job k c a.ready next (box-within s n m h k b c before had)
        (plain-clears m job (one m ∙ (let q : (box == m) ≡ false = grind (arith, nat_tests, apart) in q)))) (λ z. user-pid h x user)

    called : (i m : ℕ) (g : HartState) (b : BoxState) → slice_get s.harts i ≡ Some g → call_box g m ≡ Some b → Came s n h x k later m b true
    called i m g b here e = other m b true (Called i g refl here e) (λ q. not-called s i m g state b before.holds (ap (λ z. box_at s z) q ∙ home) here e)

    at_home : (m : ℕ) (b : BoxState) → ((m ≡ box) × (given ≡ b)) ⊎ ((m ≢ box) × (get_or s.boxes m None ≡ Some b)) → Came s n h x k later m b false
    at_home m b (inl q) = go (given-is (box_change box k) state given is)
      where
        go : Given (box_change box k) state given → Came s n h x k later m b false
        go (Empties e) = Emptied (subst (λ (z : BoxState). z.slots ≡ no_entries) q.1 e)
        go (Same keep e) =
            let ready = a.ready in
            Was false (AtHome refl (ap (λ z. box_at s z) q.0 ∙ home ∙ ap (λ z. Some z) (sym e ∙ q.1))) (left-lasts word m k false (leaves-of ready.words box k done ready.fits u keep)) (λ z. user-pid h x user)
    at_home m b (inr q) = other m b false (AtHome refl q.1) q.0

-- ---- a box is given
pub gave-came : (s : State) (n box : ℕ) (h x : HartState) (k : KernelState) (done : Committed) (state given : BoxState) → Known s n h k → k.under_way ≡ CallReturning done → call_box h box ≡ Some state
    → given ≡ changed (box_change box k) state → x.boxes ≡ slice_set h.boxes box None → x.user ≡ h.user → AllCame s (with_box s box (Some given)) n h x k k
gave-came s n box h x k done state given a u had is boxes user =
    moved s (with_box s box (Some given)) n h x k k refl (user-pid h x user) (λ m b called has. still-lasts k k m called refl)
    (λ m b e. at_home m b (more-boxes s.boxes box m given b e))
    (λ m b e. (let q = less-boxes h.boxes box m b (ap (λ xs. get_or xs m None) (sym boxes) ∙ e) in Was true (Called n h refl before.here q.1) (still-lasts k k m true refl) (λ z. user-pid h x user)))
  where
    before : Before s n h k
    before = a.before

    at_home : (m : ℕ) (b : BoxState) → ((m ≡ box) × (given ≡ b)) ⊎ ((m ≢ box) × (get_or s.boxes m None ≡ Some b)) → Came s n h x k k m b false
    at_home m b (inl q) = go (given-is (box_change box k) state given is)
      where
        go : Given (box_change box k) state given → Came s n h x k k m b false
        go (Empties e) = Emptied (subst (λ (z : BoxState). z.slots ≡ no_entries) q.1 e)
        go (Same keep e) =
            let ready = a.ready in
            let w = leaves-of ready.words box k done ready.fits u keep in
            Was true (Called n h refl before.here (ap (λ z. call_box h z) q.0 ∙ had ∙ ap (λ z. Some z) (sym e ∙ q.1))) (from-call k m w.goes_on) (λ z. user-pid h x user)
    at_home m b (inr q) = Was false (AtHome refl q.1) (still-lasts k k m false refl) (λ z. user-pid h x user)

-- ---- the kernel is given
-- no box is in a call's hand then
none-called : (s : State) (n m : ℕ) (h : HartState) (return : Return) (k : KernelState) (b : BoxState) → Calls s n h (Returning return) k → HasBox s m b true → ⊥
none-called s n m h return k b a (AtHome q e) = grind (arith, q)
none-called s n m h return k b a (InHand g q e f) = grind (arith, q)
none-called s n m h return k b a (Called i g q e f) =
    let before = a.before in
    let holds = before.holds in
    let own = holds.hart i g e in go g.place refl own.boxes
  where
    held : holds_for_call g m ≡ true
    held = ap (λ z. is_some z) f

    empty : holds_for_call g m ≡ false → ⊥
    empty none = grind (arith, none, held)

    mine : KernelInHand n (Returning return) k
    mine = hand-place s n h (Returning return) k a

    some : (o : Option KernelState) → is_some o ≡ true → (own : KernelState) × (o ≡ Some own)
    some None r = absurd (let z : ⊥ = grind (arith, r) in z)
    some (Some own) r = (own, refl)

    hand : (p : CallPlace) → g.place ≡ p → is_in_call p ≡ true → KernelInHand i p k
    hand p r inside =
        let before = a.before in
        let has = before.has in
        let stands = before.stands in
        let own = some g.kernel (has.in_hand i g e ∙ ap is_in_call r ∙ inside) in
        let same = hand-is-one s i g own.0 k has e own.1 in
        subst (λ z. KernelInHand i z k) r (stands.hand i g e k (own.1 ∙ ap (λ z. Some z) same))

    committed : IsCommitted k → IsFor i k.under_way → (p : CallPlace) → g.place ≡ p → p ≢ Returning return → ⊥
    committed c its p r apart =
        let at_i : c.0.calling.hart ≡ i = subst (IsFor i) c.1 its in
        let at_n : c.0.calling.hart ≡ n = subst (IsFor n) c.1 mine.caller in
        let before = a.before in
        let same : h ≡ g = (let z : Some h ≡ Some g = sym before.here ∙ ap (λ z. slice_get s.harts z) (sym at_n ∙ at_i) ∙ e in cc) in
        apart (sym r ∙ ap (λ (z : HartState). z.place) (sym same) ∙ a.place)

    go : (p : CallPlace) → g.place ≡ p → HoldsAt p (length s.harts) (holds_for_call g) → ⊥
    go Outside r none = empty (none m)
    go (TakingBoxes next) r none =
        let w = hand (TakingBoxes next) r refl in
        let waits = w.stands in
        let decided : is_decided k.under_way ≡ true = mine.stands.0 in
        let not_yet : is_decided k.under_way ≡ false = ap is_decided waits.1 in grind (arith, decided, not_yet)
    go (FirstWord first second) r none = empty (none m)
    go (SecondWord found second) r none = empty (none m)
    go (Working moves read) r none =
        let w = hand (Working moves read) r refl in committed w.stands.0 w.caller (Working moves read) r (λ z. (let y : ⊥ = grind (arith, z) in y))
    go (GivingBoxes next) r none =
        let w = hand (GivingBoxes next) r refl in committed w.stands.0 w.caller (GivingBoxes next) r (λ z. (let y : ⊥ = grind (arith, z) in y))
    go (Returning other) r none = empty (none m)

pub returns-came : (s u : State) (n : ℕ) (h : HartState) (return : Return) (k : KernelState) → Known s n h k → Calls s n h (Returning return) k → u.harts ≡ s.harts → u.boxes ≡ s.boxes
    → AllCame s u n h (kernel_gone return h).hart k (finish k).kernel
returns-came s u n h return k a calls hs bs =
    let b = a.before in
    let i = hand-place s n h (Returning return) k calls in
    stayed-boxes s u n h (kernel_gone return h).hart k (finish k).kernel b.here hs bs refl (same-pid h.user (at.Call calls.asked) (heard.Resumed return.resume) calls.user refl)
    (λ m box called has. go m box called i.stands.1 has)
  where
    go : (m : ℕ) (box : BoxState) (called : Bool) → k.jobs ≡ [] → HasBox s m box called → LastsFor k (finish k).kernel m called called
    go m box true none has = absurd (none-called s n m h return k box calls has)
    go m box false none has = finish-lasts m k a.ready none (let b = a.before in box-within s n m h k box false b has)
