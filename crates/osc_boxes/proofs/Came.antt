-- Where each box after a step of one hart comes from, and what its cache may be relied on for then.
use Rattle.std.proofs.Common.{ℕ, ◌≡◌, ◌≢◌, ◌<◌, ◌≤◌, ◌==◌, ◌⊎◌, inl, inr, Bool, true, false, Some, None, is_some, length, set, get_or, ltb, slice_get, arith, refl, sym, ap, subst, ◌∙◌}
use Rattle.std.proofs.lemmas.Bool.Decides.{nat_tests}
use Rattle.std.proofs.lemmas.List.{get_or_past}
use Rattle.std.proofs.lemmas.Option.{slice_get_within}
use Rattle.osc_word.specs.declared.orders.Order.{Order}
use Rattle.osc_word.specs.declared.orders.Order.TheVariants as orders
use Rattle.osc_paging.specs.Boxes.{BoxState, no_entries}
use Rattle.osc_guest.specs.Carry.{CacheOk}
use Rattle.osc_guest.specs.User.{box_or_new}
use Rattle.osc_guest.specs.Hands.{order_in, runs_thread}
use Rattle.osc_guest.proofs.Carry.{empty-ok}
use Rattle.osc_calls.specs.Kernel.{KernelState}
use Rattle.osc_settled.proofs.Lists.{get-put_same}
use Rattle.osc_machine.specs.Parts.{HartState, State}
use Rattle.osc_machine.specs.Step.{box_at}
use Rattle.osc_safe.specs.Holding.{call_box, holds_for_call, Holds}
use Rattle.osc_safe.proofs.CallBoxes.{Boxes, box-set, some-within}
use Rattle.osc_safe.proofs.HoldersLaws.{one_holds}
use Rattle.osc_records.specs.Agreeing.{is_start, IsObeyed}
use Rattle.osc_records.specs.Recorded.{HasOrder, AtHome as OrderAtHome, InHand as OrderInHand, Called as OrderCalled, Recorded}
use Rattle.osc_records.proofs.Rows.{each-other, after, Before, hart-of}
use Rattle.osc_relying.specs.Relying.{HasBox, AtHome, InHand, Called, PageOf}
use Rattle.osc_boxes.specs.Keeping.{BoxesRely, HartRelies}
use Rattle.osc_boxes.proofs.PagesLast.{LastsFor, Ready}

-- ---- all boxes after a step
-- what is true of the boxes at home, in the hands of the hart that is written, and in all others
pub each-box : (s u : State) (n : ℕ) (x : HartState) (P : ℕ → BoxState → Bool → Type 0) → u.harts ≡ s.harts
    → ((m : ℕ) (b : BoxState) → box_at u m ≡ Some b → P m b false)
    → ((b : BoxState) → x.user.held ≡ Some b → P n b false)
    → ((m : ℕ) (b : BoxState) → call_box x m ≡ Some b → P m b true)
    → ((m : ℕ) (g : HartState) (b : BoxState) → m ≢ n → slice_get s.harts m ≡ Some g → g.user.held ≡ Some b → P m b false)
    → ((i : ℕ) (g : HartState) (m : ℕ) (b : BoxState) → i ≢ n → slice_get s.harts i ≡ Some g → call_box g m ≡ Some b → P m b true)
    → (m : ℕ) (b : BoxState) (called : Bool) → HasBox (after u n x) m b called → P m b called
each-box s u n x P hs home own call held called m b c (AtHome q e) = subst (P m b) (sym q) (home m b e)
each-box s u n x P hs home own call held called m b c (InHand h q e f) =
    subst (P m b) (sym q) (each-other (λ i y. y.user.held ≡ Some b → P i b false) s.harts n x
    (λ i y apart here g. held i y b apart here g) (λ g. own b g) m h (subst (λ hs. slice_get (set hs n x) m ≡ Some h) hs e) f)
each-box s u n x P hs home own call held called m b c (Called i h q e f) =
    subst (P m b) (sym q) (each-other (λ j y. call_box y m ≡ Some b → P m b true) s.harts n x
    (λ j y apart here g. called j y m b apart here g) (λ g. call m b g) i h (subst (λ hs. slice_get (set hs n x) i ≡ Some h) hs e) f)

-- a box that was taken out of a list
pub less-boxes : (xs : Boxes) (b m : ℕ) (state : BoxState) → get_or (set xs b None) m None ≡ Some state → (m ≢ b) × (get_or xs m None ≡ Some state)
less-boxes xs b m state e = go (m == b) (ltb b (length xs)) refl refl
  where
    go : (t l : Bool) → (m == b) ≡ t → ltb b (length xs) ≡ l → (m ≢ b) × (get_or xs m None ≡ Some state)
    go true true d l = absurd (let q : ⊥ = grind (arith, nat_tests, e, d, l, box-set xs b m None) in q)
    go true false d l =
        let at : m ≡ b = grind (arith, nat_tests, d) in
        let k : length xs ≤ b = grind (arith, nat_tests, l) in
        let past : get_or xs m None ≡ None = get_or_past xs m None (omega (arith, at, k)) in
        absurd (let q : ⊥ = grind (arith, nat_tests, e, d, l, past, box-set xs b m None) in q)
    go false l d k = ((let apart : m ≢ b = grind (arith, nat_tests, d) in apart), (let q : get_or xs m None ≡ Some state = grind (arith, nat_tests, d, e, box-set xs b m None) in q))

-- and one that was put into it
pub more-boxes : (xs : Boxes) (b m : ℕ) (put state : BoxState) → get_or (set xs b (Some put)) m None ≡ Some state → ((m ≡ b) × (put ≡ state)) ⊎ ((m ≢ b) × (get_or xs m None ≡ Some state))
more-boxes xs b m put state e = go (m == b) (ltb b (length xs)) refl refl
  where
    go : (t l : Bool) → (m == b) ≡ t → ltb b (length xs) ≡ l → ((m ≡ b) × (put ≡ state)) ⊎ ((m ≢ b) × (get_or xs m None ≡ Some state))
    go true true d l =
        let at : m ≡ b = grind (arith, nat_tests, d) in
        let q : Some put ≡ Some state = grind (arith, nat_tests, d, l, e, box-set xs b m (Some put)) in inl (at, (let f : put ≡ state = cc in f))
    go true false d l =
        let at : m ≡ b = grind (arith, nat_tests, d) in
        let k : length xs ≤ b = grind (arith, nat_tests, l) in
        let past : get_or xs m None ≡ None = get_or_past xs m None (omega (arith, at, k)) in
        absurd (let q : ⊥ = grind (arith, nat_tests, e, d, l, past, box-set xs b m (Some put)) in q)
    go false l d k = inr ((let apart : m ≢ b = grind (arith, nat_tests, d) in apart), (let q : get_or xs m None ≡ Some state = grind (arith, nat_tests, d, e, box-set xs b m (Some put)) in q))

-- ---- each box is a hart's
has-order : (s : State) (m : ℕ) (b : BoxState) (c : Bool) → HasBox s m b c → HasOrder s m b.order c
has-order s m b c (AtHome q e) = OrderAtHome q (ap order_in e)
has-order s m b c (InHand h q e f) = OrderInHand h q e (ap order_in f)
has-order s m b c (Called i h q e f) = OrderCalled i h q e (ap order_in f)

pub box-within : (s : State) (n m : ℕ) (h : HartState) (k : KernelState) (b : BoxState) (c : Bool) → Before s n h k → HasBox s m b c → m < k.config.harts
box-within s n m h k b c a has =
    let g = hart-of s m b.order c a.holds (has-order s m b c has) in
    let old = a.recorded in
    subst (λ z. m < z) old.count (slice_get_within s.harts m g.0 g.1)

-- a box at home is in no hand
pub not-called : (s : State) (i m : ℕ) (g : HartState) (state b : BoxState) → Holds s → box_at s m ≡ Some state → slice_get s.harts i ≡ Some g → call_box g m ≡ Some b → ⊥
not-called s i m g state b holds home here e =
    let laws = one_holds in
    let none = laws.home s m i state g holds (some-within s.boxes m (ap (λ z. is_some z) home)) home here in
    let some : holds_for_call g m ≡ true = ap (λ z. is_some z) e in grind (arith, none, some)

pub not-held : (s : State) (m : ℕ) (g : HartState) (state b : BoxState) → Holds s → box_at s m ≡ Some state → slice_get s.harts m ≡ Some g → g.user.held ≡ Some b → ⊥
not-held s m g state b holds home here e =
    let laws = one_holds in
    let none = laws.home s m m state g holds (some-within s.boxes m (ap (λ z. is_some z) home)) home here in
    let own = holds.hart m g here in
    let number = own.number in
    let some : is_some g.user.held ≡ true = ap (λ z. is_some z) e in grind (arith, nat_tests, none, number, some)

-- ---- where a box comes from
-- hart n, which was h, is x after the step, and the kernel is `later`
pub data Came (s : State) (n : ℕ) (h x : HartState) (k later : KernelState) (m : ℕ) (b : BoxState) (called : Bool) : Type 0 where
  -- its cache was emptied
  Emptied : b.slots ≡ no_entries → Came s n h x k later m b called
  -- it is as it was, in the same hand or in another
  Was : (was : Bool) → HasBox s m b was → LastsFor k later m was called → (m ≡ n → x.user.pid ≡ h.user.pid) → Came s n h x k later m b called
  -- hart n has it in its own hand
  Own : m ≡ n → called ≡ false → x.user.held ≡ Some b → Came s n h x k later m b called

-- so it is of each box
abbrev pub AllCame : State → State → ℕ → HartState → HartState → KernelState → KernelState → Type 0
AllCame s u n h x k later = (m : ℕ) (b : BoxState) (called : Bool) → HasBox (after u n x) m b called → Came s n h x k later m b called

-- all is known of the state before
pub record Known (s : State) (n : ℕ) (h : HartState) (k : KernelState) : Type 0 where
  pub before : Before s n h k
  pub ready : Ready k
  pub relied : BoxesRely s k

obeyed-start : (running : Bool) (o : Order) → IsObeyed running o → is_start o ≡ true → ⊥
obeyed-start running orders.Empty e f = grind (arith, f)
obeyed-start true (orders.Start start) e f = e
obeyed-start false (orders.Start start) e f = e
obeyed-start running orders.Stop e f = grind (arith, f)
obeyed-start running orders.Over e f = grind (arith, f)

-- where all boxes are accounted for
pub relied-by : (s u : State) (n : ℕ) (h x : HartState) (k later : KernelState) → Known s n h k → u.harts ≡ s.harts → AllCame s u n h x k later
    → Recorded (after u n x) later → HartRelies (after u n x) n later → BoxesRely (after u n x) later
relied-by s u n h x k later a hs came recorded own = record {
  boxes = λ m y b called here has. each-other Fine s.harts n x others mine m y (subst (λ z. slice_get (set z n x) m ≡ Some y) hs here) b called has;
  starts = λ m b called has e. starts m b called (came m b called has) e;
}
  where
    before : Before s n h k
    before = a.before

    old : BoxesRely s k
    old = a.relied

    written : slice_get (after u n x).harts n ≡ Some x
    written = get-put_same u.harts n h x (ap (λ z. slice_get z n) hs ∙ before.here)

    Fine : ℕ → HartState → Type 0
    Fine m y = (b : BoxState) (called : Bool) → HasBox (after u n x) m b called → CacheOk (PageOf later m called) y.user.pid b.slots

    empty : (m pid : ℕ) (b : BoxState) (called : Bool) → b.slots ≡ no_entries → CacheOk (PageOf later m called) pid b.slots
    empty m pid b called e = subst (CacheOk (PageOf later m called) pid) (sym e) (empty-ok (PageOf later m called) pid)

    others : (m : ℕ) (y : HartState) → m ≢ n → slice_get s.harts m ≡ Some y → Fine m y
    others m y apart here b called has = go (came m b called has)
      where
        go : Came s n h x k later m b called → CacheOk (PageOf later m called) y.user.pid b.slots
        go (Emptied e) = empty m y.user.pid b called e
        go (Was was had lasts pid) = λ slot e q. lasts y.user.pid e.page e.mapping.frame (old.boxes m y b was here had slot e q)
        go (Own at q e) = absurd (apart at)

    mine : Fine n x
    mine b called has = go (came n b called has)
      where
        go : Came s n h x k later n b called → CacheOk (PageOf later n called) x.user.pid b.slots
        go (Emptied e) = empty n x.user.pid b called e
        go (Was was had lasts pid) =
            subst (λ z. CacheOk (PageOf later n called) z b.slots) (sym (pid refl)) (λ slot e q. lasts h.user.pid e.page e.mapping.frame (old.boxes n h b was before.here had slot e q))
        go (Own at q e) =
            let ok = own x written in
            subst (λ z. CacheOk (PageOf later n z) x.user.pid b.slots) (sym q) (subst (λ z. CacheOk (PageOf later n false) x.user.pid (box_or_new z).slots) e ok.2)

    starts : (m : ℕ) (b : BoxState) (called : Bool) → Came s n h x k later m b called → is_start b.order ≡ true → b.slots ≡ no_entries
    starts m b called (Emptied e) f = e
    starts m b called (Was was had lasts pid) f = old.starts m b was had f
    starts m b called (Own at q e) f = absurd (obeyed-start (runs_thread x.user.place) b.order (recorded.obeyed n x b.order written (ap order_in e)) f)

-- ---- where no box changes hands but at home and in the call's hand
pub moved : (s u : State) (n : ℕ) (h x : HartState) (k later : KernelState) → u.harts ≡ s.harts → x.user.pid ≡ h.user.pid
    → ((m : ℕ) (b : BoxState) (called : Bool) → HasBox s m b called → LastsFor k later m called called)
    → ((m : ℕ) (b : BoxState) → box_at u m ≡ Some b → Came s n h x k later m b false)
    → ((m : ℕ) (b : BoxState) → call_box x m ≡ Some b → Came s n h x k later m b true) → AllCame s u n h x k later
moved s u n h x k later hs pid lasts home call =
    each-box s u n x (λ m b called. Came s n h x k later m b called) hs home
    (λ b e. Own refl refl e) call
    (λ m g b apart here e. (let had : HasBox s m b false = InHand g refl here e in Was false had (lasts m b false had) (λ q. pid)))
    (λ i g m b apart here e. (let had : HasBox s m b true = Called i g refl here e in Was true had (lasts m b true had) (λ q. pid)))

-- where none does at all
pub stayed-boxes : (s u : State) (n : ℕ) (h x : HartState) (k later : KernelState) → slice_get s.harts n ≡ Some h → u.harts ≡ s.harts → u.boxes ≡ s.boxes → x.boxes ≡ h.boxes
    → x.user.pid ≡ h.user.pid → ((m : ℕ) (b : BoxState) (called : Bool) → HasBox s m b called → LastsFor k later m called called) → AllCame s u n h x k later
stayed-boxes s u n h x k later here hs bs own pid lasts =
    moved s u n h x k later hs pid lasts
    (λ m b e. (let had : HasBox s m b false = AtHome refl (ap (λ xs. get_or xs m None) (sym bs) ∙ e) in Was false had (lasts m b false had) (λ q. pid)))
    (λ m b e. (let had : HasBox s m b true = Called n h refl here (ap (λ xs. get_or xs m None) (sym own) ∙ e) in Was true had (lasts m b true had) (λ q. pid)))
