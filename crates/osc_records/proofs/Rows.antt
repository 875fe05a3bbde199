-- The orders in all boxes after a step of one hart, and the records after it.
use Rattle.std.proofs.Common.{ℕ, ◌≡◌, ◌≢◌, ◌==◌, Bool, true, false, ◌⊎◌, inl, inr, ltb, ◌≤◌, ◌<◌, zero, suc, is_some, Option, Some, None, List, [], ◌∷◌, length, set, get_or, slice_get, slice_set, arith, refl, sym, ap, subst, ◌∙◌}
use Rattle.std.proofs.lemmas.Bool.Decides.{nat_tests}
use Rattle.std.proofs.lemmas.List.{length-set, get_or_past}
use Rattle.std.proofs.lemmas.Option.{slice_get_within}
use Rattle.osc_word.specs.declared.orders.Order.{Order}
use Rattle.osc_word.specs.declared.orders.Order.TheVariants.{Start}
use Rattle.osc_word.specs.declared.orders.Start as thread
use Rattle.osc_word.specs.declared.settings.Config.{Config}
use Rattle.osc_paging.specs.Boxes.{BoxState}
use Rattle.osc_paging.proofs.WordLists.{slice_get-set}
use Rattle.osc_guest.specs.Hands.{order_in, runs_thread}
use Rattle.osc_calls.specs.declared.BoxChange.TheVariants.{Put}
use Rattle.osc_calls.specs.declared.HartRecord.{HartRecord}
use Rattle.osc_calls.specs.Kernel.{KernelState}
use Rattle.osc_calls.specs.Boxes.{box_change}
use Rattle.osc_machine.specs.Parts.{HartState, State}
use Rattle.osc_machine.specs.Turns.{HartTold, Turn, hart_told}
use Rattle.osc_machine.specs.Step.{Stepped, box_at, tells}
use Rattle.osc_machine.specs.Laws.{HasKernel}
use Rattle.osc_safe.specs.Holding.{call_box, Holds}
use Rattle.osc_safe.specs.Standing.{Stands}
use Rattle.osc_settled.proofs.Lists.{get-put_same}
use Rattle.osc_safe.proofs.KernelRows.{fits-of, hand-is-one, home-is}
use Rattle.osc_safe.proofs.CallBoxes.{Boxes, box-set, some-within}
use Rattle.osc_records.specs.Agreeing.{setting_of, setting_in, is_start, is_due, order_then, Agrees, DueFits, IsObeyed}
use Rattle.osc_records.specs.Recorded.{HasOrder, AtHome, InHand, Called, runs_then, CallFits, Recorded}
use Rattle.osc_records.proofs.Taking.{agrees-same}
use Rattle.osc_records.proofs.Passing.{Passes}

-- ---- one hart of the list is written
pub each-other : (P : ℕ → HartState → Type 0) (harts : List HartState) (n : ℕ) (x : HartState) → ((m : ℕ) (h : HartState) → m ≢ n → slice_get harts m ≡ Some h → P m h) → P n x
    → (m : ℕ) (y : HartState) → slice_get (set harts n x) m ≡ Some y → P m y
each-other P harts n x all mine m y e = go (m == n) refl
  where
    go : (b : Bool) → (m == n) ≡ b → P m y
    go true d = there (slice_get harts m) refl
      where
        there : (o : Option HartState) → slice_get harts m ≡ o → P m y
        there None q = absurd (let b : ⊥ = grind (arith, nat_tests, e, d, q, slice_get-set harts n m x) in b)
        there (Some h) q =
            let same : x ≡ y = grind (arith, nat_tests, e, d, q, slice_get-set harts n m x) in
            let at : n ≡ m = grind (arith, nat_tests, d) in
            subst (λ i. P i y) at (subst (λ z. P n z) same mine)
    go false d = all m y (let apart : m ≢ n = grind (arith, nat_tests, d) in apart) (grind (arith, nat_tests, e, d, slice_get-set harts n m x))

-- the state after it
abbrev pub after : State → ℕ → HartState → State
after u n x = record u { harts = slice_set u.harts n x }

-- ---- orders
-- what is true of the orders at home, in the hands of the hart that is written, and in all others
pub each-order : (s u : State) (n : ℕ) (x : HartState) (P : ℕ → Order → Bool → Type 0) → u.harts ≡ s.harts
    → ((m : ℕ) (o : Order) → order_in (box_at u m) ≡ Some o → P m o false)
    → ((o : Order) → order_in x.user.held ≡ Some o → P n o false)
    → ((m : ℕ) (o : Order) → order_in (call_box x m) ≡ Some o → P m o true)
    → ((m : ℕ) (g : HartState) (o : Order) → m ≢ n → slice_get s.harts m ≡ Some g → order_in g.user.held ≡ Some o → P m o false)
    → ((i : ℕ) (g : HartState) (m : ℕ) (o : Order) → i ≢ n → slice_get s.harts i ≡ Some g → order_in (call_box g m) ≡ Some o → P m o true)
    → (m : ℕ) (o : Order) (c : Bool) → HasOrder (after u n x) m o c → P m o c
each-order s u n x P hs home own call held called m o c (AtHome q e) = subst (P m o) (sym q) (home m o e)
each-order s u n x P hs home own call held called m o c (InHand h q e f) =
    subst (P m o) (sym q) (each-other (λ i y. order_in y.user.held ≡ Some o → P i o false) s.harts n x
    (λ i y apart here g. held i y o apart here g) (λ g. own o g) m h (subst (λ hs. slice_get (set hs n x) m ≡ Some h) hs e) f)
each-order s u n x P hs home own call held called m o c (Called i h q e f) =
    subst (P m o) (sym q) (each-other (λ j y. order_in (call_box y m) ≡ Some o → P m o true) s.harts n x
    (λ j y apart here g. called j y m o apart here g) (λ g. call m o g) i h (subst (λ hs. slice_get (set hs n x) i ≡ Some h) hs e) f)

-- where no box changes hands, no order does
pub same-orders : (s u : State) (n : ℕ) (h x : HartState) → slice_get s.harts n ≡ Some h → u.harts ≡ s.harts → u.boxes ≡ s.boxes → x.boxes ≡ h.boxes → order_in x.user.held ≡ order_in h.user.held
    → (m : ℕ) (o : Order) (c : Bool) → HasOrder (after u n x) m o c → HasOrder s m o c
same-orders s u n h x here hs bs own held =
    each-order s u n x (λ m o c. HasOrder s m o c) hs
    (λ m o e. AtHome refl (ap (λ xs. order_in (get_or xs m None)) (sym bs) ∙ e))
    (λ o e. InHand h refl here (sym held ∙ e))
    (λ m o e. Called n h refl here (ap (λ xs. order_in (get_or xs m None)) (sym own) ∙ e))
    (λ m g o apart at_m e. InHand g refl at_m e)
    (λ i g m o apart at_i e. Called i g refl at_i e)

-- a box that was taken out of a list
pub less-orders : (xs : Boxes) (b m : ℕ) (o : Order) → order_in (get_or (set xs b None) m None) ≡ Some o → (m ≢ b) × (order_in (get_or xs m None) ≡ Some o)
less-orders xs b m o e = go (m == b) refl
  where
    go : (t : Bool) → (m == b) ≡ t → (m ≢ b) × (order_in (get_or xs m None) ≡ Some o)
    go true d = absurd (gone (get_or (set xs b None) m None) (none (get_or xs m None) refl) e)
      where
        gone : (z : Option BoxState) → z ≡ None → order_in z ≡ Some o → ⊥
        gone None q f = grind (arith, f)
        gone (Some z) q f = grind (arith, q)

        none : (z : Option BoxState) → get_or xs m None ≡ z → get_or (set xs b None) m None ≡ None
        none z q = grind (arith, nat_tests, d, box-set xs b m None, missing)
          where
            missing : ltb b (length xs) ≡ false → get_or xs m None ≡ None
            missing l = get_or_past xs m None (let at : m ≡ b = grind (arith, nat_tests, d) in let k : length xs ≤ b = grind (arith, nat_tests, l) in omega (arith, at, k))
    go false d = ((let apart : m ≢ b = grind (arith, nat_tests, d) in apart), ap order_in (let q : get_or xs m None ≡ get_or (set xs b None) m None = grind (arith, nat_tests, d, box-set xs b m None) in q) ∙ e)

-- and one that was put into it
pub more-orders : (xs : Boxes) (b m : ℕ) (state : BoxState) (o : Order) → order_in (get_or (set xs b (Some state)) m None) ≡ Some o
    → ((m ≡ b) × (state.order ≡ o)) ⊎ ((m ≢ b) × (order_in (get_or xs m None) ≡ Some o))
more-orders xs b m state o e = go (m == b) (ltb b (length xs)) refl refl
  where
    go : (t l : Bool) → (m == b) ≡ t → ltb b (length xs) ≡ l → ((m ≡ b) × (state.order ≡ o)) ⊎ ((m ≢ b) × (order_in (get_or xs m None) ≡ Some o))
    go true true d l =
        let at : m ≡ b = grind (arith, nat_tests, d) in
        let q : get_or (set xs b (Some state)) m None ≡ Some state = grind (arith, nat_tests, d, l, box-set xs b m (Some state)) in
        inl (at, (let f : Some state.order ≡ Some o = ap order_in (sym q) ∙ e in cc))
    go true false d l =
        let at : m ≡ b = grind (arith, nat_tests, d) in
        let k : length xs ≤ b = grind (arith, nat_tests, l) in
        let past : get_or xs m None ≡ None = get_or_past xs m None (omega (arith, at, k)) in
        let q : get_or (set xs b (Some state)) m None ≡ None = grind (arith, nat_tests, d, l, past, box-set xs b m (Some state)) in
        absurd (let f : None ≡ Some o = ap order_in (sym q) ∙ e in let z : ⊥ = grind (arith, f) in z)
    go false l d k =
        let apart : m ≢ b = grind (arith, nat_tests, d) in
        inr (apart, ap order_in (let q : get_or xs m None ≡ get_or (set xs b (Some state)) m None = grind (arith, nat_tests, d, box-set xs b m (Some state)) in q) ∙ e)

-- ---- a step
-- hart n is h, and all is known of the state before
pub record Before (s : State) (n : ℕ) (h : HartState) (k : KernelState) : Type 0 where
  pub here : slice_get s.harts n ≡ Some h
  pub holds : Holds s
  pub stands : Stands s
  pub has : HasKernel s k
  pub recorded : Recorded s k

-- what is to be shown of a step
abbrev pub Keeps : Stepped → Type 0
Keeps x = (k : KernelState) → HasKernel x.state k → Holds x.state → Recorded x.state k

pub next : (u : State) (n : ℕ) (h : HartState) (t : HartTold) (turn : Turn) → hart_told h t ≡ turn
    → ((k : KernelState) → HasKernel (after u n turn.hart) k → Holds (after u n turn.hart) → Recorded (after u n turn.hart) k) → Keeps (tells u n h t)
next u n h t turn e go = subst (λ (y : Turn). (k : KernelState) → HasKernel (after u n y.hart) k → Holds (after u n y.hart) → Recorded (after u n y.hart) k) (sym e) go

-- where an order in a box comes from, with the kernels before and after
pub record Came (s : State) (k later : KernelState) (m : ℕ) (o : Order) (c : Bool) : Type 0 where
  pub was : Order
  pub called : Bool
  pub had : HasOrder s m was called
  pub same : order_then c later m o ≡ order_then called k m was

-- what is shown of a row: the hart that turned, all orders, and what is due
pub record Row (s u : State) (n : ℕ) (h x : HartState) (k later : KernelState) : Type 0 where
  pub harts : u.harts ≡ s.harts
  pub config : later.config ≡ k.config
  pub agrees : (m : ℕ) (g : HartState) (r : HartRecord) (o : Order) (c : Bool) → m ≢ n → slice_get s.harts m ≡ Some g → slice_get later.records m ≡ Some r → HasOrder (after u n x) m o c
      → Agrees later r (runs_then g.kernel g.user.place) (setting_of g.user) (order_then c later m o)
  pub mine : (r : HartRecord) (o : Order) (c : Bool) → slice_get later.records n ≡ Some r → HasOrder (after u n x) n o c
      → Agrees later r (runs_then x.kernel x.user.place) (setting_of x.user) (order_then c later n o)
  pub told : (m : ℕ) (o : Order) (start : thread.Start) → HasOrder (after u n x) m o false → is_due m later.jobs ≡ true → box_change m later ≡ Put (Start start) → is_start o ≡ false
  pub obeyed : (o : Order) → order_in x.user.held ≡ Some o → IsObeyed (runs_thread x.user.place) o
  pub due : DueFits later.jobs later.under_way
  pub calls : (own : KernelState) → x.kernel ≡ Some own → CallFits x.place x.user.place own

pub recorded-by : (s u : State) (n : ℕ) (h x : HartState) (k later : KernelState) → Before s n h k → Row s u n h x k later → Recorded (after u n x) later
recorded-by s u n h x k later b row =
    let old = b.recorded in record {
      count = length-set u.harts n x ∙ ap length row.harts ∙ old.count ∙ sym (ap (λ (c : Config). c.harts) row.config);
      agrees = λ m y r o c e f has. each-other
          (λ i z. (r : HartRecord) (o : Order) (c : Bool) → slice_get later.records i ≡ Some r → HasOrder (after u n x) i o c
          → Agrees later r (runs_then z.kernel z.user.place) (setting_of z.user) (order_then c later i o))
          s.harts n x (λ i z apart here r o c f has. row.agrees i z r o c apart here f has) row.mine m y (subst (λ hs. slice_get (set hs n x) m ≡ Some y) row.harts e) r o c f has;
      told = row.told;
      obeyed = λ m y o e f. each-other (λ i z. (o : Order) → order_in z.user.held ≡ Some o → IsObeyed (runs_thread z.user.place) o)
          s.harts n x (λ i z apart here o f. old.obeyed i z o here f) row.obeyed m y (subst (λ hs. slice_get (set hs n x) m ≡ Some y) row.harts e) o f;
      due = row.due;
      calls = λ m y own e f. each-other (λ i z. (own : KernelState) → z.kernel ≡ Some own → CallFits z.place z.user.place own)
          s.harts n x (λ i z apart here own f. old.calls i z own here f) row.calls m y (subst (λ hs. slice_get (set hs n x) m ≡ Some y) row.harts e) own f;
    }

-- the hart has the kernel that there is after it
pub in-hand : (s u : State) (n : ℕ) (h x : HartState) (k later : KernelState) → Before s n h k → x.kernel ≡ Some later → Row s u n h x k later
    → (found : KernelState) → HasKernel (after u n x) found → Recorded (after u n x) found
in-hand s u n h x k later b e row found has =
    let written : slice_get (after u n x).harts n ≡ Some x = get-put_same u.harts n h x (ap (λ hs. slice_get hs n) row.harts ∙ b.here) in
    subst (Recorded (after u n x)) (hand-is-one (after u n x) n x later found has written e) (recorded-by s u n h x k later b row)

-- or the kernel is at home then
pub at-home : (s u : State) (n : ℕ) (h x : HartState) (k later : KernelState) → Before s n h k → u.kernel ≡ Some later → Row s u n h x k later
    → (found : KernelState) → HasKernel (after u n x) found → Recorded (after u n x) found
at-home s u n h x k later b e row found has = subst (Recorded (after u n x)) (home-is (after u n x) later found has e) (recorded-by s u n h x k later b row)

-- ---- the kernel keeps all records and settings
pub record Steady (k later : KernelState) : Type 0 where
  pub config : later.config ≡ k.config
  pub records : later.records ≡ k.records
  pub settings : (pid : ℕ) → setting_in later pid ≡ setting_in k pid

pub came-agrees : (s : State) (n : ℕ) (h : HartState) (k later : KernelState) → Recorded s k → Steady k later
    → (m : ℕ) (g : HartState) (r : HartRecord) (o : Order) (c : Bool) → slice_get s.harts m ≡ Some g → slice_get later.records m ≡ Some r → Came s k later m o c
    → Agrees later r (runs_then g.kernel g.user.place) (setting_of g.user) (order_then c later m o)
came-agrees s n h k later old steady m g r o c here f came =
    subst (Agrees later r (runs_then g.kernel g.user.place) (setting_of g.user)) (sym came.same)
    (agrees-same k later r (runs_then g.kernel g.user.place) (setting_of g.user) (order_then came.called k m came.was) (λ pid number q. steady.settings pid)
    (old.agrees m g r came.was came.called here (ap (λ rs. slice_get rs m) (sym steady.records) ∙ f) came.had))

-- ---- each box is a hart's
there-is : {X : Type 0} (xs : List X) (m : ℕ) → m < length xs → (x : X) × (slice_get xs m ≡ Some x)
there-is [] m l = absurd (omega (arith, l))
there-is (x ∷ xs) zero l = (x, refl)
there-is (x ∷ xs) (suc m) l = there-is xs m (omega (arith, l))

some-order : (xs : Boxes) (m : ℕ) (o : Order) → order_in (get_or xs m None) ≡ Some o → m < length xs
some-order xs m o e = some-within xs m (go (get_or xs m None) e)
  where
    go : (z : Option BoxState) → order_in z ≡ Some o → is_some z ≡ true
    go None f = absurd (let b : ⊥ = grind (arith, f) in b)
    go (Some z) f = refl

pub hart-of : (s : State) (m : ℕ) (o : Order) (c : Bool) → Holds s → HasOrder s m o c → (g : HartState) × (slice_get s.harts m ≡ Some g)
hart-of s m o c holds (AtHome q e) = there-is s.harts m (subst (λ z. m < z) holds.room (some-order s.boxes m o e))
hart-of s m o c holds (InHand h q e f) = (h, e)
hart-of s m o c holds (Called i h q e f) = (let own = holds.hart i h e in there-is s.harts m (subst (λ z. m < z) own.room (some-order h.boxes m o f)))

-- and each hart has its record
pub record-of : (s : State) (n : ℕ) (h : HartState) (k : KernelState) → Before s n h k → (r : HartRecord) × (slice_get k.records n ≡ Some r)
record-of s n h k b =
    let f = fits-of s k b.stands b.has in
    let sizes = f.fits.sizes in
    let old = b.recorded in
    let l = slice_get_within s.harts n h b.here in
    let e = sizes.records in
    let c = old.count in
    there-is k.records n (omega (arith, l, e, c))

-- ---- the kernel goes on in the hart's hand
-- where each order stays, and none was to be changed before
pub passed-row : (s u : State) (n : ℕ) (h x : HartState) (k later : KernelState) (shut : Bool) → Before s n h k → u.harts ≡ s.harts → setting_of x.user ≡ setting_of h.user
    → Passes n (runs_then h.kernel h.user.place) (runs_then x.kernel x.user.place) shut k later
    → ((m : ℕ) (o : Order) (c : Bool) → HasOrder (after u n x) m o c → (was : Bool) × HasOrder s m o was × (order_then was k m o ≡ o))
    → (shut ≡ true → (m : ℕ) (o : Order) → HasOrder (after u n x) m o false → ⊥)
    → ((o : Order) → order_in x.user.held ≡ Some o → IsObeyed (runs_thread x.user.place) o)
    → ((own : KernelState) → x.kernel ≡ Some own → CallFits x.place x.user.place own)
    → Row s u n h x k later
passed-row s u n h x k later shut b hs setting p orders all obeyed calls = record {
  harts = hs;
  config = p.config;
  agrees = λ m g r o c apart here f has. p.others m r (runs_then g.kernel g.user.place) (setting_of g.user) o c apart f (λ q. is_called m o c has q) (λ old e. was m g o c here has old e);
  mine = λ r o c f has. p.mine r (setting_of x.user) o c f (λ q. is_called n o c has q)
      (λ old e. subst (λ z. Agrees k old (runs_then h.kernel h.user.place) z o) (sym setting) (was n h o c b.here has old e));
  told = λ m o start has due put. (let g = hart-of s m o _ b.holds (orders m o false has).1 in p.told m (runs_then g.0.kernel g.0.user.place) (setting_of g.0.user) o start due put (λ old e. was m g.0 o false g.1 has old e));
  obeyed = obeyed;
  due = p.due;
  calls = calls;
}
  where
    was : (m : ℕ) (g : HartState) (o : Order) (c : Bool) → slice_get s.harts m ≡ Some g → HasOrder (after u n x) m o c → (old : HartRecord) → slice_get k.records m ≡ Some old
        → Agrees k old (runs_then g.kernel g.user.place) (setting_of g.user) o
    was m g o c here has old e =
        let before = orders m o c has in
        let r = b.recorded in
        subst (Agrees k old (runs_then g.kernel g.user.place) (setting_of g.user)) before.2 (r.agrees m g old o before.0 here e before.1)

    is_called : (m : ℕ) (o : Order) (c : Bool) → HasOrder (after u n x) m o c → shut ≡ true → c ≡ true
    is_called m o true has q = refl
    is_called m o false has q = absurd (all q m o has)
