-- The records stay so in each step of a hart in an instruction.
use Rattle.std.proofs.Common.{ℕ, ◌≡◌, ◌≢◌, ◌<◌, ◌==◌, Bool, true, false, ◌⊎◌, inl, inr, ⊎_elim, cond, Option, Some, None, is_some, length, get_or, slice_get, arith, refl, sym, ap, subst, ◌∙◌}
use Rattle.std.specs.Option.{option_map_or}
use Rattle.std.proofs.lemmas.Bool.Decides.{nat_tests}
use Rattle.std.proofs.lemmas.Option.{slice_get_within}
use Rattle.osc_word.specs.declared.orders.Order.{Order}
use Rattle.osc_word.specs.declared.orders.Order.TheVariants.{Empty, Start, Stop, Over}
use Rattle.osc_word.specs.declared.orders.Start as thread
use Rattle.osc_paging.specs.Boxes.{BoxState}
use Rattle.osc_guest.specs.declared.places.Place.{Place}
use Rattle.osc_guest.specs.declared.places.Place.TheVariants as at
use Rattle.osc_guest.specs.User.{UserHart}
use Rattle.osc_guest.specs.Told.{Told, told}
use Rattle.osc_guest.specs.Told as heard
use Rattle.osc_guest.specs.Hands.{order_in, order_left, order_after, start_in, start_told, runs_thread, runs_by, runs_after, HandAfter}
use Rattle.osc_guest.proofs.Hands.{hands_move}
use Rattle.osc_calls.specs.declared.BoxChange.TheVariants.{Keep, Put}
use Rattle.osc_calls.specs.declared.HartRecord.{HartRecord}
use Rattle.osc_calls.specs.Kernel.{KernelState, Effect, Nothing, Clears, Starts, Ends, UnderWay, Quiet, Retrying, Leaving, Waiting, Returning}
use Rattle.osc_calls.specs.Boxes.{change_of, change_by, box_change}
use Rattle.osc_machine.specs.Parts.{Outside, HartState, State}
use Rattle.osc_machine.specs.Turns.{from_guest}
use Rattle.osc_machine.specs.Step.{box_at, with_box}
use Rattle.osc_machine.specs.Laws.{is_in_call}
use Rattle.osc_safe.specs.Holding.{hands, call_box, Holds}
use Rattle.osc_safe.proofs.HoldersLaws.{one_holds}
use Rattle.osc_records.specs.Agreeing.{Setting, setting_of, setting_by, setting_in, is_start, is_due, order_then, Agrees, DueBy, DueFits, IsObeyed}
use Rattle.osc_records.specs.Recorded.{HasOrder, AtHome, InHand, Called, runs_then, Recorded}
use Rattle.osc_records.proofs.Taking.{same-fields, IsMild, run-agrees, run-obeyed, settled_by, idle-agrees, idle-obeyed}
use Rattle.osc_records.proofs.Rows.{after, each-order, same-orders, less-orders, more-orders, Before, Came, Row, Steady, came-agrees, record-of}

-- ---- the guest part of a hart
-- a setting is the sum of its fields
pub setting-by : (a b : Setting) → a.pid ≡ b.pid → a.root ≡ b.root → a.levels ≡ b.levels → a.frames ≡ b.frames → a ≡ b
setting-by a b p r l f = same-fields a.pid b.pid a.root b.root a.levels b.levels a.frames b.frames p r l f

abbrev pub settled : Option thread.Start → Setting → Setting
settled None x = x
settled (Some start) x = setting_by start

-- the setting after an answer
pub told-setting : (h : UserHart) (t : Told) → setting_of (told h t).hart ≡ settled (start_told h.place t) (setting_of h)
told-setting h t = let m = hands_move h t in setting-by (setting_of (told h t).hart) (settled (start_told h.place t) (setting_of h))
    (m.pid ∙ pids (start_told h.place t)) (m.root ∙ roots (start_told h.place t)) (m.levels ∙ depths (start_told h.place t)) (m.frames ∙ counts (start_told h.place t))
  where
    pids : (o : Option thread.Start) → option_map_or (λ (s : thread.Start). s.pid) o h.pid ≡ (settled o (setting_of h)).pid
    pids None = refl
    pids (Some start) = refl

    roots : (o : Option thread.Start) → option_map_or (λ (s : thread.Start). s.root) o h.root ≡ (settled o (setting_of h)).root
    roots None = refl
    roots (Some start) = refl

    depths : (o : Option thread.Start) → option_map_or (λ (s : thread.Start). s.levels) o h.levels ≡ (settled o (setting_of h)).levels
    depths None = refl
    depths (Some start) = refl

    counts : (o : Option thread.Start) → option_map_or (λ (s : thread.Start). s.frames) o h.frames ≡ (settled o (setting_of h)).frames
    counts None = refl
    counts (Some start) = refl

settled-by : (o : Order) (x : Setting) → settled (start_in o) x ≡ settled_by o x
settled-by Empty x = refl
settled-by (Start start) x = refl
settled-by Stop x = refl
settled-by Over x = refl

-- ---- what jobs may put into boxes
mild-by : (k : KernelState) (n : ℕ) (u : UnderWay) → DueFits k.jobs u → is_due n k.jobs ≡ true → IsMild (change_by k n u)
mild-by k n Quiet d e = tt
mild-by k n Retrying d e = tt
mild-by k n (Leaving hart) d e = tt
mild-by k n (Waiting c) d e = tt
mild-by k n (Returning done) d e = go done.effect d
  where
    go : (effect : Effect) → DueBy k.jobs effect → IsMild (change_of k done.calling.pid n effect)
    go Nothing d = tt
    go Clears d = tt
    go (Starts hart start) d = which (hart == n)
      where
        which : (b : Bool) → IsMild (cond b (Put (Start start)) Keep)
        which true = tt
        which false = tt
    go (Ends status) d = absurd (let q : is_due n k.jobs ≡ false = ap (is_due n) d in let b : ⊥ = grind (arith, q, e) in b)

pub mild : (k : KernelState) (n : ℕ) → DueFits k.jobs k.under_way → is_due n k.jobs ≡ true → IsMild (box_change n k)
unfolding box_change
mild k n d e = mild-by k n k.under_way d e

obeyed-start : (b : Bool) (o : Order) → IsObeyed b o → is_start o ≡ false
obeyed-start b Empty e = refl
obeyed-start true (Start start) e = absurd e
obeyed-start false (Start start) e = absurd e
obeyed-start b Stop e = refl
obeyed-start b Over e = refl

-- ---- a hart outside a call
pub record Guest (s : State) (n : ℕ) (h : HartState) (k : KernelState) (p : Place) : Type 0 where
  pub before : Before s n h k
  pub outside : h.place ≡ Outside
  pub user : h.user.place ≡ p

pub no-kernel : (s : State) (n : ℕ) (h : HartState) (k : KernelState) (p : Place) → Guest s n h k p → h.kernel ≡ None
no-kernel s n h k p a =
    let b = a.before in
    let has = b.has in
    none h.kernel (has.in_hand n h b.here ∙ ap is_in_call a.outside)
  where
    none : (o : Option KernelState) → is_some o ≡ false → o ≡ None
    none None e = refl
    none (Some z) e = absurd (let b : ⊥ = grind (arith, e) in b)

steady-same : (k later : KernelState) → k ≡ later → Steady k later
steady-same k later e = record { config = ap (λ (z : KernelState). z.config) (sym e); records = ap (λ (z : KernelState). z.records) (sym e); settings = λ pid. ap (λ z. setting_in z pid) (sym e) }

same-came : (s : State) (k later : KernelState) (m : ℕ) (o : Order) (c : Bool) → k ≡ later → HasOrder s m o c → Came s k later m o c
same-came s k later m o c e has = record { was = o; called = c; had = has; same = ap (λ z. order_then c z m o) (sym e) }

-- where its orders stay, its thread does too: only places change
plain-row : (s u : State) (n : ℕ) (h : HartState) (k later : KernelState) (p : Place) (t : Told) → Guest s n h k p → k ≡ later → u.harts ≡ s.harts
    → ((m : ℕ) (o : Order) (c : Bool) → HasOrder (after u n (from_guest h (told h.user t)).hart) m o c → HasOrder s m o c)
    → runs_after p t ≡ runs_thread p → start_told p t ≡ None
    → ((o : Order) → order_after p t (order_in h.user.held) ≡ Some o → order_in h.user.held ≡ Some o)
    → Row s u n h (from_guest h (told h.user t)).hart k later
plain-row s u n h k later p t a e hs orders runs starts held =
    let b = a.before in
    let old = b.recorded in
    let m = hands_move h.user t in
    let steady = steady-same k later e in
    let none = no-kernel s n h k p a in
    let thread_same : runs_thread (told h.user t).hart.place ≡ runs_thread h.user.place =
    m.runs ∙ ap (λ z. runs_after z t) a.user ∙ runs ∙ ap runs_thread (sym a.user) in
    let setting_same : setting_of (told h.user t).hart ≡ setting_of h.user = told-setting h.user t ∙ ap (λ z. settled z (setting_of h.user)) (ap (λ z. start_told z t) a.user ∙ starts) in record {
      harts = hs;
      config = steady.config;
      agrees = λ i g r o c apart here f has. came-agrees s n h k later old steady i g r o c here f (same-came s k later i o c e (orders i o c has));
      mine = λ r o c f has. (let q = came-agrees s n h k later old steady n h r o c b.here f (same-came s k later n o c e (orders n o c has)) in
          subst (λ z. Agrees later r z (setting_of (told h.user t).hart) (order_then c later n o)) (ap (λ z. runs_then z h.user.place) none ∙ sym thread_same ∙ sym (ap (λ z. runs_then z (told h.user t).hart.place) none))
          (subst (λ z. Agrees later r (runs_then h.kernel h.user.place) z (order_then c later n o)) (sym setting_same) q));
      told = λ i o start has due put. old.told i o start (orders i o false has) (ap (λ (z : KernelState). is_due i z.jobs) e ∙ due) (ap (λ z. box_change i z) e ∙ put);
      obeyed = λ o f. subst (λ z. IsObeyed z o) (sym thread_same) (old.obeyed n h o b.here (held o (sym (ap (λ z. order_after z t (order_in h.user.held)) a.user) ∙ sym m.order ∙ f)));
      due = subst (λ (z : KernelState). DueFits z.jobs z.under_way) e old.due;
      calls = λ own f. absurd (let q : None ≡ Some own = sym none ∙ f in let z : ⊥ = grind (arith, q) in z);
    }

-- neither the box nor a gate is heard of
pub heard-row : (s u : State) (n : ℕ) (h : HartState) (k later : KernelState) (p : Place) (t : Told) → Guest s n h k p → k ≡ later → u.harts ≡ s.harts → u.boxes ≡ s.boxes
    → ((had : Option Order) → order_after p t had ≡ had) → runs_after p t ≡ runs_thread p → start_told p t ≡ None
    → Row s u n h (from_guest h (told h.user t)).hart k later
heard-row s u n h k later p t a e hs bs held runs starts =
    let b = a.before in
    let m = hands_move h.user t in
    let same : order_in (told h.user t).hart.held ≡ order_in h.user.held = m.order ∙ ap (λ z. order_after z t (order_in h.user.held)) a.user ∙ held (order_in h.user.held) in
    plain-row s u n h k later p t a e hs (same-orders s u n h (from_guest h (told h.user t)).hart b.here hs bs refl same) runs starts (λ o f. sym (held (order_in h.user.held)) ∙ f)

-- the box is given
pub gives-row : (s : State) (n : ℕ) (h : HartState) (k later : KernelState) (p : Place) (given : BoxState) → Guest s n h k p → k ≡ later → order_in h.user.held ≡ Some given.order
    → ((had : Option Order) → order_after p heard.Done had ≡ None) → runs_after p heard.Done ≡ runs_thread p → start_told p heard.Done ≡ None
    → Row s (with_box s n (Some given)) n h (from_guest h (told h.user heard.Done)).hart k later
gives-row s n h k later p given a e had gone runs starts =
    let b = a.before in
    let m = hands_move h.user heard.Done in
    let none : order_in (told h.user heard.Done).hart.held ≡ None = m.order ∙ ap (λ z. order_after z heard.Done (order_in h.user.held)) a.user ∙ gone (order_in h.user.held) in
    plain-row s (with_box s n (Some given)) n h k later p heard.Done a e refl
    (each-order s (with_box s n (Some given)) n (from_guest h (told h.user heard.Done)).hart (λ m o c. HasOrder s m o c) refl
    (λ m o f. at_home m o (more-orders s.boxes n m given o f))
    (λ o f. absurd (let q : None ≡ Some o = sym none ∙ f in let z : ⊥ = grind (arith, q) in z))
    (λ m o f. Called n h refl b.here f)
    (λ m g o apart at_m f. InHand g refl at_m f)
    (λ i g m o apart at_i f. Called i g refl at_i f))
    runs starts (λ o f. absurd (let q : None ≡ Some o = sym (gone (order_in h.user.held)) ∙ f in let z : ⊥ = grind (arith, q) in z))
  where
    at_home : (m : ℕ) (o : Order) → ((m ≡ n) × (given.order ≡ o)) ⊎ ((m ≢ n) × (order_in (get_or s.boxes m None) ≡ Some o)) → HasOrder s m o false
    at_home m o (inl q) = let b = a.before in InHand h refl (subst (λ z. slice_get s.harts z ≡ Some h) (sym q.0) b.here) (had ∙ ap (λ z. Some z) q.1)
    at_home m o (inr q) = AtHome refl q.1

-- ---- the box is taken
-- by a hart of which this is shown for its own order
takes-row : (s : State) (n : ℕ) (h : HartState) (k later : KernelState) (p : Place) (st : BoxState) (running : Bool) → Guest s n h k p → k ≡ later → box_at s n ≡ Some st
    → order_after p (heard.Box st) (order_in h.user.held) ≡ Some (order_left running st.order)
    → ((r : HartRecord) → slice_get later.records n ≡ Some r
    → Agrees later r (runs_then None h.user.place) (setting_of h.user) (order_then false later n st.order)
    → Agrees later r (runs_then None (told h.user (heard.Box st)).hart.place) (setting_of (told h.user (heard.Box st)).hart) (order_then false later n (order_left running st.order)))
    → IsObeyed (runs_thread (told h.user (heard.Box st)).hart.place) (order_left running st.order)
    → Row s (with_box s n None) n h (from_guest h (told h.user (heard.Box st))).hart k later
takes-row s n h k later p st running a e home after_is turn obeyed = record {
  harts = refl;
  config = steady.config;
  agrees = λ i g r o c apart here f has. came-agrees s n h k later old steady i g r o c here f (same-came s k later i o c e (others i o c has apart));
  mine = λ r o c f has. mine r f o c (own o c has);
  told = λ i o start has due put. new_told i (i == n) refl o start has due put;
  obeyed = λ o f. subst (IsObeyed (runs_thread (told h.user (heard.Box st)).hart.place)) (order_is o f) obeyed;
  due = subst (λ (z : KernelState). DueFits z.jobs z.under_way) e old.due;
  calls = λ own f. absurd (let q : None ≡ Some own = sym none ∙ f in let z : ⊥ = grind (arith, q) in z);
}
  where
    b : Before s n h k
    b = a.before

    old : Recorded s k
    old = b.recorded

    steady : Steady k later
    steady = steady-same k later e

    none : h.kernel ≡ None
    none = no-kernel s n h k p a

    x : HartState
    x = (from_guest h (told h.user (heard.Box st))).hart

    order_is : (o : Order) → order_in x.user.held ≡ Some o → order_left running st.order ≡ o
    order_is o f =
        let m = hands_move h.user (heard.Box st) in
        let q : Some (order_left running st.order) ≡ Some o = sym (m.order ∙ ap (λ z. order_after z (heard.Box st) (order_in h.user.held)) a.user ∙ after_is) ∙ f in cc

    -- all orders but that of the box that was taken
    all : (m : ℕ) (o : Order) (c : Bool) → HasOrder (after (with_box s n None) n x) m o c → ((m ≡ n) × (c ≡ false) × (order_left running st.order ≡ o)) ⊎ HasOrder s m o c
    all = each-order s (with_box s n None) n x (λ m o c. ((m ≡ n) × (c ≡ false) × (order_left running st.order ≡ o)) ⊎ HasOrder s m o c) refl
        (λ m o f. (let q = less-orders s.boxes n m o f in inr (AtHome refl q.1)))
        (λ o f. inl (refl, refl, order_is o f))
        (λ m o f. inr (Called n h refl b.here f))
        (λ m g o apart at_m f. inr (InHand g refl at_m f))
        (λ i g m o apart at_i f. inr (Called i g refl at_i f))

    others : (m : ℕ) (o : Order) (c : Bool) → HasOrder (after (with_box s n None) n x) m o c → m ≢ n → HasOrder s m o c
    others m o c has apart = ⊎_elim (λ q. absurd (apart q.0)) (λ z. z) (all m o c has)

    -- its box was at home, and so in no hand
    in_no_hand : (i : ℕ) (g : HartState) → slice_get s.harts i ≡ Some g → hands n g ≡ 0
    in_no_hand i g here =
        let l : n < length s.boxes = subst (λ z. n < z) (sym (holds_room b.holds)) (slice_get_within s.harts n h b.here) in
        home_none i g here l
      where
        holds_room : Holds s → length s.boxes ≡ length s.harts
        holds_room holds = holds.room

        home_none : (i : ℕ) (g : HartState) → slice_get s.harts i ≡ Some g → n < length s.boxes → hands n g ≡ 0
        home_none i g here l = let laws = one_holds in laws.home s n i st g b.holds l home here

    own : (o : Order) (c : Bool) → HasOrder (after (with_box s n None) n x) n o c → (c ≡ false) × (order_left running st.order ≡ o)
    own = own_by
      where
        called : (g : HartState) (i : ℕ) (o : Order) → slice_get s.harts i ≡ Some g → order_in (call_box g n) ≡ Some o → ⊥
        called g i o here f = go (call_box g n) refl f
          where
            go : (z : Option BoxState) → call_box g n ≡ z → order_in z ≡ Some o → ⊥
            go None q f = grind (arith, f)
            go (Some z) q f = let w = in_no_hand i g here in let t : is_some (call_box g n) ≡ true = ap is_some q in grind (arith, w, t)

        own_by : (o : Order) (c : Bool) → HasOrder (after (with_box s n None) n x) n o c → (c ≡ false) × (order_left running st.order ≡ o)
        own_by o c has = each-order s (with_box s n None) n x (λ m o c. m ≡ n → (c ≡ false) × (order_left running st.order ≡ o)) refl
            (λ m o f q. absurd (let z = less-orders s.boxes n m o f in z.0 q))
            (λ o f q. (refl, order_is o f))
            (λ m o f q. absurd (called h n o b.here (subst (λ z. order_in (call_box h z) ≡ Some o) q f)))
            (λ m g o apart at_m f q. absurd (apart q))
            (λ i g m o apart at_i f q. absurd (called g i o at_i (subst (λ z. order_in (call_box g z) ≡ Some o) q f)))
            n o c has refl

    mine : (r : HartRecord) → slice_get later.records n ≡ Some r → (o : Order) (c : Bool) → (c ≡ false) × (order_left running st.order ≡ o)
        → Agrees later r (runs_then x.kernel x.user.place) (setting_of x.user) (order_then c later n o)
    mine r f o c q =
        let was : Agrees later r (runs_then h.kernel h.user.place) (setting_of h.user) (order_then false later n st.order) =
        came-agrees s n h k later old steady n h r st.order false b.here f (same-came s k later n st.order false e (AtHome refl (ap order_in home))) in
        let now = turn r f (subst (λ z. Agrees later r (runs_then z h.user.place) (setting_of h.user) (order_then false later n st.order)) none was) in
        subst (λ z. Agrees later r (runs_then z x.user.place) (setting_of x.user) (order_then c later n o)) (sym none)
        (subst (λ z. Agrees later r (runs_then None x.user.place) (setting_of x.user) (order_then z later n o)) (sym q.0)
        (subst (λ z. Agrees later r (runs_then None x.user.place) (setting_of x.user) (order_then false later n z)) q.1 now))

    new_told : (i : ℕ) (t : Bool) → (i == n) ≡ t → (o : Order) (start : thread.Start) → HasOrder (after (with_box s n None) n x) i o false → is_due i later.jobs ≡ true → box_change i later ≡ Put (Start start)
        → is_start o ≡ false
    new_told i true d o start has due put =
        let same : i ≡ n = grind (arith, nat_tests, d) in
        let q = own o false (subst (λ z. HasOrder (after (with_box s n None) n x) z o false) same has) in
        ap is_start (sym q.1) ∙ obeyed-start (runs_thread x.user.place) (order_left running st.order) obeyed
    new_told i false d o start has due put =
        let apart : i ≢ n = grind (arith, nat_tests, d) in
        old.told i o start (others i o false has apart) (ap (λ (z : KernelState). is_due i z.jobs) e ∙ due) (ap (λ z. box_change i z) e ∙ put)

-- a hart that runs a thread
pub run-row : (s : State) (n : ℕ) (h : HartState) (k later : KernelState) (st : BoxState) → Guest s n h k at.Run → k ≡ later → box_at s n ≡ Some st
    → Row s (with_box s n None) n h (from_guest h (told h.user (heard.Box st))).hart k later
run-row s n h k later st a e home = takes-row s n h k later at.Run st true a e home refl turn obeyed
  where
    m : HandAfter h.user (heard.Box st)
    m = hands_move h.user (heard.Box st)

    b : Before s n h k
    b = a.before

    old : Recorded s k
    old = b.recorded

    due : DueFits later.jobs later.under_way
    due = subst (λ (z : KernelState). DueFits z.jobs z.under_way) e old.due

    runs : runs_thread (told h.user (heard.Box st)).hart.place ≡ runs_by true st.order
    runs = m.runs ∙ ap (λ z. runs_after z (heard.Box st)) a.user

    setting : setting_of (told h.user (heard.Box st)).hart ≡ setting_of h.user
    setting = told-setting h.user (heard.Box st) ∙ ap (λ z. settled (start_told z (heard.Box st)) (setting_of h.user)) a.user

    before_runs : runs_thread h.user.place ≡ true
    before_runs = ap runs_thread a.user

    turn : (r : HartRecord) → slice_get later.records n ≡ Some r → Agrees later r (runs_then None h.user.place) (setting_of h.user) (order_then false later n st.order)
        → Agrees later r (runs_then None (told h.user (heard.Box st)).hart.place) (setting_of (told h.user (heard.Box st)).hart) (order_then false later n (order_left true st.order))
    turn r f was =
        subst (λ z. Agrees later r z (setting_of (told h.user (heard.Box st)).hart) (order_then false later n (order_left true st.order))) (sym runs)
        (subst (λ z. Agrees later r (runs_by true st.order) z (order_then false later n (order_left true st.order))) (sym setting)
        (run-agrees later r (setting_of h.user) (is_due n later.jobs) (box_change n later) st.order (mild later n due)
        (subst (λ z. Agrees later r z (setting_of h.user) (order_then false later n st.order)) before_runs was)))

    obeyed : IsObeyed (runs_thread (told h.user (heard.Box st)).hart.place) (order_left true st.order)
    obeyed =
        let r = record-of s n h k b in
        let was : Agrees k r.0 (runs_then h.kernel h.user.place) (setting_of h.user) (order_then false k n st.order) = old.agrees n h r.0 st.order false b.here r.1 (AtHome refl (ap order_in home)) in
        let on : Agrees k r.0 true (setting_of h.user) (order_then false k n st.order) =
        subst (λ z. Agrees k r.0 z (setting_of h.user) (order_then false k n st.order)) (ap (λ z. runs_then z h.user.place) (no-kernel s n h k at.Run a) ∙ before_runs) was in
        subst (λ z. IsObeyed z (order_left true st.order)) (sym runs) (run-obeyed k r.0 (setting_of h.user) (is_due n k.jobs) (box_change n k) st.order (mild k n old.due) on)

-- an idle one
pub idle-row : (s : State) (n : ℕ) (h : HartState) (k later : KernelState) (st : BoxState) → Guest s n h k at.Idle → k ≡ later → box_at s n ≡ Some st
    → Row s (with_box s n None) n h (from_guest h (told h.user (heard.Box st))).hart k later
idle-row s n h k later st a e home = takes-row s n h k later at.Idle st false a e home refl turn obeyed
  where
    m : HandAfter h.user (heard.Box st)
    m = hands_move h.user (heard.Box st)

    b : Before s n h k
    b = a.before

    old : Recorded s k
    old = b.recorded

    due : DueFits later.jobs later.under_way
    due = subst (λ (z : KernelState). DueFits z.jobs z.under_way) e old.due

    runs : runs_thread (told h.user (heard.Box st)).hart.place ≡ runs_by false st.order
    runs = m.runs ∙ ap (λ z. runs_after z (heard.Box st)) a.user

    setting : setting_of (told h.user (heard.Box st)).hart ≡ settled_by st.order (setting_of h.user)
    setting = told-setting h.user (heard.Box st) ∙ ap (λ z. settled (start_told z (heard.Box st)) (setting_of h.user)) a.user ∙ settled-by st.order (setting_of h.user)

    new : (start : thread.Start) → is_due n later.jobs ≡ true → box_change n later ≡ Put (Start start) → is_start st.order ≡ false
    new start d put = old.told n st.order start (AtHome refl (ap order_in home)) (ap (λ (z : KernelState). is_due n z.jobs) e ∙ d) (ap (λ z. box_change n z) e ∙ put)

    turn : (r : HartRecord) → slice_get later.records n ≡ Some r → Agrees later r (runs_then None h.user.place) (setting_of h.user) (order_then false later n st.order)
        → Agrees later r (runs_then None (told h.user (heard.Box st)).hart.place) (setting_of (told h.user (heard.Box st)).hart) (order_then false later n (order_left false st.order))
    turn r f was =
        subst (λ z. Agrees later r z (setting_of (told h.user (heard.Box st)).hart) (order_then false later n (order_left false st.order))) (sym runs)
        (subst (λ z. Agrees later r (runs_by false st.order) z (order_then false later n (order_left false st.order))) (sym setting)
        (idle-agrees later r (setting_of h.user) (is_due n later.jobs) (box_change n later) st.order (mild later n due) new
        (subst (λ z. Agrees later r z (setting_of h.user) (order_then false later n st.order)) (ap runs_thread a.user) was)))

    obeyed : IsObeyed (runs_thread (told h.user (heard.Box st)).hart.place) (order_left false st.order)
    obeyed = subst (λ z. IsObeyed z (order_left false st.order)) (sym runs) (idle-obeyed st.order)
