-- The records stay so in each step of a hart in a call.
use Rattle.std.proofs.Common.{ℕ, zero, suc, ◌+◌, ◌≡◌, ◌≢◌, ◌<◌, ◌≤◌, ◌==◌, ◌⊎◌, inl, inr, Bool, true, false, ◌||◌, Option, Some, None, is_some, List, [], ◌∷◌, ◌++◌, length, map, get_or, slice_get, slice_set, arith, refl, sym, ap, subst, ◌∙◌, append_assoc}
use Rattle.std.specs.Option.{option_map_or, option_to_list}
use Rattle.std.specs.Prelude.{drop}
use Rattle.std.proofs.lemmas.List.{length-set}
use Rattle.osc_word.specs.declared.calls.Resume.{Resume}
use Rattle.osc_word.specs.declared.calls.Resume.TheVariants.{Again, Idle as ResumeIdle}
use Rattle.osc_guest.specs.User.{UserHart}
use Rattle.osc_guest.specs.declared.places.Ask.TheVariants as guest
use Rattle.osc_space.specs.Header.{Found}
use Rattle.osc_calls.specs.Begin.{Began}
use Rattle.osc_calls.specs.Finish.{returned, finish_by}
use Rattle.osc_machine.specs.Laws.{kernels_held}
use Rattle.osc_settled.proofs.Lists.{get-put_same, two_within}
use Rattle.osc_safe.proofs.CallBoxes.{some-within}
use Rattle.osc_records.proofs.Tops.{HasTop}
use Rattle.std.specs.List.{range_with_len}
use Rattle.std.proofs.lemmas.Bool.Decides.{nat_tests}
use Rattle.std.proofs.lemmas.Option.{slice_get_within}
use Rattle.osc_word.specs.declared.orders.Order.{Order}
use Rattle.osc_word.specs.declared.orders.Order.TheVariants.{Start}
use Rattle.osc_word.specs.declared.orders.Start as thread
use Rattle.osc_word.specs.declared.calls.Request.{Request}
use Rattle.osc_word.specs.declared.calls.Request.TheVariants as request
use Rattle.osc_word.specs.declared.job_list.WordAt.{WordAt}
use Rattle.osc_word.specs.declared.job_list.Job.{Job}
use Rattle.osc_word.specs.declared.job_list.Job.TheVariants.{PutWord, ZeroWords, CopyWords, CopyPart, CopyTable, ClearBox, Tell, ToOut}
use Rattle.osc_paging.specs.Boxes.{BoxState}
use Rattle.osc_guest.specs.declared.places.Place.{Place}
use Rattle.osc_guest.specs.declared.places.Place.TheVariants as at
use Rattle.osc_guest.specs.Told.{told}
use Rattle.osc_guest.specs.Told as heard
use Rattle.osc_guest.specs.Hands.{holds_box, order_in, order_after, start_told, calls_of_thread, runs_thread, runs_resumed, runs_after}
use Rattle.osc_guest.proofs.Hands.{hands_move}
use Rattle.osc_calls.specs.declared.Begun.{Begun}
use Rattle.osc_calls.specs.declared.Begun.TheVariants as begun
use Rattle.osc_calls.specs.declared.BoxChange.{BoxChange}
use Rattle.osc_calls.specs.declared.BoxChange.TheVariants.{Keep, Clear, Put}
use Rattle.osc_calls.specs.Kernel.{KernelState, Process, Calling, Effect, Nothing, Clears, Starts, Ends, UnderWay, Quiet, Retrying, Leaving, Waiting, Returning as CallReturning, process_at, next_job}
use Rattle.osc_calls.specs.Requests.{meant}
use Rattle.osc_calls.specs.Begin.{first_step, begin}
use Rattle.osc_calls.specs.Plan.{plan}
use Rattle.osc_calls.specs.Boxes.{change_of, change_by, box_change, changed}
use Rattle.osc_calls.specs.Moves.{Move, after as word_after, moves_of}
use Rattle.osc_calls.specs.Moves as move
use Rattle.osc_calls.specs.JobDone.{job_done, entries}
use Rattle.osc_calls.specs.Finish.{finish}
use Rattle.osc_settled.specs.KernelFits.{KernelFits}
use Rattle.osc_settled.specs.UnderWay.{UnderWayFits, WaitingFits}
use Rattle.osc_machine.specs.Parts.{CallPlace, Outside, TakingBoxes, FirstWord, SecondWord, Working, GivingBoxes, Returning, Return, HartState, State}
use Rattle.osc_machine.specs.Turns.{in_call, as_before, place_on, place_begun, kernel_taken, kernel_gone, return_of, first_held}
use Rattle.osc_machine.specs.Step.{box_at, with_box}
use Rattle.osc_machine.specs.Laws.{is_in_call}
use Rattle.osc_safe.specs.Holding.{hands, call_box, holds_for_call, HoldsAt, Holds}
use Rattle.osc_safe.specs.Standing.{IsFor, InHand as KernelInHand, Waits}
use Rattle.osc_safe.proofs.HoldersLaws.{one_holds}
use Rattle.osc_safe.proofs.CallBoxes.{Boxes, box-set}
use Rattle.osc_records.specs.Agreeing.{setting_of, is_start, changes_box, is_due, order_put, order_where, order_then, Agrees, DueBy, DueFits, takes_boxes, TakesNone, IsObeyed}
use Rattle.osc_records.specs.Recorded.{HasOrder, AtHome, InHand, Called, runs_then, CallFits, Recorded}
use Rattle.osc_records.proofs.Passing.{Passes, there, kept, then-kept, then-none}
use Rattle.osc_records.proofs.PlanPasses.{plan-passes}
use Rattle.osc_records.proofs.KernelPasses.{has-top, takes_header, takes_more, begin-passes, finish-passes}
use Rattle.osc_records.proofs.Rows.{after, each-order, same-orders, less-orders, more-orders, Before, Came, Row, Steady, came-agrees, passed-row}
use Rattle.osc_records.proofs.GuestRows.{settled, told-setting}

-- ---- a hart in a call
-- at this place, with this kernel
pub record Calls (s : State) (n : ℕ) (h : HartState) (p : CallPlace) (k : KernelState) : Type 0 where
  pub before : Before s n h k
  pub place : h.place ≡ p
  pub kernel : h.kernel ≡ Some k
  pub asked : Request
  pub user : h.user.place ≡ at.Call asked

-- its own hand is empty
no-hand : (s : State) (n : ℕ) (h : HartState) (k : KernelState) (asked : Request) → Before s n h k → h.user.place ≡ at.Call asked → h.user.held ≡ None
no-hand s n h k asked b e =
    let holds = b.holds in
    let m = holds.hart n h b.here in
    none h.user.held (m.own ∙ ap holds_box e)
  where
    none : (o : Option BoxState) → is_some o ≡ false → o ≡ None
    none None e = refl
    none (Some z) e = absurd (let q : ⊥ = grind (arith, e) in q)

nothing-obeyed : (o : Option BoxState) (b : Bool) → o ≡ None → (order : Order) → order_in o ≡ Some order → IsObeyed b order
nothing-obeyed o b e order f = absurd (let q : None ≡ Some order = sym (ap order_in e) ∙ f in let z : ⊥ = grind (arith, q) in z)

pub hand-place : (s : State) (n : ℕ) (h : HartState) (p : CallPlace) (k : KernelState) → Calls s n h p k → KernelInHand n p k
hand-place s n h p k a = let b = a.before in let stands = b.stands in subst (λ q. KernelInHand n q k) a.place (stands.hand n h b.here k a.kernel)

-- ---- places where a call does not wait
pub on-calls : (k own : KernelState) (boxes : Boxes) (place : Place) → CallFits (place_on k boxes) place own
on-calls k own boxes place = go (next_job k) (first_held boxes)
  where
    go : (o : Option Job) (f : Option ℕ) → CallFits (option_map_or (λ job. Working (moves_of (entries k) job) None) o (option_map_or (λ box. GivingBoxes box) f (Returning (return_of false k)))) place own
    go (Some job) f = tt
    go None (Some box) = tt
    go None None = tt

begun-calls : (b : Begun) (k own : KernelState) (boxes : Boxes) (place : Place) → (takes_header b ≡ true → TakesNone own) → (takes_more b ≡ true → runs_thread place ≡ true)
    → CallFits (place_begun b k boxes) place own
begun-calls begun.Again k own boxes place t r = tt
begun-calls begun.JournalFull k own boxes place t r = tt
begun-calls begun.Gone k own boxes place t r = tt
begun-calls begun.Boxes k own boxes place t r = r refl
begun-calls (begun.Header first second) k own boxes place t r = (r refl, t refl)
begun-calls begun.Planned k own boxes place t r = on-calls k own boxes place

-- ---- one hart has the kernel
no-hands : (harts : List HartState) (n : ℕ) (h : HartState) (k : KernelState) → slice_get harts n ≡ Some h → h.kernel ≡ Some k → kernels_held harts ≡ [] → ⊥
no-hands [] n h k e f none = grind (arith, e)
no-hands (y ∷ harts) zero h k e f none =
    let same : y ≡ h = grind (arith, e) in
    let gone : option_to_list (Some k) ++ kernels_held harts ≡ [] = sym (ap (λ z. option_to_list z ++ kernels_held harts) (ap (λ (z : HartState). z.kernel) same ∙ f)) ∙ none in
    let b : ⊥ = grind (arith, gone) in b
no-hands (y ∷ harts) (suc n) h k e f none = no-hands harts n h k e f (tail-empty (option_to_list y.kernel) (kernels_held harts) none)
  where
    tail-empty : (a b : List KernelState) → a ++ b ≡ [] → b ≡ []
    tail-empty [] b e = e
    tail-empty (x ∷ a) b e = absurd (let z : ⊥ = grind (arith, e) in z)

-- what stands behind one in a list of one
behind-one : (before more : List KernelState) (j only : KernelState) → before ++ j ∷ more ≡ only ∷ [] → more ≡ []
behind-one [] more j only e = grind (arith, e)
behind-one (b ∷ before) more j only e = absurd (filled before (let q : before ++ j ∷ more ≡ [] = cc in q))
  where
    filled : (xs : List KernelState) → xs ++ j ∷ more ≡ [] → ⊥
    filled [] q = grind (arith, q)
    filled (x ∷ xs) q = grind (arith, q)

one-hand : (harts : List HartState) (i n : ℕ) (g h : HartState) (j k only : KernelState) (before : List KernelState) → slice_get harts i ≡ Some g → slice_get harts n ≡ Some h → g.kernel ≡ Some j → h.kernel ≡ Some k
    → before ++ kernels_held harts ≡ only ∷ [] → i ≡ n
one-hand [] i n g h j k only before e f p q one = absurd (let z : ⊥ = grind (arith, e) in z)
one-hand (y ∷ harts) zero zero g h j k only before e f p q one = refl
one-hand (y ∷ harts) zero (suc n) g h j k only before e f p q one =
    let same : y ≡ g = grind (arith, e) in absurd (no-hands harts n h k f q (behind-one before (kernels_held harts) j only (subst (λ z. before ++ (option_to_list z ++ kernels_held harts) ≡ only ∷ []) (ap (λ (z : HartState). z.kernel) same ∙ p) one)))
one-hand (y ∷ harts) (suc i) zero g h j k only before e f p q one =
    let same : y ≡ h = grind (arith, f) in absurd (no-hands harts i g j e p (behind-one before (kernels_held harts) k only (subst (λ z. before ++ (option_to_list z ++ kernels_held harts) ≡ only ∷ []) (ap (λ (z : HartState). z.kernel) same ∙ q) one)))
one-hand (y ∷ harts) (suc i) (suc n) g h j k only before e f p q one =
    ap (λ z. suc z) (one-hand harts i n g h j k only (before ++ option_to_list y.kernel) e f p q (append_assoc before (option_to_list y.kernel) (kernels_held harts) ∙ one))

-- boxes of a call are in the hand of the hart that has the kernel
call-hand : (s : State) (n : ℕ) (h : HartState) (k : KernelState) → Before s n h k → h.kernel ≡ Some k → (i : ℕ) (g : HartState) (m : ℕ) (o : Order) → slice_get s.harts i ≡ Some g → order_in (call_box g m) ≡ Some o → i ≡ n
call-hand s n h k b e i g m o here f = go g.kernel refl
  where
    go : (z : Option KernelState) → g.kernel ≡ z → i ≡ n
    go (Some j) q = let has = b.has in one-hand s.harts i n g h j k k (option_to_list s.kernel) here b.here q e has.one
    go None q =
        let holds = b.holds in
        let own = holds.hart i g here in
        let has = b.has in
        let outside : is_in_call g.place ≡ false = sym (has.in_hand i g here) ∙ ap (λ z. is_some z) q in
        absurd (empty g.place outside own.boxes)
      where
        some : (z : Option BoxState) → order_in z ≡ Some o → is_some z ≡ true
        some None r = absurd (let w : ⊥ = grind (arith, r) in w)
        some (Some z) r = refl

        empty : (p : CallPlace) → is_in_call p ≡ false → HoldsAt p (length s.harts) (holds_for_call g) → ⊥
        empty Outside r none = let t = none m in let u : holds_for_call g m ≡ true = some (call_box g m) f in grind (arith, t, u)
        empty (TakingBoxes box) r none = grind (arith, r)
        empty (FirstWord first second) r none = grind (arith, r)
        empty (SecondWord found second) r none = grind (arith, r)
        empty (Working moves read) r none = grind (arith, r)
        empty (GivingBoxes box) r none = grind (arith, r)
        empty (Returning return) r none = grind (arith, r)

-- ---- a call that waits
pub record Waiter (words : List ℕ) (k : KernelState) (n : ℕ) : Type 0 where
  pub fits : KernelFits words k
  pub c : Calling
  pub waits : k.under_way ≡ Waiting c
  pub own : c.hart ≡ n
  pub p : Process
  pub is_there : process_at k c.pid ≡ Some p
  pub f : ℕ
  pub top : HasTop f p.space.tables
  pub jobs : k.jobs ≡ []

waiter : (words : List ℕ) (k : KernelState) (n : ℕ) → KernelFits words k → IsFor n k.under_way → Waits k → Waiter words k n
waiter words k n fits caller waits =
    let c = waits.0 in
    let w : WaitingFits k c = subst (λ u. UnderWayFits k u) waits.1 fits.under_way in
    let p = there (process_at k c.pid) (fits.records.lives c.hart c.pid c.thread w.caller) in
    let t = has-top words k c.pid p.0 fits p.1 p.2 in
    record { fits = fits; c = c; waits = waits.1; own = subst (IsFor n) waits.1 caller; p = p.0; is_there = p.1; f = t.0; top = t.1; jobs = w.jobs }

waits-plain : (k : KernelState) (c : Calling) (called : Bool) (m : ℕ) (o : Order) → k.under_way ≡ Waiting c → order_then called k m o ≡ o
waits-plain k c called m o e = then-kept called k m o (kept m k (Waiting c) e tt)

-- whether the hart goes on in the end, by its request
asks-call : (place : Place) (asked : Request) → place ≡ at.Call asked → runs_thread place ≡ true → (r : Resume) → runs_after place (heard.Resumed r) ≡ runs_resumed r
asks-call place (request.Call call) e f r = ap (λ z. runs_after z (heard.Resumed r)) e
asks-call place request.Idle e f r = absurd (let q : runs_thread place ≡ false = ap runs_thread e in let z : ⊥ = grind (arith, q, f) in z)

waits-again : (k : KernelState) (c : Calling) → k.under_way ≡ Waiting c → (finish k).resume ≡ Again
unfolding finish
waits-again k c e = ap (λ z. (finish_by z k).resume) e

-- the call is planned
planned-row : (s u : State) (n : ℕ) (h x : HartState) (p : CallPlace) (k : KernelState) (found : Found) (words : List ℕ) (w : Waiter words k n) → Calls s n h p k → u.harts ≡ s.harts → x.user ≡ h.user
    → x.kernel ≡ Some (plan found k).kernel → (boxes : Boxes) → x.place ≡ place_on (plan found k).kernel boxes → runs_thread h.user.place ≡ true
    → ((m : ℕ) (o : Order) (c : Bool) → HasOrder (after u n x) m o c → (was : Bool) × HasOrder s m o was)
    → (takes_boxes (first_step w.c w.p k (meant w.c.call)) ≡ true → (m : ℕ) (o : Order) → HasOrder (after u n x) m o false → ⊥)
    → Row s u n h x k (plan found k).kernel
planned-row s u n h x p k found words w a hs user kernel boxes place thread orders all =
    let b = a.before in
    let later = (plan found k).kernel in
    let passes = plan-passes n w.f words found k w.c w.p w.fits w.waits w.own w.is_there w.top in
    let was : runs_then h.kernel h.user.place ≡ true =
    ap (λ z. runs_then z h.user.place) a.kernel ∙ asks-call h.user.place a.asked a.user thread (finish k).resume ∙ ap runs_resumed (waits-again k w.c w.waits) in
    let now : runs_then x.kernel x.user.place ≡ runs_resumed (finish later).resume =
    ap (λ z. runs_then z x.user.place) kernel ∙ ap (λ (z : UserHart). runs_after z.place (heard.Resumed (finish later).resume)) user ∙ asks-call h.user.place a.asked a.user thread (finish later).resume in
    passed-row s u n h x k later (takes_boxes (first_step w.c w.p k (meant w.c.call))) b hs (ap setting_of user)
    (subst (λ z. Passes n z (runs_then x.kernel x.user.place) (takes_boxes (first_step w.c w.p k (meant w.c.call))) k later) (sym was)
    (subst (λ z. Passes n true z (takes_boxes (first_step w.c w.p k (meant w.c.call))) k later) (sym now) passes))
    (λ m o c has. (let q = orders m o c has in (q.0, q.1, waits-plain k w.c q.0 m o w.waits)))
    all
    (nothing-obeyed x.user.held (runs_thread x.user.place) (ap (λ (z : UserHart). z.held) user ∙ no-hand s n h k a.asked b a.user))
    (λ own e. subst (λ z. CallFits z x.user.place own) (sym place) (on-calls later own boxes x.user.place))

-- ---- the kernel goes on and keeps records and settings
working-row : (s u : State) (n : ℕ) (h x : HartState) (p : CallPlace) (k later : KernelState) → Calls s n h p k → u.harts ≡ s.harts → x.user ≡ h.user → x.kernel ≡ Some later → Steady k later
    → (finish later).resume ≡ (finish k).resume
    → ((m : ℕ) (o : Order) (c : Bool) → HasOrder (after u n x) m o c → Came s k later m o c)
    → ((m : ℕ) (o : Order) (start : thread.Start) → HasOrder (after u n x) m o false → is_due m later.jobs ≡ true → box_change m later ≡ Put (Start start) → is_start o ≡ false)
    → DueFits later.jobs later.under_way → CallFits x.place h.user.place later → Row s u n h x k later
working-row s u n h x p k later a hs user kernel steady resumes came told due calls =
    let b = a.before in
    let old = b.recorded in
    let runs_same : runs_then h.kernel h.user.place ≡ runs_then x.kernel x.user.place =
    ap (λ z. runs_then z h.user.place) a.kernel ∙ ap (λ r. runs_after h.user.place (heard.Resumed r)) (sym resumes)
    ∙ ap (λ (z : UserHart). runs_after z.place (heard.Resumed (finish later).resume)) (sym user) ∙ ap (λ z. runs_then z x.user.place) (sym kernel) in record {
      harts = hs;
      config = steady.config;
      agrees = λ i g r o c apart here f has. came-agrees s n h k later old steady i g r o c here f (came i o c has);
      mine = λ r o c f has. (let q = came-agrees s n h k later old steady n h r o c b.here f (came n o c has) in
          subst (λ z. Agrees later r z (setting_of x.user) (order_then c later n o)) runs_same
          (subst (λ z. Agrees later r (runs_then h.kernel h.user.place) z (order_then c later n o)) (ap setting_of (sym user)) q));
      told = told;
      obeyed = nothing-obeyed x.user.held (runs_thread x.user.place) (ap (λ (z : UserHart). z.held) user ∙ no-hand s n h k a.asked b a.user);
      due = due;
      calls = λ own e. (let same : later ≡ own = (let q : Some later ≡ Some own = sym kernel ∙ e in cc) in
          subst (λ (z : UserHart). CallFits x.place z.place own) (sym user) (subst (CallFits x.place h.user.place) same calls));
    }

steady-refl : (k : KernelState) → Steady k k
steady-refl k = record { config = refl; records = refl; settings = λ pid. refl }

-- nothing changes but the hart's place
pub still-row : (s u : State) (n : ℕ) (h x : HartState) (p : CallPlace) (k : KernelState) → Calls s n h p k → u.harts ≡ s.harts → u.boxes ≡ s.boxes → x.user ≡ h.user → x.kernel ≡ Some k → x.boxes ≡ h.boxes
    → CallFits x.place h.user.place k → Row s u n h x k k
still-row s u n h x p k a hs bs user kernel boxes calls =
    let b = a.before in
    let old = b.recorded in
    let orders = same-orders s u n h x b.here hs bs boxes (ap (λ (z : UserHart). order_in z.held) user) in
    working-row s u n h x p k k a hs user kernel (steady-refl k) refl
    (λ m o c has. record { was = o; called = c; had = orders m o c has; same = refl })
    (λ m o start has due put. old.told m o start (orders m o false has) due put) old.due calls

-- ---- a box is taken
took-orders : (s : State) (n : ℕ) (h x : HartState) (box : ℕ) (state : BoxState) → slice_get s.harts n ≡ Some h → box_at s box ≡ Some state → x.user ≡ h.user → x.boxes ≡ slice_set h.boxes box (Some state)
    → (m : ℕ) (o : Order) (c : Bool) → HasOrder (after (with_box s box None) n x) m o c → (was : Bool) × HasOrder s m o was
took-orders s n h x box state here home user boxes =
    each-order s (with_box s box None) n x (λ m o c. (was : Bool) × HasOrder s m o was) refl
    (λ m o e. (let q = less-orders s.boxes box m o e in (false, AtHome refl q.1)))
    (λ o e. (false, InHand h refl here (ap (λ (z : UserHart). order_in z.held) (sym user) ∙ e)))
    (λ m o e. mine m o (more-orders h.boxes box m state o (ap (λ xs. order_in (get_or xs m None)) (sym boxes) ∙ e)))
    (λ m g o apart at_m e. (false, InHand g refl at_m e))
    (λ i g m o apart at_i e. (true, Called i g refl at_i e))
  where
    mine : (m : ℕ) (o : Order) → ((m ≡ box) × (state.order ≡ o)) ⊎ ((m ≢ box) × (order_in (get_or h.boxes m None) ≡ Some o)) → (was : Bool) × HasOrder s m o was
    mine m o (inl q) = (false, AtHome refl (ap (λ z. order_in (box_at s z)) q.0 ∙ ap order_in home ∙ ap (λ z. Some z) q.1))
    mine m o (inr q) = (true, Called n h refl here q.1)

pub takes-row : (s : State) (n : ℕ) (h : HartState) (box : ℕ) (state : BoxState) (k : KernelState) → Calls s n h (TakingBoxes box) k → box_at s box ≡ Some state
    → Row s (with_box s box None) n h (in_call false (as_before k) (TakingBoxes (box + 1)) (record h { boxes = slice_set h.boxes box (Some state) })).hart k k
takes-row s n h box state k a home =
    let b = a.before in
    let old = b.recorded in
    let i = hand-place s n h (TakingBoxes box) k a in
    let f = i.fits in
    let w = waiter f.words k n f.fits i.caller i.stands in
    let thread : CallFits (TakingBoxes box) h.user.place k = subst (λ z. CallFits z h.user.place k) a.place (old.calls n h k b.here a.kernel) in
    let orders = took-orders s n h (in_call false (as_before k) (TakingBoxes (box + 1)) (record h { boxes = slice_set h.boxes box (Some state) })).hart box state b.here home refl refl in
    working-row s (with_box s box None) n h _ (TakingBoxes box) k k a refl refl refl (steady-refl k) refl
    (λ m o c has. (let q = orders m o c has in record { was = o; called = q.0; had = q.1; same = waits-plain k w.c c m o w.waits ∙ sym (waits-plain k w.c q.0 m o w.waits) }))
    (λ m o start has due put. absurd (let q : is_due m k.jobs ≡ false = ap (is_due m) w.jobs in let z : ⊥ = grind (arith, q, due) in z))
    old.due thread

-- the last box is taken: all are in the hart's hand then
has-all : (s : State) (n : ℕ) (h : HartState) (box : ℕ) (state : BoxState) (k : KernelState) → Calls s n h (TakingBoxes box) k → (box + 1 == h.count) ≡ true
    → (m : ℕ) → m < length s.harts → is_some (get_or (slice_set h.boxes box (Some state)) m None) ≡ true
has-all s n h box state k a last m l =
    let b = a.before in
    let holds = b.holds in
    let own = holds.hart n h b.here in
    let held : HoldsAt (TakingBoxes box) (length s.harts) (holds_for_call h) = subst (λ z. HoldsAt z (length s.harts) (holds_for_call h)) a.place own.boxes in
    let count : box + 1 ≡ length s.harts = (let e : box + 1 ≡ h.count = grind (arith, nat_tests, last) in e ∙ own.count) in
    let before = held.1 m in
    let room = own.room in
    grind (arith, nat_tests, before, count, room, l, box-set h.boxes box m (Some state))

all-called : (s : State) (n m : ℕ) (x : HartState) (o : Order) → Holds s → slice_get s.harts n ≡ Some x → x.user.held ≡ None → ((i : ℕ) → i < length s.harts → is_some (call_box x i) ≡ true)
    → HasOrder s m o false → ⊥
all-called s n m x o holds here none all (AtHome q e) = home (box_at s m) refl e
  where
    home : (z : Option BoxState) → box_at s m ≡ z → order_in z ≡ Some o → ⊥
    home None f g = grind (arith, g)
    home (Some state) f g =
        let l = some-within s.boxes m (ap (λ z. is_some z) f) in
        let laws = one_holds in
        let w = laws.home s m n state x holds l f here in
        let t = all m (subst (λ z. m < z) holds.room l) in
        grind (arith, w, t)
all-called s n m x o holds here none all (InHand g q e f) = go (m == n) refl
  where
    has_it : (z : Option BoxState) → order_in z ≡ Some o → is_some z ≡ true
    has_it None r = absurd (let b : ⊥ = grind (arith, r) in b)
    has_it (Some z) r = refl

    go : (b : Bool) → (m == n) ≡ b → ⊥
    go true d =
        let at_n : m ≡ n = grind (arith, nat_tests, d) in
        let same : x ≡ g = (let r : Some x ≡ Some g = sym here ∙ ap (λ z. slice_get s.harts z) (sym at_n) ∙ e in cc) in
        let r : None ≡ Some o = sym (ap order_in (ap (λ (z : HartState). z.user.held) (sym same) ∙ none)) ∙ f in grind (arith, r)
    go false d =
        let apart : n ≢ m = (λ r. (let z : ⊥ = grind (arith, nat_tests, d, r) in z)) in
        let l = slice_get_within s.harts m g e in
        let two = two_within (hands m) s.harts n m x g apart here e in
        let sum = holds.box m (subst (λ z. m < z) (sym holds.room) l) in
        let t = all m l in
        let own = holds.hart m g e in
        let number = own.number in
        let held = has_it g.user.held f in
        let mine : 1 ≤ hands m x = grind (arith, nat_tests, t) in
        let its : 1 ≤ hands m g = grind (arith, nat_tests, number, held) in
        omega (arith, two, sum, mine, its)
all-called s n m x o holds here none all (Called i g q e f) = grind (arith, q)

pub took-last-row : (s : State) (n : ℕ) (h x : HartState) (box : ℕ) (state : BoxState) (k : KernelState) (found : Found) → Calls s n h (TakingBoxes box) k → box_at s box ≡ Some state → (box + 1 == h.count) ≡ true
    → x.user ≡ h.user → x.kernel ≡ Some (plan found k).kernel → x.boxes ≡ slice_set h.boxes box (Some state) → x.place ≡ place_on (plan found k).kernel (slice_set h.boxes box (Some state))
    → Holds (after (with_box s box None) n x) → Row s (with_box s box None) n h x k (plan found k).kernel
took-last-row s n h x box state k found a home last user kernel boxes place now =
    let b = a.before in
    let old = b.recorded in
    let i = hand-place s n h (TakingBoxes box) k a in
    let f = i.fits in
    let w = waiter f.words k n f.fits i.caller i.stands in
    let thread : CallFits (TakingBoxes box) h.user.place k = subst (λ z. CallFits z h.user.place k) a.place (old.calls n h k b.here a.kernel) in
    let written : slice_get (after (with_box s box None) n x).harts n ≡ Some x = get-put_same s.harts n h x b.here in
    let size : length (after (with_box s box None) n x).harts ≡ length s.harts = length-set s.harts n x in
    planned-row s (with_box s box None) n h x (TakingBoxes box) k found f.words w a refl user kernel (slice_set h.boxes box (Some state)) place thread
    (took-orders s n h x box state b.here home user boxes)
    (λ q m o has. all-called (after (with_box s box None) n x) n m x o now written (ap (λ (z : UserHart). z.held) user ∙ no-hand s n h k a.asked b a.user)
    (λ j l. ap (λ xs. is_some (get_or xs j None)) boxes ∙ has-all s n h box state k a last j (subst (λ z. j < z) size l)) has)

-- ---- a header was read
pub found-row : (s : State) (n : ℕ) (h x : HartState) (first : ℕ) (second : WordAt) (k : KernelState) (found : Found) → Calls s n h (SecondWord first second) k
    → x.user ≡ h.user → x.kernel ≡ Some (plan found k).kernel → x.boxes ≡ h.boxes → x.place ≡ place_on (plan found k).kernel h.boxes → Row s s n h x k (plan found k).kernel
found-row s n h x first second k found a user kernel boxes place =
    let b = a.before in
    let old = b.recorded in
    let i = hand-place s n h (SecondWord first second) k a in
    let f = i.fits in
    let w = waiter f.words k n f.fits i.caller i.stands in
    let fits : CallFits (SecondWord first second) h.user.place k = subst (λ z. CallFits z h.user.place k) a.place (old.calls n h k b.here a.kernel) in
    let none = fits.1 w.c w.p w.waits w.is_there in
    planned-row s s n h x (SecondWord first second) k found f.words w a refl user kernel h.boxes place fits.0
    (λ m o c has. (c, same-orders s s n h x b.here refl refl boxes (ap (λ (z : UserHart). order_in z.held) user) m o c has))
    (λ q m o has. (let z : ⊥ = grind (arith, none, q) in z))

-- ---- the kernel is taken
pub begun-row : (s u : State) (n : ℕ) (h : HartState) (k : KernelState) (asked : Request) → Before s n h k → s.kernel ≡ Some k → h.kernel ≡ None → h.user.place ≡ at.Call asked → u.harts ≡ s.harts → u.boxes ≡ s.boxes
    → Row s u n h (kernel_taken (guest.Kernel asked) k h).hart k (begin n h.user.regs h.user.pc asked k).kernel
begun-row s u n h k asked b home kernel user hs bs =
    let stands = b.stands in
    let at_home = stands.home k home in
    let f = at_home.fits in
    let holds = b.holds in
    let own = holds.hart n h b.here in
    let passes = begin-passes n h.user.regs h.user.pc f.words k asked f.fits at_home.quiet in
    let later = (begin n h.user.regs h.user.pc asked k).kernel in
    let x = (kernel_taken (guest.Kernel asked) k h).hart in
    let number : begin h.number h.user.regs h.user.pc asked k ≡ begin n h.user.regs h.user.pc asked k = ap (λ z. begin z h.user.regs h.user.pc asked k) own.number in
    let was : runs_then h.kernel h.user.place ≡ calls_of_thread asked = ap (λ z. runs_then z h.user.place) kernel ∙ ap runs_thread user in
    let now : runs_then x.kernel x.user.place ≡ runs_after (at.Call asked) (heard.Resumed (finish later).resume) =
    ap (λ z. runs_after h.user.place (heard.Resumed (finish z.kernel).resume)) number ∙ ap (λ z. runs_after z (heard.Resumed (finish later).resume)) user in
    passed-row s u n h x k later false b hs refl
    (subst (λ z. Passes n z (runs_then x.kernel x.user.place) false k later) (sym was) (subst (λ z. Passes n (calls_of_thread asked) z false k later) (sym now) passes.passes))
    (λ m o c has. (c, same-orders s u n h x b.here hs bs refl refl m o c has, then-kept c k m o (kept m k Quiet at_home.quiet tt)))
    (λ q. absurd (let z : ⊥ = grind (arith, q) in z))
    (nothing-obeyed h.user.held (runs_thread h.user.place) (no-hand s n h k asked b user))
    (λ mine e. (let same : later ≡ mine = (let q : Some (begin h.number h.user.regs h.user.pc asked k).kernel ≡ Some mine = e in ap (λ (z : Began). z.kernel) (sym number) ∙ (let r : (begin h.number h.user.regs h.user.pc asked k).kernel ≡ mine = cc in r)) in
    subst (λ (z : Began). CallFits (place_begun z.begun z.kernel h.boxes) h.user.place mine) (sym number)
    (subst (λ z. CallFits (place_begun (begin n h.user.regs h.user.pc asked k).begun later h.boxes) h.user.place z) same
    (begun-calls (begin n h.user.regs h.user.pc asked k).begun later later h.boxes h.user.place passes.header (λ q. ap runs_thread user ∙ passes.asks q)))))

-- ---- and given
leaves : (k : KernelState) (hart : ℕ) → k.under_way ≡ Leaving hart → (finish k).resume ≡ ResumeIdle
unfolding finish
leaves k hart e = ap (λ z. (finish_by z k).resume) e

pub given-row : (s u : State) (n : ℕ) (h : HartState) (return : Return) (k : KernelState) → Calls s n h (Returning return) k → u.harts ≡ s.harts → u.boxes ≡ s.boxes
    → Row s u n h (kernel_gone return h).hart k (finish k).kernel
given-row s u n h return k a hs bs =
    let b = a.before in
    let i = hand-place s n h (Returning return) k a in
    let f = i.fits in
    let x = (kernel_gone return h).hart in
    let t = heard.Resumed return.resume in
    let m = hands_move h.user t in
    let resume_is : return.resume ≡ (finish k).resume = ap (λ (z : Return). z.resume) i.stands.2 in
    let was : runs_then h.kernel h.user.place ≡ runs_after h.user.place (heard.Resumed (finish k).resume) = ap (λ z. runs_then z h.user.place) a.kernel in
    let now : runs_then x.kernel x.user.place ≡ runs_then h.kernel h.user.place = m.runs ∙ ap (λ r. runs_after h.user.place (heard.Resumed r)) resume_is ∙ sym was in
    let same_order : order_in x.user.held ≡ order_in h.user.held = m.order ∙ ap (λ z. order_after z t (order_in h.user.held)) a.user in
    let held_none : order_in x.user.held ≡ None = same_order ∙ ap order_in (no-hand s n h k a.asked b a.user) in
    passed-row s u n h x k (finish k).kernel false b hs (told-setting h.user t ∙ ap (λ z. settled (start_told z t) (setting_of h.user)) a.user)
    (subst (λ z. Passes n (runs_then h.kernel h.user.place) z false k (finish k).kernel) (sym now)
    (finish-passes n (runs_then h.kernel h.user.place) f.words k f.fits
    (λ hart e. (subst (IsFor n) e i.caller, was ∙ ap (λ r. runs_after h.user.place (heard.Resumed r)) (leaves k hart e) ∙ ap (λ z. runs_after z (heard.Resumed ResumeIdle)) a.user ∙ after-idle a.asked))))
    (λ m o c has. (let q = same-orders s u n h x b.here hs bs refl same_order m o c has in (c, q, plain m o c q i.stands.1)))
    (λ q. absurd (let z : ⊥ = grind (arith, q) in z))
    (λ o e. absurd (let q : None ≡ Some o = sym held_none ∙ e in let z : ⊥ = grind (arith, q) in z))
    (λ own e. absurd (let z : ⊥ = grind (arith, e) in z))
  where
    after-idle : (asked : Request) → runs_after (at.Call asked) (heard.Resumed ResumeIdle) ≡ false
    after-idle (request.Call call) = refl
    after-idle request.Idle = refl

    -- no box is in a call's hand any more
    empty : (g : HartState) (m : ℕ) (o : Order) → slice_get s.harts n ≡ Some g → order_in (call_box g m) ≡ Some o → ⊥
    empty g m o here e =
        let b = a.before in
        let holds = b.holds in
        let own = holds.hart n g here in
        let same : h ≡ g = (let r : Some h ≡ Some g = sym b.here ∙ here in cc) in
        let place : g.place ≡ Returning return = ap (λ (z : HartState). z.place) (sym same) ∙ a.place in
        let none : HoldsAt (Returning return) (length s.harts) (holds_for_call g) = subst (λ z. HoldsAt z (length s.harts) (holds_for_call g)) place own.boxes in
        let t = none m in some (call_box g m) t e
      where
        some : (z : Option BoxState) → is_some z ≡ false → order_in z ≡ Some o → ⊥
        some None f e = grind (arith, e)
        some (Some z) f e = grind (arith, f)

    plain : (m : ℕ) (o : Order) (c : Bool) → HasOrder s m o c → k.jobs ≡ [] → order_then c k m o ≡ o
    plain m o c (AtHome q e) none = ap (λ z. order_then z k m o) q ∙ then-none k m o none
    plain m o c (InHand g q e f) none = ap (λ z. order_then z k m o) q ∙ then-none k m o none
    plain m o c (Called j g q e f) none =
        let b = a.before in absurd (empty g m o (subst (λ z. slice_get s.harts z ≡ Some g) (call-hand s n h k b a.kernel j g m o e f) e) f)

-- ---- a box is given
put-order : (c : BoxChange) (state : BoxState) → (changed c state).order ≡ order_put c state.order
put-order Keep state = refl
put-order Clear state = refl
put-order (Put order) state = refl

put-twice : (c : BoxChange) (o : Order) → order_put c (order_put c o) ≡ order_put c o
put-twice Keep o = refl
put-twice Clear o = refl
put-twice (Put order) o = refl

where-put : (due : Bool) (c : BoxChange) (o : Order) → order_where due c (order_put c o) ≡ order_put c o
where-put true c o = put-twice c o
where-put false c o = refl

pub gave-row : (s : State) (n : ℕ) (h x : HartState) (box : ℕ) (state given : BoxState) (k : KernelState) → Calls s n h (GivingBoxes box) k → call_box h box ≡ Some state → given ≡ changed (box_change box k) state
    → x.user ≡ h.user → x.kernel ≡ Some k → x.boxes ≡ slice_set h.boxes box None → CallFits x.place h.user.place k → Row s (with_box s box (Some given)) n h x k k
gave-row s n h x box state given k a had is user kernel boxes calls =
    let b = a.before in
    let old = b.recorded in
    let i = hand-place s n h (GivingBoxes box) k a in
    let none = i.stands.1 in
    working-row s (with_box s box (Some given)) n h x (GivingBoxes box) k k a refl user kernel (steady-refl k) refl
    (each-order s (with_box s box (Some given)) n x (λ m o c. Came s k k m o c) refl
    (λ m o e. at_home m o none (more-orders s.boxes box m given o e))
    (λ o e. record { was = o; called = false; had = InHand h refl b.here (ap (λ (z : UserHart). order_in z.held) (sym user) ∙ e); same = refl })
    (λ m o e. (let q = less-orders h.boxes box m o (ap (λ xs. order_in (get_or xs m None)) (sym boxes) ∙ e) in record { was = o; called = true; had = Called n h refl b.here q.1; same = refl }))
    (λ m g o apart at_m e. record { was = o; called = false; had = InHand g refl at_m e; same = refl })
    (λ j g m o apart at_j e. record { was = o; called = true; had = Called j g refl at_j e; same = refl }))
    (λ m o start has due put. absurd (let q : is_due m k.jobs ≡ false = ap (is_due m) none in let z : ⊥ = grind (arith, q, due) in z))
    old.due calls
  where
    at_home : (m : ℕ) (o : Order) → k.jobs ≡ [] → ((m ≡ box) × (given.order ≡ o)) ⊎ ((m ≢ box) × (order_in (get_or s.boxes m None) ≡ Some o)) → Came s k k m o false
    at_home m o none (inl q) = let b = a.before in record {
      was = state.order;
      called = true;
      had = Called n h refl b.here (ap (λ z. order_in (call_box h z)) q.0 ∙ ap order_in had);
      same = then-none k m o none ∙ sym q.1 ∙ ap (λ (z : BoxState). z.order) is ∙ put-order (box_change box k) state ∙ ap (λ z. order_put (box_change z k) state.order) (sym q.0);
    }
    at_home m o none (inr q) = record { was = o; called = false; had = AtHome refl q.1; same = refl }

-- ---- a job is done
done-steady : (word : ℕ) (k : KernelState) → Steady k (job_done word k).kernel
unfolding job_done
done-steady word k = record { config = refl; records = refl; settings = λ pid. refl }

done-resume : (word : ℕ) (k : KernelState) → (finish (job_done word k).kernel).resume ≡ (finish k).resume
unfolding finish job_done
done-resume word k = go k.under_way
  where
    go : (u : UnderWay) → (finish_by u (job_done word k).kernel).resume ≡ (finish_by u k).resume
    go Quiet = refl
    go Retrying = refl
    go (Leaving hart) = refl
    go (Waiting c) = refl
    go (CallReturning done) = which (process_at k done.calling.pid)
      where
        which : (o : Option Process) → (returned done o (job_done word k).kernel).resume ≡ (returned done o k).resume
        which None = refl
        which (Some p) = refl

done-change : (word m : ℕ) (k : KernelState) → box_change m (job_done word k).kernel ≡ box_change m k
unfolding box_change job_done
done-change word m k = go k.under_way
  where
    go : (u : UnderWay) → change_by (job_done word k).kernel m u ≡ change_by k m u
    go Quiet = refl
    go Retrying = refl
    go (Leaving hart) = refl
    go (Waiting c) = refl
    go (CallReturning done) = which done.effect
      where
        which : (e : Effect) → change_of (job_done word k).kernel done.calling.pid m e ≡ change_of k done.calling.pid m e
        which Nothing = refl
        which Clears = refl
        which (Starts hart start) = refl
        which (Ends status) = refl

done-jobs : (word : ℕ) (k : KernelState) → (job_done word k).kernel.jobs ≡ drop 1 k.jobs
unfolding job_done
done-jobs word k = refl

done-under_way : (word : ℕ) (k : KernelState) → (job_done word k).kernel.under_way ≡ k.under_way
unfolding job_done
done-under_way word k = refl

-- the job that is done, and those after it
record Head (k : KernelState) (job : Job) (rest : List Job) : Type 0 where
  jobs : k.jobs ≡ job ∷ rest

head-of : (jobs : List Job) (job : Job) → slice_get jobs 0 ≡ Some job → (rest : List Job) × (jobs ≡ job ∷ rest)
head-of [] job e = absurd (let b : ⊥ = grind (arith, e) in b)
head-of (x ∷ jobs) job e = (jobs, (let q : x ≡ job = grind (arith, e) in ap (λ y. y ∷ jobs) q))

due-first : (m : ℕ) (job : Job) (rest : List Job) → is_due m (job ∷ rest) ≡ (changes_box m job || is_due m rest)
due-first m job rest = grind (arith)

-- a job that is done leaves no order to begin due
rest-due : (job : Job) (rest : List Job) (effect : Effect) → DueBy (job ∷ rest) effect → DueBy rest effect
rest-due job rest Nothing d = tt
rest-due job rest Clears d = tt
rest-due job rest (Starts hart start) (inl e) = inr (λ n. (let q : rest ≡ [] = grind (arith, e) in ap (is_due n) q))
rest-due job rest (Starts hart start) (inr none) = inr (λ n. (let q = none n in let f = due-first n job rest in let z : is_due n rest ≡ false = grind (arith, q, f) in z))
rest-due job rest (Ends status) d = absurd (let b : ⊥ = grind (arith, d) in b)

rest-told : (k : KernelState) (pid m : ℕ) (job : Job) (rest : List Job) (effect : Effect) (start : thread.Start) → DueBy (job ∷ rest) effect → change_of k pid m effect ≡ Put (Start start) → is_due m rest ≡ true → ⊥
rest-told k pid m job rest Nothing start d put due = grind (arith, put)
rest-told k pid m job rest Clears start d put due = grind (arith, put)
rest-told k pid m job rest (Starts hart began) start (inl e) put due = let q : rest ≡ [] = grind (arith, e) in let f : is_due m rest ≡ false = ap (is_due m) q in grind (arith, f, due)
rest-told k pid m job rest (Starts hart began) start (inr none) put due = let q = none m in let f = due-first m job rest in grind (arith, q, f, due)
rest-told k pid m job rest (Ends status) start d put due = grind (arith, d)

under-rest : (jobs : List Job) (job : Job) (u : UnderWay) → DueFits (job ∷ jobs) u → DueFits jobs u
under-rest jobs job Quiet d = tt
under-rest jobs job Retrying d = tt
under-rest jobs job (Leaving hart) d = tt
under-rest jobs job (Waiting c) d = tt
under-rest jobs job (CallReturning done) d = rest-due job jobs done.effect d

under-told : (k : KernelState) (m : ℕ) (jobs : List Job) (job : Job) (u : UnderWay) (start : thread.Start) → DueFits (job ∷ jobs) u → change_by k m u ≡ Put (Start start) → is_due m jobs ≡ true → ⊥
under-told k m jobs job Quiet start d put due = grind (arith, put)
under-told k m jobs job Retrying start d put due = grind (arith, put)
under-told k m jobs job (Leaving hart) start d put due = grind (arith, put)
under-told k m jobs job (Waiting c) start d put due = grind (arith, put)
under-told k m jobs job (CallReturning done) start d put due = rest-told k done.calling.pid m job jobs done.effect start d put due

told-after : (k : KernelState) (m : ℕ) (jobs : List Job) (job : Job) (start : thread.Start) → DueFits (job ∷ jobs) k.under_way → box_change m k ≡ Put (Start start) → is_due m jobs ≡ true → ⊥
unfolding box_change
told-after k m jobs job start d put due = under-told k m jobs job k.under_way start d put due

record Done (k : KernelState) (word : ℕ) (job : Job) (rest : List Job) : Type 0 where
  head : k.jobs ≡ job ∷ rest
  jobs : (job_done word k).kernel.jobs ≡ rest
  due : DueFits (job_done word k).kernel.jobs (job_done word k).kernel.under_way
  told : (m : ℕ) (o : Order) (start : thread.Start) → is_due m (job_done word k).kernel.jobs ≡ true → box_change m (job_done word k).kernel ≡ Put (Start start) → is_start o ≡ false

done-is : (s : State) (k : KernelState) (word : ℕ) (job : Job) → Recorded s k → next_job k ≡ Some job → (rest : List Job) × Done k word job rest
done-is s k word job old next =
    let h = head-of k.jobs job next in
    let jobs : (job_done word k).kernel.jobs ≡ h.0 = done-jobs word k ∙ ap (λ js. drop 1 js) h.1 in
    let was : DueFits (job ∷ h.0) k.under_way = subst (λ js. DueFits js k.under_way) h.1 old.due in (
      h.0,
      record {
        head = h.1;
        jobs = jobs;
        due = subst (λ js. DueFits js (job_done word k).kernel.under_way) (sym jobs) (subst (DueFits h.0) (sym (done-under_way word k)) (under-rest h.0 job k.under_way was));
        told = λ m o start due put. absurd (told-after k m h.0 job start was (sym (done-change word m k) ∙ put) (sym (ap (is_due m) jobs) ∙ due));
      },
    )

-- the order in a box that the job does not change
done-same : (k : KernelState) (word m : ℕ) (job : Job) (rest : List Job) (c : Bool) (o : Order) → Done k word job rest → (c ≡ false → changes_box m job ≡ false) → order_then c (job_done word k).kernel m o ≡ order_then c k m o
done-same k word m job rest true o d none = ap (λ z. order_put z o) (done-change word m k)
done-same k word m job rest false o d none =
    let due : is_due m (job_done word k).kernel.jobs ≡ is_due m k.jobs =
    ap (is_due m) d.jobs ∙ sym (ap (is_due m) d.head ∙ due-first m job rest ∙ ap (λ z. z || is_due m rest) (none refl)) in
    ap (λ z. order_where z (box_change m (job_done word k).kernel) o) due ∙ ap (λ z. order_where (is_due m k.jobs) z o) (done-change word m k)

-- by a store or a load
pub done-row : (s u : State) (n : ℕ) (h x : HartState) (p : CallPlace) (k : KernelState) (word : ℕ) (job : Job) (boxes : Boxes) → Calls s n h p k → next_job k ≡ Some job → ((m : ℕ) → changes_box m job ≡ false)
    → u.harts ≡ s.harts → u.boxes ≡ s.boxes → x.user ≡ h.user → x.kernel ≡ Some (job_done word k).kernel → x.boxes ≡ h.boxes → x.place ≡ place_on (job_done word k).kernel boxes
    → Row s u n h x k (job_done word k).kernel
done-row s u n h x p k word job list a next none hs bs user kernel boxes place =
    let b = a.before in
    let old = b.recorded in
    let d = done-is s k word job old next in
    let done = d.1 in
    let orders = same-orders s u n h x b.here hs bs boxes (ap (λ (z : UserHart). order_in z.held) user) in
    working-row s u n h x p k (job_done word k).kernel a hs user kernel (done-steady word k) (done-resume word k)
    (λ m o c has. record { was = o; called = c; had = orders m o c has; same = done-same k word m job d.0 c o done (λ q. none m) })
    (λ m o start has due put. done.told m o start due put) done.due
    (subst (λ z. CallFits z h.user.place (job_done word k).kernel) (sym place) (on-calls (job_done word k).kernel (job_done word k).kernel list h.user.place))

-- by a change of a box at home
pub changed-row : (s : State) (n : ℕ) (h x : HartState) (p : CallPlace) (k : KernelState) (word : ℕ) (job : Job) (list : Boxes) (box : ℕ) (state given : BoxState) → Calls s n h p k → next_job k ≡ Some job
    → ((m : ℕ) → changes_box m job ≡ (box == m)) → box_at s box ≡ Some state → given ≡ changed (box_change box k) state
    → x.user ≡ h.user → x.kernel ≡ Some (job_done word k).kernel → x.boxes ≡ h.boxes → x.place ≡ place_on (job_done word k).kernel list
    → Row s (with_box s box (Some given)) n h x k (job_done word k).kernel
changed-row s n h x p k word job list box state given a next one home is user kernel boxes place =
    working-row s (with_box s box (Some given)) n h x p k later a refl user kernel (done-steady word k) (done-resume word k)
    (each-order s (with_box s box (Some given)) n x (λ m o c. Came s k later m o c) refl
    (λ m o e. at_home m o (more-orders s.boxes box m given o e))
    (λ o e. in_hand n h o b.here (ap (λ (z : UserHart). order_in z.held) (sym user) ∙ e))
    (λ m o e. record { was = o; called = true; had = Called n h refl b.here (ap (λ xs. order_in (get_or xs m None)) (sym boxes) ∙ e); same = done-same k word m job rest true o done (λ q. absurd (let z : ⊥ = grind (arith, q) in z)) })
    (λ m g o apart at_m e. in_hand m g o at_m e)
    (λ j g m o apart at_j e. record { was = o; called = true; had = Called j g refl at_j e; same = done-same k word m job rest true o done (λ q. absurd (let z : ⊥ = grind (arith, q) in z)) }))
    (λ m o start has due put. done.told m o start due put) done.due
    (subst (λ z. CallFits z h.user.place later) (sym place) (on-calls later later list h.user.place))
  where
    later : KernelState
    later = (job_done word k).kernel

    b : Before s n h k
    b = a.before

    old : Recorded s k
    old = b.recorded

    found : (rest : List Job) × Done k word job rest
    found = done-is s k word job old next

    rest : List Job
    rest = found.0

    done : Done k word job rest
    done = found.1

    other : (m : ℕ) → m ≢ box → changes_box m job ≡ false
    other m apart = one m ∙ (let q : (box == m) ≡ false = grind (arith, nat_tests, apart) in q)

    at_home : (m : ℕ) (o : Order) → ((m ≡ box) × (given.order ≡ o)) ⊎ ((m ≢ box) × (order_in (get_or s.boxes m None) ≡ Some o)) → Came s k later m o false
    at_home m o (inl q) =
        let is_one : changes_box m job ≡ true = one m ∙ (let t : (box == m) ≡ true = (let r = q.0 in grind (arith, nat_tests, r)) in t) in
        let due : is_due m k.jobs ≡ true = ap (is_due m) done.head ∙ due-first m job rest ∙ ap (λ z. z || is_due m rest) is_one in
        let o_is : o ≡ order_put (box_change m k) state.order = sym q.1 ∙ ap (λ (z : BoxState). z.order) is ∙ put-order (box_change box k) state ∙ ap (λ z. order_put (box_change z k) state.order) (sym q.0) in record {
          was = state.order;
          called = false;
          had = AtHome refl (ap (λ z. order_in (box_at s z)) q.0 ∙ ap order_in home);
          same = ap (λ z. order_then false later m z) o_is ∙ ap (λ z. order_where (is_due m later.jobs) z (order_put (box_change m k) state.order)) (done-change word m k)
              ∙ where-put (is_due m later.jobs) (box_change m k) state.order ∙ sym (ap (λ z. order_where z (box_change m k) state.order) due);
        }
    at_home m o (inr q) = record { was = o; called = false; had = AtHome refl q.1; same = done-same k word m job rest false o done (λ z. other m q.0) }

    -- a box at home is in no hand
    in_hand : (m : ℕ) (g : HartState) (o : Order) → slice_get s.harts m ≡ Some g → order_in g.user.held ≡ Some o → Came s k later m o false
    in_hand m g o here e = record { was = o; called = false; had = InHand g refl here e; same = done-same k word m job rest false o done (λ z. other m apart) }
      where
        has_it : (z : Option BoxState) → order_in z ≡ Some o → is_some z ≡ true
        has_it None r = absurd (let w : ⊥ = grind (arith, r) in w)
        has_it (Some z) r = refl

        apart : m ≢ box
        apart q =
            let holds = b.holds in
            let l = slice_get_within s.harts m g here in
            let laws = one_holds in
            let w = laws.home s box m state g holds (subst (λ z. z < length s.boxes) q (subst (λ z. m < z) (sym holds.room) l)) home here in
            let own = holds.hart m g here in
            let number = own.number in
            let held = has_it g.user.held e in
            grind (arith, nat_tests, w, number, held, q)

-- ---- the moves of a job
one-move : (before : List Move) (m y : Move) (moves : List Move) → y ∷ [] ≡ before ++ m ∷ moves → (y ≡ m) × (moves ≡ [])
one-move [] m y moves e = ((let q : y ≡ m = cc in q), (let q : moves ≡ [] = grind (arith, e) in q))
one-move (x ∷ before) m y moves e = absurd (let q : [] ≡ before ++ m ∷ moves = grind (arith, e) in none before q)
  where
    none : (xs : List Move) → [] ≡ xs ++ m ∷ moves → ⊥
    none [] q = grind (arith, q)
    none (x ∷ xs) q = grind (arith, q)

abbrev pub NoChange : Move → Type 0
NoChange (move.ChangeBox box) = ⊥
NoChange _ = Unit {0}

abbrev AllPlain : List Move → Type 0
AllPlain [] = Unit {0}
AllPlain (m ∷ moves) = NoChange m × AllPlain moves

all-plain : (f : ℕ → Move) (from count : ℕ) → ((i : ℕ) → NoChange (f i)) → AllPlain (map f (range_with_len from count))
all-plain f from zero all = tt
all-plain f from (suc count) all = (all from, all-plain f (from + 1) count all)

plain-later : (before moves : List Move) → AllPlain (before ++ moves) → AllPlain moves
plain-later [] moves all = all
plain-later (m ∷ before) moves all = plain-later before moves all.1

-- a job whose next move is not on a box is on no box
pub plain-job : (entries : ℕ → ℕ → ℕ) (job : Job) (before : List Move) (m : Move) (moves : List Move) → moves_of entries job ≡ before ++ m ∷ moves → NoChange m → (n : ℕ) → changes_box n job ≡ false
plain-job entries (ClearBox hart) before m moves e none n = absurd (let q = one-move before m (move.ChangeBox hart) moves e in subst NoChange (sym q.0) none)
plain-job entries (Tell hart) before m moves e none n = absurd (let q = one-move before m (move.ChangeBox hart) moves e in subst NoChange (sym q.0) none)
plain-job entries _ before m moves e none n = refl

-- and one that is on a box does nothing else
pub record OnBox (job : Job) (box : ℕ) (moves : List Move) : Type 0 where
  pub last : moves ≡ []
  pub one : (m : ℕ) → changes_box m job ≡ (box == m)

pub box-job : (entries : ℕ → ℕ → ℕ) (job : Job) (before : List Move) (box : ℕ) (moves : List Move) → moves_of entries job ≡ before ++ move.ChangeBox box ∷ moves → OnBox job box moves
box-job entries (ClearBox hart) before box moves e =
    let q = one-move before (move.ChangeBox box) (move.ChangeBox hart) moves e in
    let same : hart ≡ box = (let r = q.0 in cc) in record { last = q.1; one = λ m. ap (λ z. z == m) same }
box-job entries (Tell hart) before box moves e =
    let q = one-move before (move.ChangeBox box) (move.ChangeBox hart) moves e in
    let same : hart ≡ box = (let r = q.0 in cc) in record { last = q.1; one = λ m. ap (λ z. z == m) same }
box-job entries (PutWord to value) before box moves e = absurd (let p = plain-later before (move.ChangeBox box ∷ moves) (subst AllPlain e (tt, tt)) in p.0)
box-job entries (ZeroWords to count) before box moves e =
    absurd (let p = plain-later before (move.ChangeBox box ∷ moves) (subst AllPlain e (all-plain (λ k. move.Put (word_after to k) 0) 0 count (λ i. tt))) in p.0)
box-job entries (CopyWords from to count) before box moves e =
    absurd (let p = plain-later before (move.ChangeBox box ∷ moves) (subst AllPlain e (all-plain (λ k. move.Copy (word_after from k) (word_after to k)) 0 count (λ i. tt))) in p.0)
box-job entries (CopyPart from to bytes) before box moves e = absurd (let p = plain-later before (move.ChangeBox box ∷ moves) (subst AllPlain e (tt, tt)) in p.0)
box-job entries (CopyTable from to) before box moves e =
    absurd (let p = plain-later before (move.ChangeBox box ∷ moves) (subst AllPlain e (all-plain (λ k. move.Put (record { frame = to; index = k }) (entries to k)) 0 512 (λ i. tt))) in p.0)
box-job entries (ToOut from first count) before box moves e = absurd (let p = plain-later before (move.ChangeBox box ∷ moves) (subst AllPlain e (tt, tt)) in p.0)
