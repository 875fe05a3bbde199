-- What a hart holds after a turn in a call.
use Rattle.std.proofs.Common.{ℕ, ◌≡◌, ◌<◌, ◌≤◌, ◌+◌, ◌==◌, Bool, true, false, Option, Some, None, is_some, List, length, set, slice_get, slice_set, nat_lt, nat_le, if◌then◌else◌, arith, refl, sym, ap, subst, ◌∙◌}
use Rattle.std.proofs.lemmas.Bool.Decides.{nat_tests}
use Rattle.std.proofs.lemmas.List.{length-set}
use Rattle.osc_word.specs.declared.job_list.WordAt.{WordAt}
use Rattle.osc_word.specs.declared.calls.Request.{Request}
use Rattle.osc_paging.specs.Boxes.{BoxState}
use Rattle.osc_guest.specs.Hands.{HandAgrees, gate_held, gate_after, held_after}
use Rattle.osc_guest.specs.declared.places.Place.{Place}
use Rattle.osc_guest.specs.declared.places.Place.TheVariants as at
use Rattle.osc_guest.specs.declared.places.Ask.TheVariants as guest
use Rattle.osc_guest.specs.Told.{told}
use Rattle.osc_guest.specs.Told as heard
use Rattle.osc_guest.proofs.Hands.{told-box, told-gate, hand_kept}
use Rattle.osc_word.specs.declared.calls.Resume.{Resume}
use Rattle.osc_calls.specs.Kernel.{KernelState, Shown, next_job}
use Rattle.osc_calls.specs.Begin.{begin}
use Rattle.osc_calls.specs.Plan.{plan}
use Rattle.osc_calls.specs.JobDone.{job_done}
use Rattle.osc_calls.specs.Moves.{Move}
use Rattle.osc_machine.specs.Parts.{CallPlace, Outside, TakingBoxes, FirstWord, SecondWord, Working, GivingBoxes, Returning, Return, HartState, State}
use Rattle.osc_machine.specs.Turns.{in_call, as_before, place_on, found_words, kernel_taken, is_planned, place_begun, box_taken, words_found, MovesLeft, StillAt, AllDone, moves_left, kernel_after, place_after, clears_by, clears_more, action_done, box_gone, kernel_gone}
use Rattle.osc_calls.specs.Boxes.{box_change}
use Rattle.osc_machine.specs.Step.{box_at, with_box}
use Rattle.osc_machine.specs.Laws.{is_in_call}
use Rattle.osc_safe.specs.Holding.{one_if, hands, home, has_gate, gate_hand, is_asking, HoldsAt, HartHolds, Holds}
use Rattle.osc_safe.proofs.Turning.{item-within, Turns}
use Rattle.osc_safe.proofs.CallBoxes.{Boxes, has, box-set, AllOrNone, all-from-one, GoesOn, WentOn, goes_on, begun_on}

-- ---- a hart in a call, wherever it is in it
pub record Base (c n : ℕ) (h : HartState) : Type 0 where
  pub number : h.number ≡ n
  pub count : h.count ≡ c
  pub room : length h.boxes ≡ c
  pub own : HandAgrees h.user
  pub asking : is_asking h.user.place ≡ true

pub in-call-holds : (c n : ℕ) (commits : Bool) (s : Shown) (place : CallPlace) (h : HartState) → Base c n h → WentOn c s.kernel h.boxes place
    → HartHolds c n (in_call commits s place h).hart
in-call-holds c n commits s place h b w = record {
  number = b.number;
  count = b.count;
  room = b.room;
  own = b.own;
  asking = λ e. b.asking;
  boxes = w.holds;
  done = λ box k e f. (let q = w.done box e in grind (arith, q, f));
}

-- hart n, which is h, at this place
pub record At (s : State) (n : ℕ) (h : HartState) (p : CallPlace) : Type 0 where
  pub here : slice_get s.harts n ≡ Some h
  pub holds : Holds s
  pub place : h.place ≡ p

pub mine : (s : State) (n : ℕ) (h : HartState) (p : CallPlace) → At s n h p → HartHolds (length s.harts) n h
mine s n h p a = a.holds.hart n h a.here

pub base_at : (s : State) (n : ℕ) (h : HartState) (p : CallPlace) → At s n h p → is_in_call p ≡ true → Base (length s.harts) n h
base_at s n h p a i =
    let m = mine s n h p a in record { number = m.number; count = m.count; room = m.room; own = m.own; asking = m.asking (ap is_in_call a.place ∙ i) }

pub boxes_at : (s : State) (n : ℕ) (h : HartState) (p : CallPlace) → At s n h p → HoldsAt p (length s.harts) (has h.boxes)
boxes_at s n h p a = let m = mine s n h p a in subst (λ q. HoldsAt q (length s.harts) (has h.boxes)) a.place m.boxes

-- ---- nothing that a hand could hold changes hands
pub record Same (h x : HartState) : Type 0 where
  pub hands : (b : ℕ) → hands b x ≡ hands b h
  pub gates : (f : ℕ) → gate_hand f x ≡ gate_hand f h

pub still : (s u : State) (n : ℕ) (h x : HartState) → slice_get s.harts n ≡ Some h → u.harts ≡ s.harts → length u.boxes ≡ length s.boxes → ((b : ℕ) → home b u ≡ home b s) → u.gates ≡ s.gates
    → HartHolds (length s.harts) n x → Same h x → Turns s u n h x
still s u n h x e hs room homes gs holds same = record {
  here = e;
  harts = hs;
  room = room;
  holds = holds;
  box = λ b l. grind (arith, same.hands b, homes b);
  gate = λ f g d. (g, subst (λ gs. slice_get gs f ≡ Some g) gs d, ap (λ c. one_if g.taken + c) (sym (same.gates f)));
}

-- ---- boxes are taken
boxed : (c n : ℕ) (h : HartState) (box : ℕ) (o : Option BoxState) → Base c n h → Base c n (record h { boxes = slice_set h.boxes box o })
boxed c n h box o b = record { number = b.number; count = b.count; room = length-set h.boxes box o ∙ b.room; own = b.own; asking = b.asking }

took-has : (c : ℕ) (boxes : Boxes) (box : ℕ) (st : BoxState) (b : ℕ) → length boxes ≡ c → box < c → ((i : ℕ) → has boxes i ≡ nat_lt i box)
    → has (set boxes box (Some st)) b ≡ nat_lt b (box + 1)
took-has c boxes box st b room l held = let q = held b in grind (arith, nat_tests, q, l, room, box-set boxes box b (Some st))

took-went : (c : ℕ) (last : Bool) (box : ℕ) (st : BoxState) (k : KernelState) (boxes : Boxes) → length boxes ≡ c → box < c → (box + 1 == c) ≡ last → ((i : ℕ) → has boxes i ≡ nat_lt i box)
    → (s : Shown) → s ≡ (if last then plan (found_words 0 0) k else as_before k)
    → WentOn c s.kernel (set boxes box (Some st)) (if last then place_on s.kernel (set boxes box (Some st)) else TakingBoxes (box + 1))
took-went c true box st k boxes room l t held s e =
    let all : (b : ℕ) → b < c → has (set boxes box (Some st)) b ≡ true = (λ b m. (let q = took-has c boxes box st b room l held in grind (arith, nat_tests, q, m, t))) in
    goes_on c s.kernel (set boxes box (Some st)) (record {
      room = length-set boxes box (Some st) ∙ room;
      later = λ a b m less d. all b less;
      jobs = λ job d b m. all b m ∙ sym (all 0 (omega (arith, m)));
    })
took-went c false box st k boxes room l t held s e = record {
  holds = ((let q : box + 1 < c = grind (arith, nat_tests, l, t) in q), λ b. took-has c boxes box st b room l held);
  done = λ other d. absurd (let x : ⊥ = grind (arith, d) in x);
}

pub took-turns : (s : State) (n : ℕ) (h : HartState) (box : ℕ) (st : BoxState) (k : KernelState) → At s n h (TakingBoxes box) → box_at s box ≡ Some st
    → Turns s (with_box s box None) n h (box_taken box st k h).hart
took-turns s n h box st k a e =
    let m = mine s n h (TakingBoxes box) a in
    let held = boxes_at s n h (TakingBoxes box) a in
    let base = base_at s n h (TakingBoxes box) a refl in
    record {
      here = a.here;
      harts = refl;
      room = length-set s.boxes box None;
      holds = in-call-holds (length s.harts) n (box + 1 == h.count) (if box + 1 == h.count then plan (found_words 0 0) k else as_before k) _ (record h { boxes = slice_set h.boxes box (Some st) }) (boxed (length s.harts) n h box (Some st) base)
          (took-went (length s.harts) (box + 1 == h.count) box st k h.boxes m.room held.0 (ap (λ c. box + 1 == c) (sym m.count)) held.1 _ refl);
      box = λ b l. (let was = held.1 b in let less = held.0 in grind (arith, nat_tests, e, was, less, m.room, m.count, a.holds.room, box-set h.boxes box b (Some st), box-set s.boxes box b None));
      gate = λ f g d. (g, d, refl);
    }

-- ---- boxes are given
-- a box that a hand has is not at home, and there is such a box
pub held-away : (s : State) (n : ℕ) (h : HartState) (b : ℕ) → Holds s → slice_get s.harts n ≡ Some h → b < length s.boxes → 1 ≤ hands b h → home b s ≡ 0
held-away s n h b holds e l held =
    let w = item-within (hands b) s.harts n h e in
    let one = holds.box b l in
    omega (arith, w, one, held)

gave-has : (c : ℕ) (boxes : Boxes) (box : ℕ) (b : ℕ) → length boxes ≡ c → box < c → b < c → ((i : ℕ) → i < c → has boxes i ≡ nat_le box i)
    → has (set boxes box None) b ≡ nat_le (box + 1) b
gave-has c boxes box b room l m held = let q = held b m in grind (arith, nat_tests, q, l, room, box-set boxes box b None)

gave-went : (c : ℕ) (box : ℕ) (k : KernelState) (boxes : Boxes) → length boxes ≡ c → box < c → ((i : ℕ) → i < c → has boxes i ≡ nat_le box i) → next_job k ≡ None
    → WentOn c k (set boxes box None) (place_on k (set boxes box None))
gave-went c box k boxes room l held none = goes_on c k (set boxes box None) (record {
  room = length-set boxes box None ∙ room;
  later = λ a b m less d. (let p = gave-has c boxes box a room l (let q : a < c = omega (arith, m, less) in q) held in let r = gave-has c boxes box b room l less held in grind (arith, nat_tests, p, r, m, d));
  jobs = λ job e. absurd (let x : ⊥ = grind (arith, e, none) in x);
})

pub gave-turns : (s : State) (n : ℕ) (h : HartState) (box : ℕ) (given : BoxState) (k : KernelState) → At s n h (GivingBoxes box) → h.kernel ≡ Some k
    → Turns s (with_box s box (Some given)) n h (box_gone box k h).hart
gave-turns s n h box given k a e =
    let m = mine s n h (GivingBoxes box) a in
    let held = boxes_at s n h (GivingBoxes box) a in
    let base = base_at s n h (GivingBoxes box) a refl in
    let none = m.done box k a.place e in
    let less = held.0 in
    let had : has h.boxes box ≡ true = (let q = held.1 box less in grind (arith, nat_tests, q)) in
    let within : box < length s.boxes = (let r = a.holds.room in omega (arith, less, r)) in
    let away : home box s ≡ 0 = held-away s n h box a.holds a.here within (let q : 1 ≤ hands box h = grind (arith, had) in q) in
    record {
      here = a.here;
      harts = refl;
      room = length-set s.boxes box (Some given);
      holds = in-call-holds (length s.harts) n false (as_before k) _ (record h { boxes = slice_set h.boxes box None; clears = clears_more (box_change box k) h.clears })
          (record { number = base.number; count = base.count; room = length-set h.boxes box None ∙ base.room; own = base.own; asking = base.asking })
          (gave-went (length s.harts) box k h.boxes m.room less held.1 none);
      box = λ b l. grind (arith, nat_tests, had, away, within, m.room, a.holds.room, box-set h.boxes box b None, box-set s.boxes box b (Some given));
      gate = λ f g d. (g, d, refl);
    }

-- ---- jobs
worked-went : (c : ℕ) (p : MovesLeft) (word : ℕ) (k : KernelState) (boxes : Boxes) → length boxes ≡ c → AllOrNone c boxes
    → WentOn c (kernel_after p word k).kernel boxes (place_after p (kernel_after p word k).kernel boxes)
worked-went c (StillAt moves read) word k boxes room all = record { holds = all; done = λ box d. absurd (let x : ⊥ = grind (arith, d) in x) }
worked-went c AllDone word k boxes room all =
    goes_on c (job_done word k).kernel boxes (record { room = room; later = all-from-one c boxes all; jobs = λ job e. all })

pub worked-turns : (s u : State) (n : ℕ) (h : HartState) (moves : List Move) (read : Option ℕ) (word : ℕ) (k : KernelState) → At s n h (Working moves read)
    → u.harts ≡ s.harts → length u.boxes ≡ length s.boxes → ((b : ℕ) → home b u ≡ home b s) → u.gates ≡ s.gates
    → Turns s u n h (action_done moves read word k h).hart
worked-turns s u n h moves read word k a hs room homes gs =
    let base = base_at s n h (Working moves read) a refl in
    still s u n h _ a.here hs room homes gs
    (in-call-holds (length s.harts) n false (kernel_after (moves_left moves read word) word k) _ (record h { clears = clears_by moves k h.clears })
    (record { number = base.number; count = base.count; room = base.room; own = base.own; asking = base.asking })
    (worked-went (length s.harts) (moves_left moves read word) word k h.boxes base.room (boxes_at s n h (Working moves read) a)))
    (record { hands = λ b. refl; gates = λ f. refl })

-- ---- the words of a header
pub first-turns : (s : State) (n : ℕ) (h : HartState) (first second : WordAt) (word : ℕ) → At s n h (FirstWord first second)
    → Turns s s n h (record h { place = SecondWord word second })
first-turns s n h first second word a =
    let base = base_at s n h (FirstWord first second) a refl in
    still s s n h _ a.here refl refl (λ b. refl) refl
    (record {
      number = base.number;
      count = base.count;
      room = base.room;
      own = base.own;
      asking = λ i. base.asking;
      boxes = boxes_at s n h (FirstWord first second) a;
      done = λ box k e. absurd (let x : ⊥ = grind (arith, e) in x);
    })
    (record { hands = λ b. refl; gates = λ f. refl })

none-goes : (c : ℕ) (k : KernelState) (boxes : Boxes) → length boxes ≡ c → ((b : ℕ) → has boxes b ≡ false) → GoesOn c k boxes
none-goes c k boxes room none = record {
  room = room;
  later = λ a b l m e. absurd (let q = none a in let x : ⊥ = grind (arith, e, q) in x);
  jobs = λ job e b l. none b ∙ sym (none 0);
}

pub found-turns : (s : State) (n : ℕ) (h : HartState) (found word : ℕ) (second : WordAt) (k : KernelState) → At s n h (SecondWord found second)
    → Turns s s n h (words_found found word k h).hart
found-turns s n h found word second k a =
    let base = base_at s n h (SecondWord found second) a refl in
    still s s n h _ a.here refl refl (λ b. refl) refl
    (in-call-holds (length s.harts) n true (plan (found_words found word) k) _ h base
    (goes_on (length s.harts) _ h.boxes (none-goes (length s.harts) _ h.boxes base.room (boxes_at s n h (SecondWord found second) a))))
    (record { hands = λ b. refl; gates = λ f. refl })

-- ---- the kernel
pub begun-turns : (s u : State) (n : ℕ) (h : HartState) (asked : Request) (k : KernelState) → At s n h Outside → is_asking h.user.place ≡ true → 0 < length s.harts
    → u.harts ≡ s.harts → u.boxes ≡ s.boxes → u.gates ≡ s.gates → Turns s u n h (kernel_taken (guest.Kernel asked) k h).hart
begun-turns s u n h asked k a i l hs bs gs =
    let m = mine s n h Outside a in
    let b = begin h.number h.user.regs h.user.pc asked k in
    still s u n h _ a.here hs (ap length bs) (λ box. ap (λ xs. one_if (has xs box)) bs) gs
    (in-call-holds (length s.harts) n (is_planned b.begun) (record { kernel = b.kernel; shows = b.shows }) (place_begun b.begun b.kernel h.boxes) h
    (record { number = m.number; count = m.count; room = m.room; own = m.own; asking = i })
    (begun_on b.begun (length s.harts) b.kernel h.boxes l m.room (boxes_at s n h Outside a)))
    (record { hands = λ b. refl; gates = λ f. refl })

-- what the guest part hears of its request leaves its hands as they are
record Calm (p : Place) (said : Resume) : Type 0 where
  box : (had : Bool) → held_after p (heard.Resumed said) had ≡ had
  gate : gate_after p (heard.Resumed said) ≡ gate_held p

asked_calm : (p : Place) (said : Resume) → is_asking p ≡ true → Calm p said
asked_calm (at.Call asked) said e = record { box = λ had. refl; gate = refl }
asked_calm _ said e = absurd (let x : ⊥ = grind (arith, e) in x)

pub returned-turns : (s u : State) (n : ℕ) (h : HartState) (return : Return) → u.harts ≡ s.harts → u.boxes ≡ s.boxes → u.gates ≡ s.gates → At s n h (Returning return)
    → Turns s u n h (kernel_gone return h).hart
returned-turns s u n h return hs bs gs a =
    let m = mine s n h (Returning return) a in
    let t = heard.Resumed return.resume in
    let calm = asked_calm h.user.place return.resume (m.asking (ap is_in_call a.place)) in
    still s u n h _ a.here hs (ap length bs) (λ box. ap (λ xs. one_if (has xs box)) bs) gs
    (record {
      number = m.number;
      count = m.count;
      room = m.room;
      own = hand_kept h.user t m.own;
      asking = λ i. absurd (let x : ⊥ = grind (arith, i) in x);
      boxes = boxes_at s n h (Returning return) a;
      done = λ box k e. absurd (let x : ⊥ = grind (arith, e) in x);
    })
    (record {
      hands = λ b. ap (λ c. (if h.number == b then one_if c else 0) + one_if (has h.boxes b)) (told-box h.user t ∙ calm.box (is_some h.user.held));
      gates = λ f. ap (λ c. one_if (has_gate c f)) (told-gate h.user t ∙ calm.gate);
    })
