-- Each step keeps what caches may be relied on for, and that an order to begin comes with an empty cache.
use Rattle.std.proofs.Common.{ℕ, zero, suc, ◌+◌, ◌≡◌, ◌==◌, Bool, true, false, Option, Some, None, is_some, List, [], ◌∷◌, ◌++◌, length, set, slice_get, slice_set, slice_index_or, if◌then◌else◌, arith, refl, sym, ap, subst, ◌∙◌}
use Rattle.std.specs.Option.{option_to_list, option_map}
use Rattle.std.proofs.lemmas.Bool.Decides.{nat_tests}
use Rattle.osc_word.specs.declared.calls.Request.{Request}
use Rattle.osc_word.specs.declared.job_list.WordAt.{WordAt}
use Rattle.osc_sv39.specs.Walk.{put_word}
use Rattle.osc_paging.specs.Boxes.{BoxState}
use Rattle.osc_guest.specs.declared.places.Place.{Place}
use Rattle.osc_guest.specs.declared.places.Place.TheVariants as at
use Rattle.osc_guest.specs.declared.places.Stage.TheVariants as stage
use Rattle.osc_guest.specs.declared.places.Ask.TheVariants as guest
use Rattle.osc_guest.specs.User.{box_or_new}
use Rattle.osc_guest.specs.Asks.{ask, ask_at}
use Rattle.osc_guest.specs.Told.{told}
use Rattle.osc_guest.specs.Told as heard
use Rattle.osc_guest.specs.Hands.{holds_box, start_told}
use Rattle.osc_calls.specs.Boxes.{box_change, changed}
use Rattle.osc_calls.specs.Kernel.{KernelState}
use Rattle.osc_calls.specs.Moves.{Move}
use Rattle.osc_calls.specs.Moves as move
use Rattle.osc_calls.specs.Begin.{Began, begin}
use Rattle.osc_calls.specs.Plan.{plan}
use Rattle.osc_calls.specs.JobDone.{job_done, entries}
use Rattle.osc_calls.specs.Finish.{finish}
use Rattle.osc_settled.proofs.Lists.{get-put_same}
use Rattle.osc_machine.specs.Parts.{Gate, CallPlace, Outside, TakingBoxes, FirstWord, SecondWord, Working, GivingBoxes, Returning, Return, HartState, State}
use Rattle.osc_machine.specs.Turns.{HartTold, Box, Kernel, Word, Gate as ToldGate, OldVersion, Done, Turn, guest_ask, place_ask, hart_ask, hart_told, place_told, outside_told, kernel_taken, from_guest, handed_box, place_handed, handed_kernel, box_given, in_call, as_before, place_on, found_words, MovesLeft, StillAt, AllDone, rest_of, moves_left, kernel_after, place_after, clears_by, action_done, box_gone, kernel_gone}
use Rattle.osc_machine.specs.Step.{Stepped, stays, tells, with_box, with_gate, box_at, is_shut, is_wanted, takes_box, changes_box, takes_gate, takes_kernel, acted, step_of, step}
use Rattle.osc_machine.specs.Laws.{kernels, kernels_held, is_in_call, HasKernel}
use Rattle.osc_safe.specs.Holding.{call_box, holds_for_call, is_asking, HoldsAt, Holds}
use Rattle.osc_safe.proofs.HoldingSteps.{steps_hold}
use Rattle.osc_safe.proofs.KernelRows.{fits-of, hand-is-one, home-is}
use Rattle.osc_records.specs.Recorded.{Recorded}
use Rattle.osc_records.proofs.Rows.{after, Before}
use Rattle.osc_records.proofs.GuestRows.{Guest}
use Rattle.osc_records.proofs.CallRows.{Calls, hand-place, NoChange, plain-job, box-job}
use Rattle.osc_records.proofs.Steps.{steps_record}
use Rattle.osc_boxes.specs.Keeping.{BoxesRely, HartRelies, StepsKeepBoxes}
use Rattle.osc_boxes.proofs.Came.{AllCame, Known, relied-by}
use Rattle.osc_boxes.proofs.GuestBoxes.{heard-came, takes-came, gives-came}
use Rattle.osc_boxes.proofs.CallBoxes.{begins-came, finds-came, still-came, takes-next, takes-last, done-came, changed-came, gave-came, returns-came}

-- ---- what is to be shown of a step of hart n
abbrev Relied : ℕ → State → Type 0
Relied n t = (now : KernelState) → HasKernel t now → Holds t → Recorded t now → HartRelies t n now → BoxesRely t now

abbrev Keeps : ℕ → Stepped → Type 0
Keeps n x = Relied n x.state

told-as : (u : State) (n : ℕ) (h : HartState) (t : HartTold) (turn : Turn) → hart_told h t ≡ turn → Relied n (after u n turn.hart) → Keeps n (tells u n h t)
told-as u n h t turn e go = subst (λ (y : Turn). Relied n (after u n y.hart)) (sym e) go

-- ---- which kernel there is then
held-same : (harts : List HartState) (n : ℕ) (h x : HartState) → slice_get harts n ≡ Some h → x.kernel ≡ h.kernel → kernels_held (set harts n x) ≡ kernels_held harts
held-same [] n h x e f = refl
held-same (y ∷ harts) zero h x e f =
    let same : y ≡ h = grind (arith, e) in ap (λ z. option_to_list z ++ kernels_held harts) (f ∙ sym (ap (λ (z : HartState). z.kernel) same))
held-same (y ∷ harts) (suc n) h x e f = ap (λ ks. option_to_list y.kernel ++ ks) (held-same harts n h x e f)

one-kernel : (s : State) (k later : KernelState) → HasKernel s k → HasKernel s later → k ≡ later
one-kernel s k later a b = let e : k ∷ [] ≡ later ∷ [] = sym a.one ∙ b.one in grind (arith, e)

same-kernel : (s u : State) (n : ℕ) (h x : HartState) (k later : KernelState) → Before s n h k → u.harts ≡ s.harts → u.kernel ≡ s.kernel → x.kernel ≡ h.kernel → HasKernel (after u n x) later → k ≡ later
same-kernel s u n h x k later b hs ks e has =
    let was = b.has in
    let q : kernels (after u n x) ≡ kernels s =
    ap (λ z. option_to_list z ++ kernels_held (set u.harts n x)) ks ∙ ap (λ z. option_to_list s.kernel ++ kernels_held (set z n x)) hs ∙ ap (λ z. option_to_list s.kernel ++ z) (held-same s.harts n h x b.here e) in
    let r : k ∷ [] ≡ later ∷ [] = sym was.one ∙ sym q ∙ has.one in grind (arith, r)

by-kernel : (s u : State) (n : ℕ) (h x : HartState) (k later now : KernelState) → Known s n h k → u.harts ≡ s.harts → later ≡ now → AllCame s u n h x k later
    → Recorded (after u n x) now → HartRelies (after u n x) n now → BoxesRely (after u n x) now
by-kernel s u n h x k later now a hs same came recorded own =
    subst (BoxesRely (after u n x)) same (relied-by s u n h x k later a hs came (subst (Recorded (after u n x)) (sym same) recorded) (subst (HartRelies (after u n x) n) (sym same) own))

in-hand : (s u : State) (n : ℕ) (h x : HartState) (k later : KernelState) → Known s n h k → u.harts ≡ s.harts → x.kernel ≡ Some later → (Holds (after u n x) → AllCame s u n h x k later)
    → Relied n (after u n x)
in-hand s u n h x k later a hs e came now has holds recorded own =
    let b = a.before in
    let written : slice_get (after u n x).harts n ≡ Some x = get-put_same u.harts n h x (ap (λ z. slice_get z n) hs ∙ b.here) in
    by-kernel s u n h x k later now a hs (hand-is-one (after u n x) n x later now has written e) (came holds) recorded own

stayed : (s : State) (n : ℕ) (h : HartState) (k : KernelState) → Known s n h k → Keeps n (stays s)
stayed s n h k a now has holds recorded own = let b = a.before in subst (BoxesRely s) (one-kernel s k now b.has has) a.relied

-- ---- instructions
record InGuest (s : State) (n : ℕ) (h : HartState) (k : KernelState) (p : Place) : Type 0 where
  known : Known s n h k
  guest : Guest s n h k p

told_outside : (h : HartState) (t : HartTold) → h.place ≡ Outside → hart_told h t ≡ outside_told h t
unfolding hart_told
told_outside h t e = ap (λ q. place_told q h.kernel h t) e

guest-next : (s u : State) (n : ℕ) (h : HartState) (k : KernelState) (p : Place) (t : HartTold) (g : heard.Told) → InGuest s n h k p → u.harts ≡ s.harts → u.kernel ≡ s.kernel
    → outside_told h t ≡ from_guest h (told h.user g) → ((later : KernelState) → k ≡ later → AllCame s u n h (from_guest h (told h.user g)).hart k later) → Keeps n (tells u n h t)
guest-next s u n h k p t g a hs ks e came =
    let w = a.guest in
    told-as u n h t (from_guest h (told h.user g)) (told_outside h t w.outside ∙ e)
    (λ now has holds recorded own. by-kernel s u n h (from_guest h (told h.user g)).hart k now now a.known hs refl
    (came now (same-kernel s u n h (from_guest h (told h.user g)).hart k now w.before hs ks refl has)) recorded own)

hears : (s u : State) (n : ℕ) (h : HartState) (k : KernelState) (p : Place) (t : HartTold) (g : heard.Told) → InGuest s n h k p → u.harts ≡ s.harts → u.kernel ≡ s.kernel → u.boxes ≡ s.boxes
    → outside_told h t ≡ from_guest h (told h.user g) → start_told p g ≡ None → Keeps n (tells u n h t)
hears s u n h k p t g a hs ks bs e none = guest-next s u n h k p t g a hs ks e (λ later same. heard-came s u n h k later p g a.guest same hs bs none)

takes-own : (s : State) (n : ℕ) (h : HartState) (k : KernelState) (p : Place) (o : Option BoxState) → InGuest s n h k p → box_at s n ≡ o → Keeps n (takes_box s n h n o)
takes-own s n h k p None a e = stayed s n h k a.known
takes-own s n h k p (Some state) a e =
    guest-next s (with_box s n None) n h k p (Box state) (heard.Box state) a refl refl refl (λ later same. takes-came s n h k later p state a.guest same e)

either : (n : ℕ) (b : Bool) (x y : Stepped) → Keeps n x → Keeps n y → Keeps n (if b then x else y)
either n true x y p q = p
either n false x y p q = q

gate-takes : (s : State) (n : ℕ) (h : HartState) (k : KernelState) (p : Place) (frame : ℕ) (only : Option ℕ) (o : Option Gate) → InGuest s n h k p → ((g : heard.Told) → start_told p g ≡ None)
    → Keeps n (takes_gate s n h frame only o)
gate-takes s n h k p frame only None a none = stayed s n h k a.known
gate-takes s n h k p frame only (Some gate) a none =
    either n (is_shut gate) _ _ (stayed s n h k a.known)
    (either n (is_wanted only gate.version) _ _
    (hears s (with_gate s frame gate.version true) n h k p (ToldGate gate.version) (heard.Gate gate.version) a refl refl refl refl (none (heard.Gate gate.version)))
    (hears s s n h k p OldVersion heard.OldVersion a refl refl refl refl (none heard.OldVersion)))

-- the box that it gives is the one in its hand
gives-own : (s : State) (n : ℕ) (h : HartState) (k : KernelState) (p : Place) → InGuest s n h k p → holds_box p ≡ true → start_told p heard.Done ≡ None → Keeps n (tells (with_box s n (Some (handed_box h))) n h Done)
unfolding handed_box
gives-own s n h k p a f none =
    guest-next s (with_box s n (Some (handed_box h))) n h k p Done heard.Done a refl refl refl (λ later same. gives-came s n h k later p (handed_box h) a.guest same had none)
  where
    some : (o : Option BoxState) → is_some o ≡ true → o ≡ Some (box_or_new o)
    some None e = absurd (let z : ⊥ = grind (arith, e) in z)
    some (Some box) e = refl

    had : h.user.held ≡ Some (handed_box h)
    had =
        let w = a.guest in
        let b = w.before in
        let holds = b.holds in
        let m = holds.hart n h b.here in
        some h.user.held (m.own ∙ ap holds_box w.user ∙ f) ∙ ap (λ q. Some (place_handed q h)) (sym w.outside)

number-is : (s : State) (n : ℕ) (h : HartState) (k : KernelState) → Before s n h k → h.number ≡ n
number-is s n h k b = let holds = b.holds in let m = holds.hart n h b.here in m.number

takes-it : (s : State) (n : ℕ) (h : HartState) (k : KernelState) (asked : Request) (o : Option KernelState) → InGuest s n h k (at.Call asked) → s.kernel ≡ o → Keeps n (takes_kernel s n h o)
unfolding ask
takes-it s n h k asked None a e = stayed s n h k a.known
takes-it s n h k asked (Some k0) a e =
    let w = a.guest in
    let b = w.before in
    let same : k0 ≡ k = home-is s k0 k b.has e in
    let here : s.kernel ≡ Some k = e ∙ ap (λ z. Some z) same in
    let asks : ask h.user ≡ guest.Kernel asked = ap (λ p. ask_at p h.user) w.user in
    let turns : hart_told h (Kernel k0) ≡ kernel_taken (guest.Kernel asked) k h =
    told_outside h (Kernel k0) w.outside ∙ ap (λ q. kernel_taken q k0 h) asks ∙ ap (λ z. kernel_taken (guest.Kernel asked) z h) same in
    let number : begin h.number h.user.regs h.user.pc asked k ≡ begin n h.user.regs h.user.pc asked k = ap (λ z. begin z h.user.regs h.user.pc asked k) (number-is s n h k b) in
    told-as (record s { kernel = None }) n h (Kernel k0) (kernel_taken (guest.Kernel asked) k h) turns
    (in-hand s (record s { kernel = None }) n h (kernel_taken (guest.Kernel asked) k h).hart k (begin n h.user.regs h.user.pc asked k).kernel a.known refl
    (ap (λ (z : Began). Some z.kernel) number)
    (λ holds. begins-came s (record s { kernel = None }) n h.user.pc h (kernel_taken (guest.Kernel asked) k h).hart k h.user.regs asked a.known here refl refl refl refl))

outside-keeps : (s : State) (n : ℕ) (h : HartState) (k : KernelState) (p : Place) → InGuest s n h k p → Keeps n (acted s n h (guest_ask n (ask_at p h.user)))
outside-keeps s n h k at.Run a = takes-own s n h k at.Run (box_at s n) a refl
outside-keeps s n h k at.Idle a = takes-own s n h k at.Idle (box_at s n) a refl
outside-keeps s n h k (at.Walk access level table) a = hears s s n h k _ (Word _) (heard.Word _) a refl refl refl refl refl
outside-keeps s n h k (at.Access access frame stage.Fetch) a = hears s s n h k _ (Word _) (heard.Word _) a refl refl refl refl refl
outside-keeps s n h k (at.Access access frame stage.Load) a = hears s s n h k _ (Word _) (heard.Word _) a refl refl refl refl refl
outside-keeps s n h k (at.Access access frame (stage.TakeGate only)) a =
    gate-takes s n h k (at.Access access frame (stage.TakeGate only)) frame only (slice_get s.gates frame) a (λ g. refl)
outside-keeps s n h k (at.Access access frame (stage.GatedLoad version)) a = hears s s n h k _ (Word _) (heard.Word _) a refl refl refl refl refl
outside-keeps s n h k (at.Access access frame (stage.GatedStore version found)) a =
    hears s (record s { words = put_word s.words _ _ _ }) n h k _ Done heard.Done a refl refl refl refl refl
outside-keeps s n h k (at.OpenGate frame version) a = hears s (with_gate s frame version false) n h k _ Done heard.Done a refl refl refl refl refl
outside-keeps s n h k (at.GiveBox follows) a = gives-own s n h k (at.GiveBox follows) a refl refl
outside-keeps s n h k (at.Call asked) a = takes-it s n h k asked s.kernel a refl
outside-keeps s n h k at.Rest a = stayed s n h k a.known

-- ---- calls
record InCall (s : State) (n : ℕ) (h : HartState) (p : CallPlace) (k : KernelState) : Type 0 where
  known : Known s n h k
  calls : Calls s n h p k

told_call : (h : HartState) (p : CallPlace) (k : KernelState) (t : HartTold) → h.place ≡ p → h.kernel ≡ Some k → hart_told h t ≡ place_told p (Some k) h t
unfolding hart_told
told_call h p k t e f = ap (λ q. place_told q h.kernel h t) e ∙ ap (λ o. place_told p o h t) f

calls-next : (s u : State) (n : ℕ) (h : HartState) (p : CallPlace) (k later : KernelState) (t : HartTold) (turn : Turn) → InCall s n h p k → u.harts ≡ s.harts → place_told p (Some k) h t ≡ turn
    → turn.hart.kernel ≡ Some later → (Holds (after u n turn.hart) → AllCame s u n h turn.hart k later) → Keeps n (tells u n h t)
calls-next s u n h p k later t turn a hs e kernel came =
    let c = a.calls in told-as u n h t turn (told_call h p k t c.place c.kernel ∙ e) (in-hand s u n h turn.hart k later a.known hs kernel came)

takes-box : (s : State) (n : ℕ) (h : HartState) (box : ℕ) (k : KernelState) (o : Option BoxState) → InCall s n h (TakingBoxes box) k → box_at s box ≡ o → Keeps n (takes_box s n h box o)
takes-box s n h box k None a e = stayed s n h k a.known
takes-box s n h box k (Some state) a e = go (box + 1 == h.count) refl
  where
    boxes : HartState
    boxes = record h { boxes = slice_set h.boxes box (Some state) }

    as_last : Bool → Turn
    as_last b = let s = if b then plan (found_words 0 0) k else as_before k in in_call b s (if b then place_on s.kernel boxes.boxes else TakingBoxes (box + 1)) boxes

    go : (b : Bool) → (box + 1 == h.count) ≡ b → Keeps n (tells (with_box s box None) n h (Box state))
    go true d = calls-next s (with_box s box None) n h (TakingBoxes box) k (plan (found_words 0 0) k).kernel (Box state) (as_last true) a refl (ap as_last d) refl
        (λ holds. takes-last s n box h (as_last true).hart state k (found_words 0 0) a.known a.calls e d refl refl holds)
    go false d = calls-next s (with_box s box None) n h (TakingBoxes box) k k (Box state) (as_last false) a refl (ap as_last d) refl
        (λ holds. takes-next s n box h (as_last false).hart state k a.known e refl refl)

first-next : (s : State) (n : ℕ) (h : HartState) (first second : WordAt) (word : ℕ) (k : KernelState) → InCall s n h (FirstWord first second) k → Keeps n (tells s n h (Word word))
first-next s n h first second word k a =
    let c = a.calls in
    calls-next s s n h (FirstWord first second) k k (Word word) _ a refl refl c.kernel (λ holds. still-came s s n h (record h { place = SecondWord word second }) k a.known refl refl refl refl)

second-next : (s : State) (n : ℕ) (h : HartState) (found : ℕ) (second : WordAt) (word : ℕ) (k : KernelState) → InCall s n h (SecondWord found second) k → Keeps n (tells s n h (Word word))
second-next s n h found second word k a =
    calls-next s s n h (SecondWord found second) k (plan (found_words found word) k).kernel (Word word) _ a refl refl refl
    (λ holds. finds-came s n found second h _ k (found_words found word) a.known a.calls refl refl)

-- an action of a move that is on no box
acts : (s u : State) (n : ℕ) (h : HartState) (m : Move) (moves : List Move) (read : Option ℕ) (word : ℕ) (k : KernelState) (t : HartTold) (left : MovesLeft) → InCall s n h (Working (m ∷ moves) read) k
    → u.harts ≡ s.harts → u.boxes ≡ s.boxes → NoChange m → place_told (Working (m ∷ moves) read) (Some k) h t ≡ action_done (m ∷ moves) read word k h → moves_left (m ∷ moves) read word ≡ left → Keeps n (tells u n h t)
acts s u n h m moves read word k t left a hs bs none e f = go left f
  where
    turn : MovesLeft → Turn
    turn p = let s = kernel_after p word k in in_call false s (place_after p s.kernel h.boxes) (record h { clears = clears_by (m ∷ moves) k h.clears })

    go : (p : MovesLeft) → moves_left (m ∷ moves) read word ≡ p → Keeps n (tells u n h t)
    go (StillAt rest now) f = calls-next s u n h (Working (m ∷ moves) read) k k t (turn (StillAt rest now)) a hs (e ∙ ap turn f) refl
        (λ holds. still-came s u n h (turn (StillAt rest now)).hart k a.known hs bs refl refl)
    go AllDone f =
        let i = hand-place s n h (Working (m ∷ moves) read) k a.calls in
        let w = i.stands.1 in
        calls-next s u n h (Working (m ∷ moves) read) k (job_done word k).kernel t (turn AllDone) a hs (e ∙ ap turn f) refl
        (λ holds. done-came s u n word h (turn AllDone).hart k w.job a.known w.next (plain-job (entries k) w.job w.before m moves w.rest none) hs bs refl refl)

given-is : (box : ℕ) (o : Option KernelState) (k : KernelState) (p : Option BoxState) (state : BoxState) → o ≡ Some k → p ≡ Some state → box_given box o p ≡ changed (box_change box k) state
unfolding box_given
given-is box o k p state e f = ap (λ z. box_given box z p) e ∙ ap (λ z. box_given box (Some k) z) f

changes-next : (s : State) (n : ℕ) (h : HartState) (box : ℕ) (moves : List Move) (read : Option ℕ) (k : KernelState) (o : Option BoxState) → InCall s n h (Working (move.ChangeBox box ∷ moves) read) k → box_at s box ≡ o
    → Keeps n (changes_box s n h box o)
changes-next s n h box moves read k None a e = stayed s n h k a.known
changes-next s n h box moves read k (Some state) a e =
    let c = a.calls in
    let i = hand-place s n h (Working (move.ChangeBox box ∷ moves) read) k c in
    let committed = i.stands.0 in
    let w = i.stands.1 in
    let on = box-job (entries k) w.job w.before box moves w.rest in
    let given = box_given box h.kernel (Some state) in
    calls-next s (with_box s box (Some given)) n h (Working (move.ChangeBox box ∷ moves) read) k (job_done 0 k).kernel Done (turn AllDone) a refl (ap turn (ap rest_of on.last)) refl
    (λ holds. changed-came s n 0 box h (turn AllDone).hart k w.job committed.0 state given a.known committed.1 w.next on.one e (given-is box h.kernel k (Some state) state c.kernel refl) refl refl)
  where
    turn : MovesLeft → Turn
    turn p = let s = kernel_after p 0 k in in_call false s (place_after p s.kernel h.boxes) (record h { clears = clears_by (move.ChangeBox box ∷ moves) k h.clears })

works : (s : State) (n : ℕ) (h : HartState) (moves : List Move) (read : Option ℕ) (k : KernelState) → InCall s n h (Working moves read) k → Keeps n (acted s n h (place_ask (Working moves read) h))
works s n h [] read k a = stayed s n h k a.known
works s n h (move.Put to value ∷ moves) read k a = acts s (record s { words = put_word s.words to.frame to.index value }) n h _ moves read 0 k Done _ a refl refl tt refl refl
works s n h (move.Copy from to ∷ moves) None k a = acts s s n h _ moves None _ k (Word _) _ a refl refl tt refl refl
works s n h (move.Copy from to ∷ moves) (Some word) k a = acts s (record s { words = put_word s.words to.frame to.index word }) n h _ moves (Some word) 0 k Done _ a refl refl tt refl refl
works s n h (move.CopyLow from to bytes ∷ moves) None k a = acts s s n h _ moves None _ k (Word _) _ a refl refl tt refl refl
works s n h (move.CopyLow from to bytes ∷ moves) (Some word) k a = acts s (record s { words = put_word s.words to.frame to.index _ }) n h _ moves (Some word) 0 k Done _ a refl refl tt refl refl
works s n h (move.ChangeBox box ∷ moves) read k a = changes-next s n h box moves read k (box_at s box) a refl
works s n h (move.Out from ∷ moves) read k a = acts s s n h _ moves read _ k (Word _) _ a refl refl tt refl refl

some-box : (o : Option BoxState) → is_some o ≡ true → (state : BoxState) × (o ≡ Some state)
some-box None e = absurd (let z : ⊥ = grind (arith, e) in z)
some-box (Some state) e = (state, refl)

gives-next : (s : State) (n : ℕ) (h : HartState) (box : ℕ) (k : KernelState) → InCall s n h (GivingBoxes box) k → Keeps n (tells (with_box s box (Some (handed_box h))) n h Done)
unfolding handed_box
gives-next s n h box k a =
    let c = a.calls in
    let b = c.before in
    let holds = b.holds in
    let own = holds.hart n h b.here in
    let at_place : HoldsAt (GivingBoxes box) (length s.harts) (holds_for_call h) = subst (λ z. HoldsAt z (length s.harts) (holds_for_call h)) c.place own.boxes in
    let t = at_place.1 box at_place.0 in
    let has_it : is_some (call_box h box) ≡ true = grind (arith, nat_tests, t) in
    let state = some-box (call_box h box) has_it in
    let i = hand-place s n h (GivingBoxes box) k c in
    let committed = i.stands.0 in
    calls-next s (with_box s box (Some (handed_box h))) n h (GivingBoxes box) k k Done (box_gone box k h) a refl refl refl
    (λ now. gave-came s n box h (box_gone box k h).hart k committed.0 state.0 (handed_box h) a.known committed.1 state.1
    (ap (λ z. place_handed z h) c.place ∙ given-is box h.kernel k (slice_index_or h.boxes box None) state.0 c.kernel state.1) refl refl)

returns-next : (s : State) (n : ℕ) (h : HartState) (return : Return) (k : KernelState) → InCall s n h (Returning return) k → Keeps n (tells (record s { kernel = handed_kernel h }) n h Done)
unfolding handed_kernel
returns-next s n h return k a =
    let c = a.calls in
    let u = record s { kernel = handed_kernel h } in
    let x = (kernel_gone return h).hart in
    let home : u.kernel ≡ Some (finish k).kernel = ap (λ z. option_map (λ (y : KernelState). (finish y).kernel) z) c.kernel in
    told-as u n h Done (kernel_gone return h) (told_call h (Returning return) k Done c.place c.kernel)
    (λ now has holds recorded own. by-kernel s u n h x k (finish k).kernel now a.known refl (home-is (after u n x) (finish k).kernel now has home)
    (returns-came s u n h return k a.known c refl refl) recorded own)

call-keeps : (s : State) (n : ℕ) (h : HartState) (p : CallPlace) (k : KernelState) → InCall s n h p k → is_in_call p ≡ true → Keeps n (acted s n h (place_ask p h))
call-keeps s n h Outside k a i = absurd (let z : ⊥ = grind (arith, i) in z)
call-keeps s n h (TakingBoxes box) k a i = takes-box s n h box k (box_at s box) a refl
call-keeps s n h (FirstWord first second) k a i = first-next s n h first second _ k a
call-keeps s n h (SecondWord found second) k a i = second-next s n h found second _ k a
call-keeps s n h (Working moves read) k a i = works s n h moves read k a
call-keeps s n h (GivingBoxes box) k a i = gives-next s n h box k a
call-keeps s n h (Returning return) k a i = returns-next s n h return k a

-- ---- the whole
asked-of : (p : Place) → is_asking p ≡ true → (asked : Request) × (p ≡ at.Call asked)
asked-of (at.Call asked) e = (asked, refl)
asked-of _ e = absurd (let z : ⊥ = grind (arith, e) in z)

calls-at : (s : State) (n : ℕ) (h : HartState) (k own : KernelState) → Before s n h k → h.kernel ≡ Some own → Calls s n h h.place k
calls-at s n h k own b e =
    let has = b.has in
    let holds = b.holds in
    let m = holds.hart n h b.here in
    let same = hand-is-one s n h own k has b.here e in
    let asked = asked-of h.user.place (m.asking (sym (has.in_hand n h b.here) ∙ ap (λ z. is_some z) e)) in
    record { before = b; place = refl; kernel = e ∙ ap (λ z. Some z) same; asked = asked.0; user = asked.1 }

place-keeps : (s : State) (n : ℕ) (h : HartState) (k : KernelState) (p : CallPlace) (o : Option KernelState) → Known s n h k → h.place ≡ p → h.kernel ≡ o → is_some o ≡ is_in_call p → Keeps n (acted s n h (place_ask p h))
unfolding ask
place-keeps s n h k Outside o a e f i =
    let b = a.before in
    let number = number-is s n h k b in
    subst (λ z. Keeps n (acted s n h (guest_ask z (ask h.user)))) (sym number)
    (outside-keeps s n h k h.user.place (record { known = a; guest = record { before = b; outside = e; user = refl } }))
place-keeps s n h k p (Some own) a e f i =
    let c = calls-at s n h k own a.before f in call-keeps s n h p k (record { known = a; calls = subst (λ z. Calls s n h z k) e c }) (sym i)
place-keeps s n h k p None a e f i = absurd (let z : ⊥ = grind (arith, i) in z)

pub steps_keep_boxes : StepsKeepBoxes
unfolding step hart_ask
steps_keep_boxes s n k now lasts holds stands all has oscar replaced relies later own =
    go (slice_get s.harts n) refl now later (steps_hold s n holds) (steps_record s n holds stands all now later) own
  where
    relied : BoxesRely s k
    relied = record { boxes = relies.boxes; starts = relies.starts }

    go : (o : Option HartState) → slice_get s.harts n ≡ o → Keeps n (step_of s n o)
    go None e = λ now later holds recorded own. subst (BoxesRely s) (one-kernel s k now has later) relied
    go (Some h) e =
        let f = fits-of s k stands has in
        place-keeps s n h k h.place h.kernel (record {
          before = record { here = e; holds = holds; stands = stands; has = has; recorded = all k has };
          ready = record { lasts = lasts; words = f.words; fits = f.fits; levels = relies.levels; oscar = oscar; replaced = replaced };
          relied = relied;
        }) refl refl (has.in_hand n h e)
