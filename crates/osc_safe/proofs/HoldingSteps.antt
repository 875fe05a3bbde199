-- Each step keeps who holds what.
use Rattle.std.proofs.Common.{ℕ, ◌≡◌, ◌<◌, ◌≤◌, Bool, true, false, Option, Some, None, is_some, List, [], ◌∷◌, length, slice_get, if◌then◌else◌, arith, refl, sym, ap, subst, ◌∙◌}
use Rattle.std.proofs.lemmas.Bool.Decides.{nat_tests}
use Rattle.std.proofs.lemmas.List.{length-set}
use Rattle.std.proofs.lemmas.Option.{slice_get_within}
use Rattle.osc_word.specs.declared.calls.Request.{Request}
use Rattle.osc_word.specs.declared.job_list.WordAt.{WordAt}
use Rattle.osc_sv39.specs.Walk.{put_word}
use Rattle.osc_paging.specs.Boxes.{BoxState}
use Rattle.osc_guest.specs.declared.places.Place.{Place}
use Rattle.osc_guest.specs.declared.places.Place.TheVariants as at
use Rattle.osc_guest.specs.declared.places.Stage.TheVariants as stage
use Rattle.osc_guest.specs.declared.places.Ask.TheVariants as guest
use Rattle.osc_guest.specs.Asks.{ask, ask_at}
use Rattle.osc_guest.specs.Told.{told}
use Rattle.osc_guest.specs.Told as heard
use Rattle.osc_guest.specs.Hands.{holds_box, gate_held, gate_after, held_after}
use Rattle.osc_calls.specs.Kernel.{KernelState}
use Rattle.osc_calls.specs.Moves.{Move}
use Rattle.osc_calls.specs.Moves as move
use Rattle.osc_machine.specs.Parts.{Gate, CallPlace, Outside, TakingBoxes, FirstWord, SecondWord, Working, GivingBoxes, Returning, HartState, State}
use Rattle.osc_machine.specs.Turns.{HartTold, Box, Kernel, Word, Gate as ToldGate, OldVersion, Done, Turn, guest_ask, place_ask, hart_ask, hart_told, place_told, outside_told, kernel_taken, from_guest, handed_box, handed_kernel, box_given}
use Rattle.osc_machine.specs.Step.{Stepped, tells, with_box, with_gate, box_at, is_shut, is_wanted, takes_box, changes_box, takes_gate, takes_kernel, acted, step_of, step}
use Rattle.osc_machine.specs.Laws.{is_in_call, HasKernel}
use Rattle.osc_machine.proofs.KernelLaws.{kernel_stays}
use Rattle.osc_safe.specs.Holding.{hands, home, gate_hand, is_asking, Holds, StepsHold}
use Rattle.osc_safe.proofs.Turning.{item-within, Turns, turned}
use Rattle.osc_safe.proofs.CallBoxes.{has, box-set}
use Rattle.osc_safe.proofs.CallTurns.{At, mine, held-away, took-turns, gave-turns, worked-turns, first-turns, found-turns, begun-turns, returned-turns}
use Rattle.osc_safe.proofs.GuestTurns.{own-turns, plain-turns, gate-turns}

-- what is to be shown of a step, where the kernel is in one place after it
abbrev Keeps : Stepped → Type 0
Keeps x = (k : KernelState) → HasKernel x.state k → Holds x.state

next : (s u : State) (n : ℕ) (h : HartState) (t : HartTold) (turn : Turn) → Holds s → hart_told h t ≡ turn → Turns s u n h turn.hart → Keeps (tells u n h t)
next s u n h t turn holds e turns k has = turned s u n h (hart_told h t).hart k has (subst (λ (y : Turn). Turns s u n h y.hart) (sym e) turns) holds

-- ---- guest instructions
-- hart n outside a call, at this place of its guest part
record There (s : State) (n : ℕ) (h : HartState) (p : Place) : Type 0 where
  at : At s n h Outside
  user : h.user.place ≡ p

told_outside : (h : HartState) (t : HartTold) → h.place ≡ Outside → hart_told h t ≡ outside_told h t
unfolding hart_told
told_outside h t e = ap (λ q. place_told q h.kernel h t) e

abbrev OutsideStep : State → ℕ → HartState → Place → Type 0
OutsideStep s n h p = Keeps (acted s n h (guest_ask h.number (ask_at p h.user)))

-- what is heard of neither the box nor a gate
goes_plain : (s u : State) (n : ℕ) (h : HartState) (p : Place) (t : HartTold) (g : heard.Told) → There s n h p → u.harts ≡ s.harts → u.boxes ≡ s.boxes → u.gates ≡ s.gates
    → ((had : Bool) → held_after p g had ≡ had) → gate_after p g ≡ gate_held p → outside_told h t ≡ from_guest h (told h.user g) → Keeps (tells u n h t)
goes_plain s u n h p t g a hs bs gs boxes gates e =
    next s u n h t (from_guest h (told h.user g)) a.at.holds (told_outside h t a.at.place ∙ e)
    (plain-turns s u n h g a.at hs bs gs
    (subst (λ q. held_after q g (is_some h.user.held) ≡ is_some h.user.held) (sym a.user) (boxes (is_some h.user.held)))
    (subst (λ q. gate_after q g ≡ gate_held q) (sym a.user) gates))

-- the own box is taken
held_is : (s : State) (n : ℕ) (h : HartState) (p : Place) → There s n h p → is_some h.user.held ≡ holds_box p
held_is s n h p a = let m = mine s n h Outside a.at in m.own ∙ ap holds_box a.user

takes_own : (s : State) (n : ℕ) (h : HartState) (p : Place) (o : Option BoxState) → There s n h p → holds_box p ≡ false
    → ((st : BoxState) (had : Bool) → held_after p (heard.Box st) had ≡ true) → ((st : BoxState) → gate_after p (heard.Box st) ≡ gate_held p)
    → box_at s h.number ≡ o → Keeps (takes_box s n h h.number o)
takes_own s n h p None a f boxes gates e = λ k has. a.at.holds
takes_own s n h p (Some st) a f boxes gates e =
    let m = mine s n h Outside a.at in
    let held = held_is s n h p a in
    let u = a.user in
    let number = m.number in
    let box = boxes st (is_some h.user.held) in
    let gate = gates st in
    next s (with_box s h.number None) n h (Box st) (from_guest h (told h.user (heard.Box st))) a.at.holds (told_outside h (Box st) a.at.place)
    (own-turns s (with_box s h.number None) n h (heard.Box st) None a.at (ap (λ b. with_box s b None) number)
    (grind (arith, box, held, u, f, e, number)) (grind (arith, gate, u)))

-- and given
gives_own : (s : State) (n : ℕ) (h : HartState) (p : Place) (given : BoxState) → There s n h p → holds_box p ≡ true
    → ((had : Bool) → held_after p heard.Done had ≡ false) → gate_after p heard.Done ≡ gate_held p
    → Keeps (tells (with_box s h.number (Some given)) n h Done)
gives_own s n h p given a f boxes gates =
    let m = mine s n h Outside a.at in
    let held : is_some h.user.held ≡ true = held_is s n h p a ∙ f in
    let u = a.user in
    let number = m.number in
    let box = boxes (is_some h.user.held) in
    let within : n < length s.boxes = subst (λ c. n < c) (sym a.at.holds.room) (slice_get_within s.harts n h a.at.here) in
    let away : home n s ≡ 0 = held-away s n h n a.at.holds a.at.here within (let q : 1 ≤ hands n h = grind (arith, nat_tests, number, held) in q) in
    next s (with_box s h.number (Some given)) n h Done (from_guest h (told h.user heard.Done)) a.at.holds (told_outside h Done a.at.place)
    (own-turns s (with_box s h.number (Some given)) n h heard.Done (Some given) a.at (ap (λ b. with_box s b (Some given)) number)
    (grind (arith, box, held, u, away)) (grind (arith, gates, u)))

either : (b : Bool) (x y : Stepped) → (b ≡ true → Keeps x) → (b ≡ false → Keeps y) → Keeps (if b then x else y)
either true x y p q = p refl
either false x y p q = q refl

-- a gate is taken
takes_the_gate : (s : State) (n : ℕ) (h : HartState) (p : Place) (frame : ℕ) (only : Option ℕ) (o : Option Gate) → There s n h p
    → ((g : heard.Told) (had : Bool) → held_after p g had ≡ had) → ((version : ℕ) → gate_after p (heard.Gate version) ≡ Some frame) → gate_after p heard.OldVersion ≡ gate_held p → gate_held p ≡ None
    → slice_get s.gates frame ≡ o → Keeps (takes_gate s n h frame only o)
takes_the_gate s n h p frame only None a boxes taken old none e = λ k has. a.at.holds
takes_the_gate s n h p frame only (Some gate) a boxes taken old none e =
    either (is_shut gate) _ _ (λ t k has. a.at.holds) (λ unshut.
    either (is_wanted only gate.version) _ _
    (λ t. next s (with_gate s frame gate.version true) n h (ToldGate gate.version) (from_guest h (told h.user (heard.Gate gate.version))) a.at.holds
    (told_outside h (ToldGate gate.version) a.at.place)
    (gate-turns s n h (heard.Gate gate.version) frame (record { version = gate.version; taken = true }) a.at
    (subst (λ q. held_after q (heard.Gate gate.version) (is_some h.user.held) ≡ is_some h.user.held) (sym a.user) (boxes (heard.Gate gate.version) (is_some h.user.held)))
    (λ was d. (let u = a.user in let k = taken gate.version in let q : gate ≡ was = grind (arith, d, e) in let free : gate.taken ≡ false = grind (arith, unshut) in grind (arith, nat_tests, u, k, none, q, free)))
    (λ f d. (let u = a.user in let k = taken gate.version in grind (arith, nat_tests, u, k, none, d)))))
    (λ t. goes_plain s s n h p OldVersion heard.OldVersion a refl refl refl (boxes heard.OldVersion) old refl))

-- and opened
opens_gate : (s : State) (n : ℕ) (h : HartState) (p : Place) (frame version : ℕ) → There s n h p
    → ((had : Bool) → held_after p heard.Done had ≡ had) → gate_after p heard.Done ≡ None → gate_held p ≡ Some frame
    → Keeps (tells (with_gate s frame version false) n h Done)
opens_gate s n h p frame version a boxes none held =
    let u = a.user in
    next s (with_gate s frame version false) n h Done (from_guest h (told h.user heard.Done)) a.at.holds (told_outside h Done a.at.place)
    (gate-turns s n h heard.Done frame (record { version = version; taken = false }) a.at
    (subst (λ q. held_after q heard.Done (is_some h.user.held) ≡ is_some h.user.held) (sym a.user) (boxes (is_some h.user.held)))
    (λ was d. (let w = item-within (gate_hand frame) s.harts n h a.at.here in let k = a.at.holds.gate frame was d in let has : gate_hand frame h ≡ 1 = grind (arith, nat_tests, u, held) in grind (arith, nat_tests, u, none, held, w, k, has)))
    (λ f d. grind (arith, nat_tests, u, none, held, d)))

-- the kernel is taken
takes_it : (s : State) (n : ℕ) (h : HartState) (asked : Request) (o : Option KernelState) → There s n h (at.Call asked) → s.kernel ≡ o → Keeps (takes_kernel s n h o)
unfolding ask
takes_it s n h asked None a e = λ k has. a.at.holds
takes_it s n h asked (Some k0) a e =
    let asks : ask h.user ≡ guest.Kernel asked = ap (λ p. ask_at p h.user) a.user in
    let told : hart_told h (Kernel k0) ≡ kernel_taken (guest.Kernel asked) k0 h = told_outside h (Kernel k0) a.at.place ∙ ap (λ q. kernel_taken q k0 h) asks in
    let some : 0 < length s.harts = (let l = slice_get_within s.harts n h a.at.here in omega (arith, l)) in
    next s (record s { kernel = None }) n h (Kernel k0) _ a.at.holds told
    (begun-turns s (record s { kernel = None }) n h asked k0 a.at (ap is_asking a.user) some refl refl refl)

outside_holds : (s : State) (n : ℕ) (h : HartState) (p : Place) → There s n h p → OutsideStep s n h p
outside_holds s n h at.Run a = takes_own s n h at.Run (box_at s h.number) a refl (λ st had. refl) (λ st. refl) refl
outside_holds s n h at.Idle a = takes_own s n h at.Idle (box_at s h.number) a refl (λ st had. refl) (λ st. refl) refl
outside_holds s n h (at.Walk access level table) a = goes_plain s s n h _ (Word _) (heard.Word _) a refl refl refl (λ had. refl) refl refl
outside_holds s n h (at.Access access frame stage.Fetch) a = goes_plain s s n h _ (Word _) (heard.Word _) a refl refl refl (λ had. refl) refl refl
outside_holds s n h (at.Access access frame stage.Load) a = goes_plain s s n h _ (Word _) (heard.Word _) a refl refl refl (λ had. refl) refl refl
outside_holds s n h (at.Access access frame (stage.TakeGate only)) a =
    takes_the_gate s n h (at.Access access frame (stage.TakeGate only)) frame only (slice_get s.gates frame) a (λ g had. refl) (λ version. refl) refl refl refl
outside_holds s n h (at.Access access frame (stage.GatedLoad version)) a = goes_plain s s n h _ (Word _) (heard.Word _) a refl refl refl (λ had. refl) refl refl
outside_holds s n h (at.Access access frame (stage.GatedStore version found)) a =
    goes_plain s (record s { words = put_word s.words _ _ _ }) n h _ Done heard.Done a refl refl refl (λ had. refl) refl refl
outside_holds s n h (at.OpenGate frame version) a = opens_gate s n h (at.OpenGate frame version) frame version a (λ had. refl) refl refl
outside_holds s n h (at.GiveBox follows) a = gives_own s n h (at.GiveBox follows) (handed_box h) a refl (λ had. refl) refl
outside_holds s n h (at.Call asked) a = takes_it s n h asked s.kernel a refl
outside_holds s n h at.Rest a = λ k has. a.at.holds

-- ---- calls
-- the hart has the kernel
record Calls (s : State) (n : ℕ) (h : HartState) (p : CallPlace) (k : KernelState) : Type 0 where
  at : At s n h p
  kernel : h.kernel ≡ Some k

told_call : (h : HartState) (p : CallPlace) (k : KernelState) (t : HartTold) → h.place ≡ p → h.kernel ≡ Some k → hart_told h t ≡ place_told p (Some k) h t
unfolding hart_told
told_call h p k t e f = ap (λ q. place_told q h.kernel h t) e ∙ ap (λ o. place_told p o h t) f

abbrev CallStep : State → ℕ → HartState → CallPlace → Type 0
CallStep s n h p = Keeps (acted s n h (place_ask p h))

-- the hart turns as the call says
calls_next : (s u : State) (n : ℕ) (h : HartState) (p : CallPlace) (k : KernelState) (t : HartTold) → Calls s n h p k → Turns s u n h (place_told p (Some k) h t).hart → Keeps (tells u n h t)
calls_next s u n h p k t a turns = next s u n h t (place_told p (Some k) h t) a.at.holds (told_call h p k t a.at.place a.kernel) turns

takes_next : (s : State) (n : ℕ) (h : HartState) (box : ℕ) (k : KernelState) (o : Option BoxState) → Calls s n h (TakingBoxes box) k → box_at s box ≡ o → Keeps (takes_box s n h box o)
takes_next s n h box k None a e = λ kk has. a.at.holds
takes_next s n h box k (Some st) a e = calls_next s (with_box s box None) n h (TakingBoxes box) k (Box st) a (took-turns s n h box st k a.at e)

-- a box at home that is changed is at home
changed_home : (s : State) (box : ℕ) (st new : BoxState) (b : ℕ) → box_at s box ≡ Some st → home b (with_box s box (Some new)) ≡ home b s
changed_home s box st new b e = grind (arith, nat_tests, e, box-set s.boxes box b (Some new))

changes_a_box : (s : State) (n : ℕ) (h : HartState) (moves : List Move) (read : Option ℕ) (box : ℕ) (k : KernelState) (o : Option BoxState) → Calls s n h (Working moves read) k → box_at s box ≡ o
    → Keeps (changes_box s n h box o)
changes_a_box s n h moves read box k None a e = λ kk has. a.at.holds
changes_a_box s n h moves read box k (Some st) a e =
    let new = box_given box h.kernel (Some st) in
    calls_next s (with_box s box (Some new)) n h (Working moves read) k Done a
    (worked-turns s (with_box s box (Some new)) n h moves read 0 k a.at refl (length-set s.boxes box (Some new)) (λ b. changed_home s box st new b e) refl)

loads : (s : State) (n : ℕ) (h : HartState) (moves : List Move) (read : Option ℕ) (word : ℕ) (k : KernelState) → Calls s n h (Working moves read) k → Keeps (tells s n h (Word word))
loads s n h moves read word k a = calls_next s s n h (Working moves read) k (Word word) a (worked-turns s s n h moves read word k a.at refl refl (λ b. refl) refl)

stores : (s : State) (n : ℕ) (h : HartState) (moves : List Move) (read : Option ℕ) (to : WordAt) (value : ℕ) (k : KernelState) → Calls s n h (Working moves read) k
    → Keeps (tells (record s { words = put_word s.words to.frame to.index value }) n h Done)
stores s n h moves read to value k a =
    calls_next s (record s { words = put_word s.words to.frame to.index value }) n h (Working moves read) k Done a
    (worked-turns s (record s { words = put_word s.words to.frame to.index value }) n h moves read 0 k a.at refl refl (λ b. refl) refl)

works : (s : State) (n : ℕ) (h : HartState) (moves : List Move) (read : Option ℕ) (k : KernelState) → Calls s n h (Working moves read) k → CallStep s n h (Working moves read)
works s n h [] read k a = λ kk has. a.at.holds
works s n h (move.Put to value ∷ moves) read k a = stores s n h _ read to value k a
works s n h (move.Copy from to ∷ moves) None k a = loads s n h _ None _ k a
works s n h (move.Copy from to ∷ moves) (Some word) k a = stores s n h _ (Some word) to word k a
works s n h (move.CopyLow from to bytes ∷ moves) None k a = loads s n h _ None _ k a
works s n h (move.CopyLow from to bytes ∷ moves) (Some word) k a = stores s n h _ (Some word) to _ k a
works s n h (move.ChangeBox box ∷ moves) read k a = changes_a_box s n h _ read box k (box_at s box) a refl
works s n h (move.Out from ∷ moves) read k a = loads s n h _ read _ k a

call_holds : (s : State) (n : ℕ) (h : HartState) (p : CallPlace) (k : KernelState) → Calls s n h p k → is_in_call p ≡ true → CallStep s n h p
call_holds s n h Outside k a i = absurd (let x : ⊥ = grind (arith, i) in x)
call_holds s n h (TakingBoxes box) k a i = takes_next s n h box k (box_at s box) a refl
call_holds s n h (FirstWord first second) k a i = calls_next s s n h (FirstWord first second) k (Word _) a (first-turns s n h first second _ a.at)
call_holds s n h (SecondWord found second) k a i = calls_next s s n h (SecondWord found second) k (Word _) a (found-turns s n h found _ second k a.at)
call_holds s n h (Working moves read) k a i = works s n h moves read k a
call_holds s n h (GivingBoxes box) k a i =
    calls_next s (with_box s box (Some (handed_box h))) n h (GivingBoxes box) k Done a (gave-turns s n h box (handed_box h) k a.at a.kernel)
call_holds s n h (Returning return) k a i =
    calls_next s (record s { kernel = handed_kernel h }) n h (Returning return) k Done a (returned-turns s _ n h return refl refl refl a.at)

-- ---- the whole
place_holds : (s : State) (n : ℕ) (h : HartState) (p : CallPlace) (o : Option KernelState) → At s n h p → h.kernel ≡ o → is_some o ≡ is_in_call p → CallStep s n h p
unfolding ask
place_holds s n h Outside o a e i = outside_holds s n h h.user.place (record { at = a; user = refl })
place_holds s n h p (Some k) a e i = call_holds s n h p k (record { at = a; kernel = e }) (sym i)
place_holds s n h p None a e i = absurd (let x : ⊥ = grind (arith, e, i) in x)

step_holds : (s : State) (n : ℕ) (o : Option HartState) → slice_get s.harts n ≡ o → Holds s → Keeps (step_of s n o)
unfolding hart_ask
step_holds s n None e holds = λ k has. holds
step_holds s n (Some h) e holds =
    place_holds s n h h.place h.kernel (record { here = e; holds = holds; place = refl }) refl (holds.has.in_hand n h e)

pub steps_hold : StepsHold
unfolding step
steps_hold s n holds =
    let m = kernel_stays s n holds.kernel holds.has in step_holds s n (slice_get s.harts n) refl holds m.next m.has
