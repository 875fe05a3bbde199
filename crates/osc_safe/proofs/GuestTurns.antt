-- What a hart holds after an answer to its guest part.
use Rattle.std.proofs.Common.{ℕ, ◌≡◌, ◌≢◌, ◌+◌, ◌==◌, Bool, true, false, Option, Some, None, is_some, length, set, slice_get, slice_set, if◌then◌else◌, arith, refl, sym, ap, subst, ◌∙◌}
use Rattle.std.proofs.lemmas.Bool.Decides.{nat_tests}
use Rattle.std.proofs.lemmas.List.{length-set}
use Rattle.osc_paging.proofs.WordLists.{slice_get-set}
use Rattle.osc_paging.specs.Boxes.{BoxState}
use Rattle.osc_guest.specs.Told.{Told, told}
use Rattle.osc_guest.specs.Hands.{gate_held, gate_after, held_after}
use Rattle.osc_guest.proofs.Hands.{told-box, told-gate, hand_kept}
use Rattle.osc_machine.specs.Parts.{Gate, Outside, HartState, State}
use Rattle.osc_machine.specs.Turns.{from_guest}
use Rattle.osc_machine.specs.Step.{with_box}
use Rattle.osc_safe.specs.Holding.{one_if, home, has_gate, gate_hand, HartHolds}
use Rattle.osc_safe.proofs.Turning.{Turns}
use Rattle.osc_safe.proofs.CallBoxes.{has, box-set}
use Rattle.osc_safe.proofs.CallTurns.{At, mine, still}

-- the state in which the gate of a frame was written
abbrev pub gated : State → ℕ → Gate → State
gated s frame gate = record s { gates = slice_set s.gates frame gate }

guest-holds : (s : State) (n : ℕ) (h : HartState) (t : Told) → At s n h Outside → HartHolds (length s.harts) n (from_guest h (told h.user t)).hart
guest-holds s n h t a =
    let m = mine s n h Outside a in record {
      number = m.number;
      count = m.count;
      room = m.room;
      own = hand_kept h.user t m.own;
      asking = λ i. (let p = a.place in absurd (let x : ⊥ = grind (arith, i, p) in x));
      boxes = m.boxes;
      done = m.done;
    }

-- the hart's own box is taken or given
pub own-turns : (s u : State) (n : ℕ) (h : HartState) (t : Told) (o : Option BoxState) → At s n h Outside → u ≡ with_box s n o
    → one_if (is_some o) + one_if (held_after h.user.place t (is_some h.user.held)) ≡ home n s + one_if (is_some h.user.held)
    → gate_after h.user.place t ≡ gate_held h.user.place → Turns s u n h (from_guest h (told h.user t)).hart
own-turns s u n h t o a e boxes gates =
    subst (λ v. Turns s v n h (from_guest h (told h.user t)).hart) (sym e)
    (let m = mine s n h Outside a in record {
      here = a.here;
      harts = refl;
      room = length-set s.boxes n o;
      holds = guest-holds s n h t a;
      box = λ b l. grind (arith, nat_tests, boxes, m.number, told-box h.user t, box-set s.boxes n b o);
      gate = λ f g d. (g, d, ap (λ c. one_if g.taken + one_if (has_gate c f)) (sym (told-gate h.user t ∙ gates)));
    })

-- neither the box nor a gate is
pub plain-turns : (s u : State) (n : ℕ) (h : HartState) (t : Told) → At s n h Outside → u.harts ≡ s.harts → u.boxes ≡ s.boxes → u.gates ≡ s.gates
    → held_after h.user.place t (is_some h.user.held) ≡ is_some h.user.held → gate_after h.user.place t ≡ gate_held h.user.place → Turns s u n h (from_guest h (told h.user t)).hart
plain-turns s u n h t a hs bs gs boxes gates =
    still s u n h _ a.here hs (ap length bs) (λ box. ap (λ xs. one_if (has xs box)) bs) gs (guest-holds s n h t a)
    (record {
      hands = λ b. ap (λ c. (if h.number == b then one_if c else 0) + one_if (has h.boxes b)) (told-box h.user t ∙ boxes);
      gates = λ f. ap (λ c. one_if (has_gate c f)) (told-gate h.user t ∙ gates);
    })

-- the gate of a frame is taken or opened
pub gate-turns : (s : State) (n : ℕ) (h : HartState) (t : Told) (frame : ℕ) (new : Gate) → At s n h Outside
    → held_after h.user.place t (is_some h.user.held) ≡ is_some h.user.held
    → ((was : Gate) → slice_get s.gates frame ≡ Some was → one_if new.taken + one_if (has_gate (gate_held h.user.place) frame) ≡ one_if was.taken + one_if (has_gate (gate_after h.user.place t) frame))
    → ((f : ℕ) → f ≢ frame → has_gate (gate_after h.user.place t) f ≡ has_gate (gate_held h.user.place) f)
    → Turns s (gated s frame new) n h (from_guest h (told h.user t)).hart
gate-turns s n h t frame new a boxes gates others = record {
  here = a.here;
  harts = refl;
  room = refl;
  holds = guest-holds s n h t a;
  box = λ b l. ap (λ c. home b s + ((if h.number == b then one_if c else 0) + one_if (has h.boxes b))) (told-box h.user t ∙ boxes);
  gate = λ f g d. at_gate (f == frame) f g refl d;
}
  where
    at_gate : (b : Bool) (f : ℕ) (g : Gate) → (f == frame) ≡ b → slice_get (set s.gates frame new) f ≡ Some g
        → (was : Gate) × (slice_get s.gates f ≡ Some was) × (one_if g.taken + gate_hand f h ≡ one_if was.taken + gate_hand f (from_guest h (told h.user t)).hart)
    at_gate true f g c d = there (slice_get s.gates f) refl
      where
        there : (o : Option Gate) → slice_get s.gates f ≡ o
            → (was : Gate) × (slice_get s.gates f ≡ Some was) × (one_if g.taken + gate_hand f h ≡ one_if was.taken + gate_hand f (from_guest h (told h.user t)).hart)
        there None q = absurd (let x : ⊥ = grind (arith, nat_tests, c, d, q, slice_get-set s.gates frame f new) in x)
        there (Some was) q =
            let same : frame ≡ f = grind (arith, nat_tests, c) in
            let new_is : g ≡ new = grind (arith, nat_tests, c, d, q, slice_get-set s.gates frame f new) in
            let k = gates was (subst (λ x. slice_get s.gates x ≡ Some was) (sym same) q) in
            (was, q, grind (arith, nat_tests, new_is, same, told-gate h.user t, k))
    at_gate false f g c d =
        let differs : f ≢ frame = (λ e. (let x : ⊥ = grind (arith, nat_tests, c, e) in x)) in
        let o = others f differs in
        (g, (let q : slice_get s.gates f ≡ Some g = grind (arith, nat_tests, c, d, slice_get-set s.gates frame f new) in q), grind (arith, told-gate h.user t, o))
