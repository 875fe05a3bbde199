-- Where the boxes come from in a step of a hart in an instruction.
use Rattle.std.proofs.Common.{ℕ, ◌≡◌, ◌≢◌, ◌⊎◌, inl, inr, true, false, Some, None, get_or, slice_get, refl, sym, ap, subst, ◌∙◌}
use Rattle.std.specs.Option.{option_map_or}
use Rattle.osc_word.specs.declared.orders.Start as thread
use Rattle.osc_paging.specs.Boxes.{BoxState}
use Rattle.osc_guest.specs.declared.places.Place.{Place}
use Rattle.osc_guest.specs.User.{UserHart}
use Rattle.osc_guest.specs.Told.{Told, told}
use Rattle.osc_guest.specs.Told as heard
use Rattle.osc_guest.specs.Hands.{start_told}
use Rattle.osc_guest.proofs.Hands.{hands_move}
use Rattle.osc_calls.specs.Kernel.{KernelState}
use Rattle.osc_machine.specs.Parts.{HartState, State}
use Rattle.osc_machine.specs.Turns.{from_guest}
use Rattle.osc_machine.specs.Step.{box_at, with_box}
use Rattle.osc_safe.specs.Holding.{call_box}
use Rattle.osc_records.proofs.Rows.{Before}
use Rattle.osc_records.proofs.GuestRows.{Guest}
use Rattle.osc_relying.specs.Relying.{AtHome, InHand, Called}
use Rattle.osc_boxes.proofs.PagesLast.{still-lasts}
use Rattle.osc_boxes.proofs.Came.{each-box, less-boxes, more-boxes, not-called, Came, Was, Own, AllCame, moved, stayed-boxes}

-- where it is given no thread it goes on in its process
pub same-pid : (h : UserHart) (p : Place) (t : Told) → h.place ≡ p → start_told p t ≡ None → (told h t).hart.pid ≡ h.pid
same-pid h p t e none = let m = hands_move h t in m.pid ∙ ap (λ o. option_map_or (λ (s : thread.Start). s.pid) o h.pid) (ap (λ z. start_told z t) e ∙ none)

-- neither the box nor a thread is heard of
pub heard-came : (s u : State) (n : ℕ) (h : HartState) (k later : KernelState) (p : Place) (t : Told) → Guest s n h k p → k ≡ later → u.harts ≡ s.harts → u.boxes ≡ s.boxes → start_told p t ≡ None
    → AllCame s u n h (from_guest h (told h.user t)).hart k later
heard-came s u n h k later p t a e hs bs none =
    let b = a.before in
    stayed-boxes s u n h (from_guest h (told h.user t)).hart k later b.here hs bs refl (same-pid h.user p t a.user none) (λ m box called has. still-lasts k later m called e)

-- the box is taken: it was at home, and so in no hand
pub takes-came : (s : State) (n : ℕ) (h : HartState) (k later : KernelState) (p : Place) (state : BoxState) → Guest s n h k p → k ≡ later → box_at s n ≡ Some state
    → AllCame s (with_box s n None) n h (from_guest h (told h.user (heard.Box state))).hart k later
takes-came s n h k later p state a e home =
    each-box s (with_box s n None) n x (λ m b called. Came s n h x k later m b called) refl
    (λ m b f. (let q = less-boxes s.boxes n m b f in Was false (AtHome refl q.1) (still-lasts k later m false e) (λ at. absurd (q.0 at))))
    (λ b f. Own refl refl f)
    (λ m b f. Was true (Called n h refl before.here f) (still-lasts k later m true e) (λ at. absurd (taken n h b before.here (subst (λ z. call_box h z ≡ Some b) at f))))
    (λ m g b apart here f. Was false (InHand g refl here f) (still-lasts k later m false e) (λ at. absurd (apart at)))
    (λ i g m b apart here f. Was true (Called i g refl here f) (still-lasts k later m true e) (λ at. absurd (taken i g b here (subst (λ z. call_box g z ≡ Some b) at f))))
  where
    x : HartState
    x = (from_guest h (told h.user (heard.Box state))).hart

    before : Before s n h k
    before = a.before

    taken : (i : ℕ) (g : HartState) (b : BoxState) → slice_get s.harts i ≡ Some g → call_box g n ≡ Some b → ⊥
    taken i g b here f = not-called s i n g state b before.holds home here f

-- the box is given as it is
pub gives-came : (s : State) (n : ℕ) (h : HartState) (k later : KernelState) (p : Place) (given : BoxState) → Guest s n h k p → k ≡ later → h.user.held ≡ Some given → start_told p heard.Done ≡ None
    → AllCame s (with_box s n (Some given)) n h (from_guest h (told h.user heard.Done)).hart k later
gives-came s n h k later p given a e held none =
    moved s (with_box s n (Some given)) n h x k later refl pid (λ m b called has. still-lasts k later m called e)
    (λ m b f. at_home m b (more-boxes s.boxes n m given b f))
    (λ m b f. Was true (Called n h refl before.here f) (still-lasts k later m true e) (λ q. pid))
  where
    x : HartState
    x = (from_guest h (told h.user heard.Done)).hart

    before : Before s n h k
    before = a.before

    pid : x.user.pid ≡ h.user.pid
    pid = same-pid h.user p heard.Done a.user none

    at_home : (m : ℕ) (b : BoxState) → ((m ≡ n) × (given ≡ b)) ⊎ ((m ≢ n) × (get_or s.boxes m None ≡ Some b)) → Came s n h x k later m b false
    at_home m b (inl q) = Was false (InHand h refl (subst (λ z. slice_get s.harts z ≡ Some h) (sym q.0) before.here) (held ∙ ap (λ z. Some z) q.1)) (still-lasts k later m false e) (λ z. pid)
    at_home m b (inr q) = Was false (AtHome refl q.1) (still-lasts k later m false e) (λ z. pid)
