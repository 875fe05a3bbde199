-- What each action makes of what the harts share.
use Rattle.std.proofs.Common.{ℕ, ◌≡◌, Bool, true, false, Option, Some, None, IfSome, if◌then◌else◌, slice_get, slice_set, refl, sym, ap, subst}
use Rattle.osc_paging.specs.Boxes.{BoxState}
use Rattle.osc_guest.specs.declared.places.Place.{Place}
use Rattle.osc_guest.specs.declared.places.Place.TheVariants as at
use Rattle.osc_guest.specs.Asks.{ask, ask_at}
use Rattle.osc_guest.specs.User.{UserHart, without_box}
use Rattle.osc_machine.specs.declared.HartAsk.TheVariants as does
use Rattle.osc_machine.specs.Parts.{CallPlace, Outside, TakingBoxes, FirstWord, SecondWord, Working, GivingBoxes, Returning, Gate, HartState}
use Rattle.osc_machine.specs.Turns.{HartTold, guest_ask, place_ask, hart_ask, hart_told, handed_box, handed_kernel, box_given}
use Rattle.osc_machine.specs.Turns as told
use Rattle.osc_machine.specs.Step.{is_shut, is_wanted, takes_gate}
use Rattle.osc_machine.specs.Laws.{HandAgrees, GivingLooksAway, bared, bared_at}
use Rattle.osc_kernel.specs.Seen.{SeenKernel}
use Rattle.osc_turns.specs.Answers.{AnswerFits, AnswerWithin}
use Rattle.osc_core.specs.Shared.{Shared}
use Rattle.osc_core.specs.Acting.{alone, goes_by, LeftFor, IsDone, gate_told, gates_told}

-- ---- a hart that gave what it had in its hand asks for the same
user_asks_at : (p : Place) (h : UserHart) → ask_at p (without_box h) ≡ ask_at p h
user_asks_at at.Run h = refl
user_asks_at at.Idle h = refl
user_asks_at (at.Walk access level table) h = refl
user_asks_at (at.Access access frame stage) h = refl
user_asks_at (at.OpenGate frame version) h = refl
user_asks_at (at.GiveBox follows) h = refl
user_asks_at (at.Call request) h = refl
user_asks_at at.Rest h = refl

user_asks : (h : UserHart) → ask (without_box h) ≡ ask h
unfolding ask
user_asks h = user_asks_at h.place h

bared_asks_at : (p : CallPlace) (h : HartState) → h.place ≡ p → place_ask (bared_at p h).place (bared_at p h) ≡ place_ask h.place h
bared_asks_at Outside h e = rw e (ap (guest_ask h.number) (user_asks h.user))
bared_asks_at (TakingBoxes box) h e = rw e refl
bared_asks_at (FirstWord first second) h e = rw e refl
bared_asks_at (SecondWord found second) h e = rw e refl
bared_asks_at (Working moves read) h e = rw e refl
bared_asks_at (GivingBoxes box) h e = rw e refl
bared_asks_at (Returning return) h e = rw e refl

pub bared_asks : (h : HartState) → hart_ask (bared h) ≡ hart_ask h
unfolding hart_ask
bared_asks h = bared_asks_at h.place h refl

bared_count_at : (p : CallPlace) (h : HartState) → (bared_at p h).count ≡ h.count
bared_count_at Outside h = refl
bared_count_at (TakingBoxes box) h = refl
bared_count_at (FirstWord first second) h = refl
bared_count_at (SecondWord found second) h = refl
bared_count_at (Working moves read) h = refl
bared_count_at (GivingBoxes box) h = refl
bared_count_at (Returning return) h = refl

pub bared_count : (h : HartState) → (bared h).count ≡ h.count
bared_count h = bared_count_at h.place h

-- ---- giving
pub gave_box : (m next : Shared) (h left : HartState) (box : BoxState) (number : ℕ) → GivingLooksAway → HandAgrees h
    → does.GiveBox number ≡ hart_ask h → left ≡ bared h → box ≡ handed_box h → next ≡ record m { boxes = slice_set m.boxes number (Some box) }
    → IsDone m next h left (Some told.Done)
gave_box m next h left box number law hand asks is given rest = record {
  step = rw (← asks, rest, given) refl;
  same = rw is (law.box h number hand (sym asks));
  fits = rw (is, bared_asks h, ← asks) tt;
  within = tt;
}

gave_kernel_of : (m : Shared) (h left : HartState) (k : SeenKernel) → GivingLooksAway → hart_ask h ≡ does.GiveKernel
    → left ≡ bared h → Some k.kernel ≡ handed_kernel h → IsDone m (record m { kernel = Some k }) h left (Some told.Done)
gave_kernel_of m h left k law asks is given = record {
  step = rw (asks, ← given) refl;
  same = rw is (law.kernel h asks);
  fits = rw (is, bared_asks h, asks) tt;
  within = tt;
}

pub gave_kernel : (m v : Shared) (h left : HartState) (k : SeenKernel) → v ≡ m → GivingLooksAway → does.GiveKernel ≡ hart_ask h
    → left ≡ bared h → Some k.kernel ≡ handed_kernel h → IsDone m (record v { kernel = Some k }) h left (Some told.Done)
gave_kernel m v h left k e law asks is given =
    subst (λ (s : Shared). IsDone s (record v { kernel = Some k }) h left (Some told.Done)) e (gave_kernel_of v h left k law (sym asks) is given)

-- ---- gates
gate_step : (h : HartState) (frame : ℕ) (only : Option ℕ) (gate : Option Gate) (m next : Shared)
    → next ≡ record m { gates = gates_told m.gates frame (gate_told only gate) }
    → takes_gate (alone m h) 0 h frame only gate ≡ goes_by next h (gate_told only gate)
gate_step h frame only None m next rest = rw rest refl
gate_step h frame only (Some gate) m next rest = go (is_shut gate) (is_wanted only gate.version) refl refl
  where
    go : (shut wanted : Bool) → is_shut gate ≡ shut → is_wanted only gate.version ≡ wanted
        → takes_gate (alone m h) 0 h frame only (Some gate) ≡ goes_by next h (gate_told only (Some gate))
    go true wanted a b = rw (rest, a) refl
    go false true a b = rw (rest, a, b) refl
    go false false a b = rw (rest, a, b) refl

left_self : (t : Option HartTold) (h : HartState) → LeftFor t h h
left_self None h = refl
left_self (Some t) h = refl

gate_within : (gate : Option Gate) (only : Option ℕ) (h : HartState) → IfSome (gate_told only gate) (AnswerWithin h)
gate_within None only h = tt
gate_within (Some gate) only h = go (is_shut gate) (is_wanted only gate.version)
  where
    go : (shut wanted : Bool) → IfSome (if shut then None else if wanted then Some (told.Gate gate.version) else Some told.OldVersion) (AnswerWithin h)
    go true wanted = tt
    go false true = tt
    go false false = tt

pub took_gate : (m next : Shared) (h : HartState) (frame : ℕ) (only : Option ℕ) (t : Option HartTold) → does.TakeGate frame only ≡ hart_ask h
    → t ≡ gate_told only (slice_get m.gates frame) → next ≡ record m { gates = gates_told m.gates frame (gate_told only (slice_get m.gates frame)) }
    → ((harts : ℕ) → IfSome (gate_told only (slice_get m.gates frame)) (AnswerFits harts (does.TakeGate frame only)))
    → IsDone m next h h t
took_gate m next h frame only t asks is rest fits = record {
  step = rw (← asks, is) (gate_step h frame only (slice_get m.gates frame) m next rest);
  same = left_self t h;
  fits = rw (← asks, is) (fits h.count);
  within = rw is (gate_within (slice_get m.gates frame) only h);
}
