-- A step of one hart among all.
use Rattle.std.proofs.Common.{ℕ, zero, suc, ◌≡◌, Bool, true, false, Option, Some, None, List, [], ◌∷◌, slice_get, slice_set, slice_index_or, arith, refl, sym, ◌∙◌, ap}
use Rattle.osc_paging.specs.Boxes.{BoxState}
use Rattle.osc_calls.specs.Kernel.{KernelState}
use Rattle.osc_machine.specs.declared.HartAsk.{HartAsk}
use Rattle.osc_machine.specs.declared.HartAsk.TheVariants as does
use Rattle.osc_machine.specs.Parts.{Gate, HartState, State}
use Rattle.osc_machine.specs.Turns.{HartTold, hart_ask, hart_told}
use Rattle.osc_machine.specs.Step.{Stepped, acted, step, takes_box, changes_box, takes_gate, takes_kernel, is_shut, is_wanted}
use Rattle.osc_turns.specs.declared.place.Stepped.{Stepped as Told}
use Rattle.osc_turns.specs.Seen.{made, turned, Turned, kernel_in}
use Rattle.osc_core.specs.Shared.{Shared, Seen, state_of, seen, shown}
use Rattle.osc_core.specs.Acting.{alone, IsDone}

-- ---- one hart is told
abbrev told_seen : Shared → Turned → Seen
told_seen m t = record { state = alone m t.hart; event = t.event; label = t.label }

pub turns : (m next : Shared) (h left new : HartState) (t : HartTold) (r : Told) → IsDone m next h left (Some t)
    → made new r ≡ turned (hart_told left t) → shown (alone next new) r ≡ seen (acted (alone m h) 0 h (hart_ask h))
turns m next h left new t r d e = rw d.step (ap (told_seen next) (e ∙ ap turned d.same))

pub rests : (m next : Shared) (h left : HartState) (r : Told) → IsDone m next h left None
    → r ≡ record { commit = None; label = None } → shown (alone next left) r ≡ seen (acted (alone m h) 0 h (hart_ask h))
rests m next h left r d e = rw (d.step, d.same, e) refl

-- ---- among all harts
abbrev in_state : List HartState → ℕ → HartState → State → State
in_state harts n h s = record s { harts = slice_set harts n (slice_index_or s.harts 0 h) }

abbrev in_step : List HartState → ℕ → HartState → Stepped → Stepped
in_step harts n h x = record x { state = in_state harts n h x.state }

abbrev in_seen : List HartState → ℕ → HartState → Seen → Seen
in_seen harts n h x = record x { state = in_state harts n h x.state }

set_same : (harts : List HartState) (n : ℕ) (h : HartState) → slice_get harts n ≡ Some h → slice_set harts n h ≡ harts
set_same [] n h e = refl
set_same (x ∷ harts) zero h e = let same : x ≡ h = grind (arith, e) in rw same refl
set_same (x ∷ harts) (suc n) h e = ap (λ hs. x ∷ hs) (set_same harts n h e)

box_in : (m : Shared) (harts : List HartState) (n : ℕ) (h : HartState) (box : ℕ) (o : Option BoxState) → slice_get harts n ≡ Some h
    → takes_box (state_of m harts) n h box o ≡ in_step harts n h (takes_box (alone m h) 0 h box o)
box_in m harts n h box None e = rw (set_same harts n h e) refl
box_in m harts n h box (Some state) e = refl

change_in : (m : Shared) (harts : List HartState) (n : ℕ) (h : HartState) (box : ℕ) (o : Option BoxState) → slice_get harts n ≡ Some h
    → changes_box (state_of m harts) n h box o ≡ in_step harts n h (changes_box (alone m h) 0 h box o)
change_in m harts n h box None e = rw (set_same harts n h e) refl
change_in m harts n h box (Some state) e = refl

gate_in : (m : Shared) (harts : List HartState) (n : ℕ) (h : HartState) (frame : ℕ) (only : Option ℕ) (o : Option Gate) → slice_get harts n ≡ Some h
    → takes_gate (state_of m harts) n h frame only o ≡ in_step harts n h (takes_gate (alone m h) 0 h frame only o)
gate_in m harts n h frame only None e = rw (set_same harts n h e) refl
gate_in m harts n h frame only (Some gate) e = go (is_shut gate) (is_wanted only gate.version) refl refl
  where
    go : (shut wanted : Bool) → is_shut gate ≡ shut → is_wanted only gate.version ≡ wanted
        → takes_gate (state_of m harts) n h frame only (Some gate) ≡ in_step harts n h (takes_gate (alone m h) 0 h frame only (Some gate))
    go true wanted a b = rw (a, set_same harts n h e) refl
    go false true a b = rw (a, b) refl
    go false false a b = rw (a, b) refl

kernel_in_step : (m : Shared) (harts : List HartState) (n : ℕ) (h : HartState) (o : Option KernelState) → slice_get harts n ≡ Some h
    → takes_kernel (state_of m harts) n h o ≡ in_step harts n h (takes_kernel (alone m h) 0 h o)
kernel_in_step m harts n h None e = rw (set_same harts n h e) refl
kernel_in_step m harts n h (Some k) e = refl

acted_in : (m : Shared) (harts : List HartState) (n : ℕ) (h : HartState) (a : HartAsk) → slice_get harts n ≡ Some h
    → acted (state_of m harts) n h a ≡ in_step harts n h (acted (alone m h) 0 h a)
acted_in m harts n h (does.TakeBox box) e = box_in m harts n h box (slice_index_or m.boxes box None) e
acted_in m harts n h (does.GiveBox box) e = refl
acted_in m harts n h (does.ChangeBox box) e = change_in m harts n h box (slice_index_or m.boxes box None) e
acted_in m harts n h (does.Load at) e = refl
acted_in m harts n h (does.Store at value) e = refl
acted_in m harts n h (does.TakeGate frame only) e = gate_in m harts n h frame only (slice_get m.gates frame) e
acted_in m harts n h (does.OpenGate frame version) e = refl
acted_in m harts n h does.TakeKernel e = kernel_in_step m harts n h (kernel_in m.kernel) e
acted_in m harts n h does.GiveKernel e = refl
acted_in m harts n h does.Rest e = rw (set_same harts n h e) refl

pub stepped : (m next : Shared) (harts : List HartState) (n : ℕ) (h new : HartState) (r : Told) → slice_get harts n ≡ Some h
    → shown (alone next new) r ≡ seen (acted (alone m h) 0 h (hart_ask h))
    → shown (state_of next (slice_set harts n new)) r ≡ seen (step (state_of m harts) n)
unfolding step
stepped m next harts n h new r here e =
    rw here (ap (in_seen harts n h) e ∙ sym (ap seen (acted_in m harts n h (hart_ask h) here)))
