-- Exactly one hart has what is not at home. This project's own.
use Rattle.std.specs.Prelude.{ℕ, ◌≡◌, ◌≢◌, ◌<◌, ◌⊎◌, true, Some, None, List, length, slice_get}
use Rattle.osc_paging.specs.Boxes.{BoxState}
use Rattle.osc_machine.specs.declared.HartAsk.TheVariants.{TakeBox, GiveBox}
use Rattle.osc_machine.specs.Parts.{Gate, HartState, State}
use Rattle.osc_machine.specs.Turns.{hart_ask}
use Rattle.osc_machine.specs.Step.{box_at}
use Rattle.osc_safe.specs.Holding.{hands, gate_hand, Holds}

-- one hart has it, in one hand, and no other has it
pub record OneHas (hand : HartState → ℕ) (harts : List HartState) : Type 0 where
  pub n : ℕ
  pub h : HartState
  pub here : slice_get harts n ≡ Some h
  pub one : hand h ≡ 1
  pub others : (m : ℕ) (g : HartState) → slice_get harts m ≡ Some g → m ≢ n → hand g ≡ 0

pub record OneHolds : Type 0 where
  -- a box that is not at home, a box that is, and a gate that is taken
  pub away : (s : State) (box : ℕ) → Holds s → box < length s.boxes → box_at s box ≡ None → OneHas (hands box) s.harts
  pub home : (s : State) (box n : ℕ) (state : BoxState) (h : HartState) → Holds s → box < length s.boxes → box_at s box ≡ Some state
      → slice_get s.harts n ≡ Some h → hands box h ≡ 0
  pub gate : (s : State) (frame : ℕ) (gate : Gate) → Holds s → slice_get s.gates frame ≡ Some gate → gate.taken ≡ true
      → OneHas (gate_hand frame) s.harts
  -- each box that a hart takes or gives is there
  pub there : (s : State) (n box : ℕ) (h : HartState) → Holds s → slice_get s.harts n ≡ Some h
      → (hart_ask h ≡ TakeBox box) ⊎ (hart_ask h ≡ GiveBox box) → box < length s.boxes
