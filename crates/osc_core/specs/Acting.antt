-- What a hart's action makes of what the harts share, and what the hart is told of it.
use Rattle.std.specs.Prelude.{ℕ, ◌≡◌, ◌≤◌, Bool, true, false, if◌then◌else◌, Option, Some, None, IfSome, is_some, List, [], ◌∷◌, length, slice_set, slice_index_or}
use Rattle.osc_paging.specs.Boxes.{BoxState}
use Rattle.osc_guest.specs.Fits.{last_version}
use Rattle.osc_calls.specs.Kernel.{KernelState}
use Rattle.osc_machine.specs.declared.HartAsk.{HartAsk}
use Rattle.osc_machine.specs.declared.HartAsk.TheVariants as does
use Rattle.osc_machine.specs.Parts.{Gate, HartState, State}
use Rattle.osc_machine.specs.Turns.{HartTold, hart_ask, hart_told, box_given}
use Rattle.osc_machine.specs.Turns as told
use Rattle.osc_machine.specs.Step.{Stepped, stays, tells, acted, is_shut, is_wanted}
use Rattle.osc_machine.specs.Laws.{HandAgrees}
use Rattle.osc_turns.specs.Answers.{AnswerFits, AnswerWithin, box_in_hand}
use Rattle.osc_turns.specs.Places.{IsFree}
use Rattle.osc_turns.specs.Seen.{kernel_in}
use Rattle.osc_core.specs.Shared.{Shared, state_of}

-- ---- one hart
-- the machine with this hart alone
abbrev pub alone : Shared → HartState → State
alone m h = state_of m (h ∷ [])

-- it is told this, or nothing where its thing is taken or it is at rest
abbrev pub goes_by : Shared → HartState → Option HartTold → Stepped
goes_by m h None = stays (alone m h)
goes_by m h (Some t) = tells (alone m h) 0 h t

-- what the hart is left with may lack what it gave, and makes the same of the answer
abbrev pub LeftFor : Option HartTold → HartState → HartState → Type 0
LeftFor None h left = left ≡ h
LeftFor (Some t) h left = hart_told left t ≡ hart_told h t

-- the hart's action is done
pub record IsDone (m next : Shared) (h left : HartState) (answer : Option HartTold) : Type 0 where
  pub step : acted (alone m h) 0 h (hart_ask h) ≡ goes_by next h answer
  pub same : LeftFor answer h left
  pub fits : IfSome answer (AnswerFits left.count (hart_ask left))
  pub within : IfSome answer (AnswerWithin left)

-- ---- what it needs
-- what it gives is in its hand
abbrev pub HasThing : HartAsk → HartState → Type 0
HasThing (does.GiveBox number) h = is_some (box_in_hand h) ≡ true
HasThing does.GiveKernel h = is_some h.kernel ≡ true
HasThing _ h = Unit {0}

-- it opens a gate with a version that a gate can have
abbrev pub OpensBelow : HartAsk → Type 0
OpensBelow (does.OpenGate frame version) = version ≤ last_version
OpensBelow _ = Unit {0}

-- what the hart's next step needs of the hart and of the machine
pub record IsReady (m : Shared) (h : HartState) : Type 0 where
  pub hand : HandAgrees h
  pub thing : HasThing (hart_ask h) h
  pub version : OpensBelow (hart_ask h)
  pub kernel : IfSome (kernel_in m.kernel) (IsFree h.count)
  pub boxes : (number : ℕ) (box : BoxState) → slice_index_or m.boxes number None ≡ Some box → AnswerWithin h (told.Box box)

-- ---- boxes
-- a box that is at home has its slots
abbrev pub HasSlots : Option BoxState → Type 0
HasSlots held = IfSome held (λ (box : BoxState). length box.slots ≡ 32)

-- the boxes once a call changed one that is at home
abbrev pub boxes_changed : ℕ → Option KernelState → List (Option BoxState) → Option BoxState → List (Option BoxState)
boxes_changed number kernel boxes None = boxes
boxes_changed number kernel boxes (Some held) = slice_set boxes number (Some (box_given number kernel (Some held)))

-- ---- gates
-- what a hart is told that would take a gate, if anything
abbrev pub gate_told : Option ℕ → Option Gate → Option HartTold
gate_told only None = None
gate_told only (Some gate) =
    if is_shut gate then None
    else if is_wanted only gate.version then Some (told.Gate gate.version) else Some told.OldVersion

abbrev pub takes_gate : Option HartTold → Bool
takes_gate (Some (told.Gate version)) = true
takes_gate _ = false

-- the gates then
abbrev pub gates_told : List Gate → ℕ → Option HartTold → List Gate
gates_told gates frame (Some (told.Gate version)) = slice_set gates frame (record { version = version; taken = true })
gates_told gates frame _ = gates
