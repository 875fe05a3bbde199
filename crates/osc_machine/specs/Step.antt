-- One step of the machine: a hart asks for its next action, the action is done on the one thing that it
-- names, and the hart is told. A step changes that thing and that hart, and nothing else. Where the thing
-- is taken nothing changes. This project's own.
use Rattle.std.specs.Prelude.{ℕ, ◌==◌, Bool, true, false, ◌||◌, if◌then◌else◌, Option, Some, None, List, [], slice_get, slice_set, slice_index_or}
use Rattle.osc_word.specs.declared.steps.Event.{Event}
use Rattle.osc_word.specs.declared.steps.Label.{Label}
use Rattle.osc_sv39.specs.Walk.{word_at, put_word}
use Rattle.osc_paging.specs.Boxes.{BoxState}
use Rattle.osc_guest.specs.Fits.{last_version}
use Rattle.osc_calls.specs.Kernel.{KernelState}
use Rattle.osc_machine.specs.declared.HartAsk.{HartAsk}
use Rattle.osc_machine.specs.declared.HartAsk.TheVariants.{TakeBox, GiveBox, ChangeBox, Load, Store, TakeGate, OpenGate, TakeKernel, GiveKernel, Rest}
use Rattle.osc_machine.specs.Parts.{Gate, HartState, State}
use Rattle.osc_machine.specs.Turns.{HartTold, Turn, hart_ask, hart_told, handed_box, handed_kernel, box_given}
use Rattle.osc_machine.specs.Turns as told

-- the state after a step, the event that committed with it, and what it showed
pub record Stepped : Type 0 where
  pub state : State
  pub event : Option Event
  pub shows : List Label

-- nothing changes
abbrev pub stays : State → Stepped
stays s = record { state = s; event = None; shows = [] }

-- the hart with number n, which is h, goes on as it is told
abbrev pub tells : State → ℕ → HartState → HartTold → Stepped
tells s n h t = let turn = hart_told h t in record {
  state = record s { harts = slice_set s.harts n turn.hart };
  event = turn.event;
  shows = turn.shows;
}

-- ---- boxes
abbrev pub box_at : State → ℕ → Option BoxState
box_at s box = slice_index_or s.boxes box None

abbrev pub with_box : State → ℕ → Option BoxState → State
with_box s box state = record s { boxes = slice_set s.boxes box state }

abbrev pub takes_box : State → ℕ → HartState → ℕ → Option BoxState → Stepped
takes_box s n h box None = stays s
takes_box s n h box (Some state) = tells (with_box s box None) n h (told.Box state)

-- a box that is at home is changed as the call says
abbrev pub changes_box : State → ℕ → HartState → ℕ → Option BoxState → Stepped
changes_box s n h box None = stays s
changes_box s n h box (Some state) = tells (with_box s box (Some (box_given box h.kernel (Some state)))) n h told.Done

-- ---- gates
-- a gate that is taken, or whose version is the last, is not to be had
abbrev pub is_shut : Gate → Bool
is_shut gate = gate.taken || (gate.version == last_version)

abbrev pub is_wanted : Option ℕ → ℕ → Bool
is_wanted None version = true
is_wanted (Some only) version = only == version

abbrev pub with_gate : State → ℕ → ℕ → Bool → State
with_gate s frame version taken = record s { gates = slice_set s.gates frame (record { version = version; taken = taken }) }

abbrev pub takes_gate : State → ℕ → HartState → ℕ → Option ℕ → Option Gate → Stepped
takes_gate s n h frame only None = stays s
takes_gate s n h frame only (Some gate) =
    if is_shut gate then stays s
    else if is_wanted only gate.version then tells (with_gate s frame gate.version true) n h (told.Gate gate.version)
    else tells s n h told.OldVersion

-- ---- the kernel
abbrev pub takes_kernel : State → ℕ → HartState → Option KernelState → Stepped
takes_kernel s n h None = stays s
takes_kernel s n h (Some k) = tells (record s { kernel = None }) n h (told.Kernel k)

-- ---- all actions
-- the action of hart n, which is h
abbrev pub acted : State → ℕ → HartState → HartAsk → Stepped
acted s n h (TakeBox box) = takes_box s n h box (box_at s box)
acted s n h (GiveBox box) = tells (with_box s box (Some (handed_box h))) n h told.Done
acted s n h (ChangeBox box) = changes_box s n h box (box_at s box)
acted s n h (Load at) = tells s n h (told.Word (word_at s.words at.frame at.index))
acted s n h (Store at value) = tells (record s { words = put_word s.words at.frame at.index value }) n h told.Done
acted s n h (TakeGate frame only) = takes_gate s n h frame only (slice_get s.gates frame)
acted s n h (OpenGate frame version) = tells (with_gate s frame version false) n h told.Done
acted s n h TakeKernel = takes_kernel s n h s.kernel
acted s n h GiveKernel = tells (record s { kernel = handed_kernel h }) n h told.Done
acted s n h Rest = stays s

abbrev pub step_of : State → ℕ → Option HartState → Stepped
step_of s n None = stays s
step_of s n (Some h) = acted s n h (hart_ask h)

-- a step of hart n
unfoldable pub step : State → ℕ → Stepped
step s n = step_of s n (slice_get s.harts n)
