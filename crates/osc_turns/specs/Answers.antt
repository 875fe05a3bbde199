-- Answers, as the definitions of a hart know them, and which an action can have.
use Rattle.std.specs.Prelude.{ℕ, ◌≡◌, ◌<◌, ◌^◌, Option, Some, None, List, [], length, slice_index_or}
use Rattle.osc_guest.specs.Fits.{last_version}
use Rattle.osc_guest.specs.Told as heard
use Rattle.osc_guest.specs.User.{UserHart}
use Rattle.osc_hart.specs.Within.{ToldWithin}
use Rattle.osc_paging.specs.Boxes.{BoxState}
use Rattle.osc_machine.specs.Parts.{CallPlace, Outside, GivingBoxes, HartState}
use Rattle.osc_calls.specs.Kernel.{KernelState}
use Rattle.osc_calls.specs.Finish.{finish}
use Rattle.osc_machine.specs.declared.HartAsk.{HartAsk}
use Rattle.osc_machine.specs.declared.HartAsk.TheVariants as does
use Rattle.osc_machine.specs.Turns as turn
use Rattle.osc_turns.specs.declared.place.HartTold.{HartTold}
use Rattle.osc_turns.specs.declared.place.HartTold.TheVariants as told
use Rattle.osc_turns.specs.Places.{IsFree}

abbrev pub said : HartTold → turn.HartTold
said (told.Box hart_box) = turn.Box hart_box
said (told.Kernel kernel) = turn.Kernel kernel.kernel
said (told.Word word) = turn.Word word
said (told.Gate version) = turn.Gate version
said told.Busy = turn.Busy
said told.OldVersion = turn.OldVersion
said told.Done = turn.Done

-- of a machine with so many harts. The kernel is given where nobody has it and no job is left
abbrev pub AnswerFits : ℕ → HartAsk → turn.HartTold → Type 0
AnswerFits harts (does.TakeBox box) (turn.Box state) = length state.slots ≡ 32
AnswerFits harts (does.TakeBox box) turn.Busy = Unit {0}
AnswerFits harts (does.GiveBox box) turn.Done = Unit {0}
AnswerFits harts (does.ChangeBox box) turn.Done = Unit {0}
AnswerFits harts (does.ChangeBox box) turn.Busy = Unit {0}
AnswerFits harts (does.Load at) (turn.Word word) = word < 2 ^ 64
AnswerFits harts (does.Store at value) turn.Done = Unit {0}
AnswerFits harts (does.TakeGate frame None) (turn.Gate version) = version < last_version
AnswerFits harts (does.TakeGate frame None) turn.Busy = Unit {0}
AnswerFits harts (does.TakeGate frame (Some only)) (turn.Gate version) = (version ≡ only) × (version < last_version)
AnswerFits harts (does.TakeGate frame (Some only)) turn.OldVersion = Unit {0}
AnswerFits harts (does.TakeGate frame (Some only)) turn.Busy = Unit {0}
AnswerFits harts (does.OpenGate frame version) turn.Done = Unit {0}
AnswerFits harts does.TakeKernel (turn.Kernel kernel) = IsFree harts kernel
AnswerFits harts does.TakeKernel turn.Busy = Unit {0}
AnswerFits harts does.GiveKernel turn.Done = Unit {0}
AnswerFits harts asked t = ⊥

-- a box that the guest part takes names only frames of its machine; a call doesn't look into the boxes that
-- it takes
abbrev pub BoxWithin : CallPlace → UserHart → BoxState → Type 0
BoxWithin Outside user box = ToldWithin (heard.Box box) user
BoxWithin _ user box = Unit {0}

abbrev pub AnswerWithin : HartState → turn.HartTold → Type 0
AnswerWithin h (turn.Box box) = BoxWithin h.place h.user box
AnswerWithin h _ = Unit {0}

-- ---- giving
abbrev pub freed_of : Option KernelState → List ℕ
freed_of None = []
freed_of (Some k) = (finish k).freed

abbrev pub IsGiving : HartAsk → Type 0
IsGiving (does.GiveBox box) = Unit {0}
IsGiving _ = ⊥

-- the box that the hart has to give
abbrev pub box_at_place : CallPlace → HartState → Option BoxState
box_at_place (GivingBoxes box) h = slice_index_or h.boxes box None
box_at_place _ h = h.user.held

abbrev pub box_in_hand : HartState → Option BoxState
box_in_hand h = box_at_place h.place h

abbrev pub IsChanging : HartAsk → Type 0
IsChanging (does.ChangeBox box) = Unit {0}
IsChanging _ = ⊥
