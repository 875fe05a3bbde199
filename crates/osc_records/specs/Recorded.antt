-- What the kernel records of each hart is so: a hart that runs a thread is recorded with it, and its process,
-- its topmost table and the sizes are the kernel's own; a hart that is recorded and does not run yet has the
-- order to begin; a hart that is stopped has or will have the order to halt. This project's own.
use Rattle.std.specs.Prelude.{ℕ, ◌≡◌, ◌≤◌, Bool, true, false, Option, Some, None, Ok, List, length, slice_get}
use Rattle.osc_word.specs.declared.settings.Config.{Config}
use Rattle.osc_word.specs.declared.orders.Order.{Order}
use Rattle.osc_word.specs.declared.orders.Order.TheVariants.{Start}
use Rattle.osc_word.specs.declared.orders.Start as thread
use Rattle.osc_word.specs.Limits.{first_fault}
use Rattle.osc_image.specs.Image.{Image}
use Rattle.osc_image.specs.Frames.{needed_frames}
use Rattle.osc_image.specs.Form.{image_of}
use Rattle.osc_guest.specs.declared.places.Place.{Place}
use Rattle.osc_guest.specs.Told.{Resumed}
use Rattle.osc_guest.specs.Hands.{order_in, holds_box, runs_thread, runs_after}
use Rattle.osc_calls.specs.declared.BoxChange.TheVariants.{Put}
use Rattle.osc_calls.specs.declared.HartRecord.{HartRecord}
use Rattle.osc_calls.specs.declared.HartRecord.TheVariants.{Runs}
use Rattle.osc_calls.specs.Kernel.{KernelState}
use Rattle.osc_calls.specs.Boxes.{box_change}
use Rattle.osc_calls.specs.Finish.{finish}
use Rattle.osc_machine.specs.Parts.{CallPlace, TakingBoxes, FirstWord, SecondWord, HartState, State}
use Rattle.osc_machine.specs.Step.{box_at, step}
use Rattle.osc_machine.specs.Run.{run}
use Rattle.osc_machine.specs.Start.{start_of}
use Rattle.osc_machine.specs.Laws.{HasKernel}
use Rattle.osc_safe.specs.Holding.{call_box, Holds}
use Rattle.osc_safe.specs.Standing.{Stands}
use Rattle.osc_records.specs.Agreeing.{setting_of, setting_in, is_start, is_due, order_then, Agrees, IsObeyed, DueFits, TakesNone}

-- ---- the order in a hart's box
-- the order in a hart's box, which is at home, in its own hand, or in that of a hart in a call
pub data HasOrder (s : State) (n : ℕ) (order : Order) (called : Bool) : Type 0 where
  AtHome : called ≡ false → order_in (box_at s n) ≡ Some order → HasOrder s n order called
  InHand : (h : HartState) → called ≡ false → slice_get s.harts n ≡ Some h → order_in h.user.held ≡ Some order → HasOrder s n order called
  Called : (m : ℕ) (h : HartState) → called ≡ true → slice_get s.harts m ≡ Some h → order_in (call_box h n) ≡ Some order → HasOrder s n order called

-- ---- whether a hart runs a thread, in the end
-- once the call that it is in has returned
abbrev pub runs_then : Option KernelState → Place → Bool
runs_then None place = runs_thread place
runs_then (Some k) place = runs_after place (Resumed (finish k).resume)

-- ---- calls
-- a call that waits is that of a thread
abbrev pub CallFits : CallPlace → Place → KernelState → Type 0
CallFits (TakingBoxes box) place k = runs_thread place ≡ true
CallFits (FirstWord first second) place k = (runs_thread place ≡ true) × TakesNone k
CallFits (SecondWord found second) place k = (runs_thread place ≡ true) × TakesNone k
CallFits _ place k = Unit {0}

-- ---- the whole machine
pub record Recorded (s : State) (k : KernelState) : Type 0 where
  pub count : length s.harts ≡ k.config.harts
  pub agrees : (n : ℕ) (h : HartState) (r : HartRecord) (order : Order) (called : Bool)
      → slice_get s.harts n ≡ Some h → slice_get k.records n ≡ Some r → HasOrder s n order called
      → Agrees k r (runs_then h.kernel h.user.place) (setting_of h.user) (order_then called k n order)
  -- a hart that a job will tell to begin has no such order yet
  pub told : (n : ℕ) (order : Order) (start : thread.Start) → HasOrder s n order false → is_due n k.jobs ≡ true → box_change n k ≡ Put (Start start)
      → is_start order ≡ false
  pub obeyed : (n : ℕ) (h : HartState) (order : Order) → slice_get s.harts n ≡ Some h → order_in h.user.held ≡ Some order
      → IsObeyed (runs_thread h.user.place) order
  pub due : DueFits k.jobs k.under_way
  pub calls : (n : ℕ) (h : HartState) (own : KernelState) → slice_get s.harts n ≡ Some h → h.kernel ≡ Some own → CallFits h.place h.user.place own

abbrev pub AllRecorded : State → Type 0
AllRecorded s = (k : KernelState) → HasKernel s k → Recorded s k

-- ---- the laws
-- each step of each hart keeps it
abbrev pub StepsRecord : Type 0
StepsRecord = (s : State) (n : ℕ) → Holds s → Stands s → AllRecorded s → AllRecorded (step s n).state

-- and so it is after each run of a file's image that the frames hold, with a configuration in range
abbrev pub RunsRecord : Type 0
RunsRecord =
    (file : List ℕ) (image : Image) (config : Config) (picks : List ℕ)
    → first_fault config ≡ None → image_of file ≡ Ok image → needed_frames config.levels image ≤ config.frames
    → AllRecorded (run (start_of image config) picks).state

-- ---- what follows
-- a hart that holds its box for an instruction of a thread is recorded with it, in the kernel's own setting
pub record IsRecorded (k : KernelState) (n : ℕ) (h : HartState) : Type 0 where
  pub number : Option ℕ
  pub is : slice_get k.records n ≡ Some (Runs h.user.pid number)
  pub setting : setting_of h.user ≡ setting_in k h.user.pid

abbrev pub InstructionsRecorded : Type 0
InstructionsRecorded =
    (s : State) (k : KernelState) (n : ℕ) (h : HartState) → Holds s → Stands s → HasKernel s k → Recorded s k
    → slice_get s.harts n ≡ Some h → holds_box h.user.place ≡ true → runs_thread h.user.place ≡ true → IsRecorded k n h
