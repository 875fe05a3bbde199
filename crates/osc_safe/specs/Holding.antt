-- Who holds what: each box is at home or in one hand, a frame's gate is taken by one hart or by none, the
-- kernel is in one place, and a hart in a call holds the boxes that its place there says. This project's
-- own.
use Rattle.std.specs.Prelude.{ℕ, ◌+◌, ◌≡◌, ◌<◌, ◌==◌, Bool, true, false, nat_lt, nat_le, if◌then◌else◌, Option, Some, None, is_some, List, length, slice_get, slice_index_or, sum_by}
use Rattle.osc_word.specs.declared.settings.Config.{Config}
use Rattle.osc_image.specs.Image.{Image}
use Rattle.osc_paging.specs.Boxes.{BoxState}
use Rattle.osc_guest.specs.declared.places.Place.{Place}
use Rattle.osc_guest.specs.declared.places.Place.TheVariants as at
use Rattle.osc_guest.specs.Hands.{HandAgrees, gate_held}
use Rattle.osc_calls.specs.Kernel.{KernelState, next_job}
use Rattle.osc_machine.specs.Parts.{Gate, CallPlace, TakingBoxes, Working, GivingBoxes, HartState, State}
use Rattle.osc_machine.specs.Step.{box_at, step}
use Rattle.osc_machine.specs.Run.{run}
use Rattle.osc_machine.specs.Start.{started}
use Rattle.osc_machine.specs.Laws.{HasKernel, is_in_call}

abbrev pub one_if : Bool → ℕ
one_if true = 1
one_if false = 0

-- ---- boxes
-- a box that a hart holds for its call
abbrev pub call_box : HartState → ℕ → Option BoxState
call_box h box = slice_index_or h.boxes box None

abbrev pub holds_for_call : HartState → ℕ → Bool
holds_for_call h box = is_some (call_box h box)

-- in how many of its hands a hart has this box: as its own for an instruction, and for a call
abbrev pub own_hand : ℕ → HartState → ℕ
own_hand box h = if h.number == box then one_if (is_some h.user.held) else 0

abbrev pub hands : ℕ → HartState → ℕ
hands box h = own_hand box h + one_if (holds_for_call h box)

abbrev pub home : ℕ → State → ℕ
home box s = one_if (is_some (box_at s box))

-- ---- gates
abbrev pub has_gate : Option ℕ → ℕ → Bool
has_gate None frame = false
has_gate (Some held) frame = held == frame

abbrev pub gate_hand : ℕ → HartState → ℕ
gate_hand frame h = one_if (has_gate (gate_held h.user.place) frame)

-- ---- one hart
-- the guest part waits for what it asked of the kernel
abbrev pub is_asking : Place → Bool
is_asking (at.Call asked) = true
is_asking _ = false

-- which of so many boxes a hart holds for its call, by how far it is in it: those before the one that it
-- takes next; all or none while it works; those from the one that it gives next on; and else none
abbrev pub HoldsAt : CallPlace → ℕ → (ℕ → Bool) → Type 0
HoldsAt (TakingBoxes next) count holds = (next < count) × ((box : ℕ) → holds box ≡ nat_lt box next)
HoldsAt (Working moves read) count holds = (box : ℕ) → box < count → holds box ≡ holds 0
HoldsAt (GivingBoxes next) count holds = (next < count) × ((box : ℕ) → box < count → holds box ≡ nat_le next box)
HoldsAt _ count holds = (box : ℕ) → holds box ≡ false

-- hart n of so many
pub record HartHolds (harts n : ℕ) (h : HartState) : Type 0 where
  pub number : h.number ≡ n
  pub count : h.count ≡ harts
  pub room : length h.boxes ≡ harts
  -- it holds its own box exactly from the taking to the giving
  pub own : HandAgrees h.user
  pub asking : is_in_call h.place ≡ true → is_asking h.user.place ≡ true
  pub boxes : HoldsAt h.place harts (holds_for_call h)
  -- it gives boxes once its call's jobs are done
  pub done : (box : ℕ) (k : KernelState) → h.place ≡ GivingBoxes box → h.kernel ≡ Some k → next_job k ≡ None

-- ---- the whole machine
pub record Holds (s : State) : Type 0 where
  pub kernel : KernelState
  pub has : HasKernel s kernel
  pub room : length s.boxes ≡ length s.harts
  pub hart : (n : ℕ) (h : HartState) → slice_get s.harts n ≡ Some h → HartHolds (length s.harts) n h
  pub box : (box : ℕ) → box < length s.boxes → home box s + sum_by (hands box) s.harts ≡ 1
  pub gate : (frame : ℕ) (gate : Gate) → slice_get s.gates frame ≡ Some gate → sum_by (gate_hand frame) s.harts ≡ one_if gate.taken

-- ---- the laws
-- each step of each hart keeps who holds what
abbrev pub StepsHold : Type 0
StepsHold = (s : State) (n : ℕ) → Holds s → Holds (step s n).state

-- and so it is after each run from the start
abbrev pub RunsHold : Type 0
RunsHold = (image : Image) (config : Config) (k : KernelState) (picks : List ℕ) → Holds (run (started image config k) picks).state
