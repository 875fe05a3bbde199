-- Where the plain run is not stuck: exactly where each call that is given memory has a place for it, which is
-- a slot of the heap for a block, and addresses below the shadows for shared pages. This project's own.
use Rattle.std.specs.Prelude.{ℕ, ◌≡◌, ◌≤◌, ◌+◌, ◌==◌, ◌||◌, Bool, true, false, not, nat_le, List, ◌∷◌, ◌++◌, length, Option, Some, None, is_some}
use Rattle.osc_word.specs.AddressMap.{first_shared_page, first_shadow_page}
use Rattle.osc_word.specs.Environment.{call_of}
use Rattle.osc_word.specs.declared.calls.Call.{Call}
use Rattle.osc_word.specs.declared.calls.Call.TheVariants as calls
use Rattle.osc_word.specs.declared.steps.Choice.{Choice}
use Rattle.osc_word.specs.declared.steps.Choice.TheVariants as choice
use Rattle.osc_word.specs.declared.steps.Event.{Event}
use Rattle.osc_word.specs.declared.settings.Config.{Config}
use Rattle.osc_class.specs.Rooms.{room_of}
use Rattle.osc_class.specs.declared.Room.{Room}
use Rattle.osc_slot.specs.declared.Block.{Block}
use Rattle.osc_slot.specs.Slots.{is_room}
use Rattle.osc_slot.specs.Heap.{block_of_user}
use Rattle.osc_rv.specs.declared.instr.Instr.{Instr}
use Rattle.osc_rv.specs.declared.instr.Instr.TheVariants as instr
use Rattle.osc_image.specs.Image.{Image}
use Rattle.osc_world.specs.States.{Process, turn_of}
use Rattle.osc_world.specs.PlainWorld.{Flat, Plain, PlainTurn, next_start}
use Rattle.osc_world.specs.PlainRun.{plain_instr, plain_meaning, plain_run_of}
use Rattle.osc_world.specs.Run.{object_run_of}
use Rattle.osc_means.specs.PlainHeap.{Agrees}

-- ---- one call

-- the heap has a free slot for a block of this size
abbrev pub has_slot : Flat → ℕ → Bool
has_slot flat size = is_some (next_start flat size)

-- a held block whose room is not the one that is asked for has to move
abbrev pub has_to_move : Room → Option Block → Bool
has_to_move room None = false
has_to_move room (Some block) = not (is_room block.room room)

-- a realloc takes a slot where it is of 0, which is malloc, or has to move
abbrev pub takes_slot : Flat → ℕ → ℕ → Bool
takes_slot flat user size = (user == 0) || has_to_move (room_of size) (block_of_user flat.held user)

-- so many shared pages more of a process end below the shadows
abbrev pub has_addresses : Process Flat → ℕ → Bool
has_addresses process count = nat_le (first_shared_page + (length process.shared + count)) first_shadow_page

-- the place that a call takes when it is given; no other call is given memory
abbrev pub has_place : Process Flat → Call → Bool
has_place process (calls.Malloc size) = has_slot process.memory size
has_place process (calls.Realloc user size) = not (takes_slot process.memory user size) || has_slot process.memory size
has_place process (calls.Share count) = has_addresses process count
has_place process _ = true

-- ---- one event

-- only a call that is given takes a place
abbrev pub place_for : PlainTurn → Choice → Option Instr → Bool
place_for turn choice.Given (Some instr.Ecall) = has_place turn.process (call_of turn.hart.regs)
place_for turn _ _ = true

abbrev pub place_in : Choice → Option PlainTurn → Bool
place_in c None = true
place_in c (Some turn) = place_for turn c (plain_instr turn)

-- an event has the place that it takes
abbrev pub is_placed : Plain → Event → Bool
is_placed plain event = place_in event.choice (turn_of plain event.hart)

-- ---- runs

-- each event has the place that it takes in the state before it
abbrev pub AllPlaced : Image → Config → List Event → Type 0
AllPlaced image config events =
    (before : List Event) (event : Event) (after : List Event) (plain : Plain) → events ≡ before ++ event ∷ after
    → plain_run_of image config before ≡ Some plain → is_placed plain event ≡ true

-- an event is stuck exactly where it has no place
abbrev pub StuckForPlace : Type 0
StuckForPlace = (plain : Plain) (event : Event) → is_some (plain_meaning plain event) ≡ is_placed plain event

abbrev pub RunGoesOn : Type 0
RunGoesOn =
    (image : Image) (config : Config) (events : List Event) → AllPlaced image config events
    → (plain : Plain) × (plain_run_of image config events ≡ Some plain)

-- no run goes on past an event that has no place
abbrev pub RunIsPlaced : Type 0
RunIsPlaced =
    (image : Image) (config : Config) (events : List Event) (plain : Plain) → plain_run_of image config events ≡ Some plain
    → AllPlaced image config events

-- the plain heap law, where what is said of slots and addresses stands for "the plain run is not stuck"
abbrev pub PlacedHeapAgrees : Type 0
PlacedHeapAgrees =
    (image : Image) (config : Config) (events : List Event) → config.frames ≤ 4096
    → (object_run_of image config events).error ≡ None → AllPlaced image config events
    → (plain : Plain) × (plain_run_of image config events ≡ Some plain) × Agrees (object_run_of image config events).world plain
