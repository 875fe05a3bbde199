-- The laws of a hart: what an answer changes and what it keeps, and where a hart asks for what.
use Rattle.std.specs.Prelude.{ℕ, suc, ◌+◌, ◌-◌, ◌≡◌, ◌≢◌, ◌<◌, ◌⊎◌, Bool, true, false, Option, Some, None}
use Rattle.osc_word.specs.declared.calls.Request.{Request}
use Rattle.osc_word.specs.declared.job_list.WordAt.{WordAt}
use Rattle.osc_word.specs.declared.steps.Choice.{Choice}
use Rattle.osc_guest.specs.declared.accesses.MemoryAccess.{MemoryAccess}
use Rattle.osc_guest.specs.declared.accesses.What.{What}
use Rattle.osc_guest.specs.declared.accesses.What.TheVariants as does
use Rattle.osc_guest.specs.declared.accesses.Touch.{Touch}
use Rattle.osc_guest.specs.declared.places.After.{After}
use Rattle.osc_guest.specs.declared.places.Place.{Place}
use Rattle.osc_guest.specs.declared.places.Place.TheVariants as at
use Rattle.osc_guest.specs.declared.places.Stage.{Stage}
use Rattle.osc_guest.specs.declared.places.Stage.TheVariants as stage
use Rattle.osc_guest.specs.declared.places.Ask.TheVariants as asks
use Rattle.osc_guest.specs.User.{UserHart, goes, without_box, risen}
use Rattle.osc_guest.specs.Accesses.{word_stored}
use Rattle.osc_guest.specs.Asks.{ask, word_place}
use Rattle.osc_guest.specs.Told.{Told, Busy, Done, told}
use Rattle.osc_guest.specs.Fits.{Fits}

-- ---- staying, resting and giving
abbrev pub BusyKeeps : Type 0
BusyKeeps = (h : UserHart) → told h Busy ≡ goes h

-- a hart at rest asks for nothing, and no answer changes it
abbrev pub RestStays : Type 0
RestStays = (h : UserHart) (t : Told) → h.place ≡ at.Rest → (ask h ≡ asks.Rest) × (told h t ≡ goes h)

-- what is made of a giving doesn't look at the box, which may be out of the hand by then
abbrev pub GivingLooksAway : Type 0
GivingLooksAway = (h : UserHart) → ask h ≡ asks.GiveBox → told (without_box h) Done ≡ told h Done

-- ---- counts and registers
-- the count of instructions rises with each choice, and else stands still
abbrev pub count_after : Option Choice → ℕ → ℕ
count_after None count = count
count_after (Some choice) count = risen count

abbrev pub ChoicesCounted : Type 0
ChoicesCounted = (h : UserHart) (t : Told) → (told h t).hart.retired ≡ count_after (told h t).choice h.retired

-- an access that faults changes no register and not the pc, and the hart gives its box next. An idle
-- hart is left out, since it may get a thread in the step that shows the fault of its first fetch
abbrev pub FaultsKeep : Type 0
FaultsKeep =
    (h : UserHart) (t : Told) (touch : Touch)
    → (told h t).touch ≡ Some touch → touch.done ≡ false → h.place ≢ at.Idle
    → ((told h t).hart.regs ≡ h.regs) × ((told h t).hart.pc ≡ h.pc) × (ask (told h t).hart ≡ asks.GiveBox)

-- where nothing commits, registers and pc stay; but an idle hart may get a thread, and a call returns
abbrev pub SilenceKeeps : Type 0
SilenceKeeps =
    (h : UserHart) (t : Told)
    → (told h t).choice ≡ None → h.place ≢ at.Idle → ((asked : Request) → h.place ≢ at.Call asked)
    → ((told h t).hart.regs ≡ h.regs) × ((told h t).hart.pc ≡ h.pc)

-- ---- a fitting answer
-- at most so many actions are left of an instruction, with that at this place; `top` is the level of the
-- topmost table
abbrev pub left_of : What → ℕ → ℕ
left_of does.Fetch top = 7 + top
left_of _ top = 5

abbrev pub left_at : Stage → ℕ → ℕ
left_at stage.Fetch top = 7 + top
left_at stage.Load top = 2
left_at (stage.TakeGate only) top = 5
left_at (stage.GatedLoad version) top = 4
left_at (stage.GatedStore version found) top = 3

abbrev pub left : ℕ → Place → ℕ
left top at.Run = 9 + top + top
left top at.Idle = 9 + top + top
left top (at.Walk access level table) = left_of access.what top + suc level
left top (at.Access access frame stage) = left_at stage top
left top (at.OpenGate frame version) = 2
left top (at.GiveBox after) = 1
left top (at.Call asked) = 0
left top at.Rest = 0

-- within an instruction each answer but Busy leads nearer to its end: it takes at most 13 actions with
-- three levels of tables, and 15 with four. An idle hart gets its levels with its thread
abbrev pub AnswersMove : Type 0
AnswersMove =
    (h : UserHart) (t : Told)
    → Fits (ask h) t → t ≢ Busy → ask h ≢ asks.GiveBox → ((asked : Request) → ask h ≢ asks.Kernel asked)
    → left ((told h t).hart.levels - 1) (told h t).hart.place < left ((told h t).hart.levels - 1) h.place

-- and the giving of the box ends it
abbrev pub GivingMoves : Type 0
GivingMoves =
    (h : UserHart) → ask h ≡ asks.GiveBox → (ask (told h Done).hart ≢ asks.GiveBox) × ((told h Done).hart.held ≡ None)

-- so each fitting answer but Busy changes the hart, outside a call
abbrev pub FittingChanges : Type 0
FittingChanges =
    (h : UserHart) (t : Told)
    → Fits (ask h) t → t ≢ Busy → ((asked : Request) → ask h ≢ asks.Kernel asked) → (told h t).hart ≢ h

-- ---- which places ask for what
abbrev pub TakersOfBox : Type 0
TakersOfBox = (h : UserHart) → ask h ≡ asks.TakeBox → (h.place ≡ at.Run) ⊎ (h.place ≡ at.Idle)

-- the entry of a walk, the word of the instruction, and the data word
abbrev pub loads_at : Stage → Bool
loads_at stage.Fetch = true
loads_at stage.Load = true
loads_at (stage.TakeGate only) = false
loads_at (stage.GatedLoad version) = true
loads_at (stage.GatedStore version found) = false

abbrev pub loads_word : Place → Bool
loads_word (at.Walk access level table) = true
loads_word (at.Access access frame stage) = loads_at stage
loads_word _ = false

abbrev pub Loaders : Type 0
Loaders = (h : UserHart) (place : WordAt) → ask h ≡ asks.Load place → loads_word h.place ≡ true

abbrev pub TakersOfGate : Type 0
TakersOfGate =
    (h : UserHart) (frame : ℕ) (only : Option ℕ) → ask h ≡ asks.TakeGate frame only
    → (access : MemoryAccess) × (h.place ≡ at.Access access frame (stage.TakeGate only))

-- the store of an access, in a frame whose gate has this version
pub record Storing (h : UserHart) (place : WordAt) (value : ℕ) : Type 0 where
  pub access : MemoryAccess
  pub version : ℕ
  pub found : ℕ
  pub at_place : h.place ≡ at.Access access place.frame (stage.GatedStore version found)
  pub word : place ≡ word_place access place.frame
  pub stored : value ≡ word_stored access found

abbrev pub Storers : Type 0
Storers = (h : UserHart) (place : WordAt) (value : ℕ) → ask h ≡ asks.Store place value → Storing h place value

abbrev pub Openers : Type 0
Openers =
    (h : UserHart) (frame version : ℕ) → ask h ≡ asks.OpenGate frame version → h.place ≡ at.OpenGate frame version

abbrev pub Givers : Type 0
Givers = (h : UserHart) → ask h ≡ asks.GiveBox → (after : After) × (h.place ≡ at.GiveBox after)

abbrev pub Callers : Type 0
Callers = (h : UserHart) (asked : Request) → ask h ≡ asks.Kernel asked → h.place ≡ at.Call asked

abbrev pub Resters : Type 0
Resters = (h : UserHart) → ask h ≡ asks.Rest → h.place ≡ at.Rest
