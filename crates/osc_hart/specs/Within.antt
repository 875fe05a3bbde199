-- A hart and its answers within a machine of so many frames. The count comes with the hart's thread; a hart
-- without a thread knows none, and asks for no frame.
use Rattle.std.specs.Prelude.{ℕ, ◌≡◌, Bool, true, false, Option, Some, None, IfSome}
use Rattle.osc_word.specs.declared.steps.Choice.{Choice}
use Rattle.osc_word.specs.declared.orders.Start as thread
use Rattle.osc_word.specs.declared.orders.Order.{Order}
use Rattle.osc_word.specs.declared.orders.Order.TheVariants.{Empty, Start, Stop, Over}
use Rattle.osc_paging.specs.Boxes.{BoxState, new_box}
use Rattle.osc_guest.specs.User.{UserHart, user_idle, user_begin, handed, without_box}
use Rattle.osc_guest.specs.declared.places.Ask.TheVariants as asks
use Rattle.osc_guest.specs.Asks.{ask}
use Rattle.osc_guest.specs.Told.{Told, Box, Busy, Word, Gate, OldVersion, Resumed, Done, told}
use Rattle.osc_guest.specs.Hands.{HandAgrees, runs_thread}
use Rattle.osc_guest.specs.Ranges.{StartIn, BoxIn, ToldIn, HartIn}
use Rattle.osc_hart.specs.Seen.{SeenHart}
use Rattle.osc_hart.specs.Answers.{made}

-- the table from which the hart walks, the one that it reads, the frame of its access, that whose gate it
-- holds, and those of its box are below the count
abbrev pub InRange : UserHart → Type 0
InRange h = runs_thread h.place ≡ true → HartIn h.frames h

-- the box of an idle hart, by the count that comes with the thread that it is given
abbrev pub GivenIn : Order → BoxState → Type 0
GivenIn Empty box = Unit {0}
GivenIn (Start start) box = BoxIn start.frames box
GivenIn Stop box = Unit {0}
GivenIn Over box = Unit {0}

abbrev pub TakenIn : Bool → ℕ → BoxState → Type 0
TakenIn true frames box = BoxIn frames box
TakenIn false frames box = GivenIn box.order box

-- a box that a hart is told has only frames of its machine
abbrev pub ToldWithin : Told → UserHart → Type 0
ToldWithin (Box box) h = TakenIn (runs_thread h.place) h.frames box
ToldWithin Busy h = Unit {0}
ToldWithin (Word word) h = Unit {0}
ToldWithin (Gate version) h = Unit {0}
ToldWithin OldVersion h = Unit {0}
ToldWithin (Resumed resume) h = Unit {0}
ToldWithin Done h = Unit {0}

-- in a machine of so many frames that law holds whose hart and whose boxes name only these
abbrev pub BoxesFit : Type 0
BoxesFit = (frames : ℕ) (h : UserHart) (t : Told) → HartIn frames h → ToldIn frames t → ToldWithin t h

-- and so does a box that is new
abbrev pub NewFits : Type 0
NewFits = (frames : ℕ) → BoxIn frames new_box

-- a hart that is driven in a machine of so many frames, and its box while that is at home
pub record Driven (frames : ℕ) (h : UserHart) (home : Option BoxState) : Type 0 where
  pub hand : HandAgrees h
  pub range : HartIn frames h
  pub box : IfSome home (BoxIn frames)

-- it goes on as it was: when it is told anything but a box, when it takes its box, and when it gives it
abbrev pub TellsOn : Type 0
TellsOn =
    (frames : ℕ) (h : UserHart) (t : Told) (home : Option BoxState) (next : SeenHart) (choice : Option Choice)
    → Driven frames h home → ToldIn frames t → made next choice ≡ told h t → Driven frames next.hart home

abbrev pub TakesOn : Type 0
TakesOn =
    (frames : ℕ) (h : UserHart) (home : Option BoxState) (box : BoxState) (next : SeenHart) (choice : Option Choice)
    → Driven frames h home → home ≡ Some box → made next choice ≡ told h (Box box) → Driven frames next.hart None

abbrev pub GivesOn : Type 0
GivesOn =
    (frames : ℕ) (h empty : UserHart) (home : Option BoxState) (box : BoxState) (next : SeenHart) (choice : Option Choice)
    → Driven frames h home → ask h ≡ asks.GiveBox → box ≡ handed h → empty ≡ without_box h
    → made next choice ≡ told empty Done → Driven frames next.hart (Some box)

-- so it begins
abbrev pub BeginsSo : Type 0
BeginsSo =
    (frames : ℕ) (start : thread.Start) (home : Option BoxState)
    → StartIn frames start → IfSome home (BoxIn frames) → Driven frames (user_begin start) home

abbrev pub IdlesSo : Type 0
IdlesSo = (frames : ℕ) (home : Option BoxState) → IfSome home (BoxIn frames) → Driven frames user_idle home
