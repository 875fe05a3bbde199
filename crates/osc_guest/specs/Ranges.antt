-- A hart asks only for what the machine has: it tests the number of each frame that it reads from memory
-- against the machine's count, which comes with its thread.
use Rattle.std.specs.Prelude.{ℕ, ◌≡◌, ◌<◌, true, Some}
use Rattle.osc_word.specs.declared.orders.Start as thread
use Rattle.osc_word.specs.declared.orders.Order.{Order}
use Rattle.osc_word.specs.declared.orders.Order.TheVariants.{Empty, Start, Stop, Over}
use Rattle.osc_paging.specs.Boxes.{BoxState}
use Rattle.osc_guest.specs.declared.places.Ask.{Ask}
use Rattle.osc_guest.specs.declared.places.Ask.TheVariants as asks
use Rattle.osc_guest.specs.User.{UserHart, user_idle, user_begin, handed}
use Rattle.osc_guest.specs.Asks.{ask}
use Rattle.osc_guest.specs.Told.{Told, Box, told}
use Rattle.osc_guest.specs.Hands.{gate_held, runs_thread}
use Rattle.osc_guest.specs.Carry.{Pages, Tabs, CacheOk, PlaceOk}

-- a page, or a table, in one of so many frames
abbrev pub PageIn : ℕ → Pages
PageIn frames pid page frame = frame < frames

abbrev pub TableIn : ℕ → Tabs
TableIn frames pid level page table = table < frames

abbrev pub StartIn : ℕ → thread.Start → Type 0
StartIn frames start = (start.frames ≡ frames) × (start.root < frames)

abbrev pub OrderIn : ℕ → Order → Type 0
OrderIn frames Empty = Unit {0}
OrderIn frames (Start start) = StartIn frames start
OrderIn frames Stop = Unit {0}
OrderIn frames Over = Unit {0}

abbrev pub BoxIn : ℕ → BoxState → Type 0
BoxIn frames box = CacheOk (PageIn frames) 0 box.slots × OrderIn frames box.order

-- a box that is told has only frames of the machine
abbrev pub ToldIn : ℕ → Told → Type 0
ToldIn frames (Box box) = BoxIn frames box
ToldIn frames t = Unit {0}

-- a hart within a machine of so many frames. One without a thread has no frames of its own
pub record HartIn (frames : ℕ) (h : UserHart) : Type 0 where
  pub count : runs_thread h.place ≡ true → h.frames ≡ frames
  pub root : runs_thread h.place ≡ true → h.root < frames
  pub place : PlaceOk (PageIn frames) (TableIn frames) 0 h.place
  pub gate : (frame : ℕ) → gate_held h.place ≡ Some frame → frame < frames
  pub box : BoxIn frames (handed h)

abbrev pub AskIn : ℕ → Ask → Type 0
AskIn frames asks.TakeBox = Unit {0}
AskIn frames (asks.Load place) = (place.frame < frames) × (place.index < 512)
AskIn frames (asks.TakeGate frame only) = frame < frames
AskIn frames (asks.Store place value) = (place.frame < frames) × (place.index < 512)
AskIn frames (asks.OpenGate frame version) = frame < frames
AskIn frames asks.GiveBox = Unit {0}
AskIn frames (asks.Kernel asked) = Unit {0}
AskIn frames asks.Rest = Unit {0}

abbrev pub AsksIn : Type 0
AsksIn = (frames : ℕ) (h : UserHart) → HartIn frames h → AskIn frames (ask h)

abbrev pub RangeKept : Type 0
RangeKept = (frames : ℕ) (h : UserHart) (t : Told) → HartIn frames h → ToldIn frames t → HartIn frames (told h t).hart

abbrev pub BeginsIn : Type 0
BeginsIn =
    (frames : ℕ) (start : thread.Start) → StartIn frames start
    → HartIn frames user_idle × HartIn frames (user_begin start)
