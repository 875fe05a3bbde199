-- A hart with its thread: where it stands within its instruction, what it holds, and what it
-- counted. It is this project's own.
use Rattle.std.specs.Prelude.{ℕ, ◌+◌, ◌-◌, ◌^◌, min, Option, Some, None, List, replicate}
use Rattle.osc_word.specs.declared.orders.Start.{Start}
use Rattle.osc_word.specs.declared.steps.Choice.{Choice}
use Rattle.osc_paging.specs.declared.CacheEntry.{CacheEntry}
use Rattle.osc_paging.specs.Boxes.{BoxState, new_box}
use Rattle.osc_guest.specs.declared.accesses.Reservation.{Reservation}
use Rattle.osc_guest.specs.declared.accesses.Touch.{Touch}
use Rattle.osc_guest.specs.declared.places.Place.{Place}
use Rattle.osc_guest.specs.declared.places.Place.TheVariants as at

pub record UserHart : Type 0 where
  -- the thread, with the levels of its page tables and the frames of the machine; of an idle hart they
  -- mean nothing
  pub pid : ℕ
  pub root : ℕ
  pub levels : ℕ
  pub frames : ℕ
  pub regs : List ℕ
  pub pc : ℕ
  pub reservation : Option Reservation
  pub place : Place
  -- its box, while it holds it
  pub held : Option BoxState
  -- instructions that committed, and looks into the cache that hit and missed
  pub retired : ℕ
  pub hits : ℕ
  pub walks : ℕ

-- what a hart makes of an answer: itself, the choice where an instruction commits, and the access
-- that was done or faulted
pub record Answered : Type 0 where
  pub hart : UserHart
  pub choice : Option Choice
  pub touch : Option Touch

-- a hart that never had a thread
abbrev pub user_idle : UserHart
user_idle = record {
  pid = 0;
  root = 0;
  levels = 0;
  frames = 0;
  regs = replicate 32 0;
  pc = 0;
  reservation = None;
  place = at.Idle;
  held = None;
  retired = 0;
  hits = 0;
  walks = 0;
}

-- the hart with another thread, without a reservation
abbrev pub starting : Start → UserHart → UserHart
starting start h = record h {
  pid = start.pid;
  root = start.root;
  levels = start.levels;
  frames = start.frames;
  regs = start.regs;
  pc = start.pc;
  reservation = None;
}

-- a hart that runs a thread from its beginning
abbrev pub user_begin : Start → UserHart
user_begin start = record (starting start user_idle) { place = at.Run }

-- the box as the hart leaves it
abbrev pub box_or_new : Option BoxState → BoxState
box_or_new None = new_box
box_or_new (Some box) = box

abbrev pub handed : UserHart → BoxState
handed h = box_or_new h.held

-- the hart once its box was taken out of its hand
abbrev pub without_box : UserHart → UserHart
without_box h = record h { held = None }

-- the cache of the box that it holds
abbrev pub cache_of : UserHart → List (Option CacheEntry)
cache_of h = (handed h).slots

-- a count that rises stands still at the greatest number of 64 bits
abbrev pub risen : ℕ → ℕ
risen count = min (count + 1) (2 ^ 64 - 1)

abbrev pub moved : Place → UserHart → UserHart
moved place h = record h { place = place }

-- nothing commits, and nothing is touched
abbrev pub goes : UserHart → Answered
goes h = record { hart = h; choice = None; touch = None }

-- an instruction commits with this choice
abbrev pub commits : Choice → UserHart → Answered
commits choice h = record { hart = record h { retired = risen h.retired }; choice = Some choice; touch = None }

-- with an access beside it
abbrev pub touching : Touch → Answered → Answered
touching touch a = record a { touch = Some touch }
