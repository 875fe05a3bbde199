-- What a hart asks for next. It is this project's own.
use Rattle.std.specs.Prelude.{ℕ, ◌/◌, ◌%◌}
use Rattle.osc_word.specs.declared.job_list.WordAt.{WordAt}
use Rattle.osc_sv39.specs.Walk.{piece, number_of}
use Rattle.osc_guest.specs.declared.accesses.MemoryAccess.{MemoryAccess}
use Rattle.osc_guest.specs.declared.places.Place.{Place}
use Rattle.osc_guest.specs.declared.places.Place.TheVariants as at
use Rattle.osc_guest.specs.declared.places.Stage.{Stage}
use Rattle.osc_guest.specs.declared.places.Stage.TheVariants as stage
use Rattle.osc_guest.specs.declared.places.Ask.{Ask}
use Rattle.osc_guest.specs.declared.places.Ask.TheVariants as asks
use Rattle.osc_guest.specs.User.{UserHart}
use Rattle.osc_guest.specs.Accesses.{access_page, word_stored}

-- the entry for the address in a table of this level
abbrev pub entry_place : MemoryAccess → ℕ → ℕ → ℕ → WordAt
entry_place access level table levels =
    record { frame = table; index = piece level (number_of levels (access_page access)) % 512 }

-- the word of a frame that holds the bytes of an access
abbrev pub word_place : MemoryAccess → ℕ → WordAt
word_place access frame = record { frame = frame; index = access.address % 4096 / 8 }

abbrev pub access_ask : MemoryAccess → ℕ → Stage → Ask
access_ask access frame stage.Fetch = asks.Load (word_place access frame)
access_ask access frame stage.Load = asks.Load (word_place access frame)
access_ask access frame (stage.TakeGate only) = asks.TakeGate frame only
access_ask access frame (stage.GatedLoad version) = asks.Load (word_place access frame)
access_ask access frame (stage.GatedStore version found) =
    asks.Store (word_place access frame) (word_stored access found)

abbrev pub ask_at : Place → UserHart → Ask
ask_at at.Run h = asks.TakeBox
ask_at at.Idle h = asks.TakeBox
ask_at (at.Walk access level table) h = asks.Load (entry_place access level table h.levels)
ask_at (at.Access access frame stage) h = access_ask access frame stage
ask_at (at.OpenGate frame version) h = asks.OpenGate frame version
ask_at (at.GiveBox after) h = asks.GiveBox
ask_at (at.Call request) h = asks.Kernel request
ask_at at.Rest h = asks.Rest

-- the hart's next action
unfoldable pub ask : UserHart → Ask
ask h = ask_at h.place h
