-- Which answers an action can have. It is this project's own.
use Rattle.std.specs.Prelude.{ℕ, ◌-◌, ◌^◌, ◌<◌, ◌≡◌, length, Some, None}
use Rattle.osc_guest.specs.declared.places.Ask.{Ask}
use Rattle.osc_guest.specs.declared.places.Ask.TheVariants as asks
use Rattle.osc_guest.specs.Told.{Told, Box, Busy, Word, Gate, OldVersion, Resumed, Done}

-- a gate whose version is the last one is never taken again
abbrev pub last_version : ℕ
last_version = 2 ^ 63 - 1

abbrev pub Fits : Ask → Told → Type 0
Fits asks.TakeBox (Box box) = length box.slots ≡ 32
Fits asks.TakeBox Busy = Unit {0}
Fits (asks.Load place) (Word word) = word < 2 ^ 64
Fits (asks.TakeGate frame None) (Gate version) = version < last_version
Fits (asks.TakeGate frame None) Busy = Unit {0}
Fits (asks.TakeGate frame (Some only)) (Gate version) = (version ≡ only) × (version < last_version)
Fits (asks.TakeGate frame (Some only)) OldVersion = Unit {0}
Fits (asks.TakeGate frame (Some only)) Busy = Unit {0}
Fits (asks.Store place value) Done = Unit {0}
Fits (asks.OpenGate frame version) Done = Unit {0}
Fits asks.GiveBox Done = Unit {0}
Fits (asks.Kernel request) (Resumed resume) = Unit {0}
Fits (asks.Kernel request) Busy = Unit {0}
Fits asked said = ⊥
