-- The bytes of a stored value, one by one.
use Rattle.std.specs.Prelude.{ℕ, ◌<◌, ◌^◌}
use Rattle.std.specs.Int.{byte_at}
use Rattle.osc_world.specs.declared.Value.{Value}
use Rattle.osc_world.specs.declared.Value.TheVariants.{Num, Ptr}
use Rattle.osc_world.specs.declared.Byte.{Byte}
use Rattle.osc_world.specs.declared.Byte.TheVariants.{Number, Part}

-- the byte of an index
abbrev pub byte_in : Value → ℕ → Byte
byte_in (Num number) index = Number (byte_at index number)
byte_in (Ptr object offset) index = Part object offset index

-- how many bytes there are
abbrev pub byte_count : ℕ → Value → ℕ
byte_count width (Num number) = width
byte_count width (Ptr object offset) = 8

-- a number has no more than so many bytes
abbrev pub FitsIn : ℕ → Value → Type 0
FitsIn width (Num number) = number < 256 ^ width
FitsIn width (Ptr object offset) = Unit {0}
