-- Values, and how they stand in bytes. This project's own; numbers stand with their lowest byte first, as
-- in the RISC-V Unprivileged manual, "Base Instruction-Length Encoding" and "Load and Store Instructions".
-- A pointer is stored in eight parts, and only a load of all eight, in order, gives it back.
use Rattle.std.specs.Prelude.{ℕ, ◌+◌, Bool, true, false, ◌&&◌, ◌==◌, if◌then◌else◌, List, [], ◌∷◌, length, map, Option, Some, None}
use Rattle.std.specs.Option.{option_map}
use Rattle.byteorder.specs.Endian.{little_number, little_bytes}
use Rattle.osc_isa.specs.Numbers.{wrapped}
use Rattle.osc_world.specs.declared.Value.{Value}
use Rattle.osc_world.specs.declared.Value.TheVariants.{Num, Ptr}
use Rattle.osc_world.specs.declared.Byte.{Byte}
use Rattle.osc_world.specs.declared.Byte.TheVariants.{Number, Part}

-- the value so many further on
abbrev pub advanced : Value → ℕ → Value
advanced (Num number) by = Num (wrapped (number + by))
advanced (Ptr object offset) by = Ptr object (wrapped (offset + by))

abbrev pub is_pointer_value : Value → Bool
is_pointer_value (Num number) = false
is_pointer_value (Ptr object offset) = true

-- the eight parts of a pointer
abbrev pub parts : ℕ → ℕ → List Byte
parts object offset =
    Part object offset 0 ∷ Part object offset 1 ∷ Part object offset 2 ∷ Part object offset 3
    ∷ Part object offset 4 ∷ Part object offset 5 ∷ Part object offset 6 ∷ Part object offset 7 ∷ []

-- the bytes of a value that is stored with a width; a pointer is stored with all its parts
abbrev pub spread : ℕ → Value → List Byte
spread width (Num number) = map Number (little_bytes width number)
spread width (Ptr object offset) = parts object offset

-- the numbers that bytes hold; None where one is a part of a pointer
unfoldable pub numbers_in : List Byte → Option (List ℕ)
numbers_in [] = Some []
numbers_in (Number number ∷ bytes) = option_map (λ numbers. number ∷ numbers) (numbers_in bytes)
numbers_in (Part object offset index ∷ bytes) = None

abbrev pub is_part : ℕ → ℕ → ℕ → Byte → Bool
is_part object offset index (Number number) = false
is_part object offset index (Part o k i) = o == object && k == offset && i == index

-- these are the parts of a pointer from an index on, up to the last
unfoldable pub are_parts : ℕ → ℕ → ℕ → List Byte → Bool
are_parts object offset index [] = index == 8
are_parts object offset index (byte ∷ bytes) =
    is_part object offset index byte && are_parts object offset (index + 1) bytes

-- the pointer of which these bytes are the parts, from the first to the last
abbrev pub pointer_in : List Byte → Option Value
pointer_in [] = None
pointer_in (Number number ∷ bytes) = None
pointer_in (Part object offset index ∷ bytes) =
    if are_parts object offset 0 (Part object offset index ∷ bytes) then Some (Ptr object offset) else None

abbrev pub number_or_pointer : List Byte → Option (List ℕ) → Option Value
number_or_pointer bytes (Some numbers) = Some (Num (little_number (length bytes) numbers))
number_or_pointer bytes None = pointer_in bytes

-- the value that stands in bytes: a number, or the pointer of which they are the eight parts, else None
abbrev pub gather : List Byte → Option Value
gather bytes = number_or_pointer bytes (numbers_in bytes)
