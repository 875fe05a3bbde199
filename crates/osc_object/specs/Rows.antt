-- The numbers in a row of bytes that is read one by one; None once a part of a pointer was met.
use Rattle.std.specs.Prelude.{ℕ, if◌then◌else◌, List, [], ◌∷◌, ◌++◌, Option, Some, None, Result, Ok, Err}
use Rattle.osc_world.specs.declared.Byte.{Byte}
use Rattle.osc_world.specs.declared.ObjectWhy.{ObjectWhy}
use Rattle.osc_world.specs.Values.{numbers_in}
use Rattle.osc_object.specs.declared.writing.Read.{Read}

abbrev pub bytes_of : Option Byte → List Byte
bytes_of None = []
bytes_of (Some byte) = byte ∷ []

abbrev pub row_shown : Read → Option (List ℕ)
row_shown read = if read.plain then Some read.numbers.items else None

abbrev pub joined : Option (List ℕ) → Option (List ℕ) → Option (List ℕ)
joined (Some numbers) (Some more) = Some (numbers ++ more)
joined (Some numbers) None = None
joined None more = None

-- with the numbers of these bytes behind those before
abbrev pub spelled : Option (List ℕ) → List Byte → Option (List ℕ)
spelled before bytes = joined before (numbers_in bytes)

abbrev pub spelled_row : Option (List ℕ) → Result (List Byte) ObjectWhy → Result (Option (List ℕ)) ObjectWhy
spelled_row before (Ok bytes) = Ok (spelled before bytes)
spelled_row before (Err why) = Err why
