-- What a part of the reader says. This project's own.
use Rattle.std.specs.Prelude.{◌≡◌, Option, Some}
use Rattle.osc_image.specs.declared.ImageFault.{ImageFault}
use Rattle.osc_image.specs.declared.ImageFault.TheVariants.{Memory}

-- the part stops with the fault that is meant; want of memory says nothing of the file
abbrev pub Stops : ImageFault → Option ImageFault → Type 0
Stops Memory said = Unit {0}
Stops fault said = said ≡ Some fault
