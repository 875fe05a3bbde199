-- What a reader that may run out of memory says of a file. This project's own.
use Rattle.std.specs.Prelude.{◌≡◌, Result, Ok, Err}
use Rattle.osc_image.specs.declared.ImageFault.{ImageFault}
use Rattle.osc_image.specs.declared.ImageFault.TheVariants.{Memory}

-- a refusal is the one that is meant; want of memory says nothing of the file
abbrev pub Refuses : {T : Type 0} → ImageFault → Result T ImageFault → Type 0
Refuses Memory said = Unit {0}
Refuses fault said = said ≡ Err fault

-- the reader gives what the file means, unless memory ran out
abbrev pub Gives : {T : Type 0} → Result T ImageFault → Result T ImageFault → Type 0
Gives (Ok given) said = said ≡ Ok given
Gives (Err fault) said = Refuses fault said
