-- What an assembler that may run out of memory says of a program. This project's own.
use Rattle.std.specs.Prelude.{◌≡◌, ℕ, List, Result, Err}
use Rattle.osc_asm.specs.declared.AsmFault.{AsmFault}
use Rattle.osc_asm.specs.declared.AsmFault.TheVariants.{Memory}

-- a refusal is the one that is meant; want of memory says nothing of the program
abbrev pub Refuses : AsmFault → Result (List ℕ) AsmFault → Type 0
Refuses Memory said = Unit {0}
Refuses fault said = said ≡ Err fault
