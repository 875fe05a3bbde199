-- The parts of a text: what stands before a byte and from it on, and which operands have a text.
use Rattle.std.specs.Prelude.{ℕ, ◌<◌, Bool, true, false, codes, ◌==◌, if◌then◌else◌, List, [], ◌∷◌, ◌++◌}
use Rattle.osc_text.specs.Names.{amo_name, width_name, order_name}
use Rattle.osc_text.specs.declared.spelling.Operand.{Operand}
use Rattle.osc_text.specs.declared.spelling.Operand.TheVariants.{Register, Immediate, Indexed, Address}
use Rattle.osc_text.specs.declared.spelling.Operands.{Operands}
use Rattle.osc_text.specs.declared.spelling.Operands.TheVariants.{Nothing, One, Two, Three}
use Rattle.osc_text.specs.declared.spelling.Spelling.{Spelling}
use Rattle.osc_text.specs.declared.spelling.Mnemonic.{Mnemonic}
use Rattle.osc_text.specs.declared.spelling.Mnemonic.TheVariants as mnemonic
use Rattle.osc_line.specs.declared.mnemonic.Ending.{Ending}
use Rattle.osc_line.specs.declared.mnemonic.Stem.{Stem}
use Rattle.osc_line.specs.declared.mnemonic.Stem.TheVariants.{Amo, Lr, Sc}

-- a text from the first of a byte on
unfoldable pub from_byte : ℕ → List ℕ → List ℕ
from_byte byte [] = []
from_byte byte (first ∷ rest) = if first == byte then first ∷ rest else from_byte byte rest

-- what the name of an atomic access ends with
abbrev pub ending_name : Ending → List ℕ
ending_name ending = width_name ending.width ++ order_name ending.aq ending.rl

-- the name of an atomic access without its end
abbrev pub stem_name : Stem → List ℕ
stem_name (Amo op) = amo_name op
stem_name Lr = codes "lr"
stem_name Sc = codes "sc"

-- the mnemonics of one instruction each
abbrev pub is_single : Mnemonic → Bool
is_single mnemonic.Jal = true
is_single mnemonic.Jalr = true
is_single mnemonic.Fence = true
is_single mnemonic.FenceI = true
is_single mnemonic.Ecall = true
is_single mnemonic.Ebreak = true
is_single other = false

-- an operand ends where nothing or a comma follows
abbrev pub ends : List ℕ → Bool
ends [] = true
ends (byte ∷ rest) = byte == 44

-- what operands keep by the types of their fields
abbrev pub OperandFits : Operand → Type 0
OperandFits (Register register) = register < 32
OperandFits (Immediate number) = number.magnitude < 4194304
OperandFits (Indexed offset base) = (offset.magnitude < 4194304) × (base < 32)
OperandFits (Address base) = base < 32

abbrev pub OperandsFit : Operands → Type 0
OperandsFit Nothing = Unit {0}
OperandsFit (One first) = OperandFits first
OperandsFit (Two first second) = OperandFits first × OperandFits second
OperandsFit (Three first second third) = OperandFits first × OperandFits second × OperandFits third

abbrev pub SpellingFits : Spelling → Type 0
SpellingFits spelling = OperandsFit spelling.operands
