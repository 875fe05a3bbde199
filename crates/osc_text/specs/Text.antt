-- The text of an instruction: its name, and its operands parted by a comma and a space. Numbers are
-- decimal without leading zeros, and negative ones begin with a minus sign. This project's own, in the
-- notation of the RISC-V Unprivileged manual.
use Rattle.std.specs.Prelude.{ℕ, Bool, List, [], ◌++◌, codes, if◌then◌else◌}
use Rattle.std.specs.Fmt.{decimal}
use Rattle.osc_rv.specs.declared.instr.Instr.{Instr}
use Rattle.osc_text.specs.declared.spelling.Number.{Number}
use Rattle.osc_text.specs.declared.spelling.Operand.{Operand}
use Rattle.osc_text.specs.declared.spelling.Operand.TheVariants.{Register, Immediate, Indexed, Address}
use Rattle.osc_text.specs.declared.spelling.Operands.{Operands}
use Rattle.osc_text.specs.declared.spelling.Operands.TheVariants.{Nothing, One, Two, Three}
use Rattle.osc_text.specs.declared.spelling.Spelling.{Spelling}
use Rattle.osc_text.specs.Names.{name_of}
use Rattle.osc_text.specs.Spelling.{spelling_of}

abbrev pub register_text : ℕ → List ℕ
register_text register = codes "x" ++ decimal register

abbrev pub sign_text : Bool → List ℕ
sign_text negative = if negative then codes "-" else []

abbrev pub number_text : Number → List ℕ
number_text number = sign_text number.negative ++ decimal number.magnitude

abbrev pub address_text : ℕ → List ℕ
address_text base = codes "(" ++ register_text base ++ codes ")"

abbrev pub operand_text : Operand → List ℕ
operand_text (Register register) = register_text register
operand_text (Immediate number) = number_text number
operand_text (Indexed offset base) = number_text offset ++ address_text base
operand_text (Address base) = address_text base

abbrev pub operands_text : Operands → List ℕ
operands_text Nothing = []
operands_text (One first) = codes " " ++ operand_text first
operands_text (Two first second) = codes " " ++ operand_text first ++ codes ", " ++ operand_text second
operands_text (Three first second third) =
    codes " " ++ operand_text first ++ codes ", " ++ operand_text second ++ codes ", " ++ operand_text third

abbrev pub spelling_text : Spelling → List ℕ
spelling_text spelling = name_of spelling.mnemonic ++ operands_text spelling.operands

-- the one text of an instruction
unfoldable pub text_of : Instr → List ℕ
text_of instr = spelling_text (spelling_of instr)
