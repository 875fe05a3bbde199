-- What lines put into a builder: each line makes one call. A name is a label, which is made where the
-- name comes up first. This project's own.
use Rattle.std.specs.Prelude.{◌≡◌, ℕ, ◌+◌, ◌-◌, ◌*◌, Bool, ◌&&◌, nat_eq, nat_le, if◌then◌else◌, List, [], ◌∷◌, ◌++◌, length, take, drop, replicate, Option, Some, None, is_some}
use Rattle.std.specs.Cmp.Lexicographic.{pointwise}
use Rattle.std.specs.Option.{option_or}
use Rattle.std.specs.List.{list_any, position_or_len}
use Rattle.std.specs.Char.{is_ascii_digit}
use Rattle.osc_asm.specs.declared.item.Item.{Item}
use Rattle.osc_asm.specs.declared.item.Item.TheVariants as item
use Rattle.osc_asm.specs.Program.{Program, empty, with_code, with_label, with_bound, with_bytes, place_of}
use Rattle.osc_asm.specs.Numbers.{lui_of, addi_of}
use Rattle.osc_line.specs.declared.line.Name.{Name}
use Rattle.osc_line.specs.declared.line.Line.{Line}
use Rattle.osc_line.specs.declared.line.Line.TheVariants.{Blank, Bind, Plain, Branch, Jump, Li, La, Lab, Bytes}
use Rattle.osc_line.specs.Line.{Says}

pub record Put : Type 0 where
  pub program : Program
  -- the name of each label
  pub names : List (List ℕ)
  -- for each instruction the number of its line
  pub lines : List ℕ
  -- the first line that binds a name which was bound before
  pub again : Option ℕ

abbrev pub nothing : Put
nothing = record { program = empty; names = []; lines = []; again = None }

-- ---- names

abbrev pub is_in : List (List ℕ) → List ℕ → Bool
is_in names name = list_any (pointwise nat_eq name) names

-- the place of a name among names, or after them
abbrev pub place_in : List (List ℕ) → List ℕ → ℕ
place_in names name = position_or_len (pointwise nat_eq name) names

abbrev pub with_name : List (List ℕ) → List ℕ → List (List ℕ)
with_name names name = if is_in names name then names else names ++ name ∷ []

abbrev pub with_label_of : Put → List ℕ → Put
with_label_of put name = record put {
  program = if is_in put.names name then put.program else with_label put.program;
  names = with_name put.names name;
}

-- the label that a name has or gets
abbrev pub label_of : Put → List ℕ → ℕ
label_of put name = place_in put.names name

-- ---- bytes

-- the number of a hexadecimal digit
abbrev pub digit_value : ℕ → ℕ
digit_value digit =
    if is_ascii_digit digit then digit - 48 else if nat_le 97 digit && nat_le digit 102 then digit - 87 else 0

-- two digits are a byte, of which the high half comes first
unfoldable pub bytes_of : List ℕ → List ℕ
bytes_of (high ∷ low ∷ rest) = (16 * digit_value high + digit_value low) ∷ bytes_of rest
bytes_of (low ∷ []) = []
bytes_of [] = []

abbrev pub with_digits : List ℕ → Put → Put
with_digits digits put = record put { program = with_bytes put.program (bytes_of digits) }

-- ---- instructions

abbrev pub with_line : Put → ℕ → Put
with_line put number = record put { lines = put.lines ++ number ∷ [] }

-- one more instruction of the line of a number, or two
abbrev pub with_items : ℕ → List Item → Put → Put
with_items number items put =
    record put { program = with_code put.program items; lines = put.lines ++ replicate (length items) number }

-- instructions that use a name's label
abbrev pub with_use : ℕ → (ℕ → List Item) → List ℕ → Put → Put
with_use number items name put = with_items number (items (label_of put name)) (with_label_of put name)

-- a label that is bound stays where it is
abbrev pub with_bound_at : ℕ → ℕ → Put → Put
with_bound_at number label put =
    if is_some (place_of put.program label) then record put { again = option_or put.again (Some number) }
    else record put { program = with_bound put.program label }

abbrev pub with_bind : ℕ → List ℕ → Put → Put
with_bind number name put = with_bound_at number (label_of put name) (with_label_of put name)

-- ---- lines

-- a name at its place in a line
abbrev pub word : List ℕ → Name → List ℕ
word line name = take name.count (drop name.start line)

-- what was put in after a line of a number
abbrev pub with_said : ℕ → List ℕ → Line → Put → Put
with_said number line Blank put = put
with_said number line (Bind name) put = with_bind number (word line name) put
with_said number line (Plain instr) put = with_items number (item.Plain instr ∷ []) put
with_said number line (Branch kind rs1 rs2 to) put =
    with_use number (λ label. item.Branch kind rs1 rs2 label ∷ []) (word line to) put
with_said number line (Jump rd to) put = with_use number (λ label. item.Jump rd label ∷ []) (word line to) put
with_said number line (Li rd value) put =
    with_items number (item.Plain (lui_of rd value) ∷ item.Plain (addi_of rd value) ∷ []) put
with_said number line (La rd to) put =
    with_use number (λ label. item.LabelHigh rd label ∷ item.LabelLow rd label ∷ []) (word line to) put
with_said number line (Lab rd offset) put =
    with_items number (item.BytesHigh rd offset ∷ item.BytesLow rd offset ∷ []) put
with_said number line (Bytes start digits) put = with_digits (take digits (drop start line)) put

-- lines, of which the first has a number, put in what leads from one to the other
unfoldable pub Puts : ℕ → List (List ℕ) → Put → Put → Type 0
Puts number [] before after = before ≡ after
Puts number (line ∷ lines) before after =
    (said : Line) × Says line said × Puts (number + 1) lines (with_said number line said before) after

-- each label has its name, and each instruction its line
pub record IsWhole (put : Put) : Type 0 where
  pub names : length put.names ≡ length put.program.labels
  pub lines : length put.lines ≡ length put.program.code
