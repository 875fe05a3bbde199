-- What a line of a guest's text says. This project's own, over the spellings of instructions.
use Rattle.std.specs.Prelude.{◌≡◌, ℕ, ◌-◌, ◌%◌, ◌<◌, Bool, true, false, ◌&&◌, ◌||◌, ◌==◌, nat_le, nat_lt, List, [], ◌∷◌, ◌++◌, length, codes}
use Rattle.std.specs.Fmt.{decimal}
use Rattle.std.specs.List.{list_all}
use Rattle.std.specs.Char.{is_ascii_digit, is_ascii_lowercase}
use Rattle.osc_rv.specs.Instr.{FieldsFit}
use Rattle.osc_text.specs.Names.{branch_name}
use Rattle.osc_text.specs.Text.{register_text, text_of}
use Rattle.osc_line.specs.declared.line.Name.{Name}
use Rattle.osc_line.specs.declared.line.Line.{Line}
use Rattle.osc_line.specs.declared.line.Line.TheVariants.{Blank, Bind, Plain, Branch, Jump, Li, La, Lab, Bytes}

-- ---- words

abbrev pub is_name_byte : ℕ → Bool
is_name_byte byte = is_ascii_lowercase byte || is_ascii_digit byte || (byte == 95)

-- 1 to 32 of a to z, 0 to 9 and _, of which the first is a letter
abbrev pub is_name : List ℕ → Bool
is_name [] = false
is_name (first ∷ rest) = is_ascii_lowercase first && nat_lt (length rest) 32 && list_all is_name_byte rest

abbrev pub is_hex_digit : ℕ → Bool
is_hex_digit byte = is_ascii_digit byte || (nat_le 97 byte && nat_le byte 102)

-- pairs of lower case hexadecimal digits, at least one
abbrev pub is_hex : List ℕ → Bool
is_hex word = nat_lt 0 (length word) && (length word % 2 == 0) && list_all is_hex_digit word

-- ---- lines

-- a line is empty or begins with #
abbrev pub is_blank : List ℕ → Bool
is_blank [] = true
is_blank (first ∷ rest) = first == 35

-- a register and the comma after it
abbrev pub first_register : ℕ → List ℕ → List ℕ
first_register register rest = register_text register ++ codes ", " ++ rest

-- a word at the end of a line is a name, and where it stands
pub record EndsIn (line word : List ℕ) (name : Name) : Type 0 where
  pub form : is_name word ≡ true
  pub start : name.start ≡ length line - length word
  pub count : name.count ≡ length word

abbrev pub Says : List ℕ → Line → Type 0
Says line Blank = is_blank line ≡ true
Says line (Bind name) =
    (name.start ≡ 0) × (word : List ℕ) × (is_name word ≡ true) × (name.count ≡ length word) × (line ≡ word ++ codes ":")
Says line (Plain instr) = FieldsFit instr × (text_of instr ≡ line)
Says line (Branch kind rs1 rs2 to) =
    (rs1 < 32) × (rs2 < 32) × (word : List ℕ) × EndsIn line word to
    × (line ≡ branch_name kind ++ codes " " ++ first_register rs1 (first_register rs2 word))
Says line (Jump rd to) = (rd < 32) × (word : List ℕ) × EndsIn line word to × (line ≡ codes "jal " ++ first_register rd word)
Says line (Li rd value) = (rd < 32) × (value < 2147481600) × (line ≡ codes "li " ++ first_register rd (decimal value))
Says line (La rd to) = (rd < 32) × (word : List ℕ) × EndsIn line word to × (line ≡ codes "la " ++ first_register rd word)
Says line (Lab rd offset) = (rd < 32) × (offset < 16777216) × (line ≡ codes "lab " ++ first_register rd (decimal offset))
Says line (Bytes start digits) =
    (start ≡ 6) × (word : List ℕ) × (is_hex word ≡ true) × (digits ≡ length word) × (line ≡ codes "bytes " ++ word)
