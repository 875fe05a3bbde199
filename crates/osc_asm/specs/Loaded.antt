-- What the file of a program does: it loads what was put in, and its instructions do what was asked,
-- by the RISC-V Unprivileged manual. This project's own.
use Rattle.std.specs.Prelude.{◌≡◌, ℕ, ◌+◌, ◌-◌, ◌*◌, ◌/◌, ◌<◌, Bool, ◌&&◌, nat_lt, nat_le, if◌then◌else◌, List, length, slice_get, slice_index, Option, Some, None, option_map, Ok}
use Rattle.osc_sv39.specs.declared.flags.PteBits.{PteBits}
use Rattle.osc_image.specs.Image.{bits_at, byte_at}
use Rattle.osc_word.specs.Registers.{register}
use Rattle.osc_isa.specs.Integer.{done_of, is_taken, branched, jumped}
use Rattle.osc_image.specs.Form.{image_of}
use Rattle.osc_asm.specs.declared.item.Item.{Item}
use Rattle.osc_asm.specs.declared.item.Item.TheVariants.{Plain, Branch, Jump, LabelHigh, LabelLow, BytesHigh, BytesLow}
use Rattle.osc_asm.specs.Program.{Program, place_of}
use Rattle.osc_asm.specs.Numbers.{Loads}
use Rattle.osc_asm.specs.Layout.{address, bytes_address, instr_at}
use Rattle.osc_asm.specs.File.{image, code_bytes}

-- ---- pages

abbrev pub is_code_page : Program → ℕ → Bool
is_code_page program page = nat_le 16 page && nat_lt (4096 * page) (address (length program.code))

abbrev pub is_bytes_page : Program → ℕ → Bool
is_bytes_page program page =
    nat_le (bytes_address program) (4096 * page) && nat_lt (4096 * page) (bytes_address program + length program.bytes)

-- R and X for code, R and W for bytes; no other page is mapped
abbrev pub page_bits : Program → ℕ → Option PteBits
page_bits program page =
    if is_code_page program page then Some (record { 0 = 10 })
    else if is_bytes_page program page then Some (record { 0 = 6 })
    else None

-- the code and zeros up to the bytes, and the bytes and zeros after them
abbrev pub byte_of : Program → ℕ → ℕ
byte_of program place =
    if nat_lt place (bytes_address program) then slice_index (code_bytes program) (place - 65536)
    else slice_index program.bytes (place - bytes_address program)

-- the pages of a program's image, and their bytes
pub record HasPages (program : Program) : Type 0 where
  pub bits : (page : ℕ) → bits_at (image program) page ≡ page_bits program page
  pub bytes : (place : ℕ)
      → byte_at (image program) place ≡ option_map (λ _. byte_of program place) (page_bits program (place / 4096))

-- a file means the image of a program, which has these pages, where there is an instruction
abbrev pub ReadsBack : Program → List ℕ → Type 0
ReadsBack program file = 0 < length program.code → (image_of file ≡ Ok (image program)) × HasPages program

-- ---- instructions

-- a label is bound, and something is true of its address
abbrev pub AtLabel : Option ℕ → (ℕ → Type 0) → Type 0
AtLabel None P = ⊥
AtLabel (Some place) P = P (address place)

-- the instruction of an index does what was asked: a branch and a jal go to where the label stands,
-- and lui with the addi after it leave the address
abbrev pub Does : Program → ℕ → Item → Type 0
Does program index (Plain instr) = Unit {0}
Does program index (Branch kind rs1 rs2 to) =
    AtLabel (place_of program to) (λ target. (regs : List ℕ)
    → done_of (instr_at program index (Branch kind rs1 rs2 to)) regs (address index)
    ≡ branched (is_taken kind (register regs rs1) (register regs rs2)) (address index) target)
Does program index (Jump rd to) =
    AtLabel (place_of program to) (λ target. (regs : List ℕ)
    → done_of (instr_at program index (Jump rd to)) regs (address index) ≡ jumped rd (address index) target)
Does program index (LabelHigh rd to) = AtLabel (place_of program to) (Loads rd)
Does program index (LabelLow rd to) = AtLabel (place_of program to) (Loads rd)
Does program index (BytesHigh rd offset) = offset < 16777216 → Loads rd (bytes_address program + offset)
Does program index (BytesLow rd offset) = offset < 16777216 → Loads rd (bytes_address program + offset)

abbrev pub AllDo : Program → Type 0
AllDo program = (index : ℕ) (item : Item) → slice_get program.code index ≡ Some item → Does program index item
