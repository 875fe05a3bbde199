-- Where code and bytes stand in memory, the instruction at each place, and what is refused. RISC-V
-- Unprivileged manual, "Immediate Encoding Variants": an offset is a signed number of 13 bits in a
-- branch and of 21 bits in a jal, and its field lacks bit 0. An instruction has 4 bytes. The first
-- address and the order of the refusals are this project's own.
use Rattle.std.specs.Prelude.{◌≡◌, ◌≤◌, slice_get, ℕ, ◌+◌, ◌-◌, ◌*◌, ◌/◌, ◌%◌, ◌^◌, Bool, false, not, ◌&&◌, nat_lt, nat_le, List, [], ◌∷◌, length, find, Option, Some, None, is_none, option_map}
use Rattle.std.specs.Option.{option_map_or}
use Rattle.osc_rv.specs.declared.instr.Instr.{Instr}
use Rattle.osc_rv.specs.declared.instr.Instr.TheVariants as instr
use Rattle.osc_asm.specs.declared.item.Item.{Item}
use Rattle.osc_asm.specs.declared.item.Item.TheVariants.{Plain, Branch, Jump, LabelHigh, LabelLow, BytesHigh, BytesLow}
use Rattle.osc_asm.specs.declared.item.LabelUse.{LabelUse}
use Rattle.osc_asm.specs.Program.{Program, place_of}
use Rattle.osc_asm.specs.Numbers.{lui_of, addi_of}

-- ---- addresses

-- the address of the instruction of an index
abbrev pub address : ℕ → ℕ
address index = 65536 + 4 * index

-- the address of a label
abbrev pub label_address : Program → ℕ → ℕ
label_address program label = option_map_or address (place_of program label) 0

-- the address of the first byte: the least multiple of 4096 at or above the code's end
abbrev pub bytes_address : Program → ℕ
bytes_address program = 4096 * ((address (length program.code) + 4095) / 4096)

-- ---- instructions

-- the field of the offset from one address to another, a number of so many bits
abbrev pub offset_field : ℕ → ℕ → ℕ → ℕ
offset_field width from to = (to + 2 ^ width - from) % 2 ^ width / 2

-- the instruction of an index
abbrev pub instr_at : Program → ℕ → Item → Instr
instr_at program index (Plain instr) = instr
instr_at program index (Branch kind rs1 rs2 to) =
    instr.Branch kind rs1 rs2 (offset_field 13 (address index) (label_address program to))
instr_at program index (Jump rd to) = instr.Jal rd (offset_field 21 (address index) (label_address program to))
instr_at program index (LabelHigh rd to) = lui_of rd (label_address program to)
instr_at program index (LabelLow rd to) = addi_of rd (label_address program to)
instr_at program index (BytesHigh rd offset) = lui_of rd (bytes_address program + offset)
instr_at program index (BytesLow rd offset) = addi_of rd (bytes_address program + offset)

-- the instructions of items that stand from an index on
unfoldable pub instrs_from : Program → ℕ → List Item → List Instr
instrs_from program index [] = []
instrs_from program index (item ∷ items) = instr_at program index item ∷ instrs_from program (index + 1) items

abbrev pub instrs : Program → List Instr
instrs program = instrs_from program 0 program.code

-- ---- refusals

-- the use of a label by the instruction of an index: an offset of 13 bits is from -4096 to 4095, and
-- one of 21 bits from -1048576 to 1048575
abbrev pub use_of : ℕ → Item → Option LabelUse
use_of index (Branch kind rs1 rs2 to) = Some (record { index = index; label = to; reach = Some 4096 })
use_of index (Jump rd to) = Some (record { index = index; label = to; reach = Some 1048576 })
use_of index (LabelHigh rd to) = Some (record { index = index; label = to; reach = None })
use_of index (LabelLow rd to) = Some (record { index = index; label = to; reach = None })
use_of index item = None

abbrev pub before_uses : Option LabelUse → List LabelUse → List LabelUse
before_uses None uses = uses
before_uses (Some used) uses = used ∷ uses

-- the uses of labels by items that stand from an index on
unfoldable pub uses_from : ℕ → List Item → List LabelUse
uses_from index [] = []
uses_from index (item ∷ items) = before_uses (use_of index item) (uses_from (index + 1) items)

abbrev pub uses : Program → List LabelUse
uses program = uses_from 0 program.code

abbrev pub is_unbound : Program → LabelUse → Bool
is_unbound program used = is_none (place_of program used.label)

-- the offset from one address to another is at least -reach and below reach
abbrev pub is_near : ℕ → ℕ → ℕ → Bool
is_near reach from to = nat_le from (to + reach) && nat_lt to (from + reach)

abbrev pub is_far : Program → LabelUse → Bool
is_far program used =
    option_map_or (λ reach. not (is_near reach (address used.index) (label_address program used.label))) used.reach false

-- the first use whose label is not bound, and the first whose offset its format cannot hold
abbrev pub unbound_use : Program → Option LabelUse
unbound_use program = find (is_unbound program) (uses program)

abbrev pub far_use : Program → Option LabelUse
far_use program = find (is_far program) (uses program)

abbrev pub unbound_label : Program → Option ℕ
unbound_label program = option_map (λ used. used.label) (unbound_use program)

abbrev pub far_label : Program → Option ℕ
far_label program = option_map (λ used. used.label) (far_use program)

-- every label that is bound stands at one of so many instructions, or after them
abbrev pub BoundInside : List (Option ℕ) → ℕ → Type 0
BoundInside labels count = (label place : ℕ) → slice_get labels label ≡ Some (Some place) → place ≤ count
