-- The file of a text, or the first fault. This project's own.
use Rattle.std.specs.Prelude.{◌≡◌, ℕ, ◌+◌, ◌<◌, ◌≤◌, ◌⊎◌, nat_lt, if◌then◌else◌, List, [], ◌∷◌, length, slice_index, Option, Some, None, option_map, Result, Ok, Err}
use Rattle.std.specs.Option.{option_or}
use Rattle.osc_asm.specs.declared.item.LabelUse.{LabelUse}
use Rattle.osc_asm.specs.declared.AsmFault.{AsmFault}
use Rattle.osc_asm.specs.declared.AsmFault.TheVariants as asm_fault
use Rattle.osc_asm.specs.Layout.{unbound_use, far_use}
use Rattle.osc_asm.specs.File.{file}
use Rattle.osc_asm.specs.Loaded.{ReadsBack, AllDo}
use Rattle.osc_line.specs.declared.line.Line.{Line}
use Rattle.osc_line.specs.Line.{Says}
use Rattle.osc_assemble.specs.declared.TextFault.{TextFault}
use Rattle.osc_assemble.specs.declared.TextFault.TheVariants as fault
use Rattle.osc_assemble.specs.Lines.{lines_of}
use Rattle.osc_assemble.specs.Put.{Put, Puts, nothing}

-- ---- what was put in

-- the line of the instruction that uses a label
abbrev pub line_of : Put → LabelUse → ℕ
line_of put used = slice_index put.lines used.index

-- the longest file has 16 MiB
abbrev pub length_fault : ℕ → Option TextFault
length_fault size = if nat_lt 16777216 size then Some fault.FileTooLong else None

-- the first fault of what was put in
abbrev pub fault_of : Put → Option TextFault
fault_of put =
    option_or (option_map (λ line. fault.Bound line) put.again)
    (option_or (option_map (λ used. fault.Label (line_of put used)) (unbound_use put.program))
    (option_or (option_map (λ used. fault.Far (line_of put used)) (far_use put.program)) (length_fault (length (file put.program)))))

abbrev pub refused_or : Option TextFault → List ℕ → Result (List ℕ) TextFault
refused_or None file = Ok file
refused_or (Some fault) file = Err fault

abbrev pub answer_of : Put → Result (List ℕ) TextFault
answer_of put = refused_or (fault_of put) (file put.program)

-- ---- a text

-- of lines whose first has a number, a line of a number is the first that says nothing
unfoldable pub IsSilent : ℕ → List (List ℕ) → ℕ → Type 0
IsSilent number [] silent = ⊥
IsSilent number (line ∷ lines) silent =
    (((said : Line) → Says line said → ⊥) × (silent ≡ number))
    ⊎ (((said : Line) × Says line said) × IsSilent (number + 1) lines silent)

-- a text is too long, or has a line that says nothing, or what its lines put in decides
abbrev pub Means : List ℕ → Result (List ℕ) TextFault → Type 0
Means text answer =
    ((16777216 < length text) × (answer ≡ Err fault.TooLong))
    ⊎ ((length text ≤ 16777216) × (line : ℕ) × IsSilent 1 (lines_of text) line × (answer ≡ Err (fault.Form line)))
    ⊎ ((length text ≤ 16777216) × (put : Put) × Puts 1 (lines_of text) nothing put × (answer ≡ answer_of put))

-- a fault is the one that is meant; want of memory says nothing of the text
abbrev pub Refuses : TextFault → List ℕ → Type 0
Refuses fault.Memory text = Unit {0}
Refuses fault text = Means text (Err fault)

-- the file loads what the lines put in, and each instruction does what was asked
abbrev pub Loads : List ℕ → List ℕ → Type 0
Loads text file = (put : Put) × Puts 1 (lines_of text) nothing put × ReadsBack put.program file × AllDo put.program

-- ---- faults of the parts

-- what a fault of the builder's file is, once labels and offsets were looked at
abbrev pub file_fault : AsmFault → TextFault
file_fault asm_fault.TooLong = fault.FileTooLong
file_fault other = fault.Memory

-- a fault is that of an answer
abbrev pub IsFaultOf : TextFault → Result (List ℕ) TextFault → Type 0
IsFaultOf fault.Memory answer = Unit {0}
IsFaultOf fault answer = answer ≡ Err fault

-- a fault is that of the first line that says nothing
abbrev pub IsFormFault : TextFault → List (List ℕ) → Type 0
IsFormFault fault.Memory lines = Unit {0}
IsFormFault (fault.Form line) lines = IsSilent 1 lines line
IsFormFault fault lines = ⊥
