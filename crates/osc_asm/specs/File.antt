-- The ELF file of a program. ELF-64 Object File Format, "ELF Header" and "Program Header Table"; the
-- RISC-V ELF psABI, "File Header", for the machine number. Fields are little-endian. Which segments
-- there are, and where they stand in memory and in the file, is this project's own.
use Rattle.std.specs.Prelude.{ℕ, ◌+◌, ◌-◌, true, false, nat_lt, if◌then◌else◌, List, [], ◌∷◌, ◌++◌, length, replicate, flat_map, Option, Some, None, Result, Ok, Err, option_map}
use Rattle.std.specs.Option.{option_or}
use Rattle.byteorder.specs.Endian.{little_bytes}
use Rattle.osc_rv.specs.declared.instr.Instr.{Instr}
use Rattle.osc_rv.specs.Instr.{word_of}
use Rattle.osc_image.specs.Image.{Image, Segment}
use Rattle.osc_asm.specs.declared.header.ElfField.{ElfField}
use Rattle.osc_asm.specs.declared.header.ElfField.TheVariants.{Byte, Half, Word, Xword}
use Rattle.osc_asm.specs.declared.AsmFault.{AsmFault}
use Rattle.osc_asm.specs.declared.AsmFault.TheVariants as fault
use Rattle.osc_asm.specs.Program.{Program}
use Rattle.osc_asm.specs.Layout.{instrs, bytes_address, unbound_label, far_label}

-- ---- what is loaded

-- the bytes of instructions one after another
unfoldable pub words : List Instr → List ℕ
words instrs = flat_map (λ instr. little_bytes 4 (word_of instr)) instrs

abbrev pub code_bytes : Program → List ℕ
code_bytes program = words (instrs program)

-- read and executed
abbrev pub code_segment : Program → Segment
code_segment program = record {
  address = 65536;
  size = length (code_bytes program);
  bytes = code_bytes program;
  readable = true;
  writable = false;
  executable = true;
}

-- read and written
abbrev pub bytes_segment : Program → Segment
bytes_segment program = record {
  address = bytes_address program;
  size = length program.bytes;
  bytes = program.bytes;
  readable = true;
  writable = true;
  executable = false;
}

-- the segments; there is one for bytes where there are bytes
abbrev pub segments_with : Segment → Segment → List ℕ → List Segment
segments_with code bytes [] = code ∷ []
segments_with code bytes (_ ∷ _) = code ∷ bytes ∷ []

abbrev pub segments : Program → List Segment
segments program = segments_with (code_segment program) (bytes_segment program) program.bytes

-- what is to be loaded of a program
abbrev pub image : Program → Image
image program = record { entry = 65536; segments = segments program }

-- ---- headers

-- the bytes of a field
abbrev pub field_bytes : ElfField → List ℕ
field_bytes (Byte value) = value ∷ []
field_bytes (Half value) = little_bytes 2 value
field_bytes (Word value) = little_bytes 4 value
field_bytes (Xword value) = little_bytes 8 value

-- fields one after another
unfoldable pub fields_bytes : List ElfField → List ℕ
fields_bytes fields = flat_map field_bytes fields

-- 0x7f E L F; ELFCLASS64, ELFDATA2LSB and EV_CURRENT; no ABI, and padding; ET_EXEC; EM_RISCV;
-- e_version; e_entry, e_phoff and e_shoff; e_flags; e_ehsize, e_phentsize and e_phnum; no sections
abbrev pub file_header : ℕ → List ElfField
file_header count =
    Byte 127 ∷ Byte 69 ∷ Byte 76 ∷ Byte 70
    ∷ Byte 2 ∷ Byte 1 ∷ Byte 1 ∷ Byte 0 ∷ Xword 0
    ∷ Half 2 ∷ Half 243 ∷ Word 1
    ∷ Xword 65536 ∷ Xword 64 ∷ Xword 0
    ∷ Word 0 ∷ Half 64 ∷ Half 56 ∷ Half count
    ∷ Half 0 ∷ Half 0 ∷ Half 0 ∷ []

-- where the byte of an address stands in the file
abbrev pub file_place : ℕ → ℕ
file_place address = address - 65536 + 4096

-- PF_X is 1, PF_W is 2 and PF_R is 4
abbrev pub flags_of : Segment → ℕ
flags_of segment =
    (if segment.executable then 1 else 0) + (if segment.writable then 2 else 0) + (if segment.readable then 4 else 0)

-- PT_LOAD, p_flags, p_offset, p_vaddr, p_paddr, p_filesz, p_memsz and p_align
abbrev pub load_header : ℕ → ℕ → ℕ → ℕ → List ElfField
load_header flags address file_size size =
    Word 1 ∷ Word flags ∷ Xword (file_place address) ∷ Xword address ∷ Xword 0
    ∷ Xword file_size ∷ Xword size ∷ Xword 4096 ∷ []

abbrev pub program_header : Segment → List ElfField
program_header segment = load_header (flags_of segment) segment.address (length segment.bytes) segment.size

unfoldable pub headers : List Segment → List ElfField
headers segments = file_header (length segments) ++ flat_map program_header segments

-- ---- the file

-- a file with a piece at its place, and zeros in the gap before it
abbrev pub laid : ℕ → List ℕ → List ℕ → List ℕ
laid place [] file = file
laid place (byte ∷ rest) file = file ++ replicate (place - length file) 0 ++ byte ∷ rest

-- a file with the bytes of segments at their places
abbrev pub all_laid : List Segment → List ℕ → List ℕ
all_laid [] file = file
all_laid (segment ∷ segments) file = all_laid segments (laid (file_place segment.address) segment.bytes file)

-- the headers and then the segments
unfoldable pub file : Program → List ℕ
file program = all_laid (segments program) (fields_bytes (headers (segments program)))

-- the longest file has 16 MiB
abbrev pub length_fault : ℕ → Option AsmFault
length_fault size = if nat_lt 16777216 size then Some fault.TooLong else None

abbrev pub fault_of : Program → Option AsmFault
fault_of program =
    option_or (option_map (λ label. fault.Label label) (unbound_label program))
    (option_or (option_map (λ label. fault.Far label) (far_label program)) (length_fault (length (file program))))

abbrev pub refused_or : Option AsmFault → List ℕ → Result (List ℕ) AsmFault
refused_or None file = Ok file
refused_or (Some fault) file = Err fault

-- the first refusal of a program, or its file
unfoldable pub file_of : Program → Result (List ℕ) AsmFault
file_of program = refused_or (fault_of program) (file program)
