-- Which files are taken, the first refusal of each other, and the image that a file means. ELF-64
-- Object File Format, "ELF Header" and "Program Header Table"; the RISC-V ELF psABI, "File Header",
-- for the machine number and e_flags. Fields are little-endian. Sums do not wrap. The order of the
-- refusals, the longest file and the range of addresses are this project's own.
use Rattle.std.specs.Prelude.{ℕ, ◌+◌, ◌*◌, ◌/◌, ◌%◌, ◌==◌, Bool, ◌&&◌, ◌||◌, not, nat_eq, nat_lt, if◌then◌else◌, List, [], ◌∷◌, length, take, drop, find, Option, Some, None, option_map, Result, Ok, Err}
use Rattle.std.specs.List.{starts_with, filter_map, range_with_len}
use Rattle.std.specs.Option.{option_or}
use Rattle.std.specs.Int.{bit_at}
use Rattle.byteorder.specs.Endian.{little_number}
use Rattle.osc_sv39.specs.declared.entries.Access.TheVariants.{Fetch, Store}
use Rattle.osc_image.specs.declared.ImageFault.{ImageFault}
use Rattle.osc_image.specs.declared.ImageFault.TheVariants as fault
use Rattle.osc_image.specs.declared.SegmentWhy.{SegmentWhy}
use Rattle.osc_image.specs.declared.SegmentWhy.TheVariants as why
use Rattle.osc_image.specs.Image.{Segment, Image, page_permits, page_limit}

-- the number in this many bytes at a place of the file, the lowest byte first
unfoldable pub field : ℕ → ℕ → List ℕ → ℕ
field width place file = little_number width (drop place file)

-- ---- the file header

abbrev pub e_entry : List ℕ → ℕ
e_entry file = field 8 24 file

abbrev pub e_phoff : List ℕ → ℕ
e_phoff file = field 8 32 file

abbrev pub e_flags : List ℕ → ℕ
e_flags file = field 4 48 file

abbrev pub e_phnum : List ℕ → ℕ
e_phnum file = field 2 56 file

-- ---- a program header, at its place in the file

abbrev pub p_type : List ℕ → ℕ → ℕ
p_type file place = field 4 place file

abbrev pub p_flags : List ℕ → ℕ → ℕ
p_flags file place = field 4 (place + 4) file

abbrev pub p_offset : List ℕ → ℕ → ℕ
p_offset file place = field 8 (place + 8) file

abbrev pub p_vaddr : List ℕ → ℕ → ℕ
p_vaddr file place = field 8 (place + 16) file

abbrev pub p_filesz : List ℕ → ℕ → ℕ
p_filesz file place = field 8 (place + 32) file

abbrev pub p_memsz : List ℕ → ℕ → ℕ
p_memsz file place = field 8 (place + 40) file

-- the place of a program header, counted from 0
abbrev pub header_place : List ℕ → ℕ → ℕ
header_place file index = e_phoff file + 56 * index

-- ---- what is refused

-- something that is refused, and the answer then
pub record Check (Fault : Type 0) : Type 0 where
  pub fails : Bool
  pub answer : Fault

abbrev pub check : {Fault : Type 0} → Bool → Fault → Check Fault
check fails answer = record { fails = fails; answer = answer }

-- the answer of the first check that fails
abbrev pub first_of : {Fault : Type 0} → List (Check Fault) → Option Fault
first_of checks = option_map (λ c. c.answer) (find (λ c. c.fails) checks)

-- 0x7f E L F
abbrev pub magic : List ℕ
magic = 127 ∷ 69 ∷ 76 ∷ 70 ∷ []

-- ELFCLASS64 and ELFDATA2LSB; ET_EXEC; EM_RISCV; EV_CURRENT; of e_flags RVC and the float ABI
abbrev pub header_checks : List ℕ → List (Check ImageFault)
header_checks file =
    check (nat_lt 16777216 (length file)) fault.TooLong
    ∷ check (nat_lt (length file) 64) fault.Truncated
    ∷ check (not (starts_with nat_eq file magic)) fault.Magic
    ∷ check (not (field 1 4 file == 2 && field 1 5 file == 1)) fault.Class
    ∷ check (not (field 2 16 file == 2)) fault.FileType
    ∷ check (not (field 2 18 file == 243)) fault.Machine
    ∷ check (not (field 1 6 file == 1 && field 4 20 file == 1)) fault.Version
    ∷ check (not (e_flags file % 8 == 0)) fault.Flags
    ∷ check (not (field 2 52 file == 64 && (e_phnum file == 0 || field 2 54 file == 56))) fault.HeaderSize
    ∷ []

unfoldable pub header_fault : List ℕ → Option ImageFault
header_fault file = first_of (header_checks file)

-- PT_LOAD
abbrev pub is_load : List ℕ → ℕ → Bool
is_load file place = p_type file place == 1

-- the segment has addresses that no image has
abbrev pub is_out_of_range : List ℕ → ℕ → Bool
is_out_of_range file place =
    nat_lt 0 (p_memsz file place)
    && (nat_lt (p_vaddr file place) 65536 || nat_lt 4294967296 (p_vaddr file place + p_memsz file place))

abbrev pub load_checks : List ℕ → ℕ → List (Check SegmentWhy)
load_checks file place =
    check (nat_lt (p_memsz file place) (p_filesz file place)) why.Sizes
    ∷ check (nat_lt (length file) (p_offset file place + p_filesz file place)) why.FileEnd
    ∷ check (is_out_of_range file place) why.Range
    ∷ []

-- PT_DYNAMIC, PT_INTERP and PT_TLS
abbrev pub segment_checks : List ℕ → ℕ → List (Check SegmentWhy)
segment_checks file place =
    check (nat_lt (length file) (place + 56)) why.TableEnd
    ∷ check (p_type file place == 2) why.Dynamic
    ∷ check (p_type file place == 3) why.Interpreter
    ∷ check (p_type file place == 7) why.ThreadStorage
    ∷ (if is_load file place then load_checks file place else [])

-- why the program header of an index is refused
unfoldable pub segment_why : List ℕ → ℕ → Option SegmentWhy
segment_why file index = first_of (segment_checks file (header_place file index))

abbrev pub segment_fault : List ℕ → ℕ → Option ImageFault
segment_fault file index = option_map (λ why. fault.Segment index why) (segment_why file index)

-- the first of a list
abbrev pub first : {T : Type 0} → List T → Option T
first [] = None
first (x ∷ xs) = Some x

-- the fault of the first program header that has one
unfoldable pub table_fault : List ℕ → Option ImageFault
table_fault file = first (filter_map (segment_fault file) (range_with_len 0 (e_phnum file)))

-- ---- the image

-- a segment of which there is something in memory
abbrev pub is_laid : List ℕ → ℕ → Bool
is_laid file place = is_load file place && nat_lt 0 (p_memsz file place)

-- PF_X is bit 0 of p_flags, PF_W bit 1 and PF_R bit 2
abbrev pub segment_at : List ℕ → ℕ → Segment
segment_at file place = record {
  address = p_vaddr file place;
  size = p_memsz file place;
  bytes = take (p_filesz file place) (drop (p_offset file place) file);
  readable = bit_at (p_flags file place) 2 == 1;
  writable = bit_at (p_flags file place) 1 == 1;
  executable = bit_at (p_flags file place) 0 == 1;
}

abbrev pub laid_at : List ℕ → ℕ → Option Segment
laid_at file place = if is_laid file place then Some (segment_at file place) else None

-- the segment of the program header of an index, None where it lays nothing
unfoldable pub laid_segment : List ℕ → ℕ → Option Segment
laid_segment file index = laid_at file (header_place file index)

-- the segments of the first program headers, in the order of the table
unfoldable pub segments_of : List ℕ → ℕ → List Segment
segments_of file count = filter_map (laid_segment file) (range_with_len 0 count)

abbrev pub image_in : List ℕ → Image
image_in file = record { entry = e_entry file; segments = segments_of file (e_phnum file) }

abbrev pub is_write_exec : List Segment → ℕ → Bool
is_write_exec segments page = page_permits segments Store page && page_permits segments Fetch page

-- the least page below a limit that can be written and executed
unfoldable pub write_exec_below : List Segment → ℕ → Option ℕ
write_exec_below segments limit = find (is_write_exec segments) (range_with_len 0 limit)

abbrev pub is_entry : Image → Bool
is_entry image = image.entry % 4 == 0 && page_permits image.segments Fetch (image.entry / 4096)

abbrev pub entry_fault : Image → Option ImageFault
entry_fault image = first_of (check (not (is_entry image)) (fault.Entry image.entry) ∷ [])

abbrev pub write_exec_fault : Image → Option ImageFault
write_exec_fault image = option_map (λ page. fault.WriteExec page) (write_exec_below image.segments page_limit)

-- what is wrong with the pages of an image
unfoldable pub map_fault : Image → Option ImageFault
map_fault image = option_or (write_exec_fault image) (entry_fault image)

-- the first refusal of a file
abbrev pub fault_of : List ℕ → Option ImageFault
fault_of file = option_or (header_fault file) (option_or (table_fault file) (map_fault (image_in file)))

abbrev pub refused_or : {T : Type 0} → Option ImageFault → T → Result T ImageFault
refused_or None taken = Ok taken
refused_or (Some fault) taken = Err fault

-- the first refusal of a file, or the image that it means
unfoldable pub image_of : List ℕ → Result Image ImageFault
image_of file = refused_or (fault_of file) (image_in file)
