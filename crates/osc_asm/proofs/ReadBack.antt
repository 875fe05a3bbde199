-- The file is read back as the segments of the program.
use Rattle.std.proofs.Common.{ℕ, ◌≡◌, ◌+◌, ◌*◌, ◌%◌, ◌<◌, ◌≤◌, ◌==◌, arith, refl, sym, ◌∙◌, ap, Bool, true, false, Some, None, List, [], ◌∷◌, ◌++◌, length, drop, take}
use Rattle.std.specs.Prelude.{not, ◌&&◌, ◌||◌, nat_lt, nat_eq}
use Rattle.std.specs.List.{starts_with}
use Rattle.std.proofs.lemmas.Bool.Decides.{nat_tests}
use Rattle.osc_image.specs.declared.ImageFault.TheVariants as fault
use Rattle.osc_image.specs.Image.{Segment}
use Rattle.osc_image.specs.declared.SegmentWhy.TheVariants as why
use Rattle.byteorder.specs.Endian.{little_number}
use Rattle.std.specs.Int.{bit_at}
use Rattle.std.specs.Prelude.{if◌then◌else◌}
use Rattle.std.proofs.lemmas.List.{drop-drop}
use Rattle.osc_image.specs.Form.{field, check, first_of, header_fault, e_entry, e_phoff, e_phnum, magic, p_type, p_flags, p_offset, p_vaddr, p_filesz, p_memsz, is_load, is_out_of_range, segment_why, laid_segment}
use Rattle.osc_asm.specs.declared.header.ElfField.{ElfField}
use Rattle.osc_asm.specs.declared.header.ElfField.TheVariants.{Byte}
use Rattle.osc_asm.specs.File.{fields_bytes, file_header, program_header, flags_of, file_place}
use Rattle.osc_asm.proofs.Fields.{read}

-- ---- the file header

all-pass : (a b c d e f g h i : Bool) → a ≡ false → b ≡ false → c ≡ false → d ≡ false → e ≡ false → f ≡ false → g ≡ false → h ≡ false
    → i ≡ false
    → first_of (check a fault.TooLong ∷ check b fault.Truncated ∷ check c fault.Magic ∷ check d fault.Class ∷ check e fault.FileType
    ∷ check f fault.Machine ∷ check g fault.Version ∷ check h fault.Flags ∷ check i fault.HeaderSize ∷ []) ≡ None
all-pass a b c d e f g h i p q r s t u v w x = rw (p, q, r, s, t, u, v, w, x) refl

two : (a b : ℕ) (c d : ℕ) → a ≡ c → b ≡ d → not (a == c && b == d) ≡ false
two a b c d p q = grind (arith, nat_tests)

one : (a c : ℕ) → a ≡ c → not (a == c) ≡ false
one a c p = grind (arith, nat_tests)

sizes-pass : (a n b : ℕ) → a ≡ 64 → b ≡ 56 → not (a == 64 && (n == 0 || b == 56)) ≡ false
sizes-pass a n b p q = grind (arith, nat_tests)

flags-pass : (a : ℕ) → a ≡ 0 → not (a % 8 == 0) ≡ false
flags-pass a p = grind (arith, nat_tests)

magic-first : (count : ℕ) (tail : List ElfField) (rest : List ℕ)
    → not (starts_with nat_eq (fields_bytes (file_header count ++ tail) ++ rest) magic) ≡ false
unfolding fields_bytes
magic-first count tail rest = refl

pub header-passes : (count : ℕ) (tail : List ElfField) (rest file : List ℕ) → file ≡ fields_bytes (file_header count ++ tail) ++ rest
    → 64 ≤ length file → length file ≤ 16777216 → header_fault file ≡ None
unfolding header_fault
header-passes count tail rest file is long short =
    all-pass (nat_lt 16777216 (length file)) (nat_lt (length file) 64) (not (starts_with nat_eq file magic))
    (not (field 1 4 file == 2 && field 1 5 file == 1)) (not (field 2 16 file == 2)) (not (field 2 18 file == 243))
    (not (field 1 6 file == 1 && field 4 20 file == 1)) (not (field 4 48 file % 8 == 0))
    (not (field 2 52 file == 64 && (field 2 56 file == 0 || field 2 54 file == 56)))
    (grind (arith, nat_tests)) (grind (arith, nat_tests))
    (ap (λ f. not (starts_with nat_eq f magic)) is ∙ magic-first count tail rest)
    (two (field 1 4 file) (field 1 5 file) 2 1 (ap (field 1 4) is ∙ read 4 (file_header count ++ tail) (Byte 0) rest (omega arith)) (ap (field 1 5) is ∙ read 5 (file_header count ++ tail) (Byte 0) rest (omega arith)))
    (one (field 2 16 file) 2 (ap (field 2 16) is ∙ read 9 (file_header count ++ tail) (Byte 0) rest (omega arith)))
    (one (field 2 18 file) 243 (ap (field 2 18) is ∙ read 10 (file_header count ++ tail) (Byte 0) rest (omega arith)))
    (two (field 1 6 file) (field 4 20 file) 1 1 (ap (field 1 6) is ∙ read 6 (file_header count ++ tail) (Byte 0) rest (omega arith)) (ap (field 4 20) is ∙ read 11 (file_header count ++ tail) (Byte 0) rest (omega arith)))
    (flags-pass (field 4 48 file) (ap (field 4 48) is ∙ read 15 (file_header count ++ tail) (Byte 0) rest (omega arith)))
    (sizes-pass (field 2 52 file) (field 2 56 file) (field 2 54 file) (ap (field 2 52) is ∙ read 16 (file_header count ++ tail) (Byte 0) rest (omega arith))
    (ap (field 2 54) is ∙ read 17 (file_header count ++ tail) (Byte 0) rest (omega arith)))

pub entry-is : (count : ℕ) (tail : List ElfField) (rest file : List ℕ) → file ≡ fields_bytes (file_header count ++ tail) ++ rest
    → e_entry file ≡ 65536
entry-is count tail rest file is = ap (field 8 24) is ∙ read 12 (file_header count ++ tail) (Byte 0) rest (omega arith)

pub table-is : (count : ℕ) (tail : List ElfField) (rest file : List ℕ) → file ≡ fields_bytes (file_header count ++ tail) ++ rest
    → e_phoff file ≡ 64
table-is count tail rest file is = ap (field 8 32) is ∙ read 13 (file_header count ++ tail) (Byte 0) rest (omega arith)

pub count-is : (count : ℕ) (tail : List ElfField) (rest file : List ℕ) → file ≡ fields_bytes (file_header count ++ tail) ++ rest
    → count < 65536 → e_phnum file ≡ count
count-is count tail rest file is few =
    ap (field 2 56) is ∙ (read 18 (file_header count ++ tail) (Byte 0) rest (omega arith) ∙ omega arith)

-- ---- a program header

-- a segment that lies wholly in the file, and in the addresses of images
pub record Fits (file : List ℕ) (segment : Segment) : Type 0 where
  pub some : 0 < segment.size
  pub whole : length segment.bytes ≡ segment.size
  pub low : 65536 ≤ segment.address
  pub high : segment.address + segment.size ≤ 4294967296
  pub inside : file_place segment.address + segment.size ≤ length file
  pub bytes : take (length segment.bytes) (drop (file_place segment.address) file) ≡ segment.bytes
  pub flags : flags_of segment < 8
  pub readable : (bit_at (flags_of segment) 2 == 1) ≡ segment.readable
  pub writable : (bit_at (flags_of segment) 1 == 1) ≡ segment.writable
  pub executable : (bit_at (flags_of segment) 0 == 1) ≡ segment.executable

-- the header at a place is that of a segment
pub record IsHeader (file : List ℕ) (place : ℕ) (segment : Segment) : Type 0 where
  pub kind : p_type file place ≡ 1
  pub flags : p_flags file place ≡ flags_of segment
  pub offset : p_offset file place ≡ file_place segment.address
  pub address : p_vaddr file place ≡ segment.address
  pub file_size : p_filesz file place ≡ length segment.bytes
  pub size : p_memsz file place ≡ segment.size

further : (width place more : ℕ) (file : List ℕ) → field width (place + more) file ≡ field width more (drop place file)
unfolding field
further width place more file = ap (little_number width) (sym (drop-drop more place file))

here : (width place : ℕ) (file : List ℕ) → field width place file ≡ field width 0 (drop place file)
unfolding field
here width place file = refl

pub header-at : (place : ℕ) (tail : List ElfField) (rest file : List ℕ) (segment : Segment)
    → drop place file ≡ fields_bytes (program_header segment ++ tail) ++ rest → Fits file segment → IsHeader file place segment
header-at place tail rest file segment is fits = record {
  kind = first_field ∙ omega arith;
  flags = further 4 place 4 file ∙ (ap (field 4 4) is ∙ (read 1 (program_header segment ++ tail) (Byte 0) rest (omega arith) ∙ small_word (flags_of segment) (omega arith)));
  offset = further 8 place 8 file ∙ (ap (field 8 8) is ∙ (read 2 (program_header segment ++ tail) (Byte 0) rest (omega arith) ∙ small (file_place segment.address) (omega arith)));
  address = further 8 place 16 file ∙ (ap (field 8 16) is ∙ (read 3 (program_header segment ++ tail) (Byte 0) rest (omega arith) ∙ small segment.address (omega arith)));
  file_size = further 8 place 32 file ∙ (ap (field 8 32) is ∙ (read 5 (program_header segment ++ tail) (Byte 0) rest (omega arith) ∙ small (length segment.bytes) (omega arith)));
  size = further 8 place 40 file ∙ (ap (field 8 40) is ∙ (read 6 (program_header segment ++ tail) (Byte 0) rest (omega arith) ∙ small segment.size (omega arith)));
}
  where
    small : (n : ℕ) → n < 18446744073709551616 → n % 18446744073709551616 ≡ n
    small n few = omega arith

    small_word : (n : ℕ) → n < 4294967296 → n % 4294967296 ≡ n
    small_word n few = omega arith

    first_field : p_type file place ≡ 1
    first_field = here 4 place file ∙ (ap (field 4 0) is ∙ read 0 (program_header segment ++ tail) (Byte 0) rest (omega arith))

load-passes : (a b c d l x y z : Bool) → a ≡ false → b ≡ false → c ≡ false → d ≡ false → l ≡ true → x ≡ false → y ≡ false → z ≡ false
    → first_of (check a why.TableEnd ∷ check b why.Dynamic ∷ check c why.Interpreter ∷ check d why.ThreadStorage
    ∷ (if l then check x why.Sizes ∷ check y why.FileEnd ∷ check z why.Range ∷ [] else [])) ≡ None
load-passes a b c d l x y z p q r s t u v w = rw (p, q, r, s, t, u, v, w) refl

pub segment-passes : (file : List ℕ) (index place : ℕ) (segment : Segment) → e_phoff file + 56 * index ≡ place
    → place + 56 ≤ length file → IsHeader file place segment → Fits file segment → segment_why file index ≡ None
unfolding segment_why
segment-passes file index place segment at inside header fits =
    let kind : p_type file place ≡ 1 = header.kind in
    let offset : p_offset file place ≡ file_place segment.address = header.offset in
    let address : p_vaddr file place ≡ segment.address = header.address in
    let file_size : p_filesz file place ≡ length segment.bytes = header.file_size in
    let size : p_memsz file place ≡ segment.size = header.size in
    let some : 0 < segment.size = fits.some in
    let whole : length segment.bytes ≡ segment.size = fits.whole in
    let low : 65536 ≤ segment.address = fits.low in
    let high : segment.address + segment.size ≤ 4294967296 = fits.high in
    let ends : file_place segment.address + segment.size ≤ length file = fits.inside in
    rw at
    (load-passes (nat_lt (length file) (place + 56)) (p_type file place == 2) (p_type file place == 3) (p_type file place == 7)
    (is_load file place) (nat_lt (p_memsz file place) (p_filesz file place))
    (nat_lt (length file) (p_offset file place + p_filesz file place)) (is_out_of_range file place) (grind (arith, nat_tests))
    (grind (arith, nat_tests)) (grind (arith, nat_tests)) (grind (arith, nat_tests)) (grind (arith, nat_tests))
    (grind (arith, nat_tests)) (grind (arith, nat_tests)) (grind (arith, nat_tests)))

same_segment : (file : List ℕ) (a z o f g : ℕ) (segment : Segment) → a ≡ segment.address → z ≡ segment.size
    → o ≡ file_place segment.address → f ≡ length segment.bytes → g ≡ flags_of segment → Fits file segment
    → (record {
      address = a;
      size = z;
      bytes = take f (drop o file);
      readable = bit_at g 2 == 1;
      writable = bit_at g 1 == 1;
      executable = bit_at g 0 == 1;
    }) ≡ segment
same_segment file a z o f g segment p q r s t fits =
    rw (p, q, r, s, t, fits.bytes, fits.readable, fits.writable, fits.executable) refl

pub segment-laid : (file : List ℕ) (index place : ℕ) (segment : Segment) → e_phoff file + 56 * index ≡ place
    → IsHeader file place segment → Fits file segment → laid_segment file index ≡ Some segment
unfolding laid_segment
segment-laid file index place segment at header fits =
    let kind : p_type file place ≡ 1 = header.kind in
    let size : p_memsz file place ≡ segment.size = header.size in
    let some : 0 < segment.size = fits.some in
    let laid : (is_load file place && nat_lt 0 (p_memsz file place)) ≡ true = grind (arith, nat_tests) in
    rw (at, laid)
    (ap Some
    (same_segment file (p_vaddr file place) (p_memsz file place) (p_offset file place) (p_filesz file place) (p_flags file place)
    segment header.address header.size header.offset header.file_size header.flags fits))
