-- Files of one and of two program headers, and the image that they mean.
use Rattle.std.proofs.Common.{ℕ, zero, suc, ◌≡◌, ◌+◌, ◌*◌, ◌<◌, ◌≤◌, min, max, arith, refl, sym, ◌∙◌, ap, true, false, Some, None, Ok, List, [], ◌∷◌, ◌++◌, length, drop, append_assoc}
use Rattle.std.specs.Prelude.{◌&&◌, nat_lt}
use Rattle.std.specs.List.{find, range_with_len}
use Rattle.std.proofs.lemmas.Bool.Decides.{nat_tests}
use Rattle.std.proofs.lemmas.List.{drop-drop}
use Rattle.std.proofs.Math.Seq.{drop-append_seam}
use Rattle.osc_image.specs.Image.{Segment, page_permits, page_limit}
use Rattle.osc_image.specs.Form.{e_entry, e_phoff, e_phnum, header_fault, segment_why, table_fault, laid_segment, segments_of, is_write_exec, write_exec_below, map_fault, image_of}
use Rattle.osc_sv39.specs.declared.entries.Access.TheVariants.{Fetch}
use Rattle.osc_asm.specs.declared.header.ElfField.{ElfField}
use Rattle.osc_asm.specs.File.{fields_bytes, file_header, program_header, headers}
use Rattle.osc_asm.proofs.Laying.{fields-append}
use Rattle.osc_asm.proofs.ReadBack.{Fits, header-passes, entry-is, table-is, count-is, header-at, segment-passes, segment-laid}

-- ---- where the program headers stand

header-length : (count : ℕ) → length (fields_bytes (file_header count)) ≡ 64
unfolding fields_bytes
header-length count = refl

load-length : (segment : Segment) → length (fields_bytes (program_header segment)) ≡ 56
unfolding fields_bytes
load-length segment = refl

past : (n : ℕ) (xs ys : List ElfField) (rest : List ℕ) → length (fields_bytes xs) ≡ n
    → drop n (fields_bytes (xs ++ ys) ++ rest) ≡ fields_bytes ys ++ rest
past n xs ys rest len =
    ap (λ b. drop n (b ++ rest)) (fields-append xs ys)
    ∙ (ap (drop n) (append_assoc (fields_bytes xs) (fields_bytes ys) rest)
    ∙ (ap (λ k. drop k (fields_bytes xs ++ (fields_bytes ys ++ rest))) (sym len)
    ∙ drop-append_seam (fields_bytes xs) (fields_bytes ys ++ rest)))

at-64 : (count : ℕ) (tail : List ElfField) (rest file : List ℕ) → file ≡ fields_bytes (file_header count ++ tail) ++ rest
    → drop 64 file ≡ fields_bytes tail ++ rest
at-64 count tail rest file is = ap (drop 64) is ∙ past 64 (file_header count) tail rest (header-length count)

at-120 : (count : ℕ) (segment : Segment) (tail : List ElfField) (rest file : List ℕ)
    → file ≡ fields_bytes (file_header count ++ (program_header segment ++ tail)) ++ rest → drop 120 file ≡ fields_bytes tail ++ rest
at-120 count segment tail rest file is =
    sym (drop-drop 56 64 file)
    ∙ (ap (drop 56) (at-64 count (program_header segment ++ tail) rest file is)
    ∙ past 56 (program_header segment) tail rest (load-length segment))

-- ---- the image

never : (segments : List Segment) (from count : ℕ) → ((page : ℕ) → is_write_exec segments page ≡ false)
    → find (is_write_exec segments) (range_with_len from count) ≡ None
never segments from zero fails = refl
never segments from (suc count) fails = rw (fails from) (never segments (from + 1) count fails)

map-passes : (segments : List Segment) → ((page : ℕ) → is_write_exec segments page ≡ false)
    → page_permits segments Fetch 16 ≡ true → map_fault (record { entry = 65536; segments = segments }) ≡ None
unfolding map_fault write_exec_below
map-passes segments fails entry = rw (never segments 0 page_limit fails, entry) refl

image-is : (file : List ℕ) (segments : List Segment) → header_fault file ≡ None → table_fault file ≡ None → e_entry file ≡ 65536
    → segments_of file (e_phnum file) ≡ segments → map_fault (record { entry = 65536; segments = segments }) ≡ None
    → image_of file ≡ Ok (record { entry = 65536; segments = segments })
unfolding image_of
image-is file segments head table entry laid pages = rw (head, table, entry, laid, pages) refl

table-1 : (file : List ℕ) → e_phnum file ≡ 1 → segment_why file 0 ≡ None → table_fault file ≡ None
unfolding table_fault
table-1 file count first = rw (count, first) refl

segments-1 : (file : List ℕ) (segment : Segment) → e_phnum file ≡ 1 → laid_segment file 0 ≡ Some segment
    → segments_of file (e_phnum file) ≡ segment ∷ []
unfolding segments_of
segments-1 file segment count first = rw (count, first) refl

table-2 : (file : List ℕ) → e_phnum file ≡ 2 → segment_why file 0 ≡ None → segment_why file 1 ≡ None → table_fault file ≡ None
unfolding table_fault
table-2 file count first second = rw (count, first, second) refl

segments-2 : (file : List ℕ) (s t : Segment) → e_phnum file ≡ 2 → laid_segment file 0 ≡ Some s → laid_segment file 1 ≡ Some t
    → segments_of file (e_phnum file) ≡ s ∷ t ∷ []
unfolding segments_of
segments-2 file s t count first second = rw (count, first, second) refl

pub one-segment : (segment : Segment) (rest file : List ℕ) → file ≡ fields_bytes (headers (segment ∷ [])) ++ rest
    → 120 ≤ length file → length file ≤ 16777216 → Fits file segment
    → ((page : ℕ) → is_write_exec (segment ∷ []) page ≡ false) → page_permits (segment ∷ []) Fetch 16 ≡ true
    → image_of file ≡ Ok (record { entry = 65536; segments = segment ∷ [] })
unfolding headers
one-segment segment rest file is long short fits fails entry =
    let tail : List ElfField = program_header segment ++ [] in
    let first = header-at 64 [] rest file segment (at-64 1 tail rest file is) fits in
    let place : e_phoff file + 56 * 0 ≡ 64 = ap (λ n. n + 56 * 0) (table-is 1 tail rest file is) in
    let count = count-is 1 tail rest file is (omega arith) in
    image-is file (segment ∷ []) (header-passes 1 tail rest file is (omega arith) short)
    (table-1 file count (segment-passes file 0 64 segment place (omega arith) first fits)) (entry-is 1 tail rest file is)
    (segments-1 file segment count (segment-laid file 0 64 segment place first fits)) (map-passes (segment ∷ []) fails entry)

pub two-segments : (s t : Segment) (rest file : List ℕ) → file ≡ fields_bytes (headers (s ∷ t ∷ [])) ++ rest
    → 176 ≤ length file → length file ≤ 16777216 → Fits file s → Fits file t
    → ((page : ℕ) → is_write_exec (s ∷ t ∷ []) page ≡ false) → page_permits (s ∷ t ∷ []) Fetch 16 ≡ true
    → image_of file ≡ Ok (record { entry = 65536; segments = s ∷ t ∷ [] })
unfolding headers
two-segments s t rest file is long short fits_s fits_t fails entry =
    let last : List ElfField = program_header t ++ [] in
    let tail : List ElfField = program_header s ++ last in
    let first = header-at 64 last rest file s (at-64 2 tail rest file is) fits_s in
    let second = header-at 120 [] rest file t (at-120 2 s last rest file is) fits_t in
    let place_s : e_phoff file + 56 * 0 ≡ 64 = ap (λ n. n + 56 * 0) (table-is 2 tail rest file is) in
    let place_t : e_phoff file + 56 * 1 ≡ 120 = ap (λ n. n + 56 * 1) (table-is 2 tail rest file is) in
    let count = count-is 2 tail rest file is (omega arith) in
    image-is file (s ∷ t ∷ []) (header-passes 2 tail rest file is (omega arith) short)
    (table-2 file count (segment-passes file 0 64 s place_s (omega arith) first fits_s)
    (segment-passes file 1 120 t place_t (omega arith) second fits_t)) (entry-is 2 tail rest file is)
    (segments-2 file s t count (segment-laid file 0 64 s place_s first fits_s) (segment-laid file 1 120 t place_t second fits_t))
    (map-passes (s ∷ t ∷ []) fails entry)

-- ---- pages

pub first-page : (size : ℕ) → 0 < size → nat_lt (max 65536 (4096 * 16)) (min (65536 + size) (4096 * 16 + 4096)) ≡ true
first-page size some = grind (arith, nat_tests)

pub apart : (page size place more : ℕ) → 65536 + size ≤ 4096 * place
    → (nat_lt (max 65536 (4096 * page)) (min (65536 + size) (4096 * page + 4096))
    && nat_lt (max (4096 * place) (4096 * page)) (min (4096 * place + more) (4096 * page + 4096))) ≡ false
apart page size place more below = grind (arith, nat_tests)
