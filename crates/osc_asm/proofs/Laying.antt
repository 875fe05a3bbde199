-- How long the parts of a file are, and where they stand.
use Rattle.std.proofs.Common.{ℕ, ◌≡◌, ◌+◌, ◌-◌, ◌*◌, ◌<◌, ◌≤◌, arith, refl, sym, ◌∙◌, ap, List, [], ◌∷◌, ◌++◌, length, length-append, append_assoc}
use Rattle.std.specs.Prelude.{replicate}
use Rattle.std.proofs.lemmas.List.{length-replicate, append-nil}
use Rattle.std.proofs.lemmas.Grind.{flat_map-append}
use Rattle.osc_rv.specs.declared.instr.Instr.{Instr}
use Rattle.osc_image.specs.Image.{Segment}
use Rattle.osc_asm.specs.declared.item.Item.{Item}
use Rattle.osc_asm.specs.declared.header.ElfField.{ElfField}
use Rattle.osc_asm.specs.Program.{Program}
use Rattle.osc_asm.specs.Layout.{instrs_from, instrs, address, bytes_address}
use Rattle.osc_asm.specs.File.{words, field_bytes, fields_bytes, code_bytes, code_segment, bytes_segment, segments_with, segments, file_header, program_header, load_header, headers, file_place, laid, all_laid, file}

-- ---- code

length-words : (xs : List Instr) → length (words xs) ≡ 4 * length xs
unfolding words
length-words [] = refl
length-words (x ∷ xs) = let rest = length-words xs in omega arith

length-instrs : (program : Program) (i : ℕ) (items : List Item) → length (instrs_from program i items) ≡ length items
unfolding instrs_from
length-instrs program i [] = refl
length-instrs program i (item ∷ items) = let rest = length-instrs program (i + 1) items in omega arith

pub length-code : (program : Program) → length (code_bytes program) ≡ 4 * length program.code
length-code program =
    length-words (instrs program) ∙ ap (λ n. 4 * n) (length-instrs program 0 program.code)

-- ---- headers

pub fields-append : (xs ys : List ElfField) → fields_bytes (xs ++ ys) ≡ fields_bytes xs ++ fields_bytes ys
unfolding fields_bytes
fields-append xs ys = flat_map-append field_bytes xs ys

length-headers_with : (code bytes : Segment) (piece : List ℕ) → length (fields_bytes (headers (segments_with code bytes piece))) ≤ 176
unfolding fields_bytes headers
length-headers_with code bytes [] = omega arith
length-headers_with code bytes (x ∷ xs) = omega arith

pub length-headers : (program : Program) → length (fields_bytes (headers (segments program))) ≤ 176
length-headers program = length-headers_with (code_segment program) (bytes_segment program) program.bytes

pushed-both_with : (n m address : ℕ) (code bytes : Segment) (piece old a b c : List ℕ) → 0 < length piece
    → program_header code ≡ load_header 5 65536 n n → program_header bytes ≡ load_header 6 address m m
    → a ≡ old ++ fields_bytes (file_header 2) → b ≡ a ++ fields_bytes (load_header 5 65536 n n)
    → c ≡ b ++ fields_bytes (load_header 6 address m m)
    → c ≡ old ++ fields_bytes (headers (segments_with code bytes piece))
unfolding headers
pushed-both_with n m address code bytes [] old a b c some first second at_a at_b at_c = absurd (omega arith)
pushed-both_with n m address code bytes (x ∷ xs) old a b c some first second at_a at_b at_c =
    at_c
    ∙ (ap (λ f. f ++ fields_bytes (load_header 6 address m m))
    (at_b ∙ ap (λ f. f ++ fields_bytes (load_header 5 65536 n n)) at_a)
    ∙ (append_assoc (old ++ fields_bytes (file_header 2)) (fields_bytes (load_header 5 65536 n n)) (fields_bytes (load_header 6 address m m))
    ∙ (append_assoc old (fields_bytes (file_header 2)) (fields_bytes (load_header 5 65536 n n) ++ fields_bytes (load_header 6 address m m))
    ∙ ap (λ f. old ++ f)
    (ap (λ f. fields_bytes (file_header 2) ++ f) (sym (fields-append (load_header 5 65536 n n) (load_header 6 address m m)))
    ∙ (sym (fields-append (file_header 2) (load_header 5 65536 n n ++ load_header 6 address m m))
    ∙ (ap (λ h. fields_bytes (file_header 2 ++ (h ++ load_header 6 address m m))) (sym first)
    ∙ (ap (λ h. fields_bytes (file_header 2 ++ (program_header code ++ h))) (sym second)
    ∙ ap (λ h. fields_bytes (file_header 2 ++ (program_header code ++ h))) (sym (append-nil (program_header bytes))))))))))

pushed-code_with : (n : ℕ) (code bytes : Segment) (piece old a b : List ℕ) → length piece ≡ 0
    → program_header code ≡ load_header 5 65536 n n → a ≡ old ++ fields_bytes (file_header 1)
    → b ≡ a ++ fields_bytes (load_header 5 65536 n n) → b ≡ old ++ fields_bytes (headers (segments_with code bytes piece))
unfolding headers
pushed-code_with n code bytes (x ∷ xs) old a b none first at_a at_b = absurd (omega arith)
pushed-code_with n code bytes [] old a b none first at_a at_b =
    at_b
    ∙ (ap (λ f. f ++ fields_bytes (load_header 5 65536 n n)) at_a
    ∙ (append_assoc old (fields_bytes (file_header 1)) (fields_bytes (load_header 5 65536 n n))
    ∙ ap (λ f. old ++ f)
    (sym (fields-append (file_header 1) (load_header 5 65536 n n))
    ∙ (ap (λ h. fields_bytes (file_header 1 ++ h)) (sym first)
    ∙ ap (λ h. fields_bytes (file_header 1 ++ h)) (sym (append-nil (program_header code)))))))

code-header : (program : Program) → program_header (code_segment program) ≡ load_header 5 65536 (4 * length program.code) (4 * length program.code)
code-header program = ap (λ n. load_header 5 65536 n n) (length-code program)

-- the headers as they are pushed
pub pushed-code : (program : Program) (old a b : List ℕ) → length program.bytes ≡ 0 → a ≡ old ++ fields_bytes (file_header 1)
    → b ≡ a ++ fields_bytes (load_header 5 65536 (4 * length program.code) (4 * length program.code))
    → b ≡ old ++ fields_bytes (headers (segments program))
pushed-code program old a b none =
    pushed-code_with (4 * length program.code) (code_segment program) (bytes_segment program) program.bytes old a b none (code-header program)

pub pushed-both : (program : Program) (old a b c : List ℕ) → 0 < length program.bytes → a ≡ old ++ fields_bytes (file_header 2)
    → b ≡ a ++ fields_bytes (load_header 5 65536 (4 * length program.code) (4 * length program.code))
    → c ≡ b ++ fields_bytes (load_header 6 (bytes_address program) (length program.bytes) (length program.bytes))
    → c ≡ old ++ fields_bytes (headers (segments program))
pushed-both program old a b c some =
    pushed-both_with (4 * length program.code) (length program.bytes) (bytes_address program) (code_segment program)
    (bytes_segment program) program.bytes old a b c some (code-header program) refl

-- ---- pieces

zeros : (n : ℕ) → length (replicate {A = ℕ} n 0) ≡ n
zeros n = length-replicate n 0

pub length-laid : (place : ℕ) (piece old : List ℕ) → length old ≤ place → length (laid place piece old) ≤ place + length piece
length-laid place [] old h = omega arith
length-laid place (x ∷ xs) old h =
    let whole = length-append (old ++ replicate (place - length old) 0) (x ∷ xs) in
    let gap = length-append old (replicate (place - length old) 0) in
    let none = zeros (place - length old) in omega arith

pub length-laid_some : (place : ℕ) (piece old : List ℕ) → length old ≤ place → 0 < length piece
    → length (laid place piece old) ≡ place + length piece
length-laid_some place [] old h some = absurd (omega arith)
length-laid_some place (x ∷ xs) old h some =
    let whole = length-append (old ++ replicate (place - length old) 0) (x ∷ xs) in
    let gap = length-append old (replicate (place - length old) 0) in
    let none = zeros (place - length old) in omega arith

-- ---- the file

pub file-laid : (program : Program) → file program
    ≡ laid (file_place (bytes_address program)) program.bytes
    (laid 4096 (code_bytes program) (fields_bytes (headers (segments program))))
unfolding file
file-laid program = at program.bytes (fields_bytes (headers (segments program)))
  where
    at : (piece head : List ℕ) → all_laid (segments_with (code_segment program) (record (bytes_segment program) { bytes = piece; size = length piece }) piece) head
        ≡ laid (file_place (bytes_address program)) piece (laid 4096 (code_bytes program) head)
    at [] head = refl
    at (x ∷ xs) head = refl

pub code-fits : (program : Program) → length (laid 4096 (code_bytes program) (fields_bytes (headers (segments program))))
    ≤ file_place (bytes_address program)
code-fits program =
    let head = length-headers program in
    let code = length-code program in
    let most = length-laid 4096 (code_bytes program) (fields_bytes (headers (segments program))) (omega arith) in
    let up : address (length program.code) ≤ bytes_address program = omega arith in
    omega arith

pub size-bytes : (program : Program) → 0 < length program.bytes
    → length (file program) ≡ file_place (bytes_address program) + length program.bytes
size-bytes program some =
    ap length (file-laid program)
    ∙ length-laid_some (file_place (bytes_address program)) program.bytes
    (laid 4096 (code_bytes program) (fields_bytes (headers (segments program)))) (code-fits program) some

pub size-code : (program : Program) → length program.bytes ≡ 0 → 0 < length program.code
    → length (file program) ≡ 4096 + 4 * length program.code
size-code program none some =
    let head = length-headers program in
    let code = length-code program in
    ap length (file-laid program)
    ∙ (without (file_place (bytes_address program)) program.bytes
    (laid 4096 (code_bytes program) (fields_bytes (headers (segments program)))) none
    ∙ (length-laid_some 4096 (code_bytes program) (fields_bytes (headers (segments program))) (omega arith) (omega arith)
    ∙ omega arith))
  where
    without : (place : ℕ) (piece old : List ℕ) → length piece ≡ 0 → length (laid place piece old) ≡ length old
    without place [] old none = refl
    without place (x ∷ xs) old none = absurd (omega arith)

pub size-none : (program : Program) → length program.bytes ≡ 0 → length program.code ≡ 0 → length (file program) ≡ 120
unfolding fields_bytes headers
size-none program none empty =
    let code = length-code program in
    ap length (file-laid program) ∙ at (file_place (bytes_address program)) program.bytes (code_bytes program) none (omega arith)
  where
    at : (place : ℕ) (piece code : List ℕ) → length piece ≡ 0 → length code ≡ 0
        → length (laid place piece (laid 4096 code (fields_bytes (headers (segments_with (code_segment program) (bytes_segment program) piece))))) ≡ 120
    at place [] [] none empty = refl
    at place [] (x ∷ xs) none empty = absurd (omega arith)
    at place (x ∷ xs) code none empty = absurd (omega arith)

pub ruleset sizes = (size-bytes, size-code, size-none)

-- ---- bounds of a program whose file is short

pub few-bytes : (program : Program) → length (file program) ≤ 16777216 → length program.bytes ≤ 16777216
few-bytes program short = at program.bytes refl
  where
    at : (piece : List ℕ) → program.bytes ≡ piece → length program.bytes ≤ 16777216
    at [] is = let none = ap length is in omega arith
    at (x ∷ xs) is = let some = ap length is in let size = size-bytes program (omega arith) in omega arith

pub little-code : (program : Program) → length (file program) ≤ 16777216 → length program.code ≤ 4194304
little-code program short =
    let code = length-code program in
    let head = length-headers program in
    let both = ap length (file-laid program) in
    let laid_code = longer 4096 (code_bytes program) (fields_bytes (headers (segments program))) in
    let laid_bytes = longer (file_place (bytes_address program)) program.bytes
    (laid 4096 (code_bytes program) (fields_bytes (headers (segments program)))) in
    omega arith
  where
    longer : (place : ℕ) (piece old : List ℕ) → length old + length piece ≤ length (laid place piece old)
    longer place [] old = omega arith
    longer place (x ∷ xs) old =
        let whole = length-append (old ++ replicate (place - length old) 0) (x ∷ xs) in
        let gap = length-append old (replicate (place - length old) 0) in omega arith
