-- The file of a program means the image of the program.
use Rattle.std.proofs.Common.{ℕ, zero, suc, ◌≡◌, ◌+◌, ◌-◌, ◌*◌, ◌/◌, ◌<◌, ◌≤◌, arith, refl, sym, ◌∙◌, ap, Bool, true, false, Ok, List, [], ◌∷◌, ◌++◌, length, take, drop, append_assoc, length-append}
use Rattle.std.specs.Prelude.{◌&&◌, ◌||◌, replicate}
use Rattle.std.proofs.lemmas.List.{length-replicate, append-nil}
use Rattle.std.proofs.Math.Seq.{drop-append_seam, take-append_seam}
use Rattle.osc_image.specs.Image.{Segment, touches, page_permits}
use Rattle.osc_image.specs.Form.{is_write_exec, image_of}
use Rattle.osc_sv39.specs.declared.entries.Access.TheVariants.{Fetch}
use Rattle.osc_asm.specs.Program.{Program}
use Rattle.osc_asm.specs.Layout.{bytes_address}
use Rattle.osc_asm.specs.File.{fields_bytes, headers, code_bytes, code_segment, bytes_segment, segments_with, segments, image, file_place, laid, file}
use Rattle.osc_asm.proofs.Laying.{length-code, length-headers, file-laid, code-fits, size-bytes, size-code}
use Rattle.osc_asm.proofs.ReadBack.{Fits}
use Rattle.osc_asm.proofs.Image.{one-segment, two-segments, first-page, apart}

-- ---- pieces in a file

-- a piece stands at the place that is as far as what stands before it
piece-at : (place : ℕ) (before piece after whole : List ℕ) → whole ≡ (before ++ piece) ++ after → length before ≡ place
    → take (length piece) (drop place whole) ≡ piece
piece-at place before piece after whole is len =
    ap (λ xs. take (length piece) (drop place xs)) (is ∙ append_assoc before piece after)
    ∙ (ap (λ n. take (length piece) (drop n (before ++ (piece ++ after)))) (sym len)
    ∙ (ap (take (length piece)) (drop-append_seam before (piece ++ after)) ∙ take-append_seam piece after))

unfoldable filled : ℕ → List ℕ → List ℕ
filled place old = old ++ replicate (place - length old) 0

length-filled : (place : ℕ) (old : List ℕ) → length old ≤ place → length (filled place old) ≡ place
unfolding filled
length-filled place old low =
    let both = length-append old (replicate (place - length old) 0) in
    let none = zeros (place - length old) in omega arith
  where
    zeros : (n : ℕ) → length (replicate {A = ℕ} n 0) ≡ n
    zeros n = length-replicate n 0

laid-some : (place : ℕ) (piece old : List ℕ) → 0 < length piece → laid place piece old ≡ filled place old ++ piece
unfolding filled
laid-some place [] old some = absurd (omega arith)
laid-some place (x ∷ xs) old some = refl

laid-none : (place : ℕ) (piece old : List ℕ) → length piece ≡ 0 → laid place piece old ≡ old
laid-none place [] old none = refl
laid-none place (x ∷ xs) old none = absurd (omega arith)

-- ---- the segments

one-of : (code bytes : Segment) (piece : List ℕ) → length piece ≡ 0 → segments_with code bytes piece ≡ code ∷ []
one-of code bytes [] none = refl
one-of code bytes (x ∷ xs) none = absurd (omega arith)

two-of : (code bytes : Segment) (piece : List ℕ) → 0 < length piece → segments_with code bytes piece ≡ code ∷ bytes ∷ []
two-of code bytes [] some = absurd (omega arith)
two-of code bytes (x ∷ xs) some = refl

code-fits_in : (program : Program) (whole after : List ℕ)
    → whole ≡ (filled 4096 (fields_bytes (headers (segments program))) ++ code_bytes program) ++ after → length whole ≤ 16777216
    → 0 < length program.code → Fits whole (code_segment program)
code-fits_in program whole after is short some =
    let code = length-code program in
    let head = length-headers program in
    let start = length-filled 4096 (fields_bytes (headers (segments program))) (omega arith) in
    let all = ap length is in
    let parts = length-append (filled 4096 (fields_bytes (headers (segments program))) ++ code_bytes program) after in
    let front = length-append (filled 4096 (fields_bytes (headers (segments program)))) (code_bytes program) in
    record {
      some = omega arith;
      whole = refl;
      low = omega arith;
      high = omega arith;
      inside = omega arith;
      bytes = piece-at 4096 (filled 4096 (fields_bytes (headers (segments program)))) (code_bytes program) after whole is start;
      flags = omega arith;
      readable = refl;
      writable = refl;
      executable = refl;
    }

bytes-fit_in : (program : Program) (whole before : List ℕ) → whole ≡ before ++ program.bytes
    → length before ≡ file_place (bytes_address program) → length whole ≤ 16777216 → 0 < length program.bytes
    → Fits whole (bytes_segment program)
bytes-fit_in program whole before is len short some =
    let all = ap length is in
    let parts = length-append before program.bytes in
    record {
      some = some;
      whole = refl;
      low = omega arith;
      high = omega arith;
      inside = omega arith;
      bytes =
          piece-at (file_place (bytes_address program)) before program.bytes [] whole (is ∙ sym (append-nil (before ++ program.bytes))) len;
      flags = omega arith;
      readable = refl;
      writable = refl;
      executable = refl;
    }

-- ---- pages

not-both : (a b : Bool) → (a && b) ≡ false → (((a && false) || ((b && true) || false)) && ((a && true) || ((b && false) || false))) ≡ false
not-both true true h = h
not-both true false h = refl
not-both false true h = refl
not-both false false h = refl

not-written : (a : Bool) → (((a && false) || false) && ((a && true) || false)) ≡ false
not-written true = refl
not-written false = refl

one-page : (program : Program) (page : ℕ) → is_write_exec (code_segment program ∷ []) page ≡ false
unfolding page_permits
one-page program page = not-written (touches page (code_segment program))

two-pages : (program : Program) (page : ℕ) → is_write_exec (code_segment program ∷ bytes_segment program ∷ []) page ≡ false
unfolding page_permits
two-pages program page =
    let code = length-code program in
    not-both (touches page (code_segment program)) (touches page (bytes_segment program))
    (apart page (length (code_bytes program)) ((65536 + 4 * length program.code + 4095) / 4096) (length program.bytes) (omega arith))

entry-page : (program : Program) (more : List Segment) → 0 < length program.code → page_permits (code_segment program ∷ more) Fetch 16 ≡ true
unfolding page_permits
entry-page program more some =
    let code = length-code program in rw (first-page (length (code_bytes program)) (omega arith)) refl

-- ---- the whole

-- what follows the headers: zeros, the code and what is after it
abbrev past_headers : Program → List ℕ → List ℕ
past_headers program after =
    replicate (4096 - length (fields_bytes (headers (segments program)))) 0 ++ (code_bytes program ++ after)

begins : (program : Program) (whole after : List ℕ)
    → whole ≡ (filled 4096 (fields_bytes (headers (segments program))) ++ code_bytes program) ++ after
    → whole ≡ fields_bytes (headers (segments program)) ++ past_headers program after
unfolding filled
begins program whole after is =
    is
    ∙ (append_assoc (fields_bytes (headers (segments program)) ++ replicate (4096 - length (fields_bytes (headers (segments program)))) 0)
    (code_bytes program) after
    ∙ append_assoc (fields_bytes (headers (segments program)))
    (replicate (4096 - length (fields_bytes (headers (segments program)))) 0) (code_bytes program ++ after))

without_bytes : (program : Program) → length (file program) ≤ 16777216 → 0 < length program.code → length program.bytes ≡ 0
    → image_of (file program) ≡ Ok (image program)
without_bytes program short some none =
    let size = size-code program none some in
    let code = length-code program in
    let is : file program ≡ (filled 4096 (fields_bytes (headers (segments program))) ++ code_bytes program) ++ [] =
    file-laid program
    ∙ (laid-none (file_place (bytes_address program)) program.bytes (laid 4096 (code_bytes program) (fields_bytes (headers (segments program)))) none
    ∙ (laid-some 4096 (code_bytes program) (fields_bytes (headers (segments program))) (omega arith)
    ∙ sym (append-nil (filled 4096 (fields_bytes (headers (segments program))) ++ code_bytes program)))) in
    let single = one-of (code_segment program) (bytes_segment program) program.bytes none in
    one-segment (code_segment program) _ (file program)
    (begins program (file program) [] is ∙ ap (λ s. fields_bytes (headers s) ++ past_headers program []) single) (omega arith) short
    (code-fits_in program (file program) [] is short some) (one-page program) (entry-page program [] some)
    ∙ ap (λ s. Ok (record { entry = 65536; segments = s })) (sym single)

with_bytes : (program : Program) → length (file program) ≤ 16777216 → 0 < length program.code → 0 < length program.bytes
    → image_of (file program) ≡ Ok (image program)
unfolding filled
with_bytes program short some more =
    let size = size-bytes program more in
    let code = length-code program in
    let part : laid 4096 (code_bytes program) (fields_bytes (headers (segments program)))
    ≡ filled 4096 (fields_bytes (headers (segments program))) ++ code_bytes program =
    laid-some 4096 (code_bytes program) (fields_bytes (headers (segments program))) (omega arith) in
    let last : file program
    ≡ filled (file_place (bytes_address program)) (laid 4096 (code_bytes program) (fields_bytes (headers (segments program)))) ++ program.bytes =
    file-laid program
    ∙ laid-some (file_place (bytes_address program)) program.bytes
    (laid 4096 (code_bytes program) (fields_bytes (headers (segments program)))) more in
    let start = length-filled (file_place (bytes_address program))
    (laid 4096 (code_bytes program) (fields_bytes (headers (segments program)))) (code-fits program) in
    let after : List ℕ =
    replicate (file_place (bytes_address program) - length (laid 4096 (code_bytes program) (fields_bytes (headers (segments program))))) 0
    ++ program.bytes in
    let is = split (file_place (bytes_address program)) (laid 4096 (code_bytes program) (fields_bytes (headers (segments program))))
    (filled 4096 (fields_bytes (headers (segments program))) ++ code_bytes program) program.bytes (file program) last part in
    let both = two-of (code_segment program) (bytes_segment program) program.bytes more in
    two-segments (code_segment program) (bytes_segment program) _ (file program)
    (begins program (file program) after is ∙ ap (λ s. fields_bytes (headers s) ++ past_headers program after) both) (omega arith) short
    (code-fits_in program (file program) after is short some)
    (bytes-fit_in program (file program) _ last start short more) (two-pages program)
    (entry-page program (bytes_segment program ∷ []) some)
    ∙ ap (λ s. Ok (record { entry = 65536; segments = s })) (sym both)
  where
    split : (place : ℕ) (old front piece whole : List ℕ) → whole ≡ filled place old ++ piece → old ≡ front
        → whole ≡ front ++ (replicate (place - length old) 0 ++ piece)
    split place old front piece whole is same =
        is
        ∙ (append_assoc old (replicate (place - length old) 0) piece
        ∙ ap (λ f. f ++ (replicate (place - length old) 0 ++ piece)) same)

pub reads-back : (program : Program) → length (file program) ≤ 16777216 → 0 < length program.code
    → image_of (file program) ≡ Ok (image program)
reads-back program short some = at (length program.bytes) refl
  where
    at : (count : ℕ) → length program.bytes ≡ count → image_of (file program) ≡ Ok (image program)
    at zero is = without_bytes program short some is
    at (suc count) is = with_bytes program short some (omega arith)
