-- The pages of a program's image, and their bytes.
use Rattle.std.proofs.Common.{ℕ, zero, suc, ◌≡◌, ◌+◌, ◌-◌, ◌*◌, ◌/◌, ◌<◌, ◌≤◌, min, max, arith, refl, sym, ◌∙◌, ap, Bool, true, false, cond, Option, Some, None, List, [], ◌∷◌, length, get_or}
use Rattle.std.specs.Prelude.{◌&&◌, ◌||◌, nat_lt, nat_le, if◌then◌else◌, is_some, option_map, slice_index}
use Rattle.std.proofs.lemmas.Bool.Decides.{nat_tests}
use Rattle.std.specs.Option.{option_map_or}
use Rattle.osc_sv39.specs.declared.flags.PteBits.{PteBits}
use Rattle.osc_sv39.specs.declared.entries.Access.{Access}
use Rattle.osc_sv39.specs.declared.entries.Access.TheVariants.{Fetch, Load, Store}
use Rattle.osc_image.specs.Image.{Segment, touches, permits, page_permits, bits_of, bits_at, covers, byte_in, laid_byte}
use Rattle.osc_asm.specs.Program.{Program}
use Rattle.osc_asm.specs.Layout.{bytes_address}
use Rattle.osc_asm.specs.File.{code_bytes, code_segment, bytes_segment, segments_with, segments, image}
use Rattle.osc_asm.specs.Loaded.{is_code_page, is_bytes_page, page_bits, byte_of, HasPages}
use Rattle.osc_asm.proofs.Laying.{length-code}
use Rattle.osc_asm.proofs.Image.{apart}

-- ---- permissions

or-false : (a : Bool) → (a || false) ≡ a
or-false true = refl
or-false false = refl

permits-both : (code bytes : Segment) (piece : List ℕ) (access : Access) (page : ℕ)
    → (length piece ≡ 0 → touches page bytes ≡ false)
    → page_permits (segments_with code bytes piece) access page
    ≡ ((touches page code && permits code access) || (touches page bytes && permits bytes access))
unfolding page_permits
permits-both code bytes [] access page none = rw (none refl) refl
permits-both code bytes (x ∷ xs) access page none =
    ap (λ b. (touches page code && permits code access) || b) (or-false (touches page bytes && permits bytes access))

touches-code : (size page : ℕ) → 0 < size
    → nat_lt (max 65536 (4096 * page)) (min (65536 + size) (4096 * page + 4096)) ≡ (nat_le 16 page && nat_lt (4096 * page) (65536 + size))
touches-code size page some = grind (arith, nat_tests)

touches-bytes : (place more page : ℕ)
    → nat_lt (max (4096 * place) (4096 * page)) (min (4096 * place + more) (4096 * page + 4096))
    ≡ (nat_le (4096 * place) (4096 * page) && nat_lt (4096 * page) (4096 * place + more))
touches-bytes place more page = grind (arith, nat_tests)

no-touch : (place page : ℕ) → nat_lt (max (4096 * place) (4096 * page)) (min (4096 * place + 0) (4096 * page + 4096)) ≡ false
no-touch place page = grind (arith, nat_tests)

bits-of : (a b : Bool) → (a && b) ≡ false
    → bits_of ((a && (true || false)) || (b && (true || true))) ((a && false) || (b && true)) ((a && true) || (b && false))
    ≡ (if a then Some (record { 0 = 10 }) else if b then Some (record { 0 = 6 }) else None)
bits-of true true h = absurd (cc)
bits-of true false h = refl
bits-of false true h = refl
bits-of false false h = refl

-- whether code and bytes are on a page
code-touches : (program : Program) (page : ℕ) → 0 < length program.code → touches page (code_segment program) ≡ is_code_page program page
code-touches program page some =
    let code = length-code program in
    touches-code (length (code_bytes program)) page (omega arith) ∙ ap (λ n. nat_le 16 page && nat_lt (4096 * page) (65536 + n)) code

bytes-touch : (program : Program) (page : ℕ) → touches page (bytes_segment program) ≡ is_bytes_page program page
bytes-touch program page = touches-bytes ((65536 + 4 * length program.code + 4095) / 4096) (length program.bytes) page

no-bytes : (program : Program) (page : ℕ) → length program.bytes ≡ 0 → touches page (bytes_segment program) ≡ false
no-bytes program page none =
    ap (λ n. nat_lt (max (bytes_address program) (4096 * page)) (min (bytes_address program + n) (4096 * page + 4096))) none
    ∙ no-touch ((65536 + 4 * length program.code + 4095) / 4096) page

page-of : (program : Program) (page : ℕ) → 0 < length program.code → bits_at (image program) page ≡ page_bits program page
page-of program page some =
    let code = length-code program in
    ap (λ r. bits_of r (page_permits (segments program) Store page) (page_permits (segments program) Fetch page))
    (permits-both (code_segment program) (bytes_segment program) program.bytes Load page (no-bytes program page))
    ∙ (ap (λ w. bits_of ((touches page (code_segment program) && (true || false)) || (touches page (bytes_segment program) && (true || true))) w
    (page_permits (segments program) Fetch page))
    (permits-both (code_segment program) (bytes_segment program) program.bytes Store page (no-bytes program page))
    ∙ (ap (λ x. bits_of ((touches page (code_segment program) && (true || false)) || (touches page (bytes_segment program) && (true || true)))
    ((touches page (code_segment program) && false) || (touches page (bytes_segment program) && true)) x)
    (permits-both (code_segment program) (bytes_segment program) program.bytes Fetch page (no-bytes program page))
    ∙ (bits-of (touches page (code_segment program)) (touches page (bytes_segment program))
    (apart page (length (code_bytes program)) ((65536 + 4 * length program.code + 4095) / 4096) (length program.bytes) (omega arith))
    ∙ (ap (λ a. if a then Some (record { 0 = 10 }) else if touches page (bytes_segment program) then Some (record { 0 = 6 }) else None)
    (code-touches program page some)
    ∙ ap (λ b. if is_code_page program page then Some (record { 0 = 10 }) else if b then Some (record { 0 = 6 }) else None)
    (bytes-touch program page)))))

-- ---- bytes

past : (xs : List ℕ) (i : ℕ) → length xs ≤ i → get_or xs i 0 ≡ 0
past [] i h = refl
past (x ∷ xs) zero h = absurd (omega arith)
past (x ∷ xs) (suc i) h = past xs i (omega arith)

or-zero : (inside : Bool) (xs : List ℕ) (i : ℕ) → (inside ≡ false → length xs ≤ i) → (if inside then get_or xs i 0 else 0) ≡ get_or xs i 0
or-zero true xs i h = refl
or-zero false xs i h = sym (past xs i (h refl))

laid-one : (covered : Bool) (place : ℕ) (segment : Segment)
    → option_map_or (byte_in place) (cond covered (Some segment) None) 0 ≡ (if covered then byte_in place segment else 0)
laid-one true place segment = refl
laid-one false place segment = refl

laid-two : (a b : Bool) (place : ℕ) (s t : Segment)
    → option_map_or (byte_in place) (cond a (Some s) (cond b (Some t) None)) 0
    ≡ (if a then byte_in place s else if b then byte_in place t else 0)
laid-two true b place s t = refl
laid-two false true place s t = refl
laid-two false false place s t = refl

laid-both : (code bytes : Segment) (piece : List ℕ) (place : ℕ) → (length piece ≡ 0 → covers place bytes ≡ false)
    → laid_byte (segments_with code bytes piece) place
    ≡ (if covers place bytes then byte_in place bytes else if covers place code then byte_in place code else 0)
unfolding laid_byte
laid-both code bytes [] place none = rw (none refl) (laid-one (covers place code) place code)
laid-both code bytes (x ∷ xs) place none = laid-two (covers place bytes) (covers place code) place bytes code

byte-low : (code : List ℕ) (place start more x : ℕ) → 65536 ≤ place → place < start
    → (if nat_le start place && nat_lt place (start + more) then x
    else if nat_le 65536 place && nat_lt place (65536 + length code) then get_or code (place - 65536) 0 else 0)
    ≡ get_or code (place - 65536) 0
byte-low code place start more x low below =
    let above : (nat_le start place && nat_lt place (start + more)) ≡ false = grind (arith, nat_tests) in
    let last : (nat_le 65536 place && nat_lt place (65536 + length code)) ≡ false → length code ≤ place - 65536 = after (length code) place low in
    rw above (or-zero (nat_le 65536 place && nat_lt place (65536 + length code)) code (place - 65536) last)
  where
    after : (n place : ℕ) → 65536 ≤ place → (nat_le 65536 place && nat_lt place (65536 + n)) ≡ false → n ≤ place - 65536
    after n place low h = grind (arith, nat_tests)

byte-high : (bytes : List ℕ) (place start size y : ℕ) → 65536 + size ≤ start → start ≤ place
    → (if nat_le start place && nat_lt place (start + length bytes) then get_or bytes (place - start) 0
    else if nat_le 65536 place && nat_lt place (65536 + size) then y else 0)
    ≡ get_or bytes (place - start) 0
byte-high bytes place start size y low above =
    let below : (nat_le 65536 place && nat_lt place (65536 + size)) ≡ false = grind (arith, nat_tests) in
    let last : (nat_le start place && nat_lt place (start + length bytes)) ≡ false → length bytes ≤ place - start =
    after (length bytes) start place above in
    rw below (or-zero (nat_le start place && nat_lt place (start + length bytes)) bytes (place - start) last)
  where
    after : (n start place : ℕ) → start ≤ place → (nat_le start place && nat_lt place (start + n)) ≡ false → n ≤ place - start
    after n start place above h = grind (arith, nat_tests)

no-cover : (start place : ℕ) → (nat_le start place && nat_lt place (start + 0)) ≡ false
no-cover start place = grind (arith, nat_tests)

laid-is : (program : Program) (place : ℕ) → 65536 ≤ place → laid_byte (segments program) place ≡ byte_of program place
laid-is program place low =
    laid-both (code_segment program) (bytes_segment program) program.bytes place
    (λ none. ap (λ n. nat_le (bytes_address program) place && nat_lt place (bytes_address program + n)) none ∙ no-cover (bytes_address program) place)
    ∙ at (nat_lt place (bytes_address program)) refl
  where
    at : (b : Bool) → nat_lt place (bytes_address program) ≡ b
        → (if covers place (bytes_segment program) then byte_in place (bytes_segment program)
        else if covers place (code_segment program) then byte_in place (code_segment program) else 0)
        ≡ (if b then slice_index (code_bytes program) (place - 65536) else slice_index program.bytes (place - bytes_address program))
    at true is =
        byte-low (code_bytes program) place (bytes_address program) (length program.bytes)
        (byte_in place (bytes_segment program)) low (grind (arith, nat_tests))
    at false is =
        let code = length-code program in
        let reaches : 65536 + length (code_bytes program) ≤ bytes_address program = omega arith in
        byte-high program.bytes place (bytes_address program) (length (code_bytes program)) (byte_in place (code_segment program))
        reaches (grind (arith, nat_tests))

abbrev absent : Option PteBits
absent = None

mapped-low : (program : Program) (place : ℕ) → is_some (page_bits program (place / 4096)) ≡ true → 65536 ≤ place
mapped-low program place = at (is_code_page program (place / 4096)) (is_bytes_page program (place / 4096)) first second
  where
    first : is_code_page program (place / 4096) ≡ true → 65536 ≤ place
    first h = grind (arith, nat_tests)

    second : is_bytes_page program (place / 4096) ≡ true → 65536 ≤ place
    second h = grind (arith, nat_tests)

    at : (a b : Bool) → (a ≡ true → 65536 ≤ place) → (b ≡ true → 65536 ≤ place)
        → is_some (if a then Some (record { 0 = 10 }) else if b then Some (record { 0 = 6 }) else absent) ≡ true → 65536 ≤ place
    at true b p q h = p refl
    at false true p q h = q refl
    at false false p q h = absurd (cc)

map-some : (bits : Option PteBits) (laid byte : ℕ) → (is_some bits ≡ true → laid ≡ byte)
    → (if is_some bits then Some laid else None) ≡ option_map (λ _. byte) bits
map-some None laid byte h = refl
map-some (Some bits) laid byte h = ap Some (h refl)

pub has-pages : (program : Program) → 0 < length program.code → HasPages program
has-pages program some = record {
  bits = (λ page. page-of program page some);
  bytes = (λ place.
      ap (λ bits. if is_some bits then Some (laid_byte (segments program) place) else None) (page-of program (place / 4096) some)
      ∙ map-some (page_bits program (place / 4096)) (laid_byte (segments program) place) (byte_of program place)
      (λ mapped. laid-is program place (mapped-low program place mapped)));
}
