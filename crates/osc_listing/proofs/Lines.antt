-- One more line of a page, and one more page.
use Rattle.std.proofs.Common.{◌≡◌, ℕ, ◌+◌, ◌*◌, ◌<◌, true, false, List, [], ◌∷◌, ◌++◌, codes, slice_index, zero-add, append_assoc, append-nil, refl, sym, ap, ◌∙◌, arith}
use Rattle.std.specs.List.{filter, flat_map, range_with_len}
use Rattle.std.proofs.lemmas.Grind.{flat_map-append}
use Rattle.std.proofs.lemmas.List.Elements.{filter-append}
use Rattle.osc_image.specs.Image.{Image, page_limit}
use Rattle.osc_elf.proofs.Ranges.{range-more}
use Rattle.osc_calls.specs.Lines.{hexadecimal}
use Rattle.osc_listing.specs.Listing.{line_text, word_text, word_of, word_at, byte_of, line_at, first_lines, page_text, is_code, code_pages_below, text_below, listing}

-- a line was appended piece by piece
pub line-pieces : (address word : ℕ) (start number blank spelled whole : List ℕ) → start ≡ [] → number ≡ start ++ codes "0x" ++ hexadecimal address
    → blank ≡ number ++ codes " " → spelled ≡ blank ++ word_text word → whole ≡ spelled ++ codes "\n" → whole ≡ line_text address word
unfolding line_text
line-pieces address word start number blank spelled whole a b c d e =
    rw (e, d, c, b, a) refl

-- the text of one more at the end
more : (f : ℕ → List ℕ) (xs : List ℕ) (x : ℕ) {ys : List ℕ} → ys ≡ xs ++ x ∷ [] → flat_map f ys ≡ flat_map f xs ++ f x
more f xs x is = ap (flat_map f) is ∙ (flat_map-append f xs (x ∷ []) ∙ ap (λ text. flat_map f xs ++ text) (append-nil (f x)))

-- ---- words

pub word-shown : (image : Image) (page at : ℕ) (bytes : List ℕ) → at + 3 < 4096
    → ((i : ℕ) → i < 4096 → slice_index bytes i ≡ byte_of image (4096 * page + i))
    → word_of (slice_index bytes at) (slice_index bytes (at + 1)) (slice_index bytes (at + 2)) (slice_index bytes (at + 3))
    ≡ word_at image (4096 * page + at)
word-shown image page at bytes h each =
    let one : 4096 * page + (at + 1) ≡ 4096 * page + at + 1 = omega arith in
    let two : 4096 * page + (at + 2) ≡ 4096 * page + at + 2 = omega arith in
    let three : 4096 * page + (at + 3) ≡ 4096 * page + at + 3 = omega arith in
    rw (
      each at (omega (arith, h)),
      each (at + 1) (omega (arith, h)) ∙ ap (byte_of image) one,
      each (at + 2) (omega (arith, h)) ∙ ap (byte_of image) two,
      each (at + 3) (omega (arith, h)) ∙ ap (byte_of image) three,
    ) refl

lines-next : (image : Image) (page index : ℕ)
    → first_lines image page (index + 1) ≡ first_lines image page index ++ line_at image (4096 * page + 4 * index)
unfolding first_lines
lines-next image page index = more (λ i. line_at image (4096 * page + 4 * i)) (range_with_len 0 index) index (range-more 0 index ∙ ap (λ x. range_with_len 0 index ++ x ∷ []) (zero-add index))

-- the text has the lines before an index, and then one more
pub line-next : (image : Image) (page index address word : ℕ) (old before after : List ℕ) → before ≡ old ++ first_lines image page index
    → address ≡ 4096 * page + 4 * index → word ≡ word_at image (4096 * page + 4 * index) → after ≡ before ++ line_text address word
    → after ≡ old ++ first_lines image page (index + 1)
line-next image page index address word old before after is at shown appended =
    appended ∙ rw (is, at, shown)
    (append_assoc old (first_lines image page index) (line_at image (4096 * page + 4 * index))
    ∙ ap (λ text. old ++ text) (sym (lines-next image page index)))

pub lines-none : (image : Image) (page : ℕ) (old : List ℕ) → old ≡ old ++ first_lines image page 0
unfolding first_lines
lines-none image page old = sym (append-nil old)

-- ---- pages

code-next : (image : Image) (page : ℕ)
    → code_pages_below image (page + 1) ≡ code_pages_below image page ++ filter (is_code image) (page ∷ [])
code-next image page =
    ap (filter (is_code image)) (range-more 0 page ∙ ap (λ x. range_with_len 0 page ++ x ∷ []) (omega arith))
    ∙ filter-append (is_code image) (range_with_len 0 page) (page ∷ [])

pub page-next : (image : Image) (page : ℕ) → is_code image page ≡ true
    → text_below image (page + 1) ≡ text_below image page ++ page_text image page
unfolding text_below
page-next image page code =
    more (page_text image) (code_pages_below image page) page (code-next image page ∙ rw code refl)

pub page-passed : (image : Image) (page : ℕ) → is_code image page ≡ false → text_below image (page + 1) ≡ text_below image page
unfolding text_below
page-passed image page none =
    ap (flat_map (page_text image)) (code-next image page ∙ rw none (append-nil (code_pages_below image page)))

pub page-none : (image : Image) → text_below image 0 ≡ []
unfolding text_below
page-none image = refl

pub page-all : (image : Image) (page : ℕ) → page ≡ 1048576 → text_below image page ≡ listing image
unfolding page_limit
page-all image page end = ap (text_below image) end

pub ruleset page_steps = (page-none, page-next, page-passed)
