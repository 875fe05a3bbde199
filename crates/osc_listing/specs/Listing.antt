-- The listing of an image's executable pages: a line for each of their words, with the instruction that
-- the word is, in its one spelling, or its number where it is none. Numbers that begin with 0x are
-- hexadecimal in lower case. This project's own.
use Rattle.std.specs.Prelude.{ℕ, ◌+◌, ◌*◌, Bool, List, [], ◌∷◌, ◌++◌, codes, unwrap_or, Option, Some, None}
use Rattle.std.specs.List.{filter, flat_map, range_with_len}
use Rattle.osc_sv39.specs.declared.entries.Access.TheVariants.{Fetch}
use Rattle.osc_image.specs.Image.{Image, page_permits, byte_at, page_limit}
use Rattle.osc_calls.specs.Lines.{hexadecimal}
use Rattle.osc_rv.specs.declared.instr.Instr.{Instr}
use Rattle.osc_rv.specs.Instr.{instr_of}
use Rattle.osc_text.specs.Text.{text_of}

-- ---- words

abbrev pub instr_text : Option Instr → ℕ → List ℕ
instr_text (Some instr) word = text_of instr
instr_text None word = codes "word 0x" ++ hexadecimal word

abbrev pub word_text : ℕ → List ℕ
word_text word = instr_text (instr_of word) word

-- the line of a word; a newline is 10
unfoldable pub line_text : ℕ → ℕ → List ℕ
line_text address word = codes "0x" ++ hexadecimal address ++ codes " " ++ word_text word ++ 10 ∷ []

-- a word by its bytes, of which the lowest comes first
abbrev pub word_of : ℕ → ℕ → ℕ → ℕ → ℕ
word_of first second third fourth = first + 256 * second + 65536 * third + 16777216 * fourth

-- the byte at an address, 0 where its page is not mapped
abbrev pub byte_of : Image → ℕ → ℕ
byte_of image address = unwrap_or (byte_at image address) 0

abbrev pub word_at : Image → ℕ → ℕ
word_at image address =
    word_of (byte_of image address) (byte_of image (address + 1)) (byte_of image (address + 2)) (byte_of image (address + 3))

-- ---- pages

-- the line of the word at an address
abbrev pub line_at : Image → ℕ → List ℕ
line_at image address = line_text address (word_at image address)

-- the lines of the first words of a page
unfoldable pub first_lines : Image → ℕ → ℕ → List ℕ
first_lines image page count = flat_map (λ index. line_at image (4096 * page + 4 * index)) (range_with_len 0 count)

-- a page has 1024 words
abbrev pub page_text : Image → ℕ → List ℕ
page_text image page = first_lines image page 1024

abbrev pub is_code : Image → ℕ → Bool
is_code image page = page_permits image.segments Fetch page

-- the executable pages below a limit, ascending
abbrev pub code_pages_below : Image → ℕ → List ℕ
code_pages_below image limit = filter (is_code image) (range_with_len 0 limit)

-- their lines
unfoldable pub text_below : Image → ℕ → List ℕ
text_below image limit = flat_map (page_text image) (code_pages_below image limit)

-- ---- the image

abbrev pub listing : Image → List ℕ
listing image = text_below image page_limit
