-- How the frames of the pages of the classes' areas are kept. This project's own.
use Rattle.std.specs.Prelude.{ℕ, ◌+◌, ◌*◌, ◌/◌, ◌%◌, List, Option, None, map, slice_index_or}
use Rattle.std.specs.List.{range_with_len}

-- the place of a page's entry: the first pages of all 13 areas stand before their second ones
abbrev pub entry_place : ℕ → ℕ → ℕ
entry_place frames page = page % frames * 13 + page / frames

-- the frame of each page, where each area has so many; a page past the entries has none
abbrev pub table_of : ℕ → List (Option ℕ) → List (Option ℕ)
table_of frames entries = map (λ page. slice_index_or entries (entry_place frames page) None) (range_with_len 0 (13 * frames))
