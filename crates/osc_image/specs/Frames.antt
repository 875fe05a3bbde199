-- The frames of memory that an image needs before its first instruction: its pages, the pages of its
-- stack, and the page tables of all these. RISC-V Privileged manual, "Sv39: Page-Based 39-bit
-- Virtual-Memory System" and "Sv48": a root table, and below it one for each different number VPN of
-- the topmost level, for each different pair of the two topmost ones, and so on. Where the stack stands
-- is this project's own.
use Rattle.std.specs.Prelude.{ℕ, zero, suc, ◌+◌, ◌-◌, ◌==◌, if◌then◌else◌, List, [], ◌∷◌, ◌++◌, length, map}
use Rattle.std.specs.List.{list_any, range_with_len}
use Rattle.osc_word.specs.AddressMap.{first_stack_page, stack_size}
use Rattle.osc_sv39.specs.Walk.{piece}
use Rattle.osc_image.specs.Image.{Image, pages}

-- so many different numbers
abbrev pub different : List ℕ → ℕ
different [] = 0
different (x ∷ xs) = (if list_any (λ y. y == x) xs then 0 else 1) + different xs

-- 0x1000F0 to 0x1000FF
abbrev pub stack_pages : List ℕ
stack_pages = range_with_len first_stack_page stack_size

-- the tables over these pages from level 0 to the one below this level: the tables of a level stand
-- each over one piece of the next
unfoldable pub tables_below : ℕ → List ℕ → ℕ
tables_below zero used = 0
tables_below (suc level) used = different (map (piece (suc level)) used) + tables_below level used

-- all tables over these pages, with the root
abbrev pub table_count : ℕ → List ℕ → ℕ
table_count levels used = 1 + tables_below (levels - 1) used

-- with so many levels of page tables
unfoldable pub needed_frames : ℕ → Image → ℕ
needed_frames levels image = length (stack_pages ++ pages image) + table_count levels (stack_pages ++ pages image)
