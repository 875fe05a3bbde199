-- The pages of the start as the calls take them, and the frames that they need. The stack's pages stand
-- after every page of an image. This project's own.
use Rattle.std.specs.Prelude.{ℕ, suc, ◌+◌, ◌<◌, ◌≤◌, List, [], ◌∷◌, ◌++◌, length, map, IsTrue}
use Rattle.osc_sv39.specs.declared.flags.PteBits.{PteBits}
use Rattle.osc_sv39.specs.ReadBack.{is_leaf}
use Rattle.osc_image.specs.Frames.{stack_pages, table_count}
use Rattle.osc_space.specs.LeafFlags.{leaf_of_page}
use Rattle.osc_calls.specs.Open.{OpenPage, open_page}

abbrev pub pages_of : List (ℕ × PteBits) → List OpenPage
pages_of pages = map (λ (p : ℕ × PteBits). open_page p.0 p.1) pages

abbrev pub number_of_page : OpenPage → ℕ
number_of_page p = p.page

-- the frames of these pages of an image, of the stack, and of all their tables
unfoldable pub frames_for : ℕ → List OpenPage → ℕ
frames_for levels pages =
    length (stack_pages ++ map number_of_page pages) + table_count levels (stack_pages ++ map number_of_page pages)

-- pages ascend from a number on and are pages of an image; what each permits makes a leaf: R, W or X, and
-- R where there is W
abbrev pub AreImagePages : ℕ → List OpenPage → Type 0
AreImagePages low [] = Unit {0}
AreImagePages low (p ∷ ps) =
    (low ≤ p.page) × (p.page < 0x100000) × IsTrue (is_leaf (leaf_of_page p.bits)) × AreImagePages (suc p.page) ps
