-- How far segments reach that permit an access. This project's own.
use Rattle.std.specs.Prelude.{◌≡◌, ℕ, ◌<◌, ◌==◌, max, Bool, false, ◌&&◌, nat_lt, if◌then◌else◌, List, [], ◌∷◌, slice_index, slice_index_or}
use Rattle.osc_image.specs.Image.{page_permits}
use Rattle.osc_elf.specs.declared.segment.Segment.{Segment}
use Rattle.osc_elf.specs.Segments.{all_shown, grants, first_page, end_page}
use Rattle.osc_sv39.specs.declared.entries.Access.{Access}

-- the end of a segment that permits an access and begins on a page; 0 for another
abbrev pub reach_of : Segment → Access → ℕ → ℕ
reach_of segment access page = if grants segment access && (first_page segment == page) then end_page segment else 0

-- the greatest of these ends
abbrev pub reach_at : List Segment → Access → ℕ → ℕ
reach_at [] access page = 0
reach_at (segment ∷ segments) access page = max (reach_of segment access page) (reach_at segments access page)

-- the greatest end of the segments that permit an access and begin below a page
abbrev pub reach_below : List Segment → Access → ℕ → ℕ
reach_below [] access page = 0
reach_below (segment ∷ segments) access page =
    max (if grants segment access && nat_lt (first_page segment) page then end_page segment else 0)
    (reach_below segments access page)

-- for each page below a limit how far the segments reach that begin there
abbrev pub Reaches : List ℕ → List Segment → Access → ℕ → Type 0
Reaches reaches segments access limit =
    (page : ℕ) → page < limit → slice_index reaches page ≡ reach_at segments access page

-- for each page whether it permits an access: pages past the table's end do not
abbrev pub Permitted : List Bool → List Segment → Access → Type 0
Permitted table segments access =
    (file : List ℕ) (page : ℕ) → slice_index_or table page false ≡ page_permits (all_shown file segments) access page
