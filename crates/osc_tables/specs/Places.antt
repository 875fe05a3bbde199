-- Where a page or a table stands, or would stand, in the order.
use Rattle.std.specs.Prelude.{ℕ, suc, ◌≡◌, ◌<◌, ◌-◌, ◌*◌, ◌^◌, true, nat_lt, nat_le, Option, Some, None, length, slice_index_or, List, [], ◌∷◌, if◌then◌else◌}
use Rattle.osc_paging.specs.declared.Piece.{Piece}
use Rattle.osc_paging.specs.declared.TableFrame.{TableFrame}
use Rattle.osc_paging.specs.declared.TablePlace.{TablePlace}
use Rattle.osc_sv39.specs.Walk.{number_of}
use Rattle.osc_paging.specs.KeptTables.{canonical_page, is_piece}
use Rattle.osc_paging.specs.TableChanges.{is_before}

-- how many pages are in the lower half of the range; `top` is the level of the topmost table
abbrev pub half : ℕ → ℕ
half top = 2 ^ (9 * suc top - 1)

-- the least number of a page at or above another
abbrev pub least_from : ℕ → ℕ → Option ℕ
least_from top from =
    if nat_lt from (half top) then Some from
    else if nat_le from (2 ^ 52 - half top) then Some (half top)
    else if nat_lt from (2 ^ 52) then Some (number_of (suc top) from)
    else None

-- the place of a table
abbrev pub place_below : ℕ → Piece → TablePlace
place_below top p = record { level = p.level; first = canonical_page (suc top) (p.number * 512 ^ suc p.level) }

-- how many tables come before a piece, in a list in order
abbrev pub table_place : Piece → List TableFrame → ℕ
table_place p [] = 0
table_place p (t ∷ ts) = if is_before t.piece p then suc (table_place p ts) else 0

-- the table over this piece stands at this place
pub record TableStandsAt (p : Piece) (ts : List TableFrame) (i : ℕ) : Type 0 where
  pub within : i < length ts
  pub same : (d : TableFrame) → is_piece (slice_index_or ts i d).piece p.level p.number ≡ true
