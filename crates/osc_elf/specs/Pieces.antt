-- Which segment gives the bytes from an address on. Segments begin and end at borders, and between two
-- borders that follow one another the same segments have each address. This project's own.
use Rattle.std.specs.Prelude.{◌≡◌, ℕ, ◌+◌, ◌<◌, ◌≤◌, if◌then◌else◌, List, [], ◌∷◌, length, slice_get, slice_index, slice_index_or, Option, Some, None}
use Rattle.std.specs.List.{All, Contains}
use Rattle.std.specs.List.Sorted.{IsNonDecreasing}
use Rattle.std.specs.Option.{option_or}
use Rattle.osc_image.specs.Image.{covers}
use Rattle.osc_elf.specs.declared.segment.Segment.{Segment}
use Rattle.osc_elf.specs.Segments.{shown}

-- the last of the segments that has an address
abbrev pub last_owner : List Segment → ℕ → Option Segment
last_owner [] address = None
last_owner (segment ∷ segments) address =
    option_or (last_owner segments address) (if covers address (shown [] segment) then Some segment else None)

-- the index, among all segments, of the last of some that has an address
abbrev pub IsOwner : List Segment → List Segment → ℕ → Option ℕ → Type 0
IsOwner all some address None = last_owner some address ≡ None
IsOwner all some address (Some index) = (index < length all) × (last_owner some address ≡ slice_get all index)

-- where a segment begins and where it ends are borders
abbrev pub HasBorders : List ℕ → Segment → Type 0
HasBorders borders segment = Contains borders segment.address × Contains borders (segment.address + segment.size)

-- each border's owner
abbrev pub AreOwners : List Segment → List Segment → List ℕ → List (Option ℕ) → Type 0
AreOwners all some borders owners =
    (k : ℕ) → k < length borders → IsOwner all some (slice_index borders k) (slice_index_or owners k None)

-- the borders of segments, 0 before them, and the owner of each
pub record ArePieces (segments : List Segment) (borders : List ℕ) (owners : List (Option ℕ)) : Type 0 where
  pub rising : IsNonDecreasing borders
  pub zero : Contains borders 0
  pub both : All (HasBorders borders) segments
  pub len : length owners ≡ length borders
  pub owned : AreOwners segments segments borders owners

-- the borders between which an address lies
pub record IsIn (borders : List ℕ) (piece address : ℕ) : Type 0 where
  pub inside : piece < length borders
  pub low : slice_index borders piece ≤ address
  pub high : piece + 1 < length borders → address < slice_index borders (piece + 1)
