-- What a loaded image is: ELF-64 Object File Format, "Program Header Table". A segment's bytes stand
-- from its virtual address on, and zeros follow up to its size in memory. Segments are laid in the
-- order of the table, and each replaces what it covers. Pages have 4096 bytes, and a page's number
-- is its address divided by 4096. That a page has the joined flags of the segments that touch it is
-- this project's own.
use Rattle.std.specs.Prelude.{◌≡◌, ℕ, ◌<◌, ◌≤◌, ◌+◌, ◌-◌, ◌*◌, ◌/◌, min, max, Bool, ◌&&◌, ◌||◌, nat_lt, nat_le, if◌then◌else◌, List, length, reverse, find, slice_index, Option, Some, None, is_some, IsSome}
use Rattle.std.specs.List.{list_any, filter, range_with_len}
use Rattle.std.specs.Option.{option_map_or}
use Rattle.osc_sv39.specs.declared.flags.PteBits.{PteBits}
use Rattle.osc_sv39.specs.declared.entries.Access.{Access}
use Rattle.osc_sv39.specs.declared.entries.Access.TheVariants.{Fetch, Load, Store}

-- a loaded segment: its virtual address, its size in memory, its bytes of the file, and PF_R, PF_W
-- and PF_X
pub record Segment : Type 0 where
  pub address : ℕ
  pub size : ℕ
  pub bytes : List ℕ
  pub readable : Bool
  pub writable : Bool
  pub executable : Bool

-- an entry address, and the segments in the order of the table
pub record Image : Type 0 where
  pub entry : ℕ
  pub segments : List Segment

-- the address is one of the segment's
abbrev pub covers : ℕ → Segment → Bool
covers address segment =
    nat_le segment.address address && nat_lt address (segment.address + segment.size)

-- the segment has an address on the page
abbrev pub touches : ℕ → Segment → Bool
touches page segment =
    nat_lt (max segment.address (4096 * page)) (min (segment.address + segment.size) (4096 * page + 4096))

-- what a segment's flags permit; what can be written can be read too
abbrev pub permits : Segment → Access → Bool
permits segment Fetch = segment.executable
permits segment Load = segment.readable || segment.writable
permits segment Store = segment.writable

-- a page permits what a segment that touches it does
unfoldable pub page_permits : List Segment → Access → ℕ → Bool
page_permits segments access page =
    list_any (λ segment. touches page segment && permits segment access) segments

-- the flags R, W and X of a page's leaf, None where there are none
abbrev pub bits_of : Bool → Bool → Bool → Option PteBits
bits_of read write execute =
    if read || write || execute
    then Some (record { 0 = (if read then 2 else 0) + (if write then 4 else 0) + (if execute then 8 else 0) })
    else None

-- the permissions of a page, None where it is not mapped
abbrev pub bits_at : Image → ℕ → Option PteBits
bits_at image page =
    bits_of (page_permits image.segments Load page)
    (page_permits image.segments Store page)
    (page_permits image.segments Fetch page)

abbrev pub is_mapped : Image → ℕ → Bool
is_mapped image page = is_some (bits_at image page)

-- no page from one on is mapped
abbrev pub NoneFrom : Image → ℕ → Type 0
NoneFrom image from = (page : ℕ) → from ≤ page → bits_at image page ≡ None

-- the least mapped page from one on
pub record IsNextPage (image : Image) (from page : ℕ) : Type 0 where
  pub at_or_above : from ≤ page
  pub mapped : IsSome (bits_at image page)
  pub least : (other : ℕ) → from ≤ other → other < page → bits_at image other ≡ None

-- the byte at an address of a segment: 0 after its bytes of the file
abbrev pub byte_in : ℕ → Segment → ℕ
byte_in address segment = slice_index segment.bytes (address - segment.address)

-- the byte that was laid last at an address, 0 where none was
unfoldable pub laid_byte : List Segment → ℕ → ℕ
laid_byte segments address = option_map_or (byte_in address) (find (covers address) (reverse segments)) 0

-- the byte at an address, None where its page is not mapped
abbrev pub byte_at : Image → ℕ → Option ℕ
byte_at image address =
    if is_mapped image (address / 4096) then Some (laid_byte image.segments address) else None

-- the pages below 4 GiB, of which an image has some
unfoldable pub page_limit : ℕ
page_limit = 1048576

-- the mapped pages below a limit, ascending
unfoldable pub pages_below : Image → ℕ → List ℕ
pages_below image limit = filter (is_mapped image) (range_with_len 0 limit)

abbrev pub pages : Image → List ℕ
pages image = pages_below image page_limit

abbrev pub page_count : Image → ℕ
page_count image = length (pages image)
