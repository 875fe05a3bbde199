-- How truth values, one for each slot of each area, stand for the held blocks of a heap. This project's own.
use Rattle.std.specs.Prelude.{ℕ, ◌+◌, ◌-◌, ◌*◌, ◌/◌, ◌≡◌, ◌<◌, ◌≤◌, nat_le, nat_lt, Bool, true, false, not, ◌&&◌, if◌then◌else◌, Option, Some, None, is_some, List, [], ◌∷◌, length, map, min, replicate, slice_get, slice_set, slice_index, slice_index_or}
use Rattle.std.specs.List.{list_any, list_all, range_with_len}
use Rattle.std.specs.Vec.{vec_capacity}
use Rattle.osc_class.specs.declared.Room.{Room}
use Rattle.osc_class.specs.declared.Room.TheVariants.{Small, Pages}
use Rattle.osc_class.specs.Rooms.{IsRoom}
use Rattle.osc_slot.specs.declared.Block.{Block}
use Rattle.osc_slot.specs.declared.HeapPage.{HeapPage}
use Rattle.osc_slot.specs.Least.{least, any}
use Rattle.osc_slot.specs.Areas.{first_page, area_of, slots_of, slots_in, block_at_slot}
use Rattle.osc_slot.specs.Slots.{Holds}
use Rattle.osc_slot.specs.Heap.{Heap, IsHeap}
use Rattle.osc_heap.specs.declared.page_sets.PageSets.{PageSets}
use Rattle.osc_heap.specs.declared.pages.HeldPages.{HeldPages}
use Rattle.osc_slot.specs.Ordered.{AllAbove}
use Rattle.osc_frames.specs.Words.{has}

-- the room of an area
abbrev pub room_at : ℕ → Room
room_at area = if nat_lt area 13 then Small area else Pages (area - 12)

abbrev pub bit_at : List Bool → ℕ → Bool
bit_at row slot = slice_index_or row slot false

-- whether the bit of a number is as wanted
abbrev pub has_as : List ℕ → Bool → ℕ → Bool
has_as words true n = has words n
has_as words false n = not (has words n)

-- the truth values of a room's area
abbrev pub row_of : List (List Bool) → Room → List Bool
row_of rows room = slice_index_or rows (area_of room) []

abbrev pub bits : List (List Bool) → Holds
bits rows room slot = bit_at (row_of rows room) slot

-- the rows with another truth value at a slot
abbrev pub with_bit : List (List Bool) → Room → ℕ → Bool → List (List Bool)
with_bit rows room slot held = slice_set rows (area_of room) (slice_set (row_of rows room) slot held)

-- whether a page of a class's area holds a block, where a page has so many slots
abbrev pub page_held : ℕ → List Bool → ℕ → Bool
page_held slots row page = any (λ slot. bit_at row slot) (page * slots) slots

-- the least free slot of a page, where the page holds a block
abbrev pub page_beside : ℕ → List Bool → ℕ → Option ℕ
page_beside slots row page = if page_held slots row page then least (λ slot. not (bit_at row slot)) (page * slots) slots else None

-- the least free slot on one of so many pages that holds a block
unfoldable pub row_beside : ℕ → ℕ → List Bool → Option ℕ
row_beside pages slots row = least (λ slot. page_held slots row (slot / slots) && not (bit_at row slot)) 0 (pages * slots)

-- the least of so many pages that holds no block
unfoldable pub row_empty_page : ℕ → ℕ → List Bool → Option ℕ
row_empty_page pages slots row = least (λ page. not (page_held slots row page)) 0 pages

-- the truth values of an area: the first areas have their own, and each later one those of its slots among 64 that are kept for it
abbrev pub kept_row : ℕ → List (List Bool) → List Bool → ℕ → List Bool
kept_row frames wide narrow area = if nat_lt area 76 then slice_index_or wide area [] else map (λ slot. bit_at narrow slot) (range_with_len (64 * (area - 76)) (slots_in frames (room_at area)))

abbrev pub rows_of : ℕ → List (List Bool) → List Bool → List (List Bool)
rows_of frames wide narrow = map (λ area. kept_row frames wide narrow area) (range_with_len 0 (13 + frames))

-- the held blocks of an area from this slot on, and those after it
unfoldable pub blocks_of_row : ℕ → Room → ℕ → List Bool → List Block → List Block
blocks_of_row frames room slot [] rest = rest
blocks_of_row frames room slot (true ∷ row) rest = block_at_slot frames room slot ∷ blocks_of_row frames room (slot + 1) row rest
blocks_of_row frames room slot (false ∷ row) rest = blocks_of_row frames room (slot + 1) row rest

-- the held blocks of the areas from this one on
unfoldable pub blocks_from : ℕ → ℕ → List (List Bool) → List Block
blocks_from frames area [] = []
blocks_from frames area (row ∷ rows) = blocks_of_row frames (room_at area) 0 row (blocks_from frames (area + 1) rows)

-- each area from this one on has a truth value for each slot
unfoldable pub AreSized : ℕ → ℕ → List (List Bool) → Type 0
AreSized frames area [] = Unit {0}
AreSized frames area (row ∷ rows) = (length row ≡ slots_in frames (room_at area)) × AreSized frames (area + 1) rows

-- no slot of these areas is held
abbrev pub all_free : List (List Bool) → Bool
all_free rows = list_all (λ row. not (list_any (λ held. held) row)) rows

abbrev pub free_row : List Bool → List Bool
free_row row = replicate (length row) false

-- the areas of a heap that holds no block
pub record AreFree (frames : ℕ) (rows : List (List Bool)) : Type 0 where
  pub areas : length rows ≡ 13 + frames
  pub sized : AreSized frames 0 rows
  pub free : all_free rows ≡ true

abbrev pub heap_of : ℕ → List (List Bool) → List HeapPage → Heap
heap_of frames rows pages = record { frames = frames; held = blocks_from frames 0 rows; pages = pages }

-- one of so many pages from one on
abbrev pub in_range : ℕ → ℕ → HeapPage → Bool
in_range first count p = nat_le first p.page && nat_lt p.page (first + count)

abbrev pub out_of_range : ℕ → ℕ → HeapPage → Bool
out_of_range first count p = not (in_range first count p)

-- each page's frame is taken when those of the pages before it are free
unfoldable pub CanGiveBack : List Bool → List HeapPage → Type 0
CanGiveBack free [] = Unit {0}
CanGiveBack free (p ∷ pages) = (slice_get free p.frame ≡ Some false) × CanGiveBack (slice_set free p.frame true) pages

-- what is true of the parts of a heap
pub record AreParts (frames : ℕ) (rows : List (List Bool)) (pages : List HeapPage) (room : ℕ) : Type 0 where
  pub most : frames ≤ 4096
  pub areas : length rows ≡ 13 + frames
  pub sized : AreSized frames 0 rows
  pub is_heap : IsHeap (heap_of frames rows pages)
  pub room_for_all : frames ≤ room

-- the slots of a page of a room's area, where the pages of a block of whole pages count as one
abbrev pub page_slots : Room → ℕ
page_slots (Small class) = slots_of class
page_slots (Pages pages) = 1

-- the pages of a room's area, counted so
abbrev pub page_count : ℕ → Room → ℕ
page_count frames (Small class) = frames
page_count frames (Pages pages) = frames / pages

-- what is told of the pages of an area that holds no block
abbrev pub no_block_on : ℕ → PageSets
no_block_on count = record { count = count; partly = replicate count false; empty = replicate count true }

abbrev pub with_page : PageSets → ℕ → Bool → Bool → PageSets
with_page sets page partly empty = record { count = sets.count; partly = slice_set sets.partly page partly; empty = slice_set sets.empty page empty }

-- what is told of each of so many pages is what the truth values of the area say
pub record TellsRow (pages slots : ℕ) (row : List Bool) (sets : PageSets) : Type 0 where
  pub count : sets.count ≡ pages
  pub partly_count : length sets.partly ≡ pages
  pub empty_count : length sets.empty ≡ pages
  pub partly : (page : ℕ) → page < pages → bit_at sets.partly page ≡ is_some (page_beside slots row page)
  pub empty : (page : ℕ) → page < pages → bit_at sets.empty page ≡ not (page_held slots row page)

-- so many pages are told
pub record IsTold (pages : ℕ) (sets : PageSets) : Type 0 where
  pub count : sets.count ≡ pages
  pub partly : length sets.partly ≡ pages
  pub empty : length sets.empty ≡ pages

-- the areas whose pages are told: those of the classes, and those of up to 7 pages, as far as there are
abbrev pub told_areas : ℕ → ℕ
told_areas frames = min (13 + frames) 20

-- so many pages are told of each of these areas
pub record AreTold (frames : ℕ) (told : List PageSets) : Type 0 where
  pub areas : length told ≡ told_areas frames
  pub each : (area : ℕ) (d : PageSets) → area < length told → IsTold (page_count frames (room_at area)) (slice_index_or told area d)

-- nothing is told but of areas that hold no block
pub record TellNone (frames : ℕ) (told : List PageSets) : Type 0 where
  pub areas : length told ≡ told_areas frames
  pub each : (area : ℕ) (d : PageSets) → area < length told → slice_index_or told area d ≡ no_block_on (page_count frames (room_at area))

-- the pages of these areas are told
pub record TellRows (frames : ℕ) (rows : List (List Bool)) (told : List PageSets) : Type 0 where
  pub areas : length told ≡ told_areas frames
  pub each : (room : Room) (d : PageSets) → IsRoom room → area_of room < length told → TellsRow (page_count frames room) (page_slots room) (row_of rows room) (slice_index_or told (area_of room) d)

-- the pages of a table from this page on, each with its frame, and those after them
unfoldable pub pages_from : ℕ → List (Option ℕ) → List HeapPage → List HeapPage
pages_from page [] rest = rest
pages_from page (None ∷ table) rest = pages_from (page + 1) table rest
pages_from page (Some frame ∷ table) rest = record { page = page; frame = frame } ∷ pages_from (page + 1) table rest

abbrev pub pages_of : HeldPages → List HeapPage
pages_of pages = pages_from first_page pages.table pages.rest.items

-- the first page after those of the table
abbrev pub table_end : HeldPages → ℕ
table_end pages = first_page + length pages.table

-- the others are past the table
abbrev pub AreHeld : HeldPages → Type 0
AreHeld pages = AllAbove (λ (p : HeapPage). p.page) (0x1FFFFFF + length pages.table) pages.rest.items

abbrev pub renamed : List ℕ → Option ℕ → Option ℕ
renamed names None = None
renamed names (Some frame) = Some (slice_index names frame)

-- what is true of the parts of a heap, of what is told of their pages, and of the pages that are kept
pub record AreKept (frames : ℕ) (rows : List (List Bool)) (told : List PageSets) (pages : HeldPages) : Type 0 where
  pub parts : AreParts frames rows (pages_of pages) (vec_capacity pages.rest)
  pub tell : TellRows frames rows told
  pub held : AreHeld pages
  pub table : length pages.table ≡ 13 * frames
