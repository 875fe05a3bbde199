-- Rows of the layers below, worked through: rooms, slots, entries of page tables, and caches.
use Rattle.std.specs.Prelude.{ℕ, ◌≡◌, [], ◌∷◌, Some, None}
use Rattle.osc_sv39.specs.declared.entries.Access.TheVariants.{Load}
use Rattle.osc_sv39.specs.declared.entries.PteEntry.TheVariants.{Table, Leaf}
use Rattle.osc_sv39.specs.Entries.{word_of}
use Rattle.osc_sv39.specs.Walk.{page_numbers}
use Rattle.osc_class.specs.declared.Room.TheVariants.{Small, Pages}
use Rattle.osc_class.specs.Rooms.{room_of, block_bytes}
use Rattle.osc_slot.specs.declared.Block.{Block}
use Rattle.osc_slot.specs.Slots.{least_start}
use Rattle.osc_paging.specs.declared.Look.TheVariants.{Hit, Miss}
use Rattle.osc_paging.specs.Boxes.{no_entries, look, filled}
use Rattle.osc_space.specs.LeafFlags.{read_write_at}

-- the rooms of 16, 17, 2032, 2033, 4080 and 4081 bytes: with the header, two of the least classes, the
-- greatest class, then whole pages
abbrev pub RoomsFound : Type 0
RoomsFound =
    (block_bytes (room_of 16) ≡ 32) × (block_bytes (room_of 17) ≡ 48) × (block_bytes (room_of 2032) ≡ 2048)
    × (room_of 2033 ≡ Pages 1) × (room_of 4080 ≡ Pages 1) × (room_of 4081 ≡ Pages 2)

-- numbers VPN of an address, and of one that is not canonical; with three levels and with four
abbrev pub AddressesSplit : Type 0
AddressesSplit =
    (page_numbers 3 0x1000000010 ≡ Some (0 ∷ 64 ∷ 0 ∷ 0 ∷ [])) × (page_numbers 3 0x4000000000 ≡ None)
    × (page_numbers 4 0x4000000000 ≡ Some (0 ∷ 256 ∷ 0 ∷ 0 ∷ [])) × (page_numbers 4 0x800000000000 ≡ None)

-- a leaf that is read and written, and a link
abbrev pub EntriesWritten : Type 0
EntriesWritten = (word_of (Leaf 5 (record { 0 = 0xD7 })) ≡ 0x14D7) × (word_of (Table 5) ≡ 0x1401)

abbrev pub block_at : ℕ → Block
block_at start = record { start = start; room = Small 1 }

abbrev pub two_pages : Block
two_pages = record { start = 0x200001C000; room = Pages 2 }

-- with 2 frames: two blocks of 48 bytes, the first slot again once it is free, and two of two pages, of
-- which there is room for one
abbrev pub SlotsFound : Type 0
SlotsFound =
    (least_start 2 [] (Small 1) ≡ Some 0x2000002000)
    × (least_start 2 (block_at 0x2000002000 ∷ []) (Small 1) ≡ Some 0x2000002030)
    × (least_start 2 (block_at 0x2000002030 ∷ []) (Small 1) ≡ Some 0x2000002000)
    × (least_start 2 [] (Pages 2) ≡ Some 0x200001C000)
    × (least_start 2 (two_pages ∷ []) (Pages 2) ≡ None)

-- pages 0x10 and 0x30 have one slot in a cache, which holds what was filled last
abbrev pub CacheSeen : Type 0
CacheSeen =
    (look (filled (filled no_entries 0x10 (read_write_at 3)) 0x30 (read_write_at 4)) 0x10 Load ≡ Miss)
    × (look (filled (filled no_entries 0x10 (read_write_at 3)) 0x30 (read_write_at 4)) 0x30 Load ≡ Hit 4)
