-- Where the blocks of a heap lie: an area of pages for each size class, and one for each number of pages.
-- This project's own.
use Rattle.std.specs.Prelude.{ℕ, ◌+◌, ◌*◌, ◌/◌, ◌%◌, ◌≡◌, ◌<◌, ◌≤◌, ◌⊎◌}
use Rattle.osc_class.specs.Rooms.{size_of, IsRoom, block_bytes}
use Rattle.osc_class.specs.declared.Room.{Room}
use Rattle.osc_class.specs.declared.Room.TheVariants.{Small, Pages}
use Rattle.osc_slot.specs.declared.Block.{Block}

-- the first canonical page, at 0x20_0000_0000
abbrev pub first_page : ℕ
first_page = 0x2000000

-- the areas follow each other, each as long as the machine has frames
abbrev pub area_of : Room → ℕ
area_of (Small class) = class
area_of (Pages pages) = 12 + pages

-- the slots on a page of a class
abbrev pub slots_of : ℕ → ℕ
slots_of class = 4096 / size_of class

-- the slots in the area of a room
abbrev pub slots_in : ℕ → Room → ℕ
slots_in frames (Small class) = frames * slots_of class
slots_in frames (Pages pages) = frames / pages

-- the first page of a slot, within its area
abbrev pub page_in : Room → ℕ → ℕ
page_in (Small class) slot = slot / slots_of class
page_in (Pages pages) slot = slot * pages

-- where a slot begins on that page
abbrev pub offset_in : Room → ℕ → ℕ
offset_in (Small class) slot = slot % slots_of class * size_of class
offset_in (Pages pages) slot = 0

abbrev pub page_of : ℕ → Room → ℕ → ℕ
page_of frames room slot = first_page + area_of room * frames + page_in room slot

abbrev pub start_of : ℕ → Room → ℕ → ℕ
start_of frames room slot = 4096 * page_of frames room slot + offset_in room slot

-- the block at a slot, in a machine of this many frames
abbrev pub block_at_slot : ℕ → Room → ℕ → Block
block_at_slot frames room slot = record { start = start_of frames room slot; room = room }

-- the block lies at a slot of its area
pub record IsPlaced (frames : ℕ) (block : Block) : Type 0 where
  pub room : IsRoom block.room
  pub slot : ℕ
  pub within : slot < slots_in frames block.room
  pub start : block.start ≡ start_of frames block.room slot

-- one block ends before the other starts
abbrev pub LieApart : Block → Block → Type 0
LieApart a b = (a.start + block_bytes a.room ≤ b.start) ⊎ (b.start + block_bytes b.room ≤ a.start)
