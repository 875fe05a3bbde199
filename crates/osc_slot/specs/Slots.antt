-- Which slot the next block takes, over a test of what is held, and which frames the held blocks need.
-- This project's own.
use Rattle.std.specs.Prelude.{ℕ, ◌+◌, ◌*◌, ◌/◌, Bool, true, false, not, ◌==◌, nat_lt, nat_le, ◌&&◌, if◌then◌else◌, List, Option, Some, None, is_some, sum_by}
use Rattle.std.specs.List.{list_any}
use Rattle.osc_class.specs.Rooms.{shadow_pages}
use Rattle.osc_class.specs.declared.Room.{Room}
use Rattle.osc_class.specs.declared.Room.TheVariants.{Small, Pages}
use Rattle.osc_slot.specs.declared.Block.{Block}
use Rattle.osc_slot.specs.Least.{least, any, passing}
use Rattle.osc_slot.specs.Areas.{first_page, slots_of, start_of, block_at_slot}

abbrev pub is_room : Room → Room → Bool
is_room (Small a) (Small b) = a == b
is_room (Pages a) (Pages b) = a == b
is_room _ _ = false

abbrev pub is_block : Block → Block → Bool
is_block a b = (a.start == b.start) && is_room a.room b.room

abbrev pub is_held : List Block → Block → Bool
is_held held block = list_any (λ b. is_block block b) held

-- a test of what is held: whether the block at this slot of this room's area is
abbrev pub Holds : Type 0
Holds = Room → ℕ → Bool

abbrev pub holds_in : ℕ → List Block → Holds
holds_in frames held room slot = is_held held (block_at_slot frames room slot)

-- whether this page of a class's area holds a block
abbrev pub has_block : Holds → ℕ → ℕ → Bool
has_block holds class page = any (λ slot. holds (Small class) slot) (page * slots_of class) (slots_of class)

-- the least free slot on a page of the class that holds a block
unfoldable pub beside : ℕ → Holds → ℕ → Option ℕ
beside frames holds class = least (λ slot. has_block holds class (slot / slots_of class) && not (holds (Small class) slot)) 0 (frames * slots_of class)

-- the least page of the class that holds no block
unfoldable pub empty_page : ℕ → Holds → ℕ → Option ℕ
empty_page frames holds class = least (λ page. not (has_block holds class page)) 0 frames

abbrev pub first_slot : ℕ → Option ℕ → Option ℕ
first_slot slots None = None
first_slot slots (Some page) = Some (page * slots)

abbrev pub or_else : Option ℕ → Option ℕ → Option ℕ
or_else (Some a) b = Some a
or_else None b = b

-- the slot of the next block: beside a held one, else the first of an empty page; for whole pages the least free one
abbrev pub slot : ℕ → Holds → Room → Option ℕ
slot frames holds (Small class) = or_else (beside frames holds class) (first_slot (slots_of class) (empty_page frames holds class))
slot frames holds (Pages pages) = least (λ slot. not (holds (Pages pages) slot)) 0 (frames / pages)

-- the frames that the next block newly takes
abbrev pub need_over : ℕ → Holds → Room → ℕ
need_over frames holds (Small class) = if is_some (beside frames holds class) then 0 else 1
need_over frames holds (Pages pages) = pages

-- the pages that a block at a slot has and no held block has
abbrev pub pages_alone : Holds → Room → ℕ → ℕ
pages_alone holds (Small class) slot = if has_block holds class (slot / slots_of class) then 0 else 1
pages_alone holds (Pages pages) slot = pages

abbrev pub start_of_slot : ℕ → Room → Option ℕ → Option ℕ
start_of_slot frames room None = None
start_of_slot frames room (Some slot) = Some (start_of frames room slot)

-- where the next block of a room starts, for a set of held blocks
abbrev pub least_start : ℕ → List Block → Room → Option ℕ
least_start frames held room = start_of_slot frames room (slot frames (holds_in frames held) room)

abbrev pub need : ℕ → List Block → Room → ℕ
need frames held room = need_over frames (holds_in frames held) room

-- whether a page is one of a block's
abbrev pub is_on : ℕ → Block → Bool
is_on page block = nat_le (block.start / 4096) page && nat_lt page (block.start / 4096 + shadow_pages block.room)

abbrev pub is_covered : List Block → ℕ → Bool
is_covered held page = list_any (λ b. is_on page b) held

abbrev pub is_small : Block → Bool
is_small block = is_small_room block.room
  where
    is_small_room : Room → Bool
    is_small_room (Small class) = true
    is_small_room (Pages pages) = false

-- the frames of a block that has its pages to itself
abbrev pub own_frames : Room → ℕ
own_frames (Small class) = 0
own_frames (Pages pages) = pages

-- the frames that held blocks have: one for each page that holds small blocks, and one for each page of the others
unfoldable pub block_frames : ℕ → List Block → ℕ
block_frames frames held = passing (λ page. list_any (λ b. is_small b && is_on page b) held) first_page (13 * frames) + sum_by (λ (b : Block). own_frames b.room) held
