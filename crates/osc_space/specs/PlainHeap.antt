-- The plain heap: the same blocks at their canonical addresses, without objects and shadows. A page is
-- mapped while it holds a block; only where a page's frame is given back is it unmapped, and are the
-- boxes cleared. Leaf tables stay until the process ends. This project's own.
use Rattle.std.specs.Prelude.{ℕ, ◌+◌, ◌-◌, ◌/◌, min, Bool, true, false, not, Option, Some, None, List, [], ◌∷◌, filter, if◌then◌else◌}
use Rattle.std.specs.List.{range_with_len}
use Rattle.osc_word.specs.declared.calls.Answer.TheVariants.{Placed, Nothing, NotAnObject}
use Rattle.osc_class.specs.declared.Room.{Room}
use Rattle.osc_class.specs.Rooms.{room_of, block_bytes, shadow_pages}
use Rattle.osc_slot.specs.declared.Block.{Block}
use Rattle.osc_slot.specs.Slots.{is_room, is_covered}
use Rattle.osc_slot.specs.Heap.{next_block, without_block, block_of_user}
use Rattle.osc_paging.specs.TableChanges.{map_pages}
use Rattle.osc_space.specs.Space.{Draft, Outcome, Keeps, GivesBack, Reason, reason, first_reason, unless, unchanged, lack_of_frames, push, change}
use Rattle.osc_space.specs.BlockWords.{mappings_of, copy_jobs, trim_jobs}
use Rattle.osc_space.specs.Malloc.{block_need, place_block, fill_block}
use Rattle.osc_space.specs.Free.{clear_jobs, unmap_all}

-- ---- malloc
-- the next block of a room would take as many pages as frames, from its first page on
abbrev pub plain_reasons : Room → Draft → List Reason
plain_reasons room d =
    lack_of_frames d.free d.space.tables (block_need d room) ((next_block d.space.heap room).start / 4096) (block_need d room) ∷ []

-- so many pages from this one on, which have frames now, are mapped
abbrev pub map_blocks : ℕ → ℕ → Draft → Draft
map_blocks first count d = change (map_pages first (mappings_of d.space.heap.pages first count)) d

-- a new block with its header, and else zeros
abbrev pub place_plain : ℕ → Block → Draft → Draft
place_plain n block d =
    map_blocks (block.start / 4096) (block_need d block.room) (fill_block block n (place_block block.room d))

abbrev pub plain_malloc_in : ℕ → Block → Draft → Outcome
plain_malloc_in n block d =
    record { answer = Placed (block.start + 16); draft = place_plain n block d; closing = Keeps }

unfoldable pub plain_malloc_plan : ℕ → Draft → Outcome
plain_malloc_plan n d =
    unless (first_reason (plain_reasons (room_of n) d)) d (plain_malloc_in n (next_block d.space.heap (room_of n)) d)

-- ---- free
-- the pages of a block that hold no other
abbrev pub emptied_pages : List Block → Block → List ℕ
emptied_pages held block =
    filter (λ page. not (is_covered (without_block block held) page)) (range_with_len (block.start / 4096) (shadow_pages block.room))

abbrev pub unmap_emptied : List ℕ → ℕ → Draft → Draft
unmap_emptied [] harts d = d
unmap_emptied (page ∷ pages) harts d = push (clear_jobs harts) (change (unmap_all (page ∷ pages)) d)

abbrev pub let_go_plain : ℕ → Block → Draft → Draft
let_go_plain harts block d = unmap_emptied (emptied_pages d.space.heap.held block) harts d

-- no block starts there
abbrev pub block_reasons : Option Block → List Reason
block_reasons None = reason true NotAnObject ∷ []
block_reasons (Some block) = []

abbrev pub plain_free_of : Option Block → ℕ → Draft → Outcome
plain_free_of None harts d = unchanged NotAnObject d
plain_free_of (Some block) harts d =
    record { answer = Nothing; draft = let_go_plain harts block d; closing = GivesBack (block ∷ []) }

unfoldable pub plain_free_plan : ℕ → ℕ → Draft → Outcome
plain_free_plan harts pointer d = plain_free_of (block_of_user d.space.heap.held pointer) harts d

-- ---- realloc
-- the bytes that are kept: no more than the old size as it was found, the block and the new size
abbrev pub kept_bytes : Block → ℕ → ℕ → ℕ
kept_bytes block size n = min (min size (block_bytes block.room - 16)) n

abbrev pub plain_stay : Block → ℕ → ℕ → Draft → Outcome
plain_stay block n bytes d = record {
  answer = Placed (block.start + 16);
  draft = push (trim_jobs d.space.heap.pages block bytes n) d;
  closing = Keeps;
}

abbrev pub copy_block : Block → Block → ℕ → Draft → Draft
copy_block old block bytes d = push (copy_jobs d.space.heap.pages old block bytes) d

abbrev pub plain_move : ℕ → Block → ℕ → ℕ → Block → Draft → Outcome
plain_move harts old n bytes block d = record {
  answer = Placed (block.start + 16);
  draft = let_go_plain harts old (copy_block old block bytes (place_plain n block d));
  closing = GivesBack (old ∷ []);
}

abbrev pub plain_resize : Bool → ℕ → Block → ℕ → ℕ → Draft → Outcome
plain_resize true harts block n bytes d = plain_stay block n bytes d
plain_resize false harts block n bytes d = plain_move harts block n bytes (next_block d.space.heap (room_of n)) d

-- where the block does not stay, another is wanted
abbrev pub plain_realloc_reasons : Option Block → ℕ → Draft → List Reason
plain_realloc_reasons None n d = block_reasons None
plain_realloc_reasons (Some block) n d = if is_room (room_of n) block.room then [] else plain_reasons (room_of n) d

abbrev pub plain_realloc_of : Option Block → ℕ → ℕ → ℕ → Draft → Outcome
plain_realloc_of None harts n size d = unchanged NotAnObject d
plain_realloc_of (Some block) harts n size d =
    unless (first_reason (plain_realloc_reasons (Some block) n d)) d
    (plain_resize (is_room (room_of n) block.room) harts block n (kept_bytes block size n) d)

-- `size` is the second word of the block's header, as it was found
unfoldable pub plain_realloc_plan : ℕ → ℕ → ℕ → ℕ → Draft → Outcome
plain_realloc_plan harts pointer n size d = plain_realloc_of (block_of_user d.space.heap.held pointer) harts n size d
