-- Malloc: the next block of the room, the next object with fresh shadow pages, or a refusal that
-- changes nothing. This project's own.
use Rattle.std.specs.Prelude.{ℕ, ◌+◌, ◌*◌, ◌%◌, nat_lt, List, [], ◌∷◌, ◌++◌}
use Rattle.osc_word.specs.declared.calls.Answer.TheVariants.{Given, NoShadow}
use Rattle.osc_class.specs.declared.Room.{Room}
use Rattle.osc_class.specs.Rooms.{room_of, shadow_pages}
use Rattle.osc_slot.specs.declared.Block.{Block}
use Rattle.osc_slot.specs.Slots.{need}
use Rattle.osc_slot.specs.Heap.{place, next_block}
use Rattle.osc_paging.specs.TableChanges.{map_pages}
use Rattle.osc_space.specs.declared.ObjectFact.{ObjectFact}
use Rattle.osc_space.specs.Objects.{mark, next_page, next_object, grant}
use Rattle.osc_space.specs.Space.{Draft, Outcome, Keeps, Reason, reason, first_reason, unless, lack_of_frames, push, with_objects, with_heap, change}
use Rattle.osc_space.specs.BlockWords.{block_mappings, zero_block, header_jobs}

-- ---- refusals
-- so many fresh shadow pages are above the limit; so many block frames and the tables over these
-- pages are more than the free frames
abbrev pub memory_reasons : ℕ → ℕ → Draft → List Reason
memory_reasons frames pages d =
    reason (nat_lt d.space.shadows (mark d.space.objects + pages)) NoShadow
    ∷ lack_of_frames d.free d.space.tables frames (next_page d.space.objects) pages
    ∷ []

-- the frames that the next block of a room newly takes
abbrev pub block_need : Draft → Room → ℕ
block_need d room = need d.space.heap.frames d.space.heap.held room

abbrev pub malloc_reasons : ℕ → Draft → List Reason
malloc_reasons n d = memory_reasons (block_need d (room_of n)) (shadow_pages (room_of n)) d

-- ---- parts that other plans have too
-- the next block of a room is held
abbrev pub place_block : Room → Draft → Draft
place_block room d = with_heap (place d.space.heap room d.free) d

-- a new block has its header, and else zeros
abbrev pub fill_block : Block → ℕ → Draft → Draft
fill_block block size d =
    push (zero_block d.space.heap.pages block ++ header_jobs d.space.heap.pages block size) d

-- the next object is in this block
abbrev pub grant_object : Block → ℕ → Draft → Draft
grant_object block size d = with_objects (grant (shadow_pages block.room) size (block.start + 16) d.space.objects) d

-- shadow pages from this one on map the pages of a block
abbrev pub map_shadows : ℕ → Block → Draft → Draft
map_shadows first block d = change (map_pages first (block_mappings d.space.heap.pages block)) d

-- the address that the next object has in this block
abbrev pub next_user : List ObjectFact → Block → ℕ
next_user objects block = next_page objects * 4096 + (block.start + 16) % 4096

-- ---- the plan
abbrev pub malloc_in : ℕ → Block → Draft → Outcome
malloc_in n block d = record {
  answer = Given (next_object d.space.objects) (next_user d.space.objects block);
  draft = map_shadows (next_page d.space.objects) block (fill_block block n (grant_object block n (place_block block.room d)));
  closing = Keeps;
}

unfoldable pub malloc_plan : ℕ → Draft → Outcome
malloc_plan n d = unless (first_reason (malloc_reasons n d)) d (malloc_in n (next_block d.space.heap (room_of n)) d)
