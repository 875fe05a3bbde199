-- Realloc: always a fresh object with fresh shadow pages, and the old one is dead. The block stays
-- exactly where the room of the new size is the old one; else the bytes are copied into a new block,
-- and the old one is given back when the call returns. Each realloc that is done flushes: the objects
-- that waited are let go with the old one. This project's own.
use Rattle.std.specs.Prelude.{ℕ, min, Bool, true, false, Option, Some, None, List, [], ◌∷◌, ◌++◌}
use Rattle.osc_word.specs.declared.job_list.Job.{Job}
use Rattle.osc_word.specs.declared.calls.Answer.TheVariants.{Moved, NotAnObject}
use Rattle.osc_class.specs.Rooms.{room_of, shadow_pages}
use Rattle.osc_slot.specs.declared.Block.{Block}
use Rattle.osc_slot.specs.declared.HeapPage.{HeapPage}
use Rattle.osc_slot.specs.Slots.{is_room}
use Rattle.osc_slot.specs.Heap.{next_block}
use Rattle.osc_space.specs.declared.ObjectFact.{ObjectFact}
use Rattle.osc_space.specs.Objects.{Seen, next_page, next_object, object_at}
use Rattle.osc_space.specs.Header.{Found, object_reasons, block_of}
use Rattle.osc_space.specs.Space.{Draft, Terms, Outcome, GivesBack, Reason, first_reason, unless, unchanged, push}
use Rattle.osc_space.specs.BlockWords.{zero_block, header_jobs, copy_jobs, trim_jobs}
use Rattle.osc_space.specs.Malloc.{memory_reasons, block_need, place_block, grant_object, map_shadows, next_user}
use Rattle.osc_space.specs.Free.{waiting_facts, waiting_blocks, kill_object, unmap_object, flush}

-- ---- the block: the old one where it stays, else the next of the new room
abbrev pub stays : ObjectFact → ℕ → Bool
stays o n = is_room (room_of n) (room_of o.size)

-- nothing that is given back counts in the need
abbrev pub frames_for : Bool → ℕ → Draft → ℕ
frames_for true n d = 0
frames_for false n d = block_need d (room_of n)

abbrev pub block_for : Bool → ObjectFact → ℕ → Draft → Block
block_for true o n d = block_of o
block_for false o n d = next_block d.space.heap (room_of n)

abbrev pub place_where : Bool → ℕ → Draft → Draft
place_where true n d = d
place_where false n d = place_block (room_of n) d

abbrev pub left_block : Bool → ObjectFact → List Block
left_block true o = []
left_block false o = block_of o ∷ []

-- the bytes that both sizes have are kept
abbrev pub bytes_jobs : Bool → List HeapPage → ObjectFact → Block → ℕ → List Job
bytes_jobs true pages o block n = trim_jobs pages block (min o.size n) n
bytes_jobs false pages o block n =
    zero_block pages block ++ header_jobs pages block n ++ copy_jobs pages (block_of o) block (min o.size n)

-- ---- the plan
abbrev pub let_go : ℕ → ObjectFact → Draft → Draft
let_go harts o d = flush harts (waiting_facts d.space ++ o ∷ []) (unmap_object o d)

-- the next object is in this block, and the old one is dead; leaf tables are judged after that
abbrev pub replace_object : Terms → Seen → Block → ℕ → Draft → Draft
replace_object terms s block n d =
    let_go terms.harts s.fact (kill_object s.number terms.call (grant_object block n d))

abbrev pub keep_bytes : Bool → ObjectFact → Block → ℕ → Draft → Draft
keep_bytes stay o block n d = push (bytes_jobs stay d.space.heap.pages o block n) d

abbrev pub realloc_in : Bool → Terms → Seen → ℕ → Block → Draft → Outcome
realloc_in stay terms s n block d = record {
  answer = Moved s.number (next_object d.space.objects) (next_user d.space.objects block);
  draft =
      map_shadows (next_page d.space.objects) block
      (keep_bytes stay s.fact block n (replace_object terms s block n (place_where stay n d)));
  closing = GivesBack (waiting_blocks d.space ++ left_block stay s.fact);
}

abbrev pub realloc_made : Bool → Terms → Seen → ℕ → Draft → Outcome
realloc_made stay terms s n d = realloc_in stay terms s n (block_for stay s.fact n d) d

-- the old object first, and then the memory
abbrev pub realloc_reasons : Option Seen → ℕ → Found → Draft → List Reason
realloc_reasons None n found d = object_reasons None found
realloc_reasons (Some s) n found d =
    object_reasons (Some s) found ++ memory_reasons (frames_for (stays s.fact n) n d) (shadow_pages (room_of n)) d

abbrev pub realloc_seen : Option Seen → Terms → ℕ → Found → Draft → Outcome
realloc_seen None terms n found d = unchanged NotAnObject d
realloc_seen (Some s) terms n found d =
    unless (first_reason (realloc_reasons (Some s) n found d)) d (realloc_made (stays s.fact n) terms s n d)

unfoldable pub realloc_plan : Terms → ℕ → ℕ → Found → Draft → Outcome
realloc_plan terms pointer n found d = realloc_seen (object_at d.space.objects pointer) terms n found d
