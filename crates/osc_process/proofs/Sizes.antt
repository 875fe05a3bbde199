-- What no call changes of a memory.
use Rattle.std.proofs.Common.{ℕ, zero, suc, ◌+◌, ◌/◌, ◌≡◌, ◌==◌, Bool, true, false, cond, Option, Some, None, List, [], ◌∷◌, ◌++◌, refl, ◌∙◌, subst, sym}
use Rattle.std.specs.List.{range_with_len}
use Rattle.osc_word.specs.declared.settings.HeapKind.{HeapKind}
use Rattle.osc_word.specs.declared.settings.HeapKind.TheVariants.{Oscar, Plain}
use Rattle.osc_word.specs.declared.calls.Answer.{Answer}
use Rattle.osc_word.specs.declared.calls.Answer.TheVariants as answers
use Rattle.osc_class.specs.declared.Room.{Room}
use Rattle.osc_class.specs.Rooms.{room_of, shadow_pages}
use Rattle.osc_slot.specs.declared.Block.{Block}
use Rattle.osc_slot.specs.Slots.{is_room}
use Rattle.osc_slot.specs.Heap.{place, release, next_block, block_of_user}
use Rattle.osc_paging.specs.KeptTables.{KeptTables}
use Rattle.osc_paging.specs.TableChanges.{Changed, map_pages, unmap_page, give_leaves}
use Rattle.osc_space.specs.declared.ObjectFact.{ObjectFact}
use Rattle.osc_space.specs.Objects.{Seen, next_page, object_at}
use Rattle.osc_space.specs.Header.{Found, object_reasons}
use Rattle.osc_space.specs.Space.{Space, Draft, Outcome, Terms, Closing, Keeps, GivesBack, first_reason, unless, unchanged, change, with_heap}
use Rattle.osc_space.specs.BlockWords.{block_mappings, mappings_of}
use Rattle.osc_space.specs.Malloc.{block_need, malloc_reasons, malloc_in, malloc_plan, place_block, fill_block, grant_object, map_shadows, memory_reasons}
use Rattle.osc_space.specs.Free.{waiting_facts, kill_object, await, unmap_all, unmap_object, dead_leaves, reclaim_all, flush, flush_where, is_full, let_wait, freed, free_seen, free_plan}
use Rattle.osc_space.specs.Realloc.{stays, frames_for, block_for, place_where, keep_bytes, let_go, replace_object, realloc_in, realloc_made, realloc_reasons, realloc_seen, realloc_plan}
use Rattle.osc_space.specs.PlainHeap.{plain_reasons, plain_realloc_reasons, map_blocks, place_plain, plain_malloc_in, plain_malloc_plan, emptied_pages, unmap_emptied, let_go_plain, plain_free_of, plain_free_plan, kept_bytes, copy_block, plain_move, plain_resize, plain_realloc_of, plain_realloc_plan}
use Rattle.osc_space.specs.Finish.{give_blocks, none_waits, finished}
use Rattle.osc_parts.specs.Settled.{tables_of}
use Rattle.osc_parts.proofs.Shapes.{SameShape, Unmaps, same_shape, then, map_pages-adds, unmap_page-shape, unmap_all-shape, reclaim_all-shape}
use Rattle.osc_calls.specs.HeapPlans.{malloc_by, free_by, free_of, realloc_by}
use Rattle.osc_process.specs.Parts.{SameSizes}

pub same_sizes : (s : Space) → SameSizes s s
same_sizes s = record { top = refl; count = refl; room = refl; shadows = refl; frames = refl }

pub sizes_then : (s t u : Space) → SameSizes s t → SameSizes t u → SameSizes s u
sizes_then s t u a b = record {
  top = b.top ∙ a.top;
  count = b.count ∙ a.count;
  room = b.room ∙ a.room;
  shadows = b.shadows ∙ a.shadows;
  frames = b.frames ∙ a.frames;
}

-- ---- parts of plans
change_sizes : (rule : Changed → Changed) (d : Draft) → SameShape d.space.tables (rule (tables_of d)).tables → SameSizes d.space (change rule d).space
change_sizes rule d e = record { top = e.top; count = e.count; room = e.room; shadows = refl; frames = refl }

placed_sizes : (room : Room) (d : Draft) → SameSizes d.space (place_block room d).space
unfolding place
placed_sizes room d = record { top = refl; count = refl; room = refl; shadows = refl; frames = refl }

unmapped_sizes : (o : ObjectFact) (d : Draft) → SameSizes d.space (unmap_object o d).space
unmapped_sizes o d = change_sizes (unmap_all (range_with_len o.first o.pages)) d (unmap_all-shape o.pages o.first (tables_of d)).shape

flush_sizes : (harts : ℕ) (gone : List ObjectFact) (d : Draft) → SameSizes d.space (flush harts gone d).space
flush_sizes harts gone d = let e = change_sizes (reclaim_all (dead_leaves gone d.space)) d (reclaim_all-shape (dead_leaves gone d.space) (tables_of d)).shape in
    record { top = e.top; count = e.count; room = e.room; shadows = refl; frames = refl }

mapped_sizes : (first : ℕ) (block : Block) (d : Draft) → SameSizes d.space (map_shadows first block d).space
mapped_sizes first block d = change_sizes (map_pages first (block_mappings d.space.heap.pages block)) d (map_pages-adds (block_mappings d.space.heap.pages block) first (tables_of d)).shape

-- ---- malloc
malloc_sizes : (n : ℕ) (d : Draft) → SameSizes d.space (malloc_plan n d).draft.space
unfolding malloc_plan
malloc_sizes n d = go (first_reason (malloc_reasons n d)) (next_block d.space.heap (room_of n))
  where
    go : (r : Option Answer) (block : Block) → SameSizes d.space (unless r d (malloc_in n block d)).draft.space
    go (Some refused) block = same_sizes d.space
    go None block =
        let e = fill_block block n (grant_object block n (place_block block.room d)) in
        let p = placed_sizes block.room d in
        let q : SameSizes d.space e.space = record { top = refl; count = refl; room = refl; shadows = refl; frames = p.frames } in
        sizes_then d.space e.space (map_shadows (next_page d.space.objects) block e).space q (mapped_sizes (next_page d.space.objects) block e)

plain_placed_sizes : (n : ℕ) (block : Block) (d : Draft) → SameSizes d.space (place_plain n block d).space
plain_placed_sizes n block d =
    let e = fill_block block n (place_block block.room d) in
    let p = placed_sizes block.room d in
    let q : SameSizes d.space e.space = record { top = refl; count = refl; room = refl; shadows = refl; frames = p.frames } in
    let first = block.start / 4096 in
    let count = block_need d block.room in
    sizes_then d.space e.space (map_blocks first count e).space q
    (change_sizes (map_pages first (mappings_of e.space.heap.pages first count)) e (map_pages-adds (mappings_of e.space.heap.pages first count) first (tables_of e)).shape)

plain_malloc_sizes : (n : ℕ) (d : Draft) → SameSizes d.space (plain_malloc_plan n d).draft.space
unfolding plain_malloc_plan
plain_malloc_sizes n d = go (first_reason (plain_reasons (room_of n) d)) (next_block d.space.heap (room_of n))
  where
    go : (r : Option Answer) (block : Block) → SameSizes d.space (unless r d (plain_malloc_in n block d)).draft.space
    go (Some refused) block = same_sizes d.space
    go None block = plain_placed_sizes n block d

pub malloc_by_sizes : (kind : HeapKind) (n : ℕ) (d : Draft) → SameSizes d.space (malloc_by kind n d).draft.space
malloc_by_sizes Oscar n d = malloc_sizes n d
malloc_by_sizes Plain n d = plain_malloc_sizes n d

-- ---- free
waits_sizes : (terms : Terms) (s : Seen) (d : Draft) → SameSizes d.space (let_wait terms s d).space
waits_sizes terms s d =
    let e = unmapped_sizes s.fact (await s.number (kill_object s.number terms.call d)) in
    record { top = e.top; count = e.count; room = e.room; shadows = refl; frames = refl }

flush_where_sizes : (b : Bool) (harts : ℕ) (d : Draft) → SameSizes d.space (flush_where b harts d).space
flush_where_sizes true harts d = flush_sizes harts (waiting_facts d.space) d
flush_where_sizes false harts d = same_sizes d.space

pub free_sizes : (terms : Terms) (pointer : ℕ) (found : Found) (d : Draft) → SameSizes d.space (free_plan terms pointer found d).draft.space
unfolding free_plan
free_sizes terms pointer found d = at (object_at d.space.objects pointer)
  where
    go : (s : Seen) (r : Option Answer) → SameSizes d.space (unless r d (freed s.number terms (let_wait terms s d))).draft.space
    go s (Some refused) = same_sizes d.space
    go s None =
        let e = let_wait terms s d in
        sizes_then d.space e.space (flush_where (is_full terms e.space) terms.harts e).space (waits_sizes terms s d) (flush_where_sizes (is_full terms e.space) terms.harts e)

    at : (x : Option Seen) → SameSizes d.space (free_seen x terms found d).draft.space
    at None = same_sizes d.space
    at (Some s) = go s (first_reason (object_reasons (Some s) found))

list_shape : (pages : List ℕ) (c : Changed) → SameShape c.tables (unmap_all pages c).tables
list_shape [] c = same_shape c.tables
list_shape (p ∷ pages) c = then c.tables (unmap_page p c).tables (unmap_all pages (unmap_page p c)).tables (unmap_page-shape p c).shape (list_shape pages (unmap_page p c))

let_go_sizes : (harts : ℕ) (block : Block) (d : Draft) → SameSizes d.space (let_go_plain harts block d).space
let_go_sizes harts block d = go (emptied_pages d.space.heap.held block)
  where
    go : (pages : List ℕ) → SameSizes d.space (unmap_emptied pages harts d).space
    go [] = same_sizes d.space
    go (p ∷ pages) = let e = change_sizes (unmap_all (p ∷ pages)) d (list_shape (p ∷ pages) (tables_of d)) in
        record { top = e.top; count = e.count; room = e.room; shadows = refl; frames = refl }

pub plain_free_sizes : (harts pointer : ℕ) (d : Draft) → SameSizes d.space (plain_free_plan harts pointer d).draft.space
unfolding plain_free_plan
plain_free_sizes harts pointer d = at (block_of_user d.space.heap.held pointer)
  where
    at : (x : Option Block) → SameSizes d.space (plain_free_of x harts d).draft.space
    at None = same_sizes d.space
    at (Some block) = let_go_sizes harts block d

free_by_sizes : (kind : HeapKind) (terms : Terms) (pointer : ℕ) (found : Found) (d : Draft) → SameSizes d.space (free_by kind terms pointer found d).draft.space
free_by_sizes Oscar terms pointer found d = free_sizes terms pointer found d
free_by_sizes Plain terms pointer found d = plain_free_sizes terms.harts pointer d

pub free_of_sizes : (kind : HeapKind) (terms : Terms) (pointer : ℕ) (found : Found) (d : Draft) → SameSizes d.space (free_of kind terms pointer found d).draft.space
free_of_sizes kind terms pointer found d = go (pointer == 0)
  where
    go : (b : Bool) → SameSizes d.space (cond b (unchanged answers.Nothing d) (free_by kind terms pointer found d)).draft.space
    go true = same_sizes d.space
    go false = free_by_sizes kind terms pointer found d

-- ---- realloc
place_where_sizes : (stay : Bool) (n : ℕ) (d : Draft) → SameSizes d.space (place_where stay n d).space
place_where_sizes true n d = same_sizes d.space
place_where_sizes false n d = placed_sizes (room_of n) d

replaced_sizes : (terms : Terms) (s : Seen) (block : Block) (n : ℕ) (d : Draft) → SameSizes d.space (replace_object terms s block n d).space
replaced_sizes terms s block n d =
    let a = kill_object s.number terms.call (grant_object block n d) in
    let b = unmap_object s.fact a in
    let p = unmapped_sizes s.fact a in
    let q : SameSizes d.space b.space = record { top = p.top; count = p.count; room = p.room; shadows = refl; frames = refl } in
    sizes_then d.space b.space (replace_object terms s block n d).space q (flush_sizes terms.harts (waiting_facts b.space ++ s.fact ∷ []) b)

realloc_sizes : (terms : Terms) (pointer n : ℕ) (found : Found) (d : Draft) → SameSizes d.space (realloc_plan terms pointer n found d).draft.space
unfolding realloc_plan
realloc_sizes terms pointer n found d = at (object_at d.space.objects pointer)
  where
    made : (stay : Bool) (s : Seen) (block : Block) → SameSizes d.space (realloc_in stay terms s n block d).draft.space
    made stay s block =
        let a = place_where stay n d in
        let b = replace_object terms s block n a in
        let c = keep_bytes stay s.fact block n b in
        let r = sizes_then d.space a.space b.space (place_where_sizes stay n d) (replaced_sizes terms s block n a) in
        let k : SameSizes d.space c.space = record { top = r.top; count = r.count; room = r.room; shadows = r.shadows; frames = r.frames } in
        sizes_then d.space c.space (map_shadows (next_page d.space.objects) block c).space k (mapped_sizes (next_page d.space.objects) block c)

    go : (stay : Bool) (s : Seen) (r : Option Answer) → SameSizes d.space (unless r d (realloc_made stay terms s n d)).draft.space
    go stay s (Some refused) = same_sizes d.space
    go stay s None = made stay s (block_for stay s.fact n d)

    at : (x : Option Seen) → SameSizes d.space (realloc_seen x terms n found d).draft.space
    at None = same_sizes d.space
    at (Some s) = go (stays s.fact n) s (first_reason (realloc_reasons (Some s) n found d))

plain_realloc_sizes : (harts pointer n size : ℕ) (d : Draft) → SameSizes d.space (plain_realloc_plan harts pointer n size d).draft.space
unfolding plain_realloc_plan
plain_realloc_sizes harts pointer n size d = at (block_of_user d.space.heap.held pointer)
  where
    resized : (stay : Bool) (block : Block) (bytes : ℕ) → SameSizes d.space (plain_resize stay harts block n bytes d).draft.space
    resized true block bytes = record { top = refl; count = refl; room = refl; shadows = refl; frames = refl }
    resized false block bytes =
        let new = next_block d.space.heap (room_of n) in
        let a = place_plain n new d in
        let b = copy_block block new bytes a in
        let p = plain_placed_sizes n new d in
        let q : SameSizes d.space b.space = record { top = p.top; count = p.count; room = p.room; shadows = p.shadows; frames = p.frames } in
        sizes_then d.space b.space (let_go_plain harts block b).space q (let_go_sizes harts block b)

    go : (block : Block) (r : Option Answer) → SameSizes d.space (unless r d (plain_resize (is_room (room_of n) block.room) harts block n (kept_bytes block size n) d)).draft.space
    go block (Some refused) = same_sizes d.space
    go block None = resized (is_room (room_of n) block.room) block (kept_bytes block size n)

    at : (x : Option Block) → SameSizes d.space (plain_realloc_of x harts n size d).draft.space
    at None = same_sizes d.space
    at (Some block) = go block (first_reason (plain_realloc_reasons (Some block) n d))

pub realloc_by_sizes : (kind : HeapKind) (terms : Terms) (pointer n : ℕ) (found : Found) (d : Draft) → SameSizes d.space (realloc_by kind terms pointer n found d).draft.space
realloc_by_sizes Oscar terms pointer n found d = realloc_sizes terms pointer n found d
realloc_by_sizes Plain terms pointer n found d = plain_realloc_sizes terms.harts pointer n found.second d

-- ---- returns
given_sizes : (blocks : List Block) (d : Draft) → SameSizes d.space (give_blocks blocks d).space
unfolding release
given_sizes [] d = same_sizes d.space
given_sizes (b ∷ blocks) d =
    let e = with_heap (release d.space.heap b d.free) d in
    let q : SameSizes d.space e.space = record { top = refl; count = refl; room = refl; shadows = refl; frames = refl } in
    sizes_then d.space e.space (give_blocks blocks e).space q (given_sizes blocks e)

pub finished_sizes : (closing : Closing) (d : Draft) → SameSizes d.space (finished closing d).space
unfolding finished
finished_sizes Keeps d = same_sizes d.space
finished_sizes (GivesBack blocks) d = let g = given_sizes blocks d in record { top = g.top; count = g.count; room = g.room; shadows = g.shadows; frames = g.frames }
