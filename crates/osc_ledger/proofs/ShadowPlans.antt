-- No change of a process's memory changes how many shadow pages it may be granted.
use Rattle.std.proofs.Common.{ℕ, ◌≡◌, ◌==◌, Bool, true, false, cond, Option, Some, None, List, [], ◌∷◌, refl}
use Rattle.osc_word.specs.declared.settings.HeapKind.{HeapKind}
use Rattle.osc_word.specs.declared.settings.HeapKind.TheVariants.{Oscar, Plain}
use Rattle.osc_word.specs.declared.calls.Answer.{Answer}
use Rattle.osc_word.specs.declared.calls.Answer.TheVariants as answers
use Rattle.osc_slot.specs.declared.Block.{Block}
use Rattle.osc_slot.specs.Heap.{next_block, block_of_user}
use Rattle.osc_slot.specs.Slots.{is_room}
use Rattle.osc_class.specs.Rooms.{room_of}
use Rattle.osc_space.specs.Objects.{Seen, object_at}
use Rattle.osc_space.specs.Header.{Found, object_reasons}
use Rattle.osc_space.specs.Space.{Draft, Terms, Outcome, Closing, Keeps, GivesBack, first_reason, unless, unchanged}
use Rattle.osc_space.specs.Malloc.{malloc_reasons, malloc_in, malloc_plan}
use Rattle.osc_space.specs.Free.{is_full, flush_where, let_wait, freed, free_seen, free_plan}
use Rattle.osc_space.specs.Realloc.{stays, place_where, realloc_reasons, realloc_in, block_for, realloc_made, realloc_seen, realloc_plan}
use Rattle.osc_space.specs.PlainHeap.{plain_reasons, plain_malloc_in, plain_malloc_plan, emptied_pages, unmap_emptied, plain_free_of, plain_free_plan, plain_realloc_reasons, plain_resize, kept_bytes, plain_realloc_of, plain_realloc_plan, copy_block, place_plain}
use Rattle.osc_space.specs.Finish.{give_blocks, finished}
use Rattle.osc_calls.specs.HeapPlans.{malloc_by, free_by, free_of, realloc_by}

-- ---- plans
abbrev SameIn : Draft → Draft → Type 0
SameIn d e = e.space.shadows ≡ d.space.shadows

refused : (r : Option Answer) (d : Draft) (o : Outcome) → SameIn d o.draft → SameIn d (unless r d o).draft
refused None d o h = h
refused (Some answer) d o h = refl

mallocs : (n : ℕ) (d : Draft) → SameIn d (malloc_plan n d).draft
unfolding malloc_plan
mallocs n d =
    refused (first_reason (malloc_reasons n d)) d (malloc_in n (next_block d.space.heap (room_of n)) d) refl

flushes-where : (b : Bool) (harts : ℕ) (d : Draft) → SameIn d (flush_where b harts d)
flushes-where true harts d = refl
flushes-where false harts d = refl

frees : (terms : Terms) (pointer : ℕ) (found : Found) (d : Draft) → SameIn d (free_plan terms pointer found d).draft
unfolding free_plan
frees terms pointer found d = go (object_at d.space.objects pointer)
  where
    go : (o : Option Seen) → SameIn d (free_seen o terms found d).draft
    go None = refl
    go (Some s) = refused (first_reason (object_reasons (Some s) found)) d (freed s.number terms (let_wait terms s d))
        (flushes-where (is_full terms (let_wait terms s d).space) terms.harts (let_wait terms s d))

places : (b : Bool) (n : ℕ) (d : Draft) → SameIn d (place_where b n d)
places true n d = refl
places false n d = refl

reallocs : (terms : Terms) (pointer n : ℕ) (found : Found) (d : Draft) → SameIn d (realloc_plan terms pointer n found d).draft
unfolding realloc_plan
reallocs terms pointer n found d = go (object_at d.space.objects pointer)
  where
    made : (s : Seen) (b : Bool) (block : Block) → SameIn d (realloc_in b terms s n block d).draft
    made s b block = places b n d

    go : (o : Option Seen) → SameIn d (realloc_seen o terms n found d).draft
    go None = refl
    go (Some s) = refused (first_reason (realloc_reasons (Some s) n found d)) d (realloc_made (stays s.fact n) terms s n d) (made s (stays s.fact n) (block_for (stays s.fact n) s.fact n d))

plain_mallocs : (n : ℕ) (d : Draft) → SameIn d (plain_malloc_plan n d).draft
unfolding plain_malloc_plan
plain_mallocs n d =
    let block = next_block d.space.heap (room_of n) in
    refused (first_reason (plain_reasons (room_of n) d)) d (plain_malloc_in n block d) refl

empties : (harts : ℕ) (pages : List ℕ) (d : Draft) → SameIn d (unmap_emptied pages harts d)
empties harts [] d = refl
empties harts (page ∷ pages) d = refl

plain_frees : (harts pointer : ℕ) (d : Draft) → SameIn d (plain_free_plan harts pointer d).draft
unfolding plain_free_plan
plain_frees harts pointer d = go (block_of_user d.space.heap.held pointer)
  where
    go : (o : Option Block) → SameIn d (plain_free_of o harts d).draft
    go None = refl
    go (Some block) = empties harts (emptied_pages d.space.heap.held block) d

plain_reallocs : (harts pointer n size : ℕ) (d : Draft) → SameIn d (plain_realloc_plan harts pointer n size d).draft
unfolding plain_realloc_plan
plain_reallocs harts pointer n size d = go (block_of_user d.space.heap.held pointer)
  where
    sized : (b : Bool) (old : Block) (bytes : ℕ) → SameIn d (plain_resize b harts old n bytes d).draft
    sized true old bytes = refl
    sized false old bytes =
        let block = next_block d.space.heap (room_of n) in
        let copied = copy_block old block bytes (place_plain n block d) in
        empties harts (emptied_pages copied.space.heap.held old) copied

    go : (o : Option Block) → SameIn d (plain_realloc_of o harts n size d).draft
    go None = refl
    go (Some block) = refused (first_reason (plain_realloc_reasons (Some block) n d)) d (plain_resize (is_room (room_of n) block.room) harts block n (kept_bytes block size n) d)
        (sized (is_room (room_of n) block.room) block (kept_bytes block size n))

-- on either heap
pub malloc_by-same : (kind : HeapKind) (n : ℕ) (d : Draft) → SameIn d (malloc_by kind n d).draft
malloc_by-same Oscar n d = mallocs n d
malloc_by-same Plain n d = plain_mallocs n d

pub free_of-same : (kind : HeapKind) (terms : Terms) (pointer : ℕ) (found : Found) (d : Draft) → SameIn d (free_of kind terms pointer found d).draft
free_of-same kind terms pointer found d = go (pointer == 0) kind
  where
    go : (b : Bool) (kind : HeapKind) → SameIn d (cond b (unchanged answers.Nothing d) (free_by kind terms pointer found d)).draft
    go true kind = refl
    go false Oscar = frees terms pointer found d
    go false Plain = plain_frees terms.harts pointer d

pub realloc_by-same : (kind : HeapKind) (terms : Terms) (pointer n : ℕ) (found : Found) (d : Draft) → SameIn d (realloc_by kind terms pointer n found d).draft
realloc_by-same Oscar terms pointer n found d = reallocs terms pointer n found d
realloc_by-same Plain terms pointer n found d = plain_reallocs terms.harts pointer n found.second d

-- ---- what is given back
blocks-same : (blocks : List Block) (d : Draft) → SameIn d (give_blocks blocks d)
blocks-same [] d = refl
blocks-same (block ∷ blocks) d = blocks-same blocks _

pub finished-same : (closing : Closing) (d : Draft) → SameIn d (finished closing d)
unfolding finished
finished-same Keeps d = refl
finished-same (GivesBack blocks) d = blocks-same blocks d
