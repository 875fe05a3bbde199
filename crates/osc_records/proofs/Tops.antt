-- The topmost table of a process stays where it is in each change of its memory.
use Rattle.std.proofs.Common.{ℕ, suc, zero, ◌+◌, ◌/◌, ◌≡◌, ◌≤◌, ◌==◌, Bool, true, false, ◌&&◌, cond, Option, Some, None, List, [], ◌∷◌, ◌++◌, map, arith, refl, sym, ap, subst, ◌∙◌}
use Rattle.std.specs.Prelude.{take}
use Rattle.std.specs.List.{range_with_len}
use Rattle.std.proofs.lemmas.Bool.Decides.{nat_tests}
use Rattle.osc_word.specs.declared.settings.HeapKind.{HeapKind}
use Rattle.osc_word.specs.declared.settings.HeapKind.TheVariants.{Oscar, Plain}
use Rattle.osc_word.specs.declared.calls.Answer.{Answer}
use Rattle.osc_word.specs.declared.calls.Answer.TheVariants as answers
use Rattle.osc_sv39.specs.declared.entries.Mapping.{Mapping}
use Rattle.osc_sv39.specs.Walk.{piece}
use Rattle.osc_slot.specs.declared.Block.{Block}
use Rattle.osc_slot.specs.Heap.{next_block, block_of_user}
use Rattle.osc_slot.specs.Slots.{is_room}
use Rattle.osc_class.specs.Rooms.{room_of}
use Rattle.osc_paging.specs.KeptTables.{KeptTables, is_piece, frame_of, root_of}
use Rattle.osc_paging.specs.TableChanges.{Changed, zero_job, table_frame, without_page, linked, link, link_all, leaf_put, map_page, map_pages, leaf_cleared, unmap_page, unlinked, reclaim}
use Rattle.osc_paging.proofs.TableLists.{frame_of-with_table, frame_of-without_table}
use Rattle.osc_space.specs.Objects.{Seen, object_at, next_page}
use Rattle.osc_space.specs.Header.{Found, object_reasons}
use Rattle.osc_space.specs.Space.{Draft, Terms, Outcome, Closing, Keeps, GivesBack, first_reason, unless, unchanged}
use Rattle.osc_space.specs.Malloc.{malloc_reasons, malloc_in, malloc_plan, block_need, place_block, fill_block, grant_object, map_shadows}
use Rattle.osc_space.specs.BlockWords.{block_mappings, mappings_of}
use Rattle.osc_space.specs.declared.ObjectFact.{ObjectFact}
use Rattle.osc_space.specs.LeafFlags.{read_write_at}
use Rattle.osc_space.specs.Fork.{free_numbers, set_free}
use Rattle.osc_space.specs.Free.{unmap_all, unmap_object, reclaim_all, dead_leaves, waiting_facts, flush, is_full, flush_where, kill_object, await, let_wait, freed, free_seen, free_plan}
use Rattle.osc_space.specs.Realloc.{stays, place_where, let_go, keep_bytes, realloc_reasons, realloc_in, block_for, realloc_made, realloc_seen, realloc_plan, replace_object}
use Rattle.osc_space.specs.PlainHeap.{plain_reasons, plain_malloc_in, plain_malloc_plan, emptied_pages, unmap_emptied, plain_free_of, plain_free_plan, plain_realloc_reasons, plain_resize, kept_bytes, plain_realloc_of, plain_realloc_plan, copy_block, place_plain}
use Rattle.osc_space.specs.Share.{Sharing, next_shared_page, share_plan}
use Rattle.osc_space.specs.Finish.{give_blocks, finished}
use Rattle.osc_calls.specs.HeapPlans.{malloc_by, free_by, free_of, realloc_by}

-- the topmost table, which is no leaf table, is in this frame
pub record HasTop (f : ℕ) (t : KeptTables) : Type 0 where
  pub root : root_of t ≡ Some f
  pub high : 1 ≤ t.top

-- ---- tables
link-top : (f level number : ℕ) (c : Changed) (x y z : Option ℕ) → HasTop f c.tables → frame_of c.tables.tables level number ≡ x → HasTop f (linked level number x y z c).tables
link-top f level number c None (Some parent) (Some frame) h e = record {
  root = frame_of-with_table c.tables.tables (table_frame level number frame) c.tables.top 0 ∙ other (is_piece (record { level = level; number = number }) c.tables.top 0) refl;
  high = h.high;
}
  where
    other : (b : Bool) → is_piece (record { level = level; number = number }) c.tables.top 0 ≡ b → cond b (Some frame) (frame_of c.tables.tables c.tables.top 0) ≡ Some f
    other false d = h.root
    other true d =
        let level_is : level ≡ c.tables.top = grind (arith, nat_tests, d) in
        let number_is : number ≡ 0 = grind (arith, nat_tests, d) in
        let r = h.root in
        absurd (let b : ⊥ = grind (arith, e, r, level_is, number_is) in b)
link-top f level number c (Some frame) y z h e = h
link-top f level number c None None z h e = h
link-top f level number c None (Some parent) None h e = h

link_all-top : (f level number : ℕ) (c : Changed) → HasTop f c.tables → HasTop f (link_all level number c).tables
unfolding link_all
link_all-top f zero number c h = h
link_all-top f (suc level) number c h =
    link_all-top f level number (link level (piece (suc level) number) c) (link-top f level (piece (suc level) number) c _ _ _ h refl)

leaf-top : (f number : ℕ) (mapping : Mapping) (o : Option ℕ) (c : Changed) → HasTop f c.tables → HasTop f (leaf_put number mapping o c).tables
leaf-top f number mapping None c h = h
leaf-top f number mapping (Some table) c h = record { root = h.root; high = h.high }

map_page-top : (f number : ℕ) (mapping : Mapping) (c : Changed) → HasTop f c.tables → HasTop f (map_page number mapping c).tables
map_page-top f number mapping c h = leaf-top f number mapping _ (link_all c.tables.top number c) (link_all-top f c.tables.top number c h)

map_pages-top : (f number : ℕ) (mappings : List Mapping) (c : Changed) → HasTop f c.tables → HasTop f (map_pages number mappings c).tables
map_pages-top f number [] c h = h
map_pages-top f number (mapping ∷ mappings) c h = map_pages-top f (number + 1) mappings (map_page number mapping c) (map_page-top f number mapping c h)

unmap_page-top : (f number : ℕ) (o : Option ℕ) (c : Changed) → HasTop f c.tables
    → HasTop f (leaf_cleared number o (record c { tables = record (c.tables) { pages = without_page number c.tables.pages } })).tables
unmap_page-top f number None c h = record { root = h.root; high = h.high }
unmap_page-top f number (Some table) c h = record { root = h.root; high = h.high }

unmap_all-top : (f : ℕ) (pages : List ℕ) (c : Changed) → HasTop f c.tables → HasTop f (unmap_all pages c).tables
unmap_all-top f [] c h = h
unmap_all-top f (page ∷ pages) c h = unmap_all-top f pages (unmap_page page c) (unmap_page-top f page _ c h)

unlinked-top : (f leaf : ℕ) (x y : Option ℕ) (c : Changed) → HasTop f c.tables → HasTop f (unlinked leaf x y c).tables
unlinked-top f leaf (Some frame) (Some parent) c h = record {
  root = (let e = frame_of-without_table c.tables.tables 0 leaf c.tables.top 0 in let r = h.root in let l = h.high in
      let not_leaf : (0 == c.tables.top) ≡ false = grind (arith, nat_tests, l) in
      e ∙ ap (λ b. cond (b && (leaf == 0)) None (frame_of c.tables.tables c.tables.top 0)) not_leaf ∙ r);
  high = h.high;
}
unlinked-top f leaf (Some frame) None c h = h
unlinked-top f leaf None y c h = h

reclaim_all-top : (f : ℕ) (leaves : List ℕ) (c : Changed) → HasTop f c.tables → HasTop f (reclaim_all leaves c).tables
reclaim_all-top f [] c h = h
reclaim_all-top f (leaf ∷ leaves) c h = reclaim_all-top f leaves (reclaim leaf c) (unlinked-top f leaf _ _ c h)

-- ---- plans

unless-top : (f : ℕ) (r : Option Answer) (d : Draft) (o : Outcome) → HasTop f d.space.tables → HasTop f o.draft.space.tables → HasTop f (unless r d o).draft.space.tables
unless-top f None d o h g = g
unless-top f (Some refused) d o h g = h

abbrev tables_in : Draft → Changed
tables_in d = record { tables = d.space.tables; free = d.free; jobs = d.jobs }

shadows-top : (f first : ℕ) (block : Block) (d : Draft) → HasTop f d.space.tables → HasTop f (map_shadows first block d).space.tables
shadows-top f first block d h = map_pages-top f first (block_mappings d.space.heap.pages block) (tables_in d) h

unmap-top : (f : ℕ) (o : ObjectFact) (d : Draft) → HasTop f d.space.tables → HasTop f (unmap_object o d).space.tables
unmap-top f o d h = unmap_all-top f (range_with_len o.first o.pages) (tables_in d) h

flush-top : (f harts : ℕ) (gone : List ObjectFact) (d : Draft) → HasTop f d.space.tables → HasTop f (flush harts gone d).space.tables
flush-top f harts gone d h = reclaim_all-top f (dead_leaves gone d.space) (tables_in d) h

malloc-top : (f n : ℕ) (d : Draft) → HasTop f d.space.tables → HasTop f (malloc_plan n d).draft.space.tables
unfolding malloc_plan
malloc-top f n d h =
    let block = next_block d.space.heap (room_of n) in
    unless-top f (first_reason (malloc_reasons n d)) d (malloc_in n block d) h
    (shadows-top f (next_page d.space.objects) block (fill_block block n (grant_object block n (place_block block.room d))) h)

flush_where-top : (f : ℕ) (b : Bool) (harts : ℕ) (d : Draft) → HasTop f d.space.tables → HasTop f (flush_where b harts d).space.tables
flush_where-top f true harts d h = flush-top f harts (waiting_facts d.space) d h
flush_where-top f false harts d h = h

free-top : (f : ℕ) (terms : Terms) (pointer : ℕ) (found : Found) (d : Draft) → HasTop f d.space.tables → HasTop f (free_plan terms pointer found d).draft.space.tables
unfolding free_plan
free-top f terms pointer found d h = go (object_at d.space.objects pointer)
  where
    go : (o : Option Seen) → HasTop f (free_seen o terms found d).draft.space.tables
    go None = h
    go (Some s) = unless-top f (first_reason (object_reasons (Some s) found)) d (freed s.number terms (let_wait terms s d)) h
        (flush_where-top f (is_full terms (let_wait terms s d).space) terms.harts (let_wait terms s d) (unmap-top f s.fact (await s.number (kill_object s.number terms.call d)) h))

go-top : (f harts : ℕ) (o : ObjectFact) (d : Draft) → HasTop f d.space.tables → HasTop f (let_go harts o d).space.tables
go-top f harts o d h = flush-top f harts (waiting_facts d.space ++ o ∷ []) (unmap_object o d) (unmap-top f o d h)

place_where-top : (f : ℕ) (b : Bool) (n : ℕ) (d : Draft) → HasTop f d.space.tables → HasTop f (place_where b n d).space.tables
place_where-top f true n d h = h
place_where-top f false n d h = h

realloc-top : (f : ℕ) (terms : Terms) (pointer n : ℕ) (found : Found) (d : Draft) → HasTop f d.space.tables → HasTop f (realloc_plan terms pointer n found d).draft.space.tables
unfolding realloc_plan
realloc-top f terms pointer n found d h = go (object_at d.space.objects pointer)
  where
    made : (s : Seen) (b : Bool) (block : Block) → HasTop f (realloc_in b terms s n block d).draft.space.tables
    made s b block = shadows-top f (next_page d.space.objects) block (keep_bytes b s.fact block n (replace_object terms s block n (place_where b n d)))
        (go-top f terms.harts s.fact (kill_object s.number terms.call (grant_object block n (place_where b n d))) (place_where-top f b n d h))

    go : (o : Option Seen) → HasTop f (realloc_seen o terms n found d).draft.space.tables
    go None = h
    go (Some s) = unless-top f (first_reason (realloc_reasons (Some s) n found d)) d (realloc_made (stays s.fact n) terms s n d) h (made s (stays s.fact n) (block_for (stays s.fact n) s.fact n d))

plain-top : (f n : ℕ) (block : Block) (d : Draft) → HasTop f d.space.tables → HasTop f (place_plain n block d).space.tables
plain-top f n block d h =
    let filled = fill_block block n (place_block block.room d) in
    map_pages-top f (block.start / 4096) (mappings_of filled.space.heap.pages (block.start / 4096) (block_need d block.room)) (tables_in filled) h

plain_malloc-top : (f n : ℕ) (d : Draft) → HasTop f d.space.tables → HasTop f (plain_malloc_plan n d).draft.space.tables
unfolding plain_malloc_plan
plain_malloc-top f n d h =
    let block = next_block d.space.heap (room_of n) in
    unless-top f (first_reason (plain_reasons (room_of n) d)) d (plain_malloc_in n block d) h (plain-top f n block d h)

emptied-top : (f harts : ℕ) (pages : List ℕ) (d : Draft) → HasTop f d.space.tables → HasTop f (unmap_emptied pages harts d).space.tables
emptied-top f harts [] d h = h
emptied-top f harts (page ∷ pages) d h = unmap_all-top f (page ∷ pages) (tables_in d) h

plain_free-top : (f harts pointer : ℕ) (d : Draft) → HasTop f d.space.tables → HasTop f (plain_free_plan harts pointer d).draft.space.tables
unfolding plain_free_plan
plain_free-top f harts pointer d h = go (block_of_user d.space.heap.held pointer)
  where
    go : (o : Option Block) → HasTop f (plain_free_of o harts d).draft.space.tables
    go None = h
    go (Some block) = emptied-top f harts (emptied_pages d.space.heap.held block) d h

plain_realloc-top : (f harts pointer n size : ℕ) (d : Draft) → HasTop f d.space.tables → HasTop f (plain_realloc_plan harts pointer n size d).draft.space.tables
unfolding plain_realloc_plan
plain_realloc-top f harts pointer n size d h = go (block_of_user d.space.heap.held pointer)
  where
    sized : (b : Bool) (old : Block) (bytes : ℕ) → HasTop f (plain_resize b harts old n bytes d).draft.space.tables
    sized true old bytes = h
    sized false old bytes =
        let block = next_block d.space.heap (room_of n) in
        let copied = copy_block old block bytes (place_plain n block d) in
        emptied-top f harts (emptied_pages copied.space.heap.held old) copied (plain-top f n block d h)

    go : (o : Option Block) → HasTop f (plain_realloc_of o harts n size d).draft.space.tables
    go None = h
    go (Some block) = unless-top f (first_reason (plain_realloc_reasons (Some block) n d)) d (plain_resize (is_room (room_of n) block.room) harts block n (kept_bytes block size n) d) h
        (sized (is_room (room_of n) block.room) block (kept_bytes block size n))

-- on either heap
pub malloc_by-top : (f : ℕ) (kind : HeapKind) (n : ℕ) (d : Draft) → HasTop f d.space.tables → HasTop f (malloc_by kind n d).draft.space.tables
malloc_by-top f Oscar n d h = malloc-top f n d h
malloc_by-top f Plain n d h = plain_malloc-top f n d h

pub free_of-top : (f : ℕ) (kind : HeapKind) (terms : Terms) (pointer : ℕ) (found : Found) (d : Draft) → HasTop f d.space.tables → HasTop f (free_of kind terms pointer found d).draft.space.tables
free_of-top f kind terms pointer found d h = go (pointer == 0) kind
  where
    go : (b : Bool) (kind : HeapKind) → HasTop f (cond b (unchanged answers.Nothing d) (free_by kind terms pointer found d)).draft.space.tables
    go true kind = h
    go false Oscar = free-top f terms pointer found d h
    go false Plain = plain_free-top f terms.harts pointer d h

pub realloc_by-top : (f : ℕ) (kind : HeapKind) (terms : Terms) (pointer n : ℕ) (found : Found) (d : Draft) → HasTop f d.space.tables → HasTop f (realloc_by kind terms pointer n found d).draft.space.tables
realloc_by-top f Oscar terms pointer n found d h = realloc-top f terms pointer n found d h
realloc_by-top f Plain terms pointer n found d h = plain_realloc-top f terms.harts pointer n found.second d h

pub share-top : (f count : ℕ) (s : Sharing) → HasTop f s.tables → HasTop f (share_plan count s).tables
unfolding share_plan
share-top f count s h =
    let frames = take count (free_numbers s.free) in
    map_pages-top f (next_shared_page s.tables) (map read_write_at frames) (record { tables = s.tables; free = set_free false frames s.free; jobs = s.jobs ++ map zero_job frames }) h

-- ---- what is given back
blocks-top : (blocks : List Block) (d : Draft) → (give_blocks blocks d).space.tables ≡ d.space.tables
blocks-top [] d = refl
blocks-top (block ∷ blocks) d = blocks-top blocks _

pub finished-top : (f : ℕ) (closing : Closing) (d : Draft) → HasTop f d.space.tables → HasTop f (finished closing d).space.tables
unfolding finished
finished-top f Keeps d h = h
finished-top f (GivesBack blocks) d h = let g = subst (HasTop f) (sym (blocks-top blocks d)) h in record { root = g.root; high = g.high }
