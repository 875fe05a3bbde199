-- No change of a process's memory but its end changes which frames its image and its stack have.
use Rattle.std.proofs.Common.{ℕ, zero, suc, ◌+◌, ◌/◌, ◌≡◌, ◌≤◌, ◌==◌, Bool, true, false, cond, Option, Some, None, List, [], ◌∷◌, ◌++◌, length, map, filter, take, arith, refl, sym, ap, subst, ◌∙◌}
use Rattle.std.specs.List.{range_with_len}
use Rattle.std.proofs.lemmas.Bool.Decides.{nat_tests}
use Rattle.osc_word.specs.AddressMap.{first_shadow_page, first_shared_page, is_image_or_stack}
use Rattle.osc_word.specs.declared.settings.HeapKind.{HeapKind}
use Rattle.osc_word.specs.declared.settings.HeapKind.TheVariants.{Oscar, Plain}
use Rattle.osc_word.specs.declared.calls.Answer.{Answer}
use Rattle.osc_word.specs.declared.calls.Answer.TheVariants as answers
use Rattle.osc_sv39.specs.declared.entries.Mapping.{Mapping}
use Rattle.osc_class.specs.Rooms.{room_of, shadow_pages}
use Rattle.osc_slot.specs.declared.Block.{Block}
use Rattle.osc_slot.specs.Slots.{is_room, is_held, is_block, is_covered}
use Rattle.osc_slot.specs.Heap.{next_block, without_block, block_of_user, free_count}
use Rattle.osc_slot.proofs.HeldBlocks.{same_block, found}
use Rattle.osc_paging.specs.declared.Mapped.{Mapped}
use Rattle.osc_paging.specs.KeptTables.{KeptTables, frame_of, need}
use Rattle.osc_paging.specs.TableChanges.{Changed, link_all, leaf_put, map_page, map_pages, leaf_cleared, unmap_page, without_page, unlinked, reclaim, renamed_page, zero_job}
use Rattle.osc_paging.proofs.Needed.{link_all-pages}
use Rattle.osc_space.specs.declared.ObjectFact.{ObjectFact}
use Rattle.osc_space.specs.Objects.{Seen, next_page, object_at, AreGranted}
use Rattle.osc_space.specs.Header.{Found, object_reasons}
use Rattle.osc_space.specs.Space.{Space, Draft, Terms, Outcome, Closing, Keeps, GivesBack, first_reason, unless, unchanged}
use Rattle.osc_space.specs.BlockWords.{block_mappings, mappings_of}
use Rattle.osc_space.specs.LeafFlags.{read_write_at}
use Rattle.osc_space.specs.Fork.{frame_of_page, image_frames, free_numbers, set_free, copies, name_in, fork_plan}
use Rattle.osc_space.specs.Share.{Regions, Sharing, next_shared_page, share_plan}
use Rattle.osc_space.specs.Malloc.{block_need, place_block, fill_block, grant_object, malloc_reasons, malloc_in, malloc_plan}
use Rattle.osc_space.specs.Free.{kill_object, unmap_object, unmap_all, reclaim_all, dead_leaves, waiting_facts, flush, let_wait, is_full, flush_where, freed, free_seen, free_plan}
use Rattle.osc_space.specs.Realloc.{stays, block_for, place_where, let_go, keep_bytes, replace_object, realloc_reasons, realloc_in, realloc_made, realloc_seen, realloc_plan}
use Rattle.osc_space.specs.PlainHeap.{plain_reasons, place_plain, plain_malloc_in, plain_malloc_plan, emptied_pages, unmap_emptied, plain_free_of, plain_free_plan, plain_realloc_reasons, copy_block, plain_resize, kept_bytes, plain_realloc_of, plain_realloc_plan}
use Rattle.osc_space.specs.Finish.{give_blocks, finished}
use Rattle.osc_space.specs.Agree.{ObjectsAgree}
use Rattle.osc_space.proofs.ObjectLawProofs.{pages_are_granted_once, looks_find_objects}
use Rattle.osc_parts.specs.Settled.{tables_of, Settled}
use Rattle.osc_parts.proofs.Counts.{page_more, page_less}
use Rattle.osc_parts.proofs.Blocks.{room_is_room}
use Rattle.osc_parts.proofs.JobCounts.{length-mapped}
use Rattle.osc_parts.proofs.PlacingParts as placing
use Rattle.osc_parts.proofs.PlainMalloc.{block_high, plain_enough}
use Rattle.osc_parts.proofs.PlainFree.{found_held, at_slot}
use Rattle.osc_calls.specs.HeapPlans.{malloc_by, free_by, free_of, realloc_by}

-- pages from those of regions on are no pages of the image or the stack
abbrev pub SameImage : KeptTables → KeptTables → Type 0
SameImage t u = image_frames u ≡ image_frames t

-- ---- pages are mapped
put-same : (n : ℕ) (m : Mapping) (x : Option ℕ) (c : Changed) → first_shared_page ≤ n → SameImage c.tables (leaf_put n m x c).tables
put-same n m None c l = refl
put-same n m (Some table) c l = ap (map frame_of_page) (page_more is_image_or_stack n m c.tables.pages (grind (arith, nat_tests, l)))

link-same : (l n : ℕ) (c : Changed) → SameImage c.tables (link_all l n c).tables
link-same l n c = ap (λ ms. map frame_of_page (filter (λ (m : Mapped). is_image_or_stack m.number) ms)) (link_all-pages l n c)

map-same : (n : ℕ) (m : Mapping) (c : Changed) → first_shared_page ≤ n → SameImage c.tables (map_page n m c).tables
map-same n m c l =
    let d = link_all c.tables.top n c in put-same n m (frame_of d.tables.tables 0 (n / 512)) d l ∙ link-same c.tables.top n c

pub maps-same : (ms : List Mapping) (n : ℕ) (c : Changed) → first_shared_page ≤ n → SameImage c.tables (map_pages n ms c).tables
maps-same [] n c l = refl
maps-same (m ∷ ms) n c l = maps-same ms (n + 1) (map_page n m c) (omega (arith, l)) ∙ map-same n m c l

-- ---- pages are unmapped
cleared-same : (n : ℕ) (x : Option ℕ) (c : Changed) → SameImage c.tables (leaf_cleared n x c).tables
cleared-same n None c = refl
cleared-same n (Some table) c = refl

unmap-same : (n : ℕ) (c : Changed) → first_shared_page ≤ n → SameImage c.tables (unmap_page n c).tables
unmap-same n c l =
    let d : Changed = record c { tables = record (c.tables) { pages = without_page n c.tables.pages } } in
    cleared-same n (frame_of c.tables.tables 0 (n / 512)) d ∙ ap (map frame_of_page) (page_less is_image_or_stack n c.tables.pages (grind (arith, nat_tests, l)))

abbrev AllHigh : List ℕ → Type 0
AllHigh [] = Unit {0}
AllHigh (n ∷ ns) = (first_shared_page ≤ n) × AllHigh ns

range-high : (count first : ℕ) → first_shared_page ≤ first → AllHigh (range_with_len first count)
range-high zero first l = tt
range-high (suc count) first l = (l, range-high count (first + 1) (omega (arith, l)))

filter-high : (test : ℕ → Bool) (ns : List ℕ) → AllHigh ns → AllHigh (filter test ns)
filter-high test [] h = tt
filter-high test (n ∷ ns) h = go (test n) (filter-high test ns h.1)
  where
    go : (b : Bool) → AllHigh (filter test ns) → AllHigh (cond b (n ∷ filter test ns) (filter test ns))
    go true later = (h.0, later)
    go false later = later

unmaps-same : (ns : List ℕ) (c : Changed) → AllHigh ns → SameImage c.tables (unmap_all ns c).tables
unmaps-same [] c h = refl
unmaps-same (n ∷ ns) c h = unmaps-same ns (unmap_page n c) h.1 ∙ unmap-same n c h.0

-- ---- leaf tables are given up
unlinked-same : (leaf : ℕ) (x y : Option ℕ) (c : Changed) → (unlinked leaf x y c).tables.pages ≡ c.tables.pages
unlinked-same leaf None y c = refl
unlinked-same leaf (Some frame) None c = refl
unlinked-same leaf (Some frame) (Some parent) c = refl

reclaims-pages : (leaves : List ℕ) (c : Changed) → (reclaim_all leaves c).tables.pages ≡ c.tables.pages
reclaims-pages [] c = refl
reclaims-pages (leaf ∷ leaves) c =
    reclaims-pages leaves (reclaim leaf c) ∙ unlinked-same leaf (frame_of c.tables.tables 0 leaf) (frame_of c.tables.tables 1 (leaf / 512)) c

reclaims-same : (leaves : List ℕ) (c : Changed) → SameImage c.tables (reclaim_all leaves c).tables
reclaims-same leaves c = ap (λ ms. map frame_of_page (filter (λ (m : Mapped). is_image_or_stack m.number) ms)) (reclaims-pages leaves c)

-- ---- what is given back
blocks-pages : (blocks : List Block) (d : Draft) → (give_blocks blocks d).space.tables ≡ d.space.tables
blocks-pages [] d = refl
blocks-pages (block ∷ blocks) d = blocks-pages blocks _

-- a return changes no page that is mapped
pub finished-pages : (closing : Closing) (d : Draft) → (finished closing d).space.tables.pages ≡ d.space.tables.pages
unfolding finished
finished-pages Keeps d = refl
finished-pages (GivesBack blocks) d = ap (λ (t : KeptTables). t.pages) (blocks-pages blocks d)

-- ---- the heap with shadows
abbrev SameIn : Draft → Draft → Type 0
SameIn d e = SameImage d.space.tables e.space.tables

refused : (r : Option Answer) (d : Draft) (o : Outcome) → SameIn d o.draft → SameIn d (unless r d o).draft
refused None d o h = h
refused (Some answer) d o h = refl

next-high : (objects : List ObjectFact) → first_shared_page ≤ next_page objects
next-high objects = omega arith

mallocs : (n : ℕ) (d : Draft) → SameIn d (malloc_plan n d).draft
unfolding malloc_plan
mallocs n d =
    let block = next_block d.space.heap (room_of n) in
    let e = fill_block block n (grant_object block n (place_block block.room d)) in
    refused (first_reason (malloc_reasons n d)) d (malloc_in n block d)
    (maps-same (block_mappings e.space.heap.pages block) (next_page d.space.objects) (tables_of e) (next-high d.space.objects))

flushes : (harts : ℕ) (gone : List ObjectFact) (d : Draft) → SameIn d (flush harts gone d)
flushes harts gone d = reclaims-same (dead_leaves gone d.space) (tables_of d)

flushes-where : (b : Bool) (harts : ℕ) (d : Draft) → SameIn d (flush_where b harts d)
flushes-where true harts d = flushes harts (waiting_facts d.space) d
flushes-where false harts d = refl

seen-high : (objects : List ObjectFact) (pointer : ℕ) (s : Seen) → AreGranted objects → object_at objects pointer ≡ Some s → first_shared_page ≤ s.fact.first
seen-high objects pointer s g e = let high = ((pages_are_granted_once objects g).within s.number s.fact ((looks_find_objects objects g).at pointer s e).0).0 in omega (arith, high)

frees : (terms : Terms) (pointer : ℕ) (found : Found) (d : Draft) → AreGranted d.space.objects → SameIn d (free_plan terms pointer found d).draft
unfolding free_plan
frees terms pointer found d g = go (object_at d.space.objects pointer) refl
  where
    waits : (s : Seen) → first_shared_page ≤ s.fact.first → SameIn d (let_wait terms s d)
    waits s l = unmaps-same (range_with_len s.fact.first s.fact.pages) (tables_of d) (range-high s.fact.pages s.fact.first l)

    go : (o : Option Seen) → object_at d.space.objects pointer ≡ o → SameIn d (free_seen o terms found d).draft
    go None e = refl
    go (Some s) e =
        refused (first_reason (object_reasons (Some s) found)) d (freed s.number terms (let_wait terms s d))
        (flushes-where (is_full terms (let_wait terms s d).space) terms.harts (let_wait terms s d) ∙ waits s (seen-high d.space.objects pointer s g e))

places : (b : Bool) (n : ℕ) (d : Draft) → (place_where b n d).space.tables ≡ d.space.tables
places true n d = refl
places false n d = refl

lets-go : (harts : ℕ) (o : ObjectFact) (d : Draft) → first_shared_page ≤ o.first → SameIn d (let_go harts o d)
lets-go harts o d l =
    flushes harts (waiting_facts d.space ++ o ∷ []) (unmap_object o d) ∙ unmaps-same (range_with_len o.first o.pages) (tables_of d) (range-high o.pages o.first l)

replaces : (terms : Terms) (s : Seen) (block : Block) (n : ℕ) (d : Draft) → first_shared_page ≤ s.fact.first → SameIn d (replace_object terms s block n d)
replaces terms s block n d l = lets-go terms.harts s.fact (kill_object s.number terms.call (grant_object block n d)) l

reallocs : (terms : Terms) (pointer n : ℕ) (found : Found) (d : Draft) → AreGranted d.space.objects → SameIn d (realloc_plan terms pointer n found d).draft
unfolding realloc_plan
reallocs terms pointer n found d g = go (object_at d.space.objects pointer) refl
  where
    made : (s : Seen) (b : Bool) (block : Block) → first_shared_page ≤ s.fact.first → SameIn d (realloc_in b terms s n block d).draft
    made s b block l =
        let e = keep_bytes b s.fact block n (replace_object terms s block n (place_where b n d)) in
        maps-same (block_mappings e.space.heap.pages block) (next_page d.space.objects) (tables_of e) (next-high d.space.objects)
        ∙ replaces terms s block n (place_where b n d) l ∙ ap image_frames (places b n d)

    go : (o : Option Seen) → object_at d.space.objects pointer ≡ o → SameIn d (realloc_seen o terms n found d).draft
    go None e = refl
    go (Some s) e =
        refused (first_reason (realloc_reasons (Some s) n found d)) d (realloc_made (stays s.fact n) terms s n d)
        (made s (stays s.fact n) (block_for (stays s.fact n) s.fact n d) (seen-high d.space.objects pointer s g e))

-- ---- the plain heap
module _ (batch : ℕ) (entries : ℕ → ℕ → ℕ) (words : List ℕ) (regions : Regions) (d : Draft) (settled : Settled Plain batch entries words regions d) where
  placed-high : (n : ℕ) → first_reason (plain_reasons (room_of n) d) ≡ None → first_shared_page ≤ (next_block d.space.heap (room_of n)).start / 4096
  placed-high n e =
      let needs = plain_enough n d e in
      let x = placing.goes Plain batch entries words regions n d settled (omega (arith, needs)) in
      let high = block_high d.space.heap.frames (room_of n) x.slot (room_is_room n) x.found.within in
      let same = ap (λ (b : Block). b.start / 4096) x.block in
      omega (arith, high, same)

  places-same : (n : ℕ) → first_reason (plain_reasons (room_of n) d) ≡ None → SameIn d (place_plain n (next_block d.space.heap (room_of n)) d)
  places-same n e =
      let block = next_block d.space.heap (room_of n) in
      let f = fill_block block n (place_block block.room d) in
      maps-same (mappings_of f.space.heap.pages (block.start / 4096) (block_need d block.room)) (block.start / 4096) (tables_of f) (placed-high n e)

  plain_mallocs : (n : ℕ) → SameIn d (plain_malloc_plan n d).draft
  unfolding plain_malloc_plan
  plain_mallocs n = go (first_reason (plain_reasons (room_of n) d)) refl
    where
      go : (r : Option Answer) → first_reason (plain_reasons (room_of n) d) ≡ r → SameIn d (unless r d (plain_malloc_in n (next_block d.space.heap (room_of n)) d)).draft
      go None e = places-same n e
      go (Some answer) e = refl

  held-high : (block : Block) → is_held d.space.heap.held block ≡ true → first_shared_page ≤ block.start / 4096
  held-high block held =
      let p = at_slot batch entries words regions 0 d block settled held in
      let high = block_high d.space.heap.frames block.room p.slot p.room p.within in
      let same = ap (λ s. s / 4096) p.start in
      omega (arith, high, same)

  empties : (harts : ℕ) (pages : List ℕ) (e : Draft) → AllHigh pages → SameIn e (unmap_emptied pages harts e)
  empties harts [] e h = refl
  empties harts (page ∷ pages) e h = unmaps-same (page ∷ pages) (tables_of e) h

  emptied-high : (held : List Block) (block : Block) → first_shared_page ≤ block.start / 4096 → AllHigh (emptied_pages held block)
  emptied-high held block l =
      filter-high _ (range_with_len (block.start / 4096) (shadow_pages block.room)) (range-high (shadow_pages block.room) (block.start / 4096) l)

  plain_frees : (harts pointer : ℕ) → SameIn d (plain_free_plan harts pointer d).draft
  unfolding plain_free_plan
  plain_frees harts pointer = go (block_of_user d.space.heap.held pointer) refl
    where
      go : (o : Option Block) → block_of_user d.space.heap.held pointer ≡ o → SameIn d (plain_free_of o harts d).draft
      go None e = refl
      go (Some block) e =
          empties harts (emptied_pages d.space.heap.held block) d (emptied-high d.space.heap.held block (held-high block (found_held d.space.heap.held pointer block e)))

  plain_reallocs : (harts pointer n size : ℕ) → SameIn d (plain_realloc_plan harts pointer n size d).draft
  unfolding plain_realloc_plan
  plain_reallocs harts pointer n size = go (block_of_user d.space.heap.held pointer) refl
    where
      sized : (b : Bool) (old : Block) (bytes : ℕ) → first_shared_page ≤ old.start / 4096 → first_reason (cond b [] (plain_reasons (room_of n) d)) ≡ None → SameIn d (plain_resize b harts old n bytes d).draft
      sized true old bytes l e = refl
      sized false old bytes l e =
          let block = next_block d.space.heap (room_of n) in
          let copied = copy_block old block bytes (place_plain n block d) in
          empties harts (emptied_pages copied.space.heap.held old) copied (emptied-high copied.space.heap.held old l) ∙ places-same n e

      by : (old : Block) (r : Option Answer) → first_shared_page ≤ old.start / 4096 → first_reason (plain_realloc_reasons (Some old) n d) ≡ r
          → SameIn d (unless r d (plain_resize (is_room (room_of n) old.room) harts old n (kept_bytes old size n) d)).draft
      by old None l e = sized (is_room (room_of n) old.room) old (kept_bytes old size n) l e
      by old (Some answer) l e = refl

      go : (o : Option Block) → block_of_user d.space.heap.held pointer ≡ o → SameIn d (plain_realloc_of o harts n size d).draft
      go None e = refl
      go (Some old) e = by old (first_reason (plain_realloc_reasons (Some old) n d)) (held-high old (found_held d.space.heap.held pointer old e)) refl

-- ---- a share, and the child of a fork
pub shares-same : (n : ℕ) (s : Sharing) → SameImage s.tables (share_plan n s).tables
unfolding share_plan
shares-same n s =
    let xs = take n (free_numbers s.free) in
    maps-same (map read_write_at xs) (next_shared_page s.tables) (record { tables = s.tables; free = set_free false xs s.free; jobs = s.jobs ++ map zero_job xs }) (omega arith)

renamed-count : (test : ℕ → Bool) (names : List ℕ) (ms : List Mapped)
    → length (filter (λ (m : Mapped). test m.number) (map (renamed_page names) ms)) ≡ length (filter (λ (m : Mapped). test m.number) ms)
renamed-count test names [] = refl
renamed-count test names (m ∷ ms) = go (test m.number) (renamed-count test names ms)
  where
    go : (b : Bool) → length (filter (λ (x : Mapped). test x.number) (map (renamed_page names) ms)) ≡ length (filter (λ (x : Mapped). test x.number) ms)
        → length (cond b (renamed_page names m ∷ filter (λ (x : Mapped). test x.number) (map (renamed_page names) ms)) (filter (λ (x : Mapped). test x.number) (map (renamed_page names) ms)))
        ≡ length (cond b (m ∷ filter (λ (x : Mapped). test x.number) ms) (filter (λ (x : Mapped). test x.number) ms))
    go true later = ap suc later
    go false later = later

pub forks-count : (s : Space) (free : List Bool) → length (image_frames (fork_plan s free).child.tables) ≡ length (image_frames s.tables)
unfolding fork_plan
forks-count s free =
    let names = map (name_in (copies s free)) (range_with_len 0 (length free)) in
    length-mapped frame_of_page (filter (λ (m : Mapped). is_image_or_stack m.number) (map (renamed_page names) s.tables.pages))
    ∙ renamed-count is_image_or_stack names s.tables.pages
    ∙ sym (length-mapped frame_of_page (filter (λ (m : Mapped). is_image_or_stack m.number) s.tables.pages))

-- ---- on either heap
module _ (batch : ℕ) (entries : ℕ → ℕ → ℕ) (words : List ℕ) (regions : Regions) (d : Draft) where
  granted : Settled Oscar batch entries words regions d → AreGranted d.space.objects
  granted settled = let o : ObjectsAgree d.space = settled.parts.agrees.heap in o.granted

  pub malloc-same : (kind : HeapKind) (n : ℕ) → Settled kind batch entries words regions d → SameIn d (malloc_by kind n d).draft
  malloc-same Oscar n s = mallocs n d
  malloc-same Plain n s = plain_mallocs batch entries words regions d s n

  pub free-same : (kind : HeapKind) (terms : Terms) (pointer : ℕ) (found : Found) → Settled kind batch entries words regions d → SameIn d (free_of kind terms pointer found d).draft
  free-same kind terms pointer found s = go (pointer == 0) kind s
    where
      go : (b : Bool) (kind : HeapKind) → Settled kind batch entries words regions d → SameIn d (cond b (unchanged answers.Nothing d) (free_by kind terms pointer found d)).draft
      go true kind s = refl
      go false Oscar s = frees terms pointer found d (granted s)
      go false Plain s = plain_frees batch entries words regions d s terms.harts pointer

  pub realloc-same : (kind : HeapKind) (terms : Terms) (pointer n : ℕ) (found : Found) → Settled kind batch entries words regions d → SameIn d (realloc_by kind terms pointer n found d).draft
  realloc-same Oscar terms pointer n found s = reallocs terms pointer n found d (granted s)
  realloc-same Plain terms pointer n found s = plain_reallocs batch entries words regions d s terms.harts pointer n found.second
