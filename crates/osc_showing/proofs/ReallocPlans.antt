-- Each realloc turns the tables.
use Rattle.std.proofs.Common.{ℕ, ◌+◌, ◌*◌, ◌%◌, ◌≡◌, ◌≢◌, ◌<◌, ◌≤◌, ◌==◌, ◌&&◌, ◌||◌, ◌⊎◌, inl, inr, ltb, cond, min, nat_lt, Bool, true, false, Option, Some, None, List, [], ◌∷◌, ◌++◌, length, map, slice_get, arith, refl, sym, ap, subst, ◌∙◌}
use Rattle.std.specs.List.{list_any, range_with_len}
use Rattle.std.proofs.lemmas.Bool.Decides.{nat_tests}
use Rattle.std.proofs.lemmas.List.Folds.{list_any-append}
use Rattle.std.proofs.lemmas.List.FromFn.{length-map-range_with_len}
use Rattle.osc_word.specs.declared.calls.Answer.{Answer}
use Rattle.osc_word.specs.declared.calls.Answer.TheVariants as answer
use Rattle.osc_word.specs.declared.job_list.Job.{Job}
use Rattle.osc_word.specs.declared.settings.HeapKind.TheVariants.{Oscar}
use Rattle.osc_word.specs.AddressMap.{is_shadow}
use Rattle.osc_sv39.specs.declared.entries.Mapping.{Mapping}
use Rattle.osc_class.specs.Rooms.{room_of, shadow_pages, block_bytes}
use Rattle.osc_slot.specs.declared.Block.{Block}
use Rattle.osc_slot.specs.Slots.{is_block, is_held}
use Rattle.osc_slot.specs.Areas.{IsPlaced}
use Rattle.osc_slot.specs.Heap.{Heap, place, next_block, free_count}
use Rattle.osc_slot.proofs.Bounds.{pages_positive}
use Rattle.osc_slot.proofs.HeldBlocks.{same_room, same_block, found}
use Rattle.osc_slot.proofs.Fresh.{placed_is}
use Rattle.osc_paging.specs.declared.Piece.{Piece}
use Rattle.osc_paging.specs.KeptTables.{KeptTables, mapping_at, piece_of, need}
use Rattle.osc_paging.specs.TableChanges.{Changed, map_pages}
use Rattle.osc_paging.specs.CopyLaws.{IsTable, KeepsTaken}
use Rattle.osc_space.specs.declared.ObjectFact.{ObjectFact}
use Rattle.osc_space.specs.Objects.{Seen, AreGranted, mark, next_page, fact, has_page, is_live, is_live_page, leaf_dead, is_in_leaf, object_at, grant, granted_at}
use Rattle.osc_space.specs.Space.{Draft, Terms, GivesBack, Reason, first_reason, unless, push}
use Rattle.osc_space.specs.Header.{Found, object_reasons, block_of}
use Rattle.osc_space.specs.Share.{Regions}
use Rattle.osc_space.specs.WordLaws.{IsFrameOf}
use Rattle.osc_space.specs.BlockWords.{zero_block, header_jobs, copy_jobs, trim_jobs, block_mappings}
use Rattle.osc_space.specs.Malloc.{block_need, grant_object, map_shadows}
use Rattle.osc_space.specs.Free.{linked_leaves, dead_leaves, unmap_object, reclaim_all, waiting_facts, kill_object, clear_jobs}
use Rattle.osc_space.specs.Realloc.{stays, frames_for, replace_object, realloc_reasons, realloc_made, realloc_seen, realloc_plan}
use Rattle.osc_space.specs.Agree.{ObjectsAgree}
use Rattle.osc_space.specs.Fork.{heap_frame_of}
use Rattle.osc_space.proofs.ObjectLawProofs.{dead_leaves_are_dead, looks_find_objects, mark-grant, mark-kill, grants_keep}
use Rattle.osc_parts.specs.Frames.{among, FramesFit, Trades}
use Rattle.osc_parts.specs.Settled.{tables_of, Settled}
use Rattle.osc_parts.specs.Jobs.{AllWriteWhere}
use Rattle.osc_parts.specs.FreeLaws.{HasTerms}
use Rattle.osc_parts.proofs.Lists.{get_append}
use Rattle.osc_parts.proofs.Shapes.{unmap_all-free, unmap_all-pages, reclaim_all-shape}
use Rattle.osc_parts.proofs.Killing.{kill_other}
use Rattle.osc_parts.proofs.Trading.{held_is, held_once, held_taken, fit_after, trades_none}
use Rattle.osc_parts.proofs.Settling.{settled_frames, same_taken}
use Rattle.osc_parts.proofs.PlacingParts as placing
use Rattle.osc_parts.proofs.Waiting.{covers}
use Rattle.osc_parts.proofs.Blocks.{HasFrames, block_frame, all_weaker, fill_where, copy_where, trim_where, where_append, block_reads, no_piece, lies_at, room_holds}
use Rattle.osc_parts.proofs.MallocParts.{no_want}
use Rattle.osc_parts.proofs.ReallocParts.{at_place}
use Rattle.osc_parts.proofs.FreeReturn.{taken_lives}
use Rattle.osc_showing.specs.Showing.{AllDue, Turned, IsPlain, AllRead}
use Rattle.osc_showing.specs.PlanTurns.{PlanTurns}
use Rattle.osc_showing.proofs.Wiping.{Wiping, rest-wipes, unmap_all-wipes, reclaim_all-wipes, wiped-turns}
use Rattle.osc_showing.proofs.Growing.{tidy-taken, due-maps, maps-turns, clears-due, clear-turns, plain-turns}
use Rattle.osc_showing.proofs.Folds.{due-more}
use Rattle.osc_showing.proofs.Shown.{tidy-of}
use Rattle.osc_showing.proofs.Plans.{unchanged-turns, no-mapping, past-mark, all-read, in-filter}

-- what both kinds of realloc stand on: the block and the jobs on its bytes
record Replaces (batch : ℕ) (entries : ℕ → ℕ → ℕ) (words : List ℕ) (regions : Regions) (d : Draft) (s : Seen) (block : Block) (heap : Heap) (free : List Bool) (jobs : List Job) : Type 0 where
  settled : Settled Oscar batch entries words regions d
  rest : d.jobs ≡ []
  is_fact : fact d.space.objects s.number ≡ Some s.fact
  trades : Trades d.space d.free (record (d.space) { heap = heap }) free
  takes : KeepsTaken d.free free
  has : HasFrames heap.pages block
  marked : mark d.space.objects + shadow_pages block.room ≤ d.space.shadows
  within : AllWriteWhere (IsFrameOf heap.pages block) jobs

either-none : (b : Bool) (o : Option Mapping) → (b ≡ false → o ≡ None) → cond b None o ≡ None
either-none true o h = refl
either-none false o h = h refl

module _ (batch : ℕ) (entries : ℕ → ℕ → ℕ) (words : List ℕ) (regions : Regions) (terms : Terms) (n : ℕ) (d : Draft) (s : Seen) (block : Block) (heap : Heap) (free : List Bool) (jobs : List Job) (m : Replaces batch entries words regions d s block heap free jobs) where
  abbrev o : ObjectFact
  o = s.fact

  abbrev t : KeptTables
  t = d.space.tables

  abbrev first : ℕ
  first = next_page d.space.objects

  abbrev granted : List ObjectFact
  granted = grant (shadow_pages block.room) n (block.start + 16) d.space.objects

  abbrev died : Draft
  died = kill_object s.number terms.call (grant_object block n (at_place d heap free))

  abbrev unmapped : Draft
  unmapped = unmap_object o died

  abbrev gone : List ObjectFact
  gone = waiting_facts died.space ++ o ∷ []

  abbrev left : Changed
  left = reclaim_all (dead_leaves gone unmapped.space) (tables_of unmapped)

  abbrev mappings : List Mapping
  mappings = block_mappings heap.pages block

  objects : ObjectsAgree d.space
  objects = m.settled.parts.agrees.heap

  placed_frames : FramesFit (record (d.space) { heap = heap }) free
  placed_frames = fit_after d.space (record (d.space) { heap = heap }) d.free free (settled_frames Oscar d.space regions d.free m.settled.parts.agrees) m.trades

  -- a frame of the block is taken, and no table
  taken : (f : ℕ) → 0 < among f (map heap_frame_of heap.pages) → slice_get free f ≡ Some false
  taken f l = held_taken (record (d.space) { heap = heap }) free f placed_frames (let a = held_is f (record (d.space) { heap = heap }) in omega (arith, a, l))

  no_old : (f : ℕ) → IsFrameOf heap.pages block f → piece_of t.tables f ≡ None
  no_old f i =
      let l = block_frame heap.pages block f m.has i in
      let once = held_once (record (d.space) { heap = heap }) free f placed_frames in
      let a = held_is f (record (d.space) { heap = heap }) in
      no_piece f t.tables (omega (arith, l, once, a))

  -- ---- the pages go, and the leaf tables
  died_wipes : Wiping t (tables_of died)
  died_wipes = subst (λ js. Wiping t (record { tables = t; free = free; jobs = js })) (sym m.rest)
      (rest-wipes t free (tidy-taken t d.free free (tidy-of t d.free _ m.settled.tables) m.takes) m.settled.parts.agrees.aside)

  unmapped_wipes : Wiping t (tables_of unmapped)
  unmapped_wipes = unmap_all-wipes t (range_with_len o.first o.pages) (tables_of died) died_wipes

  unmapped_now : (q : ℕ) → mapping_at unmapped.space.tables.pages q ≡ cond (has_page q o) None (mapping_at t.pages q)
  unmapped_now q = unmap_all-pages o.pages o.first (tables_of died) q

  is_granted : AreGranted granted
  is_granted = grants_keep.granted (shadow_pages block.room) n (block.start + 16) d.space.objects (pages_positive block.room m.has.room) objects.granted

  dead_unmapped : (q : ℕ) → is_shadow q ≡ true → is_live_page died.space.objects q ≡ false → mapping_at unmapped.space.tables.pages q ≡ None
  dead_unmapped q c e = unmapped_now q ∙ either-none (has_page q o) (mapping_at t.pages q) (λ h. no-mapping (mapping_at t.pages q) (objects.shadows q c ∙ was h))
    where
      new : ObjectFact
      new = granted_at (next_page d.space.objects) (shadow_pages block.room) n (block.start + 16)

      less : (a b c : Bool) → c ≡ false → c ≡ (a || b) → a ≡ false
      less a b c e f = grind (arith, e, f)

      was : has_page q o ≡ false → is_live_page d.space.objects q ≡ false
      was h = less (is_live_page d.space.objects q) (is_live_page (new ∷ []) q) (is_live_page died.space.objects q) e
          (kill_other granted s.number terms.call q o (get_append d.space.objects (new ∷ []) s.number o m.is_fact) h
          ∙ list_any-append (λ x. is_live x && has_page q x) d.space.objects (new ∷ []))

  empty : (leaf : ℕ) → list_any (λ x. x == leaf) (dead_leaves gone unmapped.space) ≡ true → (i : ℕ) → i < 512 → mapping_at unmapped.space.tables.pages (leaf * 512 + i) ≡ None
  empty leaf h i l =
      let test = in-filter (λ x. leaf_dead unmapped.space.objects x && list_any (is_in_leaf x) gone) (linked_leaves unmapped.space.tables) leaf h in
      let dead = (dead_leaves_are_dead died.space.objects leaf (grants_keep.killed s.number terms.call granted is_granted)).pages (grind (arith, nat_tests, test)) (leaf * 512 + i) (omega arith) (omega (arith, l)) in
      let w = dead.0 in
      let a = mark-kill s.number terms.call granted in
      let b = mark-grant (shadow_pages block.room) n (block.start + 16) d.space.objects in
      let limit = m.marked in
      let range = m.settled.parts.shadows in
      let shadow : is_shadow (leaf * 512 + i) ≡ true = grind (arith, nat_tests, w, a, b, limit, range) in
      dead_unmapped (leaf * 512 + i) shadow dead.1

  left_wipes : Wiping t left
  left_wipes = reclaim_all-wipes t (dead_leaves gone unmapped.space) (tables_of unmapped) empty unmapped_wipes

  left_free : left.free ≡ free
  left_free = (reclaim_all-shape (dead_leaves gone unmapped.space) (tables_of unmapped)).free ∙ unmap_all-free o.pages o.first (tables_of died)

  left_pages : left.tables.pages ≡ unmapped.space.tables.pages
  left_pages = (reclaim_all-shape (dead_leaves gone unmapped.space) (tables_of unmapped)).pages

  -- ---- the bytes
  plain : (f : ℕ) → IsFrameOf heap.pages block f → IsPlain left.tables left.free f
  plain f i = (
    subst (λ z. slice_get z f ≡ Some false) (sym left_free) (taken f (block_frame heap.pages block f m.has i)),
    (none (piece_of left.tables.tables f) (λ h. left_wipes.news f (inl h)), none (piece_of left.tables.aside f) (λ h. left_wipes.news f (inr h))),
  )
    where
      none : (x : Option Piece) → (x ≢ None → IsTable t f) → x ≡ None
      none None h = refl
      none (Some p) h = absurd (h (λ z. let b : ⊥ = grind (arith, z) in b) (no_old f i))

  abbrev filled : Changed
  filled = record { tables = left.tables; free = left.free; jobs = (left.jobs ++ clear_jobs terms.harts) ++ jobs }

  filled_turns : Turned t filled.tables filled.free filled.jobs
  filled_turns = plain-turns t left.tables left.free left.free (left.jobs ++ clear_jobs terms.harts) jobs (same_taken left.free)
      (all_weaker (IsFrameOf heap.pages block) (IsPlain left.tables left.free) jobs plain m.within)
      (clear-turns t left.tables left.free left.jobs terms.harts (wiped-turns t left left_wipes))

  -- ---- the new pages
  reads : AllRead mappings
  reads = all-read mappings (block_reads heap.pages block free m.has (let a = m.settled.tables.small in let b = m.takes.size in omega (arith, a, b)) taken)

  new_pages : (q : ℕ) → first ≤ q → (mapping_at left.tables.pages q ≡ None) ⊎ (first + length mappings ≤ q)
  new_pages q l = go (ltb q (first + shadow_pages block.room)) refl
    where
      size : length mappings ≡ shadow_pages block.room
      size = length-map-range_with_len _ _ _

      go : (b : Bool) → ltb q (first + shadow_pages block.room) ≡ b → (mapping_at left.tables.pages q ≡ None) ⊎ (first + length mappings ≤ q)
      go false h = inr (let less : first + shadow_pages block.room ≤ q = grind (arith, nat_tests, h) in omega (arith, less, size))
      go true h =
          let high : q < first + shadow_pages block.room = grind (arith, nat_tests, h) in
          let a = m.marked in
          let b = m.settled.parts.shadows in
          let shadow : is_shadow q ≡ true = grind (arith, nat_tests, l, high, a, b) in
          inl (ap (λ ps. mapping_at ps q) left_pages ∙ unmapped_now q
          ∙ either-none (has_page q o) (mapping_at t.pages q) (λ z. no-mapping (mapping_at t.pages q) (objects.shadows q shadow ∙ past-mark d.space.objects q objects.granted l)))

  abbrev after : Changed
  after = map_pages first mappings filled

  after_turns : Turned t after.tables after.free after.jobs
  after_turns = maps-turns t mappings first filled reads new_pages filled_turns

  after_due : AllDue terms.harts after.jobs
  after_due = λ hart l. due-maps mappings first filled hart (due-more hart (left.jobs ++ clear_jobs terms.harts) jobs (clears-due terms.harts left.jobs hart l))

  replaced-turns : (a : Answer) (blocks : List Block)
      → PlanTurns terms.harts d (record { answer = a; draft = map_shadows (next_page d.space.objects) block (push jobs (replace_object terms s block n (at_place d heap free))); closing = GivesBack blocks })
  replaced-turns a blocks = record { turned = after_turns; due = after_due }

-- ---- each realloc
after-object : (xs ys : List Reason) → first_reason (xs ++ ys) ≡ None → (first_reason xs ≡ None) × (first_reason ys ≡ None)
after-object [] ys e = (refl, e)
after-object (x ∷ xs) ys e = go x.holds refl (after-object xs ys)
  where
    go : (b : Bool) → x.holds ≡ b → (first_reason (xs ++ ys) ≡ None → (first_reason xs ≡ None) × (first_reason ys ≡ None)) → (first_reason (x ∷ xs) ≡ None) × (first_reason ys ≡ None)
    go true d later = absurd (let z : ⊥ = grind (arith, e, d) in z)
    go false d later =
        let rest : first_reason (xs ++ ys) ≡ None = grind (arith, e, d) in
        let both = later rest in
        let one = both.0 in
        (grind (arith, one, d), both.1)

module _ (batch : ℕ) (entries : ℕ → ℕ → ℕ) (words : List ℕ) (regions : Regions) (terms : Terms) (n : ℕ) (d : Draft) (s : Seen)
    (k : Settled Oscar batch entries words regions d) (rest : d.jobs ≡ []) (is_fact : fact d.space.objects s.number ≡ Some s.fact) (live : is_live s.fact ≡ true) where
  agreed : ObjectsAgree d.space
  agreed = k.parts.agrees.heap

  held_here : is_held d.space.heap.held (block_of s.fact) ≡ true
  held_here = agreed.held s.number s.fact (is_fact, (grind (arith, nat_tests, live)))

  old_frames : HasFrames d.space.heap.pages (block_of s.fact)
  old_frames =
      let f = found d.space.heap.frames (λ b. is_block (block_of s.fact) b) d.space.heap.held k.parts.heap.placed held_here in
      let p : IsPlaced d.space.heap.frames (block_of s.fact) = subst (λ (b : Block). IsPlaced d.space.heap.frames b) (sym (same_block (block_of s.fact) f.block f.passes)) f.placed in
      let is = placed_is d.space.heap.frames (block_of s.fact) p in
      let l = lies_at d.space.heap.frames (room_of s.fact.size) p.slot p.room in
      record {
        room = p.room;
        lies = subst (λ (b : Block). (b.start % 4096 ≡ 0) ⊎ (b.start % 4096 + block_bytes (room_of s.fact.size) ≤ 4096)) (sym is) l.0;
        ends = subst (λ (b : Block). b.start % 4096 + block_bytes (room_of s.fact.size) ≤ 4096 * shadow_pages (room_of s.fact.size)) (sym is) l.1;
        framed = λ page on. k.parts.heap.covered page ∙ covers d.space.heap.held (block_of s.fact) page held_here on;
      }

  stay-turns : (a : Answer) (blocks : List Block) → room_of n ≡ room_of s.fact.size → mark d.space.objects + shadow_pages (room_of n) ≤ d.space.shadows
      → PlanTurns terms.harts d (record {
        answer = a;
        draft = map_shadows (next_page d.space.objects) (block_of s.fact)
            (push (trim_jobs d.space.heap.pages (block_of s.fact) (min s.fact.size n) n) (replace_object terms s (block_of s.fact) n (at_place d d.space.heap d.free)));
        closing = GivesBack blocks;
      })
  stay-turns a blocks same marked =
      replaced-turns batch entries words regions terms n d s (block_of s.fact) d.space.heap d.free (trim_jobs d.space.heap.pages (block_of s.fact) (min s.fact.size n) n) (record {
        settled = k;
        rest = rest;
        is_fact = is_fact;
        trades = trades_none d.space d.free;
        takes = same_taken d.free;
        has = old_frames;
        marked = subst (λ r. mark d.space.objects + shadow_pages r ≤ d.space.shadows) same marked;
        within = trim_where d.space.heap.pages (block_of s.fact) (min s.fact.size n) n old_frames.lies (let h = room_holds s.fact.size in omega (arith, h));
      }) a blocks

  move-turns : (a : Answer) (blocks : List Block) → block_need d (room_of n) ≤ free_count d.free → mark d.space.objects + shadow_pages (room_of n) ≤ d.space.shadows
      → PlanTurns terms.harts d (record {
        answer = a;
        draft = map_shadows (next_page d.space.objects) (next_block d.space.heap (room_of n))
            (push (zero_block (place d.space.heap (room_of n) d.free).heap.pages (next_block d.space.heap (room_of n)) ++ header_jobs (place d.space.heap (room_of n) d.free).heap.pages (next_block d.space.heap (room_of n)) n
            ++ copy_jobs (place d.space.heap (room_of n) d.free).heap.pages (block_of s.fact) (next_block d.space.heap (room_of n)) (min s.fact.size n))
            (replace_object terms s (next_block d.space.heap (room_of n)) n (at_place d (place d.space.heap (room_of n) d.free).heap (place d.space.heap (room_of n) d.free).free)));
        closing = GivesBack blocks;
      })
  move-turns a blocks needs marked =
      let placed = place d.space.heap (room_of n) d.free in
      let block = next_block d.space.heap (room_of n) in
      let has = placing.has_frames Oscar batch entries words regions n d k needs in
      let old = old_frames in
      replaced-turns batch entries words regions terms n d s block placed.heap placed.free
      (zero_block placed.heap.pages block ++ header_jobs placed.heap.pages block n ++ copy_jobs placed.heap.pages (block_of s.fact) block (min s.fact.size n)) (record {
        settled = k;
        rest = rest;
        is_fact = is_fact;
        trades = placing.place_trades Oscar batch entries words regions n d k needs;
        takes = placing.takes_only Oscar batch entries words regions n d k needs;
        has = has;
        marked = marked;
        within = where_append (IsFrameOf placed.heap.pages block) (zero_block placed.heap.pages block ++ header_jobs placed.heap.pages block n) (copy_jobs placed.heap.pages (block_of s.fact) block (min s.fact.size n))
            (fill_where placed.heap.pages block n has)
            (copy_where placed.heap.pages (block_of s.fact) block (min s.fact.size n) old.lies has.lies
            (let h = room_holds s.fact.size in omega (arith, h)) (let h = room_holds n in omega (arith, h)));
      }) a blocks

pub realloc-turns : (batch pointer n : ℕ) (entries : ℕ → ℕ → ℕ) (words : List ℕ) (regions : Regions) (terms : Terms) (found : Found) (d : Draft) → Settled Oscar batch entries words regions d → HasTerms batch terms → d.jobs ≡ []
    → PlanTurns terms.harts d (realloc_plan terms pointer n found d)
unfolding realloc_plan
realloc-turns batch pointer n entries words regions terms found d k t rest = seen (object_at d.space.objects pointer) refl
  where
    seen : (x : Option Seen) → object_at d.space.objects pointer ≡ x → PlanTurns terms.harts d (realloc_seen x terms n found d)
    seen None e = unchanged-turns terms.harts batch entries words regions d answer.NotAnObject k rest
    seen (Some s) e = go (first_reason (realloc_reasons (Some s) n found d)) refl
      where
        kind : (stay : Bool) → stays s.fact n ≡ stay → (b c : Bool) → nat_lt d.space.shadows (mark d.space.objects + shadow_pages (room_of n)) ≡ b
            → nat_lt (free_count d.free) (frames_for stay n d + need d.space.tables (next_page d.space.objects) (shadow_pages (room_of n))) ≡ c
            → b ≡ false → c ≡ false → first_reason (object_reasons (Some s) found) ≡ None → PlanTurns terms.harts d (realloc_made stay terms s n d)
        kind true i b c g h x y f =
            stay-turns batch entries words regions terms n d s k rest ((looks_find_objects d.space.objects k.parts.agrees.heap.granted).at pointer s e).0 (taken_lives s found f) _ _
            (same_room (room_of n) (room_of s.fact.size) i) (grind (arith, nat_tests, g, x))
        kind false i b c g h x y f =
            move-turns batch entries words regions terms n d s k rest ((looks_find_objects d.space.objects k.parts.agrees.heap.granted).at pointer s e).0 (taken_lives s found f) _ _
            (let less : block_need d (room_of n) + need d.space.tables (next_page d.space.objects) (shadow_pages (room_of n)) ≤ free_count d.free = grind (arith, nat_tests, h, y) in omega (arith, less)) (grind (arith, nat_tests, g, x))

        go : (r : Option Answer) → first_reason (realloc_reasons (Some s) n found d) ≡ r → PlanTurns terms.harts d (unless r d (realloc_made (stays s.fact n) terms s n d))
        go (Some a) f = unchanged-turns terms.harts batch entries words regions d a k rest
        go None f =
            let both = after-object (object_reasons (Some s) found) _ f in
            let want = no_want (nat_lt d.space.shadows (mark d.space.objects + shadow_pages (room_of n)))
            (nat_lt (free_count d.free) (frames_for (stays s.fact n) n d + need d.space.tables (next_page d.space.objects) (shadow_pages (room_of n)))) answer.NoShadow answer.NoFrames both.1 in
            kind (stays s.fact n) refl _ _ refl refl want.0 want.1 both.0
