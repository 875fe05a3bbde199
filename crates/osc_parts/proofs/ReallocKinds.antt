-- Each realloc fits: where its block moves, where it stays, and where it is refused.
use Rattle.std.proofs.Common.{ℕ, zero, suc, ◌+◌, ◌-◌, ◌*◌, ◌/◌, ◌%◌, ◌≡◌, ◌≢◌, ◌<◌, ◌≤◌, ◌==◌, nat_lt, nat_le, min, ◌&&◌, ◌||◌, Bool, true, false, not, cond, Option, Some, None, is_some, option_map, List, [], ◌∷◌, ◌++◌, length, map, slice_get, arith, refl, ap, sym, ◌∙◌, subst, ◌⊎◌, inl, inr}
use Rattle.std.specs.List.{cons_option}
use Rattle.std.proofs.lemmas.Bool.Decides.{nat_tests}
use Rattle.std.proofs.lemmas.List.{length-append, map-append}
use Rattle.std.proofs.lemmas.List.Elements.{filter_map-append}
use Rattle.osc_word.specs.declared.calls.Answer.{Answer}
use Rattle.osc_word.specs.declared.calls.Answer.TheVariants as answer
use Rattle.osc_word.specs.declared.job_list.Job.{Job}
use Rattle.osc_word.specs.declared.settings.HeapKind.TheVariants.{Oscar}
use Rattle.osc_word.specs.AddressMap.{is_shadow, is_canonical_page}
use Rattle.osc_class.specs.Rooms.{room_of, shadow_pages, block_bytes}
use Rattle.osc_slot.specs.declared.Block.{Block}
use Rattle.osc_slot.specs.Areas.{IsPlaced}
use Rattle.osc_slot.specs.Slots.{is_block, is_held, is_on}
use Rattle.osc_slot.specs.Heap.{HeapAndFree, ArePlaced, place, next_block, frame_of, free_count}
use Rattle.osc_slot.proofs.Bounds.{pages_within}
use Rattle.osc_slot.proofs.HeldBlocks.{same_room, same_block, found}
use Rattle.osc_slot.proofs.Fresh.{placed_is}
use Rattle.osc_paging.specs.KeptTables.{mapping_at, need}
use Rattle.osc_space.specs.declared.ObjectFact.{ObjectFact}
use Rattle.osc_space.specs.LeafFlags.{read_write_at}
use Rattle.osc_space.specs.Objects.{Seen, mark, next_page, is_live, has_page, is_live_page, kill, killed, fact, facts, granted_at, object_at}
use Rattle.osc_space.specs.Header.{Found, object_reasons, block_of}
use Rattle.osc_space.specs.Space.{Space, Draft, Terms, GivesBack, Reason, first_reason, unless}
use Rattle.osc_space.specs.BlockWords.{block_mappings, frame_at, zero_block, header_jobs, copy_jobs, trim_jobs}
use Rattle.osc_space.specs.Share.{Regions}
use Rattle.osc_space.specs.Malloc.{malloc_in, memory_reasons, block_need}
use Rattle.osc_space.specs.Free.{let_wait, waiting_blocks}
use Rattle.osc_space.specs.Realloc.{stays, frames_for, realloc_made, realloc_reasons, realloc_seen, realloc_plan}
use Rattle.osc_space.specs.Agree.{IsLive, IsKept, IsBlockOf, ObjectsAgree}
use Rattle.osc_space.specs.WordLaws.{IsFrameOf}
use Rattle.osc_space.proofs.ObjectLawProofs.{pages_are_granted_once, looks_find_objects, grants_keep, mark-grant, mark-kill}
use Rattle.osc_parts.specs.Settled.{tables_of, Settled}
use Rattle.osc_parts.specs.PlanFits.{PlanFits}
use Rattle.osc_parts.specs.FreeLaws.{HasTerms}
use Rattle.osc_parts.specs.ReallocLaws.{ReallocsFit, ReallocsTakeNeed}
use Rattle.osc_parts.proofs.Lists.{grown, get_append}
use Rattle.osc_parts.proofs.Killing.{killed_at, killed_here, killed_other, kill_own, one_owner}
use Rattle.osc_parts.proofs.Trading.{trades_none}
use Rattle.osc_parts.proofs.Shapes.{unmap_all-pages}
use Rattle.osc_parts.proofs.JobCounts.{zeroes_few, copies_few, trims_few}
use Rattle.osc_parts.proofs.Settling.{unchanged_fits, same_taken}
use Rattle.osc_parts.proofs.Blocks.{room_is_room, room_holds, HasFrames, lies_at, frame_found, where_append, fill_where, copy_where, trim_where}
use Rattle.osc_parts.proofs.Waiting.{is_in, covers, lies, Different, AllHeld}
use Rattle.osc_parts.proofs.LettingGo.{ObjectsStand, stand, waiting_are_held, waiting_are_different, is_held_waiting, left_agrees}
use Rattle.osc_parts.proofs.MallocParts.{Mallocs, no_want}
use Rattle.osc_parts.proofs.MallocParts as malloc
use Rattle.osc_parts.proofs.FreeParts.{Frees, waits_objects}
use Rattle.osc_parts.proofs.FreeReturn.{taken_lives}
use Rattle.osc_parts.proofs.ReallocParts.{Reallocs, after, died, is_granted, new_now, live_other, mapped_now, new_mapped, pages_take, ends, last, realloc_fits}

-- ---- reasons
after_object : (xs ys : List Reason) → first_reason (xs ++ ys) ≡ None → (first_reason xs ≡ None) × (first_reason ys ≡ None)
after_object [] ys e = (refl, e)
after_object (x ∷ xs) ys e = go x.holds refl (after_object xs ys)
  where
    go : (b : Bool) → x.holds ≡ b → (first_reason (xs ++ ys) ≡ None → (first_reason xs ≡ None) × (first_reason ys ≡ None)) → (first_reason (x ∷ xs) ≡ None) × (first_reason ys ≡ None)
    go true d later = absurd (let z : ⊥ = grind (arith, e, d) in z)
    go false d later =
        let rest : first_reason (xs ++ ys) ≡ None = grind (arith, e, d) in
        let both = later rest in
        let one = both.0 in
        (grind (arith, one, d), both.1)

-- ---- lists
past_end : {X : Type 0} (xs : List X) (a : ℕ) → slice_get xs a ≡ None → length xs ≤ a
past_end [] a e = omega arith
past_end (x ∷ xs) zero e = absurd (let z : ⊥ = grind (arith, e) in z)
past_end (x ∷ xs) (suc a) e = let l = past_end xs a e in omega (arith, l)

no_end : {X : Type 0} (xs : List X) → xs ++ [] ≡ xs
no_end [] = refl
no_end (x ∷ xs) = ap (λ ys. x ∷ ys) (no_end xs)

facts_same : (xs ys : List ObjectFact) (numbers : List ℕ) → ((a : ℕ) → is_in numbers a ≡ true → fact xs a ≡ fact ys a) → facts xs numbers ≡ facts ys numbers
facts_same xs ys [] h = refl
facts_same xs ys (a ∷ numbers) h =
    ap (λ o. cons_option o (facts xs numbers)) (h a (grind (arith, nat_tests))) ∙ ap (cons_option (fact ys a)) (facts_same xs ys numbers (λ b i. h b (grind (arith, nat_tests, i))))

-- an object that is neither killed nor new
fact_stays : (objects : List ObjectFact) (new : ObjectFact) (object call a : ℕ) → a ≢ object → a < length objects → fact (kill object call (objects ++ new ∷ [])) a ≡ fact objects a
fact_stays objects new object call a n l = go (slice_get objects a) refl
  where
    go : (x : Option ObjectFact) → slice_get objects a ≡ x → fact (kill object call (objects ++ new ∷ [])) a ≡ fact objects a
    go None e = absurd (let m = past_end objects a e in let z : ⊥ = omega (arith, m, l) in z)
    go (Some x) e = killed_other (objects ++ new ∷ []) object call a x n (get_append objects (new ∷ []) a x e) ∙ sym e

-- two ranges of pages in either order
either_order : {X : Type 0} (b c : Bool) (x y z : X) → (c ≡ true → b ≡ false) → cond b x (cond c y z) ≡ cond c y (cond b x z)
either_order true true x y z h = absurd (let e = h refl in let w : ⊥ = grind (arith, e) in w)
either_order true false x y z h = refl
either_order false c x y z h = refl

-- what is known of the old object
pub record Old (batch : ℕ) (entries : ℕ → ℕ → ℕ) (words : List ℕ) (regions : Regions) (terms : Terms) (d : Draft) (s : Seen) : Type 0 where
  pub settled : Settled Oscar batch entries words regions d
  pub has_terms : HasTerms batch terms
  pub is_fact : fact d.space.objects s.number ≡ Some s.fact
  pub live : is_live s.fact ≡ true

module _ (batch : ℕ) (entries : ℕ → ℕ → ℕ) (words : List ℕ) (regions : Regions) (terms : Terms) (n : ℕ) (d : Draft) (s : Seen) (k : Old batch entries words regions terms d s) where
  abbrev o : ObjectFact
  o = s.fact

  objects : ObjectsAgree d.space
  objects = k.settled.parts.agrees.heap

  kept_here : IsKept d.space s.number o
  kept_here = (k.is_fact, (let l = k.live in grind (arith, nat_tests, l)))

  held_here : is_held d.space.heap.held (block_of o) ≡ true
  held_here = objects.held s.number o kept_here

  -- none that waits is the old one
  other_waits : (a : ℕ) → is_in d.space.waiting a ≡ true → a ≢ s.number
  other_waits a i e =
      let there : is_in d.space.waiting s.number ≡ true = subst (λ x. is_in d.space.waiting x ≡ true) e i in
      let dead = objects.waiting.dead s.number o there k.is_fact in
      let l = k.live in
      let z : ⊥ = grind (arith, dead, l) in z

  waiting_same : (new : ObjectFact) → facts (kill s.number terms.call (d.space.objects ++ new ∷ [])) d.space.waiting ≡ facts d.space.objects d.space.waiting
  waiting_same new = facts_same _ d.space.objects d.space.waiting (λ a i. fact_stays d.space.objects new s.number terms.call a (other_waits a i) (objects.waiting.known a i))

  -- where its block lies
  old_placed : IsPlaced d.space.heap.frames (block_of o)
  old_placed =
      let f = found d.space.heap.frames (λ b. is_block (block_of o) b) d.space.heap.held k.settled.parts.heap.placed held_here in
      subst (λ (b : Block). IsPlaced d.space.heap.frames b) (sym (same_block (block_of o) f.block f.passes)) f.placed

  old_frames : HasFrames d.space.heap.pages (block_of o)
  old_frames =
      let p = old_placed in
      let is = placed_is d.space.heap.frames (block_of o) p in
      let l = lies_at d.space.heap.frames (room_of o.size) p.slot p.room in
      record {
        room = p.room;
        lies = subst (λ (b : Block). (b.start % 4096 ≡ 0) ⊎ (b.start % 4096 + block_bytes (room_of o.size) ≤ 4096)) (sym is) l.0;
        ends = subst (λ (b : Block). b.start % 4096 + block_bytes (room_of o.size) ≤ 4096 * shadow_pages (room_of o.size)) (sym is) l.1;
        framed = λ page on. k.settled.parts.heap.covered page ∙ covers d.space.heap.held (block_of o) page held_here on;
      }

  old_low : o.first + o.pages ≤ next_page d.space.objects
  old_low = ((pages_are_granted_once d.space.objects objects.granted).within s.number o k.is_fact).1

  old_not_new : (q count : ℕ) → has_page q o ≡ true → (nat_le (next_page d.space.objects) q && nat_lt q (next_page d.space.objects + count)) ≡ false
  old_not_new q count h = let l = old_low in grind (arith, nat_tests, h, l)

  -- ---- the block moves
  module _ (needs : block_need d (room_of n) + need d.space.tables (next_page d.space.objects) (shadow_pages (room_of n)) ≤ free_count d.free) (marked : mark d.space.objects + shadow_pages (room_of n) ≤ d.space.shadows) where
    mallocs : Mallocs batch entries words regions n d
    mallocs = record { settled = k.settled; needs = needs; marked = marked }

    abbrev block : Block
    block = next_block d.space.heap (room_of n)

    abbrev placed : HeapAndFree
    placed = place d.space.heap (room_of n) d.free

    abbrev made : Draft
    made = (malloc_in n block d).draft

    abbrev jobs : List Job
    jobs = zero_block placed.heap.pages block ++ header_jobs placed.heap.pages block n ++ copy_jobs placed.heap.pages (block_of o) block (min o.size n)

    has : HasFrames placed.heap.pages block
    has = malloc.has_frames batch entries words regions n d mallocs

    moves : Reallocs batch entries words regions terms d s block placed.heap placed.free jobs
    moves = record {
      settled = k.settled;
      has_terms = k.has_terms;
      is_fact = k.is_fact;
      live = k.live;
      trades = malloc.place_trades batch entries words regions n d mallocs;
      takes = malloc.takes_only batch entries words regions n d mallocs;
      has = has;
      is_heap = (malloc.keeps batch entries words regions n d mallocs).is_heap;
      frames = (malloc.keeps batch entries words regions n d mallocs).same_frames;
      needs = (let a = needs in let b = malloc.left batch entries words regions n d mallocs in omega (arith, a, b));
      marked = marked;
      small = small;
      within = where_append (IsFrameOf placed.heap.pages block) (zero_block placed.heap.pages block ++ header_jobs placed.heap.pages block n) (copy_jobs placed.heap.pages (block_of o) block (min o.size n))
          (fill_where placed.heap.pages block n has)
          (copy_where placed.heap.pages (block_of o) block (min o.size n) old_frames.lies has.lies
          (let a = room_holds o.size in omega (arith, a)) (let a = room_holds n in omega (arith, a)));
      few = (let a = length-append (zero_block placed.heap.pages block ++ header_jobs placed.heap.pages block n) (copy_jobs placed.heap.pages (block_of o) block (min o.size n)) in
          let b = length-append (zero_block placed.heap.pages block) (header_jobs placed.heap.pages block n) in
          let c = zeroes_few placed.heap.pages block 16 (room_is_room n) in
          let e = copies_few placed.heap.pages (block_of o) block (min o.size n) (room_is_room n) (let h = room_holds n in omega (arith, h)) in
          let f = small in
          let g = k.settled.parts.agrees.frames in
          omega (arith, a, b, c, e, f, g));
    }
      where
        small : shadow_pages (room_of n) ≤ d.space.heap.frames
        small =
            let x = malloc.goes batch entries words regions n d mallocs in
            let p = pages_within d.space.heap.frames (room_of n) x.slot (room_is_room n) x.found.within in
            omega (arith, p)

    -- as if the new object had been given first, and then the old one had been freed
    frees : Frees batch entries words regions terms made s
    frees = record {
      settled = record { parts = malloc.malloc_parts batch entries words regions n d mallocs; tables = malloc.malloc_agrees batch entries words regions n d mallocs };
      batch_is = k.has_terms.is;
      harts = k.has_terms.harts;
      is_fact = get_append d.space.objects (granted_at (next_page d.space.objects) (shadow_pages (room_of n)) n (block.start + 16) ∷ []) s.number o k.is_fact;
      live = k.live;
    }

    abbrev w : Space
    w = (let_wait terms s made).space

    stands : ObjectsStand (let_wait terms s made).space
    stands = stand (let_wait terms s made).space (waits_objects batch entries words regions terms made s frees)

    abbrev given : List Block
    given = waiting_blocks d.space ++ block_of o ∷ []

    given_is : waiting_blocks (let_wait terms s made).space ≡ waiting_blocks d.space ++ block_of o ∷ []
    given_is =
        let new = granted_at (next_page d.space.objects) (shadow_pages (room_of n)) n (block.start + 16) in
        let old : fact (kill s.number terms.call (d.space.objects ++ new ∷ [])) s.number ≡ Some (killed terms.call o) = killed_here (d.space.objects ++ new ∷ []) s.number terms.call o (get_append d.space.objects (new ∷ []) s.number o k.is_fact) in
        ap (map block_of) (filter_map-append (fact w.objects) d.space.waiting (s.number ∷ []))
        ∙ map-append block_of (facts w.objects d.space.waiting) (facts w.objects (s.number ∷ []))
        ∙ ap (λ xs. map block_of xs ++ map block_of (facts w.objects (s.number ∷ []))) (waiting_same new)
        ∙ ap (λ x. waiting_blocks d.space ++ map block_of (cons_option x [])) old

    all_held : AllHeld placed.heap.held given
    all_held = subst (AllHeld placed.heap.held) given_is (waiting_are_held w stands)

    placed_now : ArePlaced placed.heap.frames placed.heap.held
    placed_now = (malloc.keeps batch entries words regions n d mallocs).is_heap.placed

    differ : Different given
    differ = subst Different given_is (waiting_are_different w stands placed_now)

    pages_same : (q : ℕ) → mapping_at (last batch entries words regions terms n d s block placed.heap placed.free jobs moves given).tables.pages q ≡ mapping_at w.tables.pages q
    pages_same q =
        mapped_now batch entries words regions terms n d s block placed.heap placed.free jobs moves q
        ∙ either_order (nat_le (next_page d.space.objects) q && nat_lt q (next_page d.space.objects + shadow_pages (room_of n))) (has_page q o)
        (slice_get (block_mappings placed.heap.pages block) (q - next_page d.space.objects)) None (mapping_at d.space.tables.pages q) (old_not_new q (shadow_pages (room_of n)))
        ∙ sym (ap (λ x. cond (has_page q o) None x) (malloc.mapped_now batch entries words regions n d mallocs q))
        ∙ sym (unmap_all-pages o.pages o.first (tables_of made) q)

    moved_fits : (a : Answer) → PlanFits Oscar batch entries words regions d (record { answer = a; draft = after batch entries words regions terms n d s block placed.heap placed.free jobs moves; closing = GivesBack given })
    moved_fits a =
        let f = ends batch entries words regions terms n d s block placed.heap placed.free jobs moves given all_held differ in
        let l = last batch entries words regions terms n d s block placed.heap placed.free jobs moves given in
        realloc_fits batch entries words regions terms n d s block placed.heap placed.free jobs moves a given all_held differ
        (λ b e. is_held_waiting w b stands (ap (λ bs. is_held bs b) given_is ∙ e))
        (left_agrees w l.tables l.heap (record {
          agrees = stands;
          placed = placed_now;
          placed_now = f.given.is_heap.placed;
          pages = pages_same;
          frames = f.given.frames;
          held = λ b. f.given.held b ∙ ap (λ bs. is_held placed.heap.held b && not (is_held bs b)) (sym given_is);
          stays = f.given.stays;
        }))

    moved_takes : free_count (after batch entries words regions terms n d s block placed.heap placed.free jobs moves).free + (block_need d (room_of n) + need d.space.tables (next_page d.space.objects) (shadow_pages (room_of n))) ≡ free_count d.free
    moved_takes =
        let a = pages_take batch entries words regions terms n d s block placed.heap placed.free jobs moves in
        let b = malloc.left batch entries words regions n d mallocs in
        omega (arith, a, b)

  -- ---- the block stays
  module _ (same : room_of n ≡ room_of o.size) (needs : need d.space.tables (next_page d.space.objects) (shadow_pages (room_of n)) ≤ free_count d.free) (marked : mark d.space.objects + shadow_pages (room_of n) ≤ d.space.shadows) where
    abbrev trims : List Job
    trims = trim_jobs d.space.heap.pages (block_of o) (min o.size n) n

    old_small : shadow_pages (room_of o.size) ≤ d.space.heap.frames
    old_small =
        let a = objects.small s.number o (k.is_fact, k.live) in
        let b = objects.pages s.number o kept_here in
        omega (arith, a, b)

    in_place : Reallocs batch entries words regions terms d s (block_of o) d.space.heap d.free trims
    in_place = record {
      settled = k.settled;
      has_terms = k.has_terms;
      is_fact = k.is_fact;
      live = k.live;
      trades = trades_none d.space d.free;
      takes = same_taken d.free;
      has = old_frames;
      is_heap = k.settled.parts.heap;
      frames = refl;
      needs = subst (λ r. need d.space.tables (next_page d.space.objects) (shadow_pages r) ≤ free_count d.free) same needs;
      marked = subst (λ r. mark d.space.objects + shadow_pages r ≤ d.space.shadows) same marked;
      small = old_small;
      within = trim_where d.space.heap.pages (block_of o) (min o.size n) n old_frames.lies (let a = room_holds o.size in omega (arith, a));
      few = (let a = trims_few d.space.heap.pages (block_of o) (min o.size n) n old_frames.room in let b = old_small in let c = k.settled.parts.agrees.frames in omega (arith, a, b, c));
    }

    abbrev at_end : Draft
    at_end = after batch entries words regions terms n d s (block_of o) d.space.heap d.free trims in_place

    abbrev now_objects : List ObjectFact
    now_objects = (died batch entries words regions terms n d s (block_of o) d.space.heap d.free trims in_place).space.objects

    abbrev next : ObjectFact
    next = granted_at (next_page d.space.objects) (shadow_pages (room_of o.size)) n ((block_of o).start + 16)

    abbrev v : Space
    v = record (at_end.space) { waiting = d.space.waiting; objects = now_objects; heap = d.space.heap }

    abbrev is_next : ℕ → Bool
    is_next q = nat_le (next_page d.space.objects) q && nat_lt q (next_page d.space.objects + shadow_pages (room_of o.size))

    pages_now : (q : ℕ) → mapping_at at_end.space.tables.pages q ≡ cond (is_next q) (slice_get (block_mappings d.space.heap.pages (block_of o)) (q - next_page d.space.objects)) (cond (has_page q o) None (mapping_at d.space.tables.pages q))
    pages_now q = mapped_now batch entries words regions terms n d s (block_of o) d.space.heap d.free trims in_place q

    next_mapped : (i : ℕ) → i < shadow_pages (room_of o.size) → mapping_at at_end.space.tables.pages (next_page d.space.objects + i) ≡ Some (read_write_at (frame_at d.space.heap.pages ((block_of o).start / 4096 + i)))
    next_mapped i l = new_mapped batch entries words regions terms n d s (block_of o) d.space.heap d.free trims in_place i l

    block_same : block_of next ≡ block_of o
    block_same =
        let z : (block_of o).start + 16 - 16 ≡ (block_of o).start = omega arith in
        ap (λ x. record { start = x; room = room_of n }) z ∙ ap (λ r. record { start = (block_of o).start; room = r }) same

    canon_same : o.canon ≡ (block_of o).start + 16
    canon_same = (lies d.space.heap.frames d.space.heap.held o k.settled.parts.heap.placed held_here).canon

    -- an object that is kept is another one that was, or the next
    who : (b : ℕ) (x : ObjectFact) → fact now_objects b ≡ Some x → (is_live x || is_in d.space.waiting b) ≡ true → ((b ≢ s.number) × IsKept d.space b x) ⊎ ((b ≡ length d.space.objects) × (x ≡ next))
    who b x f l = go (killed_at (d.space.objects ++ next ∷ []) s.number terms.call b o x (get_append d.space.objects (next ∷ []) s.number o k.is_fact) f)
      where
        at : b ≢ s.number → (fact d.space.objects b ≡ Some x) ⊎ ((b ≡ length d.space.objects) × (x ≡ next)) → ((b ≢ s.number) × IsKept d.space b x) ⊎ ((b ≡ length d.space.objects) × (x ≡ next))
        at ne (inl e) = inl (ne, (e, l))
        at ne (inr e) = inr e

        go : ((b ≢ s.number) × (fact (d.space.objects ++ next ∷ []) b ≡ Some x)) ⊎ ((b ≡ s.number) × (x ≡ killed terms.call o)) → ((b ≢ s.number) × IsKept d.space b x) ⊎ ((b ≡ length d.space.objects) × (x ≡ next))
        go (inl e) = at e.0 (grown d.space.objects next x b e.1)
        go (inr e) = absurd (let dead : is_live x ≡ false = ap is_live e.1 in let i : is_in d.space.waiting b ≡ true = grind (arith, nat_tests, l, dead) in other_waits b i e.0)

    other_live : (b : ℕ) (x : ObjectFact) → IsLive v b x → ((b ≢ s.number) × IsLive d.space b x) ⊎ ((b ≡ length d.space.objects) × (x ≡ next))
    other_live b x l = go (who b x l.0 (let e = l.1 in grind (arith, nat_tests, e)))
      where
        go : ((b ≢ s.number) × IsKept d.space b x) ⊎ ((b ≡ length d.space.objects) × (x ≡ next)) → ((b ≢ s.number) × IsLive d.space b x) ⊎ ((b ≡ length d.space.objects) × (x ≡ next))
        go (inl e) = inl (e.0, (e.1.0, l.1))
        go (inr e) = inr e

    next_now : fact now_objects (length d.space.objects) ≡ Some next
    next_now = new_now batch entries words regions terms n d s (block_of o) d.space.heap d.free trims in_place

    next_kept : IsKept v (length d.space.objects) next
    next_kept = (next_now, refl)

    canonical_now : (q : ℕ) → is_canonical_page q ≡ true → mapping_at at_end.space.tables.pages q ≡ None
    canonical_now q c =
        let a = marked in let b = k.settled.parts.shadows in let e = ap shadow_pages same in
        let out : is_next q ≡ false = grind (arith, nat_tests, a, b, c, e) in
        let was = objects.canonical q c in
        pages_now q ∙ ap (λ t. cond t (slice_get (block_mappings d.space.heap.pages (block_of o)) (q - next_page d.space.objects)) (cond (has_page q o) None (mapping_at d.space.tables.pages q))) out ∙ (grind (arith, nat_tests, was))

    is_mapped : (q : ℕ) → is_next q ≡ true → is_some (mapping_at at_end.space.tables.pages q) ≡ true
    is_mapped q e =
        let l : next_page d.space.objects ≤ q = grind (arith, nat_tests, e) in
        let u : q < next_page d.space.objects + shadow_pages (room_of o.size) = grind (arith, nat_tests, e) in
        let z : next_page d.space.objects + (q - next_page d.space.objects) ≡ q = omega (arith, l) in
        subst (λ x. is_some (mapping_at at_end.space.tables.pages x) ≡ true) z (ap is_some (next_mapped (q - next_page d.space.objects) (omega (arith, l, u))))

    shadows_now : (q : ℕ) → is_shadow q ≡ true → is_some (mapping_at at_end.space.tables.pages q) ≡ is_live_page now_objects q
    shadows_now q c = go (has_page q o) refl (is_next q) refl
      where
        rest : (b : Bool) → is_next q ≡ b → mapping_at at_end.space.tables.pages q ≡ cond b (slice_get (block_mappings d.space.heap.pages (block_of o)) (q - next_page d.space.objects)) (cond (has_page q o) None (mapping_at d.space.tables.pages q))
        rest b e = pages_now q ∙ ap (λ t. cond t (slice_get (block_mappings d.space.heap.pages (block_of o)) (q - next_page d.space.objects)) (cond (has_page q o) None (mapping_at d.space.tables.pages q))) e

        live : has_page q o ≡ false → is_live_page now_objects q ≡ (is_live_page d.space.objects q || (is_next q || false))
        live h = live_other batch entries words regions terms n d s (block_of o) d.space.heap d.free trims in_place q h

        go : (h : Bool) → has_page q o ≡ h → (b : Bool) → is_next q ≡ b → is_some (mapping_at at_end.space.tables.pages q) ≡ is_live_page now_objects q
        go true h b e =
            ap is_some (rest false (old_not_new q (shadow_pages (room_of o.size)) h) ∙ ap (λ t. cond t None (mapping_at d.space.tables.pages q)) h)
            ∙ sym (kill_own (d.space.objects ++ next ∷ []) s.number terms.call q o (is_granted batch entries words regions terms n d s (block_of o) d.space.heap d.free trims in_place) (get_append d.space.objects (next ∷ []) s.number o k.is_fact) h)
        go false h true e = is_mapped q e ∙ sym (live h ∙ (grind (arith, nat_tests, e)))
        go false h false e = ap is_some (rest false e ∙ ap (λ t. cond t None (mapping_at d.space.tables.pages q)) h) ∙ objects.shadows q c ∙ sym (live h ∙ (grind (arith, nat_tests, e)))

    held_now : (b : ℕ) (x : ObjectFact) → IsKept v b x → is_held d.space.heap.held (block_of x) ≡ true
    held_now b x l = go (who b x l.0 l.1)
      where
        go : ((b ≢ s.number) × IsKept d.space b x) ⊎ ((b ≡ length d.space.objects) × (x ≡ next)) → is_held d.space.heap.held (block_of x) ≡ true
        go (inl e) = objects.held b x e.1
        go (inr e) = ap (λ c. is_held d.space.heap.held c) (ap block_of e.1 ∙ block_same) ∙ held_here

    own_now : (a b : ℕ) (x y : ObjectFact) → IsKept v a x → IsKept v b y → x.canon ≡ y.canon → a ≡ b
    own_now a b x y l m e = go (who a x l.0 l.1) (who b y m.0 m.1)
      where
        go : ((a ≢ s.number) × IsKept d.space a x) ⊎ ((a ≡ length d.space.objects) × (x ≡ next)) → ((b ≢ s.number) × IsKept d.space b y) ⊎ ((b ≡ length d.space.objects) × (y ≡ next)) → a ≡ b
        go (inl u) (inl t) = objects.own a b x y u.1 t.1 e
        go (inl u) (inr t) = absurd (u.0 (objects.own a s.number x o u.1 kept_here (e ∙ ap (λ (z : ObjectFact). z.canon) t.1 ∙ sym canon_same)))
        go (inr u) (inl t) = absurd (t.0 (objects.own b s.number y o t.1 kept_here (sym e ∙ ap (λ (z : ObjectFact). z.canon) u.1 ∙ sym canon_same)))
        go (inr u) (inr t) = u.0 ∙ sym t.0

    backed_now : (block : Block) → is_held d.space.heap.held block ≡ true → IsBlockOf v block
    backed_now block h = let x = objects.backed block h in go x (x.object == s.number) refl
      where
        go : (x : IsBlockOf d.space block) → (b : Bool) → (x.object == s.number) ≡ b → IsBlockOf v block
        go x true e =
            let i : x.object ≡ s.number = grind (arith, nat_tests, e) in
            let one : o ≡ x.of = (let f = k.is_fact in let g : fact d.space.objects s.number ≡ Some x.of = subst (λ y. fact d.space.objects y ≡ Some x.of) i x.kept.0 in cc) in
            record { object = length d.space.objects; of = next; kept = next_kept; is = block_same ∙ ap block_of one ∙ x.is }
        go x false e =
            let ne : x.object ≢ s.number = grind (arith, nat_tests, e) in
            record { object = x.object; of = x.of; kept = (killed_other (d.space.objects ++ next ∷ []) s.number terms.call x.object x.of ne (get_append d.space.objects (next ∷ []) x.object x.of x.kept.0), x.kept.1); is = x.is }

    pages_kept : (b : ℕ) (x : ObjectFact) → IsKept v b x → x.pages ≡ shadow_pages (room_of x.size)
    pages_kept b x l = go (who b x l.0 l.1)
      where
        go : ((b ≢ s.number) × IsKept d.space b x) ⊎ ((b ≡ length d.space.objects) × (x ≡ next)) → x.pages ≡ shadow_pages (room_of x.size)
        go (inl e) = objects.pages b x e.1
        go (inr e) = subst (λ (y : ObjectFact). y.pages ≡ shadow_pages (room_of y.size)) (sym e.1) (sym (ap shadow_pages same))

    next_page_is : ((block_of o).start + 16) / 4096 ≡ (block_of o).start / 4096
    next_page_is =
        let x = lies d.space.heap.frames d.space.heap.held o k.settled.parts.heap.placed held_here in
        sym (ap (λ y. y / 4096) x.canon) ∙ x.page

    next_there : (i : ℕ) → i < shadow_pages (room_of o.size) → mapping_at at_end.space.tables.pages (next_page d.space.objects + i) ≡ option_map read_write_at (frame_of d.space.heap.pages (((block_of o).start + 16) / 4096 + i))
    next_there i l =
        let on : is_on ((block_of o).start / 4096 + i) (block_of o) ≡ true = grind (arith, nat_tests, l) in
        let f = frame_found d.space.heap.pages ((block_of o).start / 4096 + i) (old_frames.framed ((block_of o).start / 4096 + i) on) in
        next_mapped i l ∙ sym (ap (λ p. option_map read_write_at (frame_of d.space.heap.pages (p + i))) next_page_is ∙ ap (option_map read_write_at) f)

    mapped_kept : (b i : ℕ) (x : ObjectFact) → IsLive v b x → i < x.pages → mapping_at at_end.space.tables.pages (x.first + i) ≡ option_map read_write_at (frame_of d.space.heap.pages (x.canon / 4096 + i))
    mapped_kept b i x l less = go (other_live b x l)
      where
        go : ((b ≢ s.number) × IsLive d.space b x) ⊎ ((b ≡ length d.space.objects) × (x ≡ next)) → mapping_at at_end.space.tables.pages (x.first + i) ≡ option_map read_write_at (frame_of d.space.heap.pages (x.canon / 4096 + i))
        go (inl e) =
            let w = (pages_are_granted_once d.space.objects objects.granted).within b x e.1.0 in let u = w.1 in
            let out : is_next (x.first + i) ≡ false = grind (arith, nat_tests, u, less) in
            let other = one_owner d.space.objects b s.number (x.first + i) x o objects.granted e.1.0 k.is_fact (λ z. e.0 (sym z)) (let z : has_page (x.first + i) x ≡ true = grind (arith, nat_tests, less) in z) in
            pages_now (x.first + i)
            ∙ ap (λ t. cond t (slice_get (block_mappings d.space.heap.pages (block_of o)) (x.first + i - next_page d.space.objects)) (cond (has_page (x.first + i) o) None (mapping_at d.space.tables.pages (x.first + i)))) out
            ∙ ap (λ t. cond t None (mapping_at d.space.tables.pages (x.first + i))) other
            ∙ objects.mapped b i x e.1 less
        go (inr e) = subst (λ (y : ObjectFact). i < y.pages → mapping_at at_end.space.tables.pages (y.first + i) ≡ option_map read_write_at (frame_of d.space.heap.pages (y.canon / 4096 + i))) (sym e.1) (λ l. next_there i l) less

    small_kept : (b : ℕ) (x : ObjectFact) → IsLive v b x → x.pages ≤ d.space.heap.frames
    small_kept b x l = go (other_live b x l)
      where
        go : ((b ≢ s.number) × IsLive d.space b x) ⊎ ((b ≡ length d.space.objects) × (x ≡ next)) → x.pages ≤ d.space.heap.frames
        go (inl e) = objects.small b x e.1
        go (inr e) = subst (λ (y : ObjectFact). y.pages ≤ d.space.heap.frames) (sym e.1) old_small

    dead_now : (b : ℕ) (x : ObjectFact) → is_in d.space.waiting b ≡ true → fact now_objects b ≡ Some x → is_live x ≡ false
    dead_now b x i f = objects.waiting.dead b x i (sym (fact_stays d.space.objects next s.number terms.call b (other_waits b i) (objects.waiting.known b i)) ∙ f)

    stays_stand : ObjectsStand v
    stays_stand = record {
      granted = grants_keep.killed s.number terms.call (d.space.objects ++ next ∷ []) (is_granted batch entries words regions terms n d s (block_of o) d.space.heap d.free trims in_place);
      limit = (let a = mark-kill s.number terms.call (d.space.objects ++ next ∷ []) in let b = mark-grant (shadow_pages (room_of o.size)) n ((block_of o).start + 16) d.space.objects in let c = marked in let e = ap shadow_pages same in omega (arith, a, b, c, e));
      canonical = canonical_now;
      shadows = shadows_now;
      held = held_now;
      own = own_now;
      backed = backed_now;
      pages = pages_kept;
      mapped = mapped_kept;
      small = small_kept;
      apart = objects.waiting.apart;
      dead = dead_now;
    }

    stays_given : waiting_blocks v ≡ waiting_blocks d.space ++ []
    stays_given = ap (map block_of) (waiting_same next) ∙ sym (no_end (waiting_blocks d.space))

    stay_fits : (a : Answer) → PlanFits Oscar batch entries words regions d (record { answer = a; draft = at_end; closing = GivesBack (waiting_blocks d.space ++ []) })
    stay_fits a =
        let placed_now = k.settled.parts.heap.placed in
        let all_held = subst (AllHeld d.space.heap.held) stays_given (waiting_are_held v stays_stand) in
        let differ = subst Different stays_given (waiting_are_different v stays_stand placed_now) in
        let f = ends batch entries words regions terms n d s (block_of o) d.space.heap d.free trims in_place (waiting_blocks d.space ++ []) all_held differ in
        let l = last batch entries words regions terms n d s (block_of o) d.space.heap d.free trims in_place (waiting_blocks d.space ++ []) in
        realloc_fits batch entries words regions terms n d s (block_of o) d.space.heap d.free trims in_place a (waiting_blocks d.space ++ []) all_held differ
        (λ b e. is_held_waiting v b stays_stand (ap (λ bs. is_held bs b) stays_given ∙ e))
        (left_agrees v l.tables l.heap (record {
          agrees = stays_stand;
          placed = placed_now;
          placed_now = f.given.is_heap.placed;
          pages = λ q. refl;
          frames = f.given.frames;
          held = λ b. f.given.held b ∙ ap (λ bs. is_held d.space.heap.held b && not (is_held bs b)) (sym stays_given);
          stays = f.given.stays;
        }))

    stay_takes : free_count at_end.free + (0 + need d.space.tables (next_page d.space.objects) (shadow_pages (room_of n))) ≡ free_count d.free
    stay_takes =
        subst (λ r. free_count at_end.free + (0 + need d.space.tables (next_page d.space.objects) (shadow_pages r)) ≡ free_count d.free) (sym same)
        (let a = pages_take batch entries words regions terms n d s (block_of o) d.space.heap d.free trims in_place in omega (arith, a))

-- ---- each realloc
-- an object that is taken as it was found
old_is : (batch : ℕ) (entries : ℕ → ℕ → ℕ) (words : List ℕ) (regions : Regions) (terms : Terms) (pointer : ℕ) (found : Found) (d : Draft) (s : Seen)
    → Settled Oscar batch entries words regions d → HasTerms batch terms → object_at d.space.objects pointer ≡ Some s
    → first_reason (object_reasons (Some s) found) ≡ None → Old batch entries words regions terms d s
old_is batch entries words regions terms pointer found d s k t e f = record {
  settled = k;
  has_terms = t;
  is_fact = ((looks_find_objects d.space.objects k.parts.agrees.heap.granted).at pointer s e).0;
  live = taken_lives s found f;
}

pub reallocs_fit : ReallocsFit
unfolding realloc_plan
reallocs_fit batch entries words regions terms pointer n found d k t = seen (object_at d.space.objects pointer) refl
  where
    seen : (x : Option Seen) → object_at d.space.objects pointer ≡ x → PlanFits Oscar batch entries words regions d (realloc_seen x terms n found d)
    seen None e = unchanged_fits Oscar batch entries words regions d answer.NotAnObject k
    seen (Some s) e = go (first_reason (realloc_reasons (Some s) n found d)) refl
      where
        old : first_reason (object_reasons (Some s) found) ≡ None → Old batch entries words regions terms d s
        old = old_is batch entries words regions terms pointer found d s k t e

        kind : (stay : Bool) → stays s.fact n ≡ stay → (b c : Bool) → nat_lt d.space.shadows (mark d.space.objects + shadow_pages (room_of n)) ≡ b
            → nat_lt (free_count d.free) (frames_for stay n d + need d.space.tables (next_page d.space.objects) (shadow_pages (room_of n))) ≡ c
            → b ≡ false → c ≡ false → first_reason (object_reasons (Some s) found) ≡ None → PlanFits Oscar batch entries words regions d (realloc_made stay terms s n d)
        kind true i b c g h x y f =
            stay_fits batch entries words regions terms n d s (old f) (same_room (room_of n) (room_of s.fact.size) i)
            (grind (arith, nat_tests, h, y)) (grind (arith, nat_tests, g, x)) _
        kind false i b c g h x y f =
            moved_fits batch entries words regions terms n d s (old f)
            (grind (arith, nat_tests, h, y)) (grind (arith, nat_tests, g, x)) _

        go : (r : Option Answer) → first_reason (realloc_reasons (Some s) n found d) ≡ r → PlanFits Oscar batch entries words regions d (unless r d (realloc_made (stays s.fact n) terms s n d))
        go (Some a) f = unchanged_fits Oscar batch entries words regions d a k
        go None f =
            let both = after_object (object_reasons (Some s) found) _ f in
            let want = no_want (nat_lt d.space.shadows (mark d.space.objects + shadow_pages (room_of n)))
            (nat_lt (free_count d.free) (frames_for (stays s.fact n) n d + need d.space.tables (next_page d.space.objects) (shadow_pages (room_of n)))) answer.NoShadow answer.NoFrames both.1 in
            kind (stays s.fact n) refl _ _ refl refl want.0 want.1 both.0

pub reallocs_take_need : ReallocsTakeNeed
unfolding realloc_plan
reallocs_take_need batch entries words regions terms pointer n found d s k t e f =
    ap (λ x. free_count (realloc_seen x terms n found d).draft.free + (frames_for (stays s.fact n) n d + need d.space.tables (next_page d.space.objects) (shadow_pages (room_of n)))) e
    ∙ ap (λ r. free_count (unless r d (realloc_made (stays s.fact n) terms s n d)).draft.free + (frames_for (stays s.fact n) n d + need d.space.tables (next_page d.space.objects) (shadow_pages (room_of n)))) f
    ∙ kind (stays s.fact n) refl _ _ refl refl want.0 want.1
  where
    both : (first_reason (object_reasons (Some s) found) ≡ None) × (first_reason (memory_reasons (frames_for (stays s.fact n) n d) (shadow_pages (room_of n)) d) ≡ None)
    both = after_object (object_reasons (Some s) found) _ f

    want : (nat_lt d.space.shadows (mark d.space.objects + shadow_pages (room_of n)) ≡ false) × (nat_lt (free_count d.free) (frames_for (stays s.fact n) n d + need d.space.tables (next_page d.space.objects) (shadow_pages (room_of n))) ≡ false)
    want =
        no_want (nat_lt d.space.shadows (mark d.space.objects + shadow_pages (room_of n)))
        (nat_lt (free_count d.free) (frames_for (stays s.fact n) n d + need d.space.tables (next_page d.space.objects) (shadow_pages (room_of n)))) answer.NoShadow answer.NoFrames both.1

    old : Old batch entries words regions terms d s
    old = old_is batch entries words regions terms pointer found d s k t e both.0

    kind : (stay : Bool) → stays s.fact n ≡ stay → (b c : Bool) → nat_lt d.space.shadows (mark d.space.objects + shadow_pages (room_of n)) ≡ b
        → nat_lt (free_count d.free) (frames_for stay n d + need d.space.tables (next_page d.space.objects) (shadow_pages (room_of n))) ≡ c
        → b ≡ false → c ≡ false
        → free_count (realloc_made stay terms s n d).draft.free + (frames_for stay n d + need d.space.tables (next_page d.space.objects) (shadow_pages (room_of n))) ≡ free_count d.free
    kind true i b c g h x y =
        stay_takes batch entries words regions terms n d s old (same_room (room_of n) (room_of s.fact.size) i)
        (grind (arith, nat_tests, h, y)) (grind (arith, nat_tests, g, x))
    kind false i b c g h x y =
        moved_takes batch entries words regions terms n d s old
        (grind (arith, nat_tests, h, y)) (grind (arith, nat_tests, g, x))
