-- Each malloc and each free turns the tables.
use Rattle.std.proofs.Common.{ℕ, suc, ◌+◌, ◌*◌, ◌≡◌, ◌<◌, ◌≤◌, ◌==◌, ◌&&◌, ◌||◌, ◌⊎◌, inl, inr, ltb, cond, Bool, true, false, is_some, Option, Some, None, List, [], ◌∷◌, ◌++◌, length, filter, slice_get, arith, refl, sym, ap, subst, ◌∙◌}
use Rattle.std.specs.List.{list_any, range_with_len}
use Rattle.std.proofs.lemmas.Bool.Decides.{nat_tests}
use Rattle.std.proofs.lemmas.List.FromFn.{length-map-range_with_len}
use Rattle.osc_word.specs.declared.calls.Answer.{Answer}
use Rattle.osc_word.specs.declared.job_list.Job.{Job}
use Rattle.osc_word.specs.declared.settings.HeapKind.TheVariants.{Oscar}
use Rattle.osc_word.specs.AddressMap.{is_shadow}
use Rattle.osc_sv39.specs.declared.entries.Mapping.{Mapping}
use Rattle.osc_class.specs.Rooms.{room_of, shadow_pages}
use Rattle.osc_slot.specs.declared.Block.{Block}
use Rattle.osc_slot.specs.Heap.{place, next_block, free_count, HeapAndFree}
use Rattle.osc_paging.specs.KeptTables.{mapping_at}
use Rattle.osc_paging.specs.TableChanges.{Changed, map_pages}
use Rattle.osc_space.specs.declared.ObjectFact.{ObjectFact}
use Rattle.osc_space.specs.Objects.{Seen, AreGranted, next_page, has_page, is_live, is_live_page, leaf_dead, is_in_leaf, object_at}
use Rattle.osc_space.specs.Space.{Draft, Terms, first_reason, unless, unchanged}
use Rattle.osc_space.specs.Header.{Found, object_reasons}
use Rattle.osc_space.specs.Share.{Regions}
use Rattle.osc_space.specs.BlockWords.{zero_block, header_jobs, block_mappings}
use Rattle.osc_space.specs.Malloc.{malloc_reasons, block_need, malloc_in, malloc_plan}
use Rattle.osc_space.specs.Free.{linked_leaves, dead_leaves, reclaim_all, waiting_facts, flush_where, closing_where, is_full, let_wait, freed, free_seen, free_plan}
use Rattle.osc_space.specs.Agree.{ObjectsAgree}
use Rattle.osc_space.proofs.ObjectLawProofs.{pages_are_granted_once, dead_leaves_are_dead, looks_find_objects}
use Rattle.osc_parts.specs.Settled.{tables_of, Settled}
use Rattle.osc_parts.specs.FreeLaws.{HasTerms}
use Rattle.osc_parts.proofs.Shapes as shapes
use Rattle.osc_parts.proofs.PlacingParts as placing
use Rattle.osc_parts.proofs.Blocks.{block_frame, all_weaker, fill_where, block_reads, HasFrames}
use Rattle.osc_space.specs.WordLaws.{IsFrameOf}
use Rattle.osc_parts.proofs.MallocParts.{Mallocs, mallocs}
use Rattle.osc_parts.proofs.FreeParts.{Frees, waits_objects}
use Rattle.osc_parts.proofs.FreeReturn.{taken_lives}
use Rattle.osc_showing.specs.Showing.{AllDue, Turned, IsPlain, AllRead}
use Rattle.osc_showing.specs.PlanTurns.{PlanTurns}
use Rattle.osc_showing.proofs.Wiping.{Wiping, rest-wipes, unmap_all-wipes, reclaim_all-wipes, wiped-turns}
use Rattle.osc_showing.proofs.Growing.{maps-turns, clears-due, clear-turns, plain-turns}
use Rattle.osc_showing.proofs.Shown.{tidy-of}

-- ---- before the plan
pub start : (batch : ℕ) (entries : ℕ → ℕ → ℕ) (words : List ℕ) (regions : Regions) (d : Draft) → Settled Oscar batch entries words regions d → d.jobs ≡ [] → Wiping d.space.tables (tables_of d)
start batch entries words regions d s e =
    subst (λ js. Wiping d.space.tables (record { tables = d.space.tables; free = d.free; jobs = js })) (sym e)
    (rest-wipes d.space.tables d.free (tidy-of d.space.tables d.free _ s.tables) s.parts.agrees.aside)

none-due : (js : List Job) → AllDue 0 js
none-due js = λ hart l. absurd (omega (arith, l))

pub unchanged-turns : (harts batch : ℕ) (entries : ℕ → ℕ → ℕ) (words : List ℕ) (regions : Regions) (d : Draft) (a : Answer) → Settled Oscar batch entries words regions d → d.jobs ≡ [] → PlanTurns harts d (unchanged a d)
unchanged-turns harts batch entries words regions d a s e = record { turned = wiped-turns d.space.tables (tables_of d) (start batch entries words regions d s e); due = none-due d.jobs }

-- ---- pages that are new
any-none : (f : ObjectFact → Bool) (xs : List ObjectFact) → ((i : ℕ) (x : ObjectFact) → slice_get xs i ≡ Some x → f x ≡ false) → list_any f xs ≡ false
any-none f [] all = refl
any-none f (x ∷ xs) all = let a = all 0 x refl in let b = any-none f xs (λ i y e. all (suc i) y e) in grind (arith, a, b)

pub no-mapping : (o : Option Mapping) → is_some o ≡ false → o ≡ None
no-mapping None e = refl
no-mapping (Some m) e = absurd (let b : ⊥ = grind (arith, e) in b)

pub past-mark : (objects : List ObjectFact) (q : ℕ) → AreGranted objects → next_page objects ≤ q → is_live_page objects q ≡ false
past-mark objects q g l = any-none (λ o. is_live o && has_page q o) objects (λ i o e. (let w = (pages_are_granted_once objects g).within i o e in let high = w.1 in let none : has_page q o ≡ false = grind (arith, nat_tests, high, l) in grind (arith, none)))

pub all-read : (ms : List Mapping) → shapes.AllRead ms → AllRead ms
all-read [] a = tt
all-read (m ∷ ms) a = (a.0, all-read ms a.1)

-- ---- malloc
malloc-made : (harts batch n : ℕ) (entries : ℕ → ℕ → ℕ) (words : List ℕ) (regions : Regions) (d : Draft) → d.jobs ≡ [] → Mallocs batch entries words regions n d
    → PlanTurns harts d (malloc_in n (next_block d.space.heap (room_of n)) d)
malloc-made harts batch n entries words regions d e m = record { turned = mapped; due = none-due after.jobs }
  where
    needs : block_need d (room_of n) ≤ free_count d.free
    needs = let q = m.needs in omega (arith, q)

    placed : HeapAndFree
    placed = place d.space.heap (room_of n) d.free

    block : Block
    block = next_block d.space.heap (room_of n)

    has : HasFrames placed.heap.pages block
    has = placing.has_frames Oscar batch entries words regions n d m.settled needs

    taken : (f : ℕ) → IsFrameOf placed.heap.pages block f → IsPlain d.space.tables placed.free f
    taken f i = (
      placing.heap_taken_now Oscar batch entries words regions n d m.settled needs f (block_frame placed.heap.pages block f has i),
      placing.no_table Oscar batch entries words regions n d m.settled needs f i,
    )

    filled : Turned d.space.tables d.space.tables placed.free (d.jobs ++ (zero_block placed.heap.pages block ++ header_jobs placed.heap.pages block n))
    filled = plain-turns d.space.tables d.space.tables d.free placed.free d.jobs (zero_block placed.heap.pages block ++ header_jobs placed.heap.pages block n)
        (placing.takes_only Oscar batch entries words regions n d m.settled needs)
        (all_weaker (IsFrameOf placed.heap.pages block) (IsPlain d.space.tables placed.free) _ taken (fill_where placed.heap.pages block n has))
        (wiped-turns d.space.tables (tables_of d) (start batch entries words regions d m.settled e))

    reads : AllRead (block_mappings placed.heap.pages block)
    reads = all-read _ (block_reads placed.heap.pages block placed.free has
        (let a = m.settled.tables.small in let b = (placing.takes_only Oscar batch entries words regions n d m.settled needs).size in omega (arith, a, b))
        (placing.heap_taken_now Oscar batch entries words regions n d m.settled needs))

    none : (q : ℕ) → next_page d.space.objects ≤ q → (mapping_at d.space.tables.pages q ≡ None) ⊎ (next_page d.space.objects + length (block_mappings placed.heap.pages block) ≤ q)
    none q l = go (ltb q (next_page d.space.objects + shadow_pages (room_of n))) refl
      where
        size : length (block_mappings placed.heap.pages block) ≡ shadow_pages (room_of n)
        size = length-map-range_with_len _ _ _

        go : (b : Bool) → ltb q (next_page d.space.objects + shadow_pages (room_of n)) ≡ b
            → (mapping_at d.space.tables.pages q ≡ None) ⊎ (next_page d.space.objects + length (block_mappings placed.heap.pages block) ≤ q)
        go false h = inr (let less : next_page d.space.objects + shadow_pages (room_of n) ≤ q = grind (arith, nat_tests, h) in omega (arith, less, size))
        go true h =
            let high : q < next_page d.space.objects + shadow_pages (room_of n) = grind (arith, nat_tests, h) in
            let a = m.marked in
            let b = m.settled.parts.shadows in
            let shadow : is_shadow q ≡ true = grind (arith, nat_tests, l, high, a, b) in
            let objects = m.settled.parts.agrees.heap in
            inl (no-mapping (mapping_at d.space.tables.pages q) (objects.shadows q shadow ∙ past-mark d.space.objects q objects.granted l))

    before : Changed
    before = record { tables = d.space.tables; free = placed.free; jobs = d.jobs ++ (zero_block placed.heap.pages block ++ header_jobs placed.heap.pages block n) }

    after : Changed
    after = map_pages (next_page d.space.objects) (block_mappings placed.heap.pages block) before

    mapped : Turned d.space.tables after.tables after.free after.jobs
    mapped = maps-turns d.space.tables (block_mappings placed.heap.pages block) (next_page d.space.objects) before reads none filled

pub malloc-turns : (harts batch n : ℕ) (entries : ℕ → ℕ → ℕ) (words : List ℕ) (regions : Regions) (d : Draft) → Settled Oscar batch entries words regions d → d.jobs ≡ [] → PlanTurns harts d (malloc_plan n d)
unfolding malloc_plan
malloc-turns harts batch n entries words regions d s e = go (first_reason (malloc_reasons n d)) refl
  where
    go : (r : Option Answer) → first_reason (malloc_reasons n d) ≡ r → PlanTurns harts d (unless r d (malloc_in n (next_block d.space.heap (room_of n)) d))
    go (Some a) f = unchanged-turns harts batch entries words regions d a s e
    go None f = malloc-made harts batch n entries words regions d e (mallocs batch entries words regions n d s f)

-- ---- free
pub in-filter : (test : ℕ → Bool) (xs : List ℕ) (x : ℕ) → list_any (λ y. y == x) (filter test xs) ≡ true → test x ≡ true
in-filter test [] x e = absurd (let z : ⊥ = grind (arith, e) in z)
in-filter test (y ∷ xs) x e = go (test y) refl e (in-filter test xs x)
  where
    at : test y ≡ true → (b : Bool) → (y == x) ≡ b → (b || list_any (λ z. z == x) (filter test xs)) ≡ true → (list_any (λ z. z == x) (filter test xs) ≡ true → test x ≡ true) → test x ≡ true
    at d true f h later = let same : y ≡ x = grind (arith, nat_tests, f) in sym (ap test same) ∙ d
    at d false f h later = later h

    go : (b : Bool) → test y ≡ b → list_any (λ z. z == x) (cond b (y ∷ filter test xs) (filter test xs)) ≡ true → (list_any (λ z. z == x) (filter test xs) ≡ true → test x ≡ true) → test x ≡ true
    go true d h later = at d (y == x) refl h later
    go false d h later = later h

freed-made : (batch : ℕ) (entries : ℕ → ℕ → ℕ) (words : List ℕ) (regions : Regions) (terms : Terms) (d : Draft) (s : Seen) → d.jobs ≡ [] → Frees batch entries words regions terms d s
    → PlanTurns terms.harts d (freed s.number terms (let_wait terms s d))
freed-made batch entries words regions terms d s e m = go (is_full terms waits.space)
  where
    waits : Draft
    waits = let_wait terms s d

    gone : List ObjectFact
    gone = waiting_facts waits.space

    objects : ObjectsAgree waits.space
    objects = waits_objects batch entries words regions terms d s m

    wiped : Wiping d.space.tables (tables_of waits)
    wiped = unmap_all-wipes d.space.tables (range_with_len s.fact.first s.fact.pages) (tables_of d) (start batch entries words regions d m.settled e)

    empty : (leaf : ℕ) → list_any (λ x. x == leaf) (dead_leaves gone waits.space) ≡ true → (i : ℕ) → i < 512 → mapping_at waits.space.tables.pages (leaf * 512 + i) ≡ None
    empty leaf h i l =
        let test = in-filter (λ x. leaf_dead waits.space.objects x && list_any (is_in_leaf x) gone) (linked_leaves waits.space.tables) leaf h in
        let dead = (dead_leaves_are_dead waits.space.objects leaf objects.granted).pages (grind (arith, nat_tests, test)) (leaf * 512 + i) (omega arith) (omega (arith, l)) in
        let w = dead.0 in
        let limit = objects.limit in
        let range = m.settled.parts.shadows in
        let shadow : is_shadow (leaf * 512 + i) ≡ true = grind (arith, nat_tests, w, limit, range) in
        no-mapping (mapping_at waits.space.tables.pages (leaf * 512 + i)) (objects.shadows (leaf * 512 + i) shadow ∙ dead.1)

    left : Changed
    left = reclaim_all (dead_leaves gone waits.space) (tables_of waits)

    given : Wiping d.space.tables left
    given = reclaim_all-wipes d.space.tables (dead_leaves gone waits.space) (tables_of waits) empty wiped

    go : (b : Bool) → PlanTurns terms.harts d (record { answer = (freed s.number terms waits).answer; draft = flush_where b terms.harts waits; closing = closing_where b waits.space })
    go false = record { turned = wiped-turns d.space.tables (tables_of waits) wiped; due = none-due waits.jobs }
    go true = record {
      turned = clear-turns d.space.tables left.tables left.free left.jobs terms.harts (wiped-turns d.space.tables left given);
      due = clears-due terms.harts left.jobs;
    }

pub free-turns : (batch pointer : ℕ) (entries : ℕ → ℕ → ℕ) (words : List ℕ) (regions : Regions) (terms : Terms) (found : Found) (d : Draft) → Settled Oscar batch entries words regions d → HasTerms batch terms → d.jobs ≡ []
    → PlanTurns terms.harts d (free_plan terms pointer found d)
unfolding free_plan
free-turns batch pointer entries words regions terms found d k t e = seen (object_at d.space.objects pointer) refl
  where
    seen : (x : Option Seen) → object_at d.space.objects pointer ≡ x → PlanTurns terms.harts d (free_seen x terms found d)
    seen None f = unchanged-turns terms.harts batch entries words regions d _ k e
    seen (Some s) f = go (first_reason (object_reasons (Some s) found)) refl
      where
        go : (r : Option Answer) → first_reason (object_reasons (Some s) found) ≡ r → PlanTurns terms.harts d (unless r d (freed s.number terms (let_wait terms s d)))
        go (Some a) g = unchanged-turns terms.harts batch entries words regions d a k e
        go None g = freed-made batch entries words regions terms d s e (record {
          settled = k;
          batch_is = t.is;
          harts = t.harts;
          is_fact = ((looks_find_objects d.space.objects k.parts.agrees.heap.granted).at pointer s f).0;
          live = taken_lives s found g;
        })
