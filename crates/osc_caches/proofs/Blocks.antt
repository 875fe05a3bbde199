-- The blocks of the objects that wait are held after each plan.
use Rattle.std.proofs.Common.{ℕ, ◌+◌, ◌≡◌, ◌≢◌, ◌≤◌, ◌||◌, ⊎_elim, nat_lt, Bool, true, false, Option, Some, None, List, [], ◌∷◌, ◌++◌, length, arith, refl, sym, ap, subst, ◌∙◌}
use Rattle.std.proofs.lemmas.Bool.Decides.{nat_tests}
use Rattle.osc_word.specs.declared.calls.Answer.{Answer}
use Rattle.osc_word.specs.declared.job_list.Job.{Job}
use Rattle.osc_word.specs.declared.settings.HeapKind.TheVariants.{Oscar}
use Rattle.osc_class.specs.Rooms.{room_of, shadow_pages}
use Rattle.osc_slot.specs.declared.Block.{Block}
use Rattle.osc_slot.specs.Slots.{is_block, is_held}
use Rattle.osc_slot.specs.Heap.{Heap, IsHeap, place, next_block, free_count}
use Rattle.osc_slot.proofs.InOrder.{any-insert}
use Rattle.osc_paging.specs.KeptTables.{need}
use Rattle.osc_space.specs.declared.ObjectFact.{ObjectFact}
use Rattle.osc_space.specs.Objects.{Seen, mark, next_page, fact, is_live, object_at, grant, killed}
use Rattle.osc_space.specs.Space.{Space, Draft, Terms, first_reason, unless, push}
use Rattle.osc_space.specs.Header.{Found, object_reasons, block_of}
use Rattle.osc_space.specs.Share.{Regions}
use Rattle.osc_space.specs.Malloc.{malloc_reasons, block_need, map_shadows, malloc_in, malloc_plan}
use Rattle.osc_space.specs.Free.{flush_where, is_full, let_wait, freed, free_seen, free_plan}
use Rattle.osc_space.specs.Realloc.{stays, frames_for, replace_object, realloc_reasons, realloc_made, realloc_seen, realloc_plan}
use Rattle.osc_space.specs.Agree.{ObjectsAgree, is_waiting}
use Rattle.osc_space.proofs.ObjectLawProofs.{looks_find_objects}
use Rattle.osc_parts.specs.Settled.{Settled}
use Rattle.osc_parts.specs.FreeLaws.{HasTerms}
use Rattle.osc_parts.proofs.Lists.{grown, get_append}
use Rattle.osc_parts.proofs.Killing.{killed_at}
use Rattle.osc_parts.proofs.PlacingParts as placing
use Rattle.osc_parts.proofs.MallocParts.{Mallocs, mallocs, no_want}
use Rattle.osc_parts.proofs.FreeParts.{Frees, waits_objects}
use Rattle.osc_parts.proofs.FreeReturn.{taken_lives}
use Rattle.osc_parts.proofs.ReallocParts.{at_place}
use Rattle.osc_caches.specs.Blocks.{BlocksStand, PlansHold}
use Rattle.osc_caches.proofs.Going.{after-object}

kept-if : (a b : Bool) → b ≡ true → (a || b) ≡ true
kept-if true b e = refl
kept-if false b e = e

-- an object that waits holds its block
waits-held : (s : Space) → ObjectsAgree s → (object : ℕ) (o : ObjectFact) → is_waiting s object ≡ true → fact s.objects object ≡ Some o → is_held s.heap.held (block_of o) ≡ true
waits-held s a object o w e = a.held object o (e, kept-if (is_live o) (is_waiting s object) w)

rest-holds : (batch : ℕ) (entries : ℕ → ℕ → ℕ) (words : List ℕ) (regions : Regions) (d : Draft) → Settled Oscar batch entries words regions d → BlocksStand d.space
rest-holds batch entries words regions d k = record { heap = k.parts.heap; held = waits-held d.space k.parts.agrees.heap }

-- ---- an object more
was-there : (d : Draft) (new : ObjectFact) (b : ℕ) (o : ObjectFact) → ObjectsAgree d.space → is_waiting d.space b ≡ true → fact (d.space.objects ++ new ∷ []) b ≡ Some o → fact d.space.objects b ≡ Some o
was-there d new b o a w e = ⊎_elim
    (λ (x : fact d.space.objects b ≡ Some o). x)
    (λ (x : (b ≡ length d.space.objects) × (o ≡ new)). absurd (let l = a.waiting.known b w in let q = x.0 in omega (arith, l, q)))
    (grown d.space.objects new o b e)

more-held : (batch : ℕ) (entries : ℕ → ℕ → ℕ) (words : List ℕ) (regions : Regions) (n : ℕ) (d : Draft) (k : Settled Oscar batch entries words regions d) → block_need d (room_of n) ≤ free_count d.free → (block : Block) → is_held d.space.heap.held block ≡ true
    → is_held (place d.space.heap (room_of n) d.free).heap.held block ≡ true
more-held batch entries words regions n d k needs block e =
    ap (λ held. is_held held block) (placing.held_now Oscar batch entries words regions n d k needs)
    ∙ any-insert (λ (b : Block). b.start) (λ b. is_block block b) (next_block d.space.heap (room_of n)) d.space.heap.held
    ∙ kept-if (is_block block (next_block d.space.heap (room_of n))) (is_held d.space.heap.held block) e

malloc-made : (batch n : ℕ) (entries : ℕ → ℕ → ℕ) (words : List ℕ) (regions : Regions) (d : Draft) → Mallocs batch entries words regions n d → BlocksStand (malloc_in n (next_block d.space.heap (room_of n)) d).draft.space
malloc-made batch n entries words regions d m =
    let needs : block_need d (room_of n) ≤ free_count d.free = (let q = m.needs in omega (arith, q)) in
    record {
      heap = (placing.keeps Oscar batch entries words regions n d m.settled needs).is_heap;
      held = λ b o w e. more-held batch entries words regions n d m.settled needs (block_of o)
          (waits-held d.space m.settled.parts.agrees.heap b o w (was-there d _ b o m.settled.parts.agrees.heap w e));
    }

malloc-holds : (batch n : ℕ) (entries : ℕ → ℕ → ℕ) (words : List ℕ) (regions : Regions) (d : Draft) → Settled Oscar batch entries words regions d → BlocksStand (malloc_plan n d).draft.space
unfolding malloc_plan
malloc-holds batch n entries words regions d k = go (first_reason (malloc_reasons n d)) refl
  where
    go : (r : Option Answer) → first_reason (malloc_reasons n d) ≡ r → BlocksStand (unless r d (malloc_in n (next_block d.space.heap (room_of n)) d)).draft.space
    go (Some a) f = rest-holds batch entries words regions d k
    go None f = malloc-made batch n entries words regions d (mallocs batch entries words regions n d k f)

-- ---- free
freed-made : (batch : ℕ) (entries : ℕ → ℕ → ℕ) (words : List ℕ) (regions : Regions) (terms : Terms) (d : Draft) (s : Seen) → Frees batch entries words regions terms d s → (b : Bool) → BlocksStand (flush_where b terms.harts (let_wait terms s d)).space
freed-made batch entries words regions terms d s m false = record { heap = m.settled.parts.heap; held = waits-held (let_wait terms s d).space (waits_objects batch entries words regions terms d s m) }
freed-made batch entries words regions terms d s m true = record { heap = m.settled.parts.heap; held = waits-held (let_wait terms s d).space (waits_objects batch entries words regions terms d s m) }

free-holds : (batch pointer : ℕ) (entries : ℕ → ℕ → ℕ) (words : List ℕ) (regions : Regions) (terms : Terms) (found : Found) (d : Draft) → Settled Oscar batch entries words regions d → HasTerms batch terms → BlocksStand (free_plan terms pointer found d).draft.space
unfolding free_plan
free-holds batch pointer entries words regions terms found d k t = seen (object_at d.space.objects pointer) refl
  where
    seen : (x : Option Seen) → object_at d.space.objects pointer ≡ x → BlocksStand (free_seen x terms found d).draft.space
    seen None f = rest-holds batch entries words regions d k
    seen (Some s) f = go (first_reason (object_reasons (Some s) found)) refl
      where
        go : (r : Option Answer) → first_reason (object_reasons (Some s) found) ≡ r → BlocksStand (unless r d (freed s.number terms (let_wait terms s d))).draft.space
        go (Some a) g = rest-holds batch entries words regions d k
        go None g = freed-made batch entries words regions terms d s (record {
          settled = k;
          batch_is = t.is;
          harts = t.harts;
          is_fact = ((looks_find_objects d.space.objects k.parts.agrees.heap.granted).at pointer s f).0;
          live = taken_lives s found g;
        }) (is_full terms (let_wait terms s d).space)

-- ---- realloc
replaced-holds : (terms : Terms) (n : ℕ) (d : Draft) (s : Seen) (block : Block) (heap : Heap) (free : List Bool) (jobs : List Job)
    → ObjectsAgree d.space → fact d.space.objects s.number ≡ Some s.fact → IsHeap heap → ((b : Block) → is_held d.space.heap.held b ≡ true → is_held heap.held b ≡ true)
    → BlocksStand (map_shadows (next_page d.space.objects) block (push jobs (replace_object terms s block n (at_place d heap free)))).space
replaced-holds terms n d s block heap free jobs agree is stands more = record { heap = stands; held = held }
  where
    granted : List ObjectFact
    granted = grant (shadow_pages block.room) n (block.start + 16) d.space.objects

    held : (b : ℕ) (o : ObjectFact) → is_waiting d.space b ≡ true → fact (map_shadows (next_page d.space.objects) block (push jobs (replace_object terms s block n (at_place d heap free)))).space.objects b ≡ Some o → is_held heap.held (block_of o) ≡ true
    held b o w e = ⊎_elim
        (λ (x : (b ≢ s.number) × (fact granted b ≡ Some o)). more (block_of o) (waits-held d.space agree b o w (was-there d _ b o agree w x.1)))
        (λ (x : (b ≡ s.number) × (o ≡ killed terms.call s.fact)).
        subst (λ z. is_held heap.held (block_of z) ≡ true) (sym x.1) (more (block_of s.fact) (waits-held d.space agree b s.fact w (subst (λ z. fact d.space.objects z ≡ Some s.fact) (sym x.0) is))))
        (killed_at granted s.number terms.call b s.fact o (get_append d.space.objects _ s.number s.fact is) e)

realloc-holds : (batch pointer n : ℕ) (entries : ℕ → ℕ → ℕ) (words : List ℕ) (regions : Regions) (terms : Terms) (found : Found) (d : Draft) → Settled Oscar batch entries words regions d → BlocksStand (realloc_plan terms pointer n found d).draft.space
unfolding realloc_plan
realloc-holds batch pointer n entries words regions terms found d k = seen (object_at d.space.objects pointer) refl
  where
    seen : (x : Option Seen) → object_at d.space.objects pointer ≡ x → BlocksStand (realloc_seen x terms n found d).draft.space
    seen None e = rest-holds batch entries words regions d k
    seen (Some s) e = go (first_reason (realloc_reasons (Some s) n found d)) refl
      where
        is : fact d.space.objects s.number ≡ Some s.fact
        is = ((looks_find_objects d.space.objects k.parts.agrees.heap.granted).at pointer s e).0

        kind : (stay : Bool) → (c : Bool) → nat_lt (free_count d.free) (frames_for stay n d + need d.space.tables (next_page d.space.objects) (shadow_pages (room_of n))) ≡ c → c ≡ false → BlocksStand (realloc_made stay terms s n d).draft.space
        kind true c h y = replaced-holds terms n d s (block_of s.fact) d.space.heap d.free _ k.parts.agrees.heap is k.parts.heap (λ b t. t)
        kind false c h y =
            let less : block_need d (room_of n) + need d.space.tables (next_page d.space.objects) (shadow_pages (room_of n)) ≤ free_count d.free = grind (arith, nat_tests, h, y) in
            let needs : block_need d (room_of n) ≤ free_count d.free = omega (arith, less) in
            replaced-holds terms n d s (next_block d.space.heap (room_of n)) (place d.space.heap (room_of n) d.free).heap (place d.space.heap (room_of n) d.free).free _ k.parts.agrees.heap is
            (placing.keeps Oscar batch entries words regions n d k needs).is_heap (more-held batch entries words regions n d k needs)

        go : (r : Option Answer) → first_reason (realloc_reasons (Some s) n found d) ≡ r → BlocksStand (unless r d (realloc_made (stays s.fact n) terms s n d)).draft.space
        go (Some a) f = rest-holds batch entries words regions d k
        go None f =
            let both = after-object (object_reasons (Some s) found) _ f in
            let want = no_want (nat_lt d.space.shadows (mark d.space.objects + shadow_pages (room_of n)))
            (nat_lt (free_count d.free) (frames_for (stays s.fact n) n d + need d.space.tables (next_page d.space.objects) (shadow_pages (room_of n)))) _ _ both.1 in
            kind (stays s.fact n) _ refl want.1

pub plans_hold : PlansHold
plans_hold = record { malloc = malloc-holds; free = free-holds; realloc = realloc-holds }
