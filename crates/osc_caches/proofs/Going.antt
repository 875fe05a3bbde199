-- What plans on the heap leave of the pages of their process.
use Rattle.std.proofs.Common.{ℕ, ◌+◌, ◌-◌, ◌/◌, ◌≡◌, ◌<◌, ◌≤◌, ◌==◌, ◌||◌, ◌⊎◌, inl, inr, ⊎_elim, ltb, nat_lt, cond, Bool, true, false, is_some, Option, Some, None, List, [], ◌∷◌, ◌++◌, length, slice_get, option_map, arith, refl, sym, ap, subst, ◌∙◌}
use Rattle.std.specs.List.{list_any}
use Rattle.std.proofs.lemmas.Bool.Decides.{nat_tests}
use Rattle.std.proofs.lemmas.List.FromFn.{length-map-range_with_len}
use Rattle.osc_word.specs.declared.calls.Answer.{Answer}
use Rattle.osc_word.specs.declared.calls.Answer.TheVariants as answer
use Rattle.osc_word.specs.declared.job_list.Job.{Job}
use Rattle.osc_word.specs.declared.settings.HeapKind.TheVariants.{Oscar}
use Rattle.osc_word.specs.AddressMap.{is_shadow}
use Rattle.osc_sv39.specs.declared.entries.Mapping.{Mapping}
use Rattle.osc_class.specs.Rooms.{room_of, shadow_pages}
use Rattle.osc_slot.specs.declared.Block.{Block}
use Rattle.osc_slot.specs.declared.HeapPage.{HeapPage}
use Rattle.osc_slot.specs.Slots.{is_covered, is_on}
use Rattle.osc_slot.specs.Heap.{Heap, frame_of, place, next_block, free_count, HeapAndFree}
use Rattle.osc_slot.proofs.HeldBlocks.{same_room}
use Rattle.osc_paging.specs.KeptTables.{mapping_at, need}
use Rattle.osc_space.specs.declared.ObjectFact.{ObjectFact}
use Rattle.osc_space.specs.Objects.{Seen, mark, next_page, fact, has_page, is_live, object_at, grant, kill, killed}
use Rattle.osc_space.specs.Space.{Space, Draft, Terms, Closing, Reason, first_reason, unless, unchanged, push}
use Rattle.osc_space.specs.Header.{Found, object_reasons, block_of}
use Rattle.osc_space.specs.Share.{Regions}
use Rattle.osc_space.specs.BlockWords.{block_mappings}
use Rattle.osc_space.specs.Malloc.{malloc_reasons, block_need, fill_block, grant_object, map_shadows, malloc_in, malloc_plan}
use Rattle.osc_space.specs.Free.{dead_leaves, unmap_object, waiting_facts, kill_object, flush_where, closing_where, is_full, let_wait, freed, free_seen, free_plan}
use Rattle.osc_space.specs.Realloc.{stays, frames_for, replace_object, realloc_reasons, realloc_made, realloc_seen, realloc_plan}
use Rattle.osc_space.specs.Agree.{ObjectsAgree, is_waiting}
use Rattle.osc_space.proofs.ObjectLawProofs.{looks_find_objects}
use Rattle.osc_parts.specs.Settled.{tables_of, Settled}
use Rattle.osc_parts.proofs.Lists.{get_append}
use Rattle.osc_parts.proofs.Shapes.{unmap_all-pages, reclaim_all-shape}
use Rattle.osc_parts.proofs.Killing.{kill_get, killed_here, in_append}
use Rattle.osc_parts.proofs.PlacingParts as placing
use Rattle.osc_parts.proofs.MallocParts.{Mallocs, mallocs, no_want}
use Rattle.osc_parts.proofs.ReallocParts.{at_place}
use Rattle.osc_parts.proofs.FreeReturn.{taken_lives}
use Rattle.osc_showing.proofs.Growing.{maps-other}
use Rattle.osc_showing.proofs.Plans.{no-mapping, past-mark}
use Rattle.osc_caches.specs.Going.{replaces, GoingPage, PagesGo, PlansGo}
use Rattle.osc_caches.proofs.DataFrames.{some-frame, in-range}

-- ---- a plan that changes nothing
waits-only : (a b : Bool) → (a || false) ≡ true → (a || b) ≡ true
waits-only true b e = refl
waits-only false b e = absurd (let z : ⊥ = grind (arith, e) in z)

pub unchanged-go : (d : Draft) (a : Answer) → PagesGo d (unchanged a d)
unchanged-go d a = record {
  pages = λ n m e. inl e;
  goes_on = λ n f g. record { object = g.object; o = g.o; is = g.is; has = g.has; goes = waits-only (is_waiting d.space g.object) (replaces a g.object) g.goes; at = g.at };
}

-- ---- a page that is new was not mapped
new-page : (s : Space) (q count : ℕ) (m : Mapping) → ObjectsAgree s → 0x1000000 + s.shadows ≤ 0x2000000 → mark s.objects + count ≤ s.shadows → mapping_at s.tables.pages q ≡ Some m
    → (q < next_page s.objects) ⊎ (next_page s.objects + count ≤ q)
new-page s q count m objects range marked e = go (ltb q (next_page s.objects)) (ltb q (next_page s.objects + count)) refl refl
  where
    go : (a b : Bool) → ltb q (next_page s.objects) ≡ a → ltb q (next_page s.objects + count) ≡ b → (q < next_page s.objects) ⊎ (next_page s.objects + count ≤ q)
    go true b h l = inl (grind (arith, nat_tests, h))
    go false false h l = inr (grind (arith, nat_tests, l))
    go false true h l =
        let low : next_page s.objects ≤ q = grind (arith, nat_tests, h) in
        let high : q < next_page s.objects + count = grind (arith, nat_tests, l) in
        let shadow : is_shadow q ≡ true = grind (arith, nat_tests, low, high, range, marked) in
        let none = no-mapping (mapping_at s.tables.pages q) (objects.shadows q shadow ∙ past-mark s.objects q objects.granted low) in
        absurd (let b : ⊥ = grind (arith, none, e) in b)

-- ---- a page that holds a block keeps its frame when another is placed
frame-stays : (batch : ℕ) (entries : ℕ → ℕ → ℕ) (words : List ℕ) (regions : Regions) (n : ℕ) (d : Draft) (k : Settled Oscar batch entries words regions d) → block_need d (room_of n) ≤ free_count d.free
    → (q f : ℕ) → frame_of d.space.heap.pages q ≡ Some f → frame_of (place d.space.heap (room_of n) d.free).heap.pages q ≡ Some f
frame-stays batch entries words regions n d k needs q f e =
    let covered : is_covered d.space.heap.held q ≡ true = sym (k.parts.heap.covered q) ∙ ap is_some e in
    let now : is_covered (place d.space.heap (room_of n) d.free).heap.held q ≡ true =
    placing.covered_now Oscar batch entries words regions n d k needs q ∙ either (is_on q (next_block d.space.heap (room_of n))) (is_covered d.space.heap.held q) covered in
    (placing.keeps Oscar batch entries words regions n d k needs).stays q covered now ∙ e
  where
    either : (a b : Bool) → b ≡ true → (a || b) ≡ true
    either true b h = refl
    either false b h = h

-- ---- malloc
malloc-made : (batch n : ℕ) (entries : ℕ → ℕ → ℕ) (words : List ℕ) (regions : Regions) (d : Draft) → Mallocs batch entries words regions n d → PagesGo d (malloc_in n (next_block d.space.heap (room_of n)) d)
malloc-made batch n entries words regions d m = record {
  pages = λ q x e. inl (maps-other (block_mappings placed.heap.pages block) (next_page d.space.objects) q (tables_of (fill_block block n (grant_object block n (at_place d placed.heap placed.free)))) (apart q x e) ∙ e);
  goes_on = λ q f g. record {
    object = g.object;
    o = g.o;
    is = get_append d.space.objects _ g.object g.o g.is;
    has = g.has;
    goes = g.goes;
    at = frame-stays batch entries words regions n d m.settled needs (g.o.canon / 4096 + (q - g.o.first)) f g.at;
  };
}
  where
    placed : HeapAndFree
    placed = place d.space.heap (room_of n) d.free

    block : Block
    block = next_block d.space.heap (room_of n)

    needs : block_need d (room_of n) ≤ free_count d.free
    needs = let q = m.needs in omega (arith, q)

    apart : (q : ℕ) (x : Mapping) → mapping_at d.space.tables.pages q ≡ Some x → (q < next_page d.space.objects) ⊎ (next_page d.space.objects + length (block_mappings placed.heap.pages block) ≤ q)
    apart q x e =
        let size : length (block_mappings placed.heap.pages block) ≡ shadow_pages (room_of n) = length-map-range_with_len _ _ _ in
        subst (λ z. (q < next_page d.space.objects) ⊎ (next_page d.space.objects + z ≤ q)) (sym size) (new-page d.space q (shadow_pages (room_of n)) x m.settled.parts.agrees.heap m.settled.parts.shadows m.marked e)

pub malloc-go : (batch n : ℕ) (entries : ℕ → ℕ → ℕ) (words : List ℕ) (regions : Regions) (d : Draft) → Settled Oscar batch entries words regions d → PagesGo d (malloc_plan n d)
unfolding malloc_plan
malloc-go batch n entries words regions d s = go (first_reason (malloc_reasons n d)) refl
  where
    go : (r : Option Answer) → first_reason (malloc_reasons n d) ≡ r → PagesGo d (unless r d (malloc_in n (next_block d.space.heap (room_of n)) d))
    go (Some a) f = unchanged-go d a
    go None f = malloc-made batch n entries words regions d (mallocs batch entries words regions n d s f)

-- ---- an object that is killed has its pages still
record SamePlace (a b : ObjectFact) : Type 0 where
  first : b.first ≡ a.first
  pages : b.pages ≡ a.pages
  canon : b.canon ≡ a.canon

still-there : (objects : List ObjectFact) (object call b : ℕ) (o : ObjectFact) → fact objects b ≡ Some o → (x : ObjectFact) × (fact (kill object call objects) b ≡ Some x) × SamePlace o x
still-there objects object call b o e = go (b == object) refl
  where
    go : (t : Bool) → (b == object) ≡ t → (x : ObjectFact) × (fact (kill object call objects) b ≡ Some x) × SamePlace o x
    go true d = (killed call o, kill_get objects object call b ∙ ap (λ t. cond t (option_map (killed call) (slice_get objects b)) (slice_get objects b)) d ∙ ap (option_map (killed call)) e, record { first = refl; pages = refl; canon = refl })
    go false d = (o, kill_get objects object call b ∙ ap (λ t. cond t (option_map (killed call) (slice_get objects b)) (slice_get objects b)) d ∙ e, record { first = refl; pages = refl; canon = refl })

has-still : (q : ℕ) (a b : ObjectFact) → SamePlace a b → has_page q a ≡ true → has_page q b ≡ true
has-still q a b s e = let f = s.first in let p = s.pages in grind (arith, nat_tests, e, f, p)

at-still : (pages : List HeapPage) (q f : ℕ) (a b : ObjectFact) → SamePlace a b → frame_of pages (a.canon / 4096 + (q - a.first)) ≡ Some f → frame_of pages (b.canon / 4096 + (q - b.first)) ≡ Some f
at-still pages q f a b s e = rw (s.canon, s.first) e

-- the frame of a page of a live object
live-frame : (s : Space) (object q : ℕ) (o : ObjectFact) (m : Mapping) → ObjectsAgree s → fact s.objects object ≡ Some o → is_live o ≡ true → has_page q o ≡ true → mapping_at s.tables.pages q ≡ Some m
    → frame_of s.heap.pages (o.canon / 4096 + (q - o.first)) ≡ Some m.frame
live-frame s object q o m agree is live has e =
    let r = in-range q o has in
    let low = r.0 in
    let high = r.1 in
    let at : o.first + (q - o.first) ≡ q = omega (arith, low) in
    some-frame (frame_of s.heap.pages (o.canon / 4096 + (q - o.first))) m
    (sym (agree.mapped object (q - o.first) o (is, live) (omega (arith, low, high))) ∙ ap (mapping_at s.tables.pages) at ∙ e)

-- ---- free
left-true : (a b : Bool) → a ≡ true → (a || b) ≡ true
left-true a b e = grind (arith, e)

freed-made : (terms : Terms) (d : Draft) (s : Seen) → ObjectsAgree d.space → fact d.space.objects s.number ≡ Some s.fact → is_live s.fact ≡ true → PagesGo d (freed s.number terms (let_wait terms s d))
freed-made terms d s agree is live = go (is_full terms waits.space)
  where
    waits : Draft
    waits = let_wait terms s d

    now : List ℕ
    now = d.space.waiting ++ s.number ∷ []

    waiting : (b : ℕ) → list_any (λ x. x == b) now ≡ (list_any (λ x. x == b) d.space.waiting || (s.number == b || false))
    waiting b = in_append d.space.waiting (s.number ∷ []) b

    pages : (q : ℕ) (m : Mapping) → mapping_at d.space.tables.pages q ≡ Some m → (b : Bool) → has_page q s.fact ≡ b
        → (mapping_at waits.space.tables.pages q ≡ Some m) ⊎ GoingPage waits.space (answer.Freed s.number) q m.frame
    pages q m e false h = inl (unmap_all-pages s.fact.pages s.fact.first (tables_of d) q ∙ ap (λ b. cond b None (mapping_at d.space.tables.pages q)) h ∙ e)
    pages q m e true h = inr (record {
      object = s.number;
      o = killed terms.call s.fact;
      is = killed_here d.space.objects s.number terms.call s.fact is;
      has = h;
      goes = left-true _ _ (waiting s.number ∙ grind (arith, nat_tests));
      at = live-frame d.space s.number q s.fact m agree is live h e;
    })

    goes-on : (q f : ℕ) → GoingPage d.space answer.Nothing q f → GoingPage waits.space (answer.Freed s.number) q f
    goes-on q f g =
        let x = still-there d.space.objects s.number terms.call g.object g.o g.is in
        record {
          object = g.object;
          o = x.0;
          is = x.1;
          has = has-still q g.o x.0 x.2 g.has;
          goes = waits-only _ _ (more (list_any (λ x. x == g.object) d.space.waiting) (s.number == g.object || false) (list_any (λ x. x == g.object) now) (waiting g.object) g.goes);
          at = at-still d.space.heap.pages q f g.o x.0 x.2 g.at;
        }
      where
        more : (a b c : Bool) → c ≡ (a || b) → (a || false) ≡ true → (c || false) ≡ true
        more a b c e h = grind (arith, e, h)

    go : (b : Bool) → PagesGo d (record { answer = answer.Freed s.number; draft = flush_where b terms.harts waits; closing = closing_where b waits.space })
    go false = record { pages = λ q m e. pages q m e (has_page q s.fact) refl; goes_on = goes-on }
    go true = record {
      pages = λ q m e. ⊎_elim
          (λ (h : mapping_at waits.space.tables.pages q ≡ Some m). inl (ap (λ ps. mapping_at ps q) (reclaim_all-shape (dead_leaves (waiting_facts waits.space) waits.space) (tables_of waits)).pages ∙ h))
          (λ (h : GoingPage waits.space (answer.Freed s.number) q m.frame). inr (record { object = h.object; o = h.o; is = h.is; has = h.has; goes = h.goes; at = h.at }))
          (pages q m e (has_page q s.fact) refl);
      goes_on = λ q f g. (let h = goes-on q f g in record { object = h.object; o = h.o; is = h.is; has = h.has; goes = h.goes; at = h.at });
    }

pub free-go : (batch pointer : ℕ) (entries : ℕ → ℕ → ℕ) (words : List ℕ) (regions : Regions) (terms : Terms) (found : Found) (d : Draft) → Settled Oscar batch entries words regions d → PagesGo d (free_plan terms pointer found d)
unfolding free_plan
free-go batch pointer entries words regions terms found d k = seen (object_at d.space.objects pointer) refl
  where
    seen : (x : Option Seen) → object_at d.space.objects pointer ≡ x → PagesGo d (free_seen x terms found d)
    seen None f = unchanged-go d _
    seen (Some s) f = go (first_reason (object_reasons (Some s) found)) refl
      where
        go : (r : Option Answer) → first_reason (object_reasons (Some s) found) ≡ r → PagesGo d (unless r d (freed s.number terms (let_wait terms s d)))
        go (Some a) g = unchanged-go d a
        go None g = freed-made terms d s k.parts.agrees.heap ((looks_find_objects d.space.objects k.parts.agrees.heap.granted).at pointer s f).0 (taken_lives s found g)

-- ---- realloc
pub after-object : (xs ys : List Reason) → first_reason (xs ++ ys) ≡ None → (first_reason xs ≡ None) × (first_reason ys ≡ None)
after-object [] ys e = (refl, e)
after-object (x ∷ xs) ys e = go x.holds refl (after-object xs ys)
  where
    go : (b : Bool) → x.holds ≡ b → (first_reason (xs ++ ys) ≡ None → (first_reason xs ≡ None) × (first_reason ys ≡ None)) → (first_reason (x ∷ xs) ≡ None) × (first_reason ys ≡ None)
    go true d later = absurd (let z : ⊥ = grind (arith, e, d) in z)
    go false d later =
        let rest : first_reason (xs ++ ys) ≡ None = grind (arith, e, d) in
        let both = later rest in
        let one = both.0 in
        (grind (arith, one, d), both.1)

replaced-go : (terms : Terms) (n : ℕ) (d : Draft) (s : Seen) (block : Block) (heap : Heap) (free : List Bool) (jobs : List Job) (closing : Closing) (new pointer : ℕ)
    → ObjectsAgree d.space → 0x1000000 + d.space.shadows ≤ 0x2000000 → mark d.space.objects + shadow_pages block.room ≤ d.space.shadows
    → fact d.space.objects s.number ≡ Some s.fact → is_live s.fact ≡ true → ((q f : ℕ) → frame_of d.space.heap.pages q ≡ Some f → frame_of heap.pages q ≡ Some f)
    → PagesGo d (record { answer = answer.Moved s.number new pointer; draft = map_shadows (next_page d.space.objects) block (push jobs (replace_object terms s block n (at_place d heap free))); closing = closing })
replaced-go terms n d s block heap free jobs closing new pointer agree range marked is live frames = record { pages = pages; goes_on = goes-on }
  where
    granted : List ObjectFact
    granted = grant (shadow_pages block.room) n (block.start + 16) d.space.objects

    died : Draft
    died = kill_object s.number terms.call (grant_object block n (at_place d heap free))

    unmapped : Draft
    unmapped = unmap_object s.fact died

    filled : Draft
    filled = push jobs (replace_object terms s block n (at_place d heap free))

    made : Draft
    made = map_shadows (next_page d.space.objects) block filled

    mappings : List Mapping
    mappings = block_mappings heap.pages block

    left : (q : ℕ) → mapping_at filled.space.tables.pages q ≡ cond (has_page q s.fact) None (mapping_at d.space.tables.pages q)
    left q =
        ap (λ ps. mapping_at ps q) (reclaim_all-shape (dead_leaves (waiting_facts died.space ++ s.fact ∷ []) unmapped.space) (tables_of unmapped)).pages
        ∙ unmap_all-pages s.fact.pages s.fact.first (tables_of died) q

    others : (q : ℕ) (m : Mapping) → mapping_at d.space.tables.pages q ≡ Some m → mapping_at made.space.tables.pages q ≡ mapping_at filled.space.tables.pages q
    others q m e =
        let size : length mappings ≡ shadow_pages block.room = length-map-range_with_len _ _ _ in
        maps-other mappings (next_page d.space.objects) q (tables_of filled)
        (subst (λ z. (q < next_page d.space.objects) ⊎ (next_page d.space.objects + z ≤ q)) (sym size) (new-page d.space q (shadow_pages block.room) m agree range marked e))

    was : (b : ℕ) (o : ObjectFact) → fact d.space.objects b ≡ Some o → fact granted b ≡ Some o
    was b o e = get_append d.space.objects _ b o e

    self : (a : Bool) (b : ℕ) → (a || (b == b)) ≡ true
    self true b = refl
    self false b = grind (arith, nat_tests)

    pages : (q : ℕ) (m : Mapping) → mapping_at d.space.tables.pages q ≡ Some m → (mapping_at made.space.tables.pages q ≡ Some m) ⊎ GoingPage made.space (answer.Moved s.number new pointer) q m.frame
    pages q m e = go (has_page q s.fact) refl
      where
        go : (b : Bool) → has_page q s.fact ≡ b → (mapping_at made.space.tables.pages q ≡ Some m) ⊎ GoingPage made.space (answer.Moved s.number new pointer) q m.frame
        go false h = inl (others q m e ∙ left q ∙ ap (λ b. cond b None (mapping_at d.space.tables.pages q)) h ∙ e)
        go true h = inr (record {
          object = s.number;
          o = killed terms.call s.fact;
          is = killed_here granted s.number terms.call s.fact (was s.number s.fact is);
          has = h;
          goes = self (is_waiting d.space s.number) s.number;
          at = frames (s.fact.canon / 4096 + (q - s.fact.first)) m.frame (live-frame d.space s.number q s.fact m agree is live h e);
        })

    goes-on : (q f : ℕ) → GoingPage d.space answer.Nothing q f → GoingPage made.space (answer.Moved s.number new pointer) q f
    goes-on q f g =
        let x = still-there granted s.number terms.call g.object g.o (was g.object g.o g.is) in
        record {
          object = g.object;
          o = x.0;
          is = x.1;
          has = has-still q g.o x.0 x.2 g.has;
          goes = waits-only (is_waiting d.space g.object) (s.number == g.object) g.goes;
          at = at-still heap.pages q f g.o x.0 x.2 (frames (g.o.canon / 4096 + (q - g.o.first)) f g.at);
        }

pub realloc-go : (batch pointer n : ℕ) (entries : ℕ → ℕ → ℕ) (words : List ℕ) (regions : Regions) (terms : Terms) (found : Found) (d : Draft) → Settled Oscar batch entries words regions d → PagesGo d (realloc_plan terms pointer n found d)
unfolding realloc_plan
realloc-go batch pointer n entries words regions terms found d k = seen (object_at d.space.objects pointer) refl
  where
    seen : (x : Option Seen) → object_at d.space.objects pointer ≡ x → PagesGo d (realloc_seen x terms n found d)
    seen None e = unchanged-go d answer.NotAnObject
    seen (Some s) e = go (first_reason (realloc_reasons (Some s) n found d)) refl
      where
        is : fact d.space.objects s.number ≡ Some s.fact
        is = ((looks_find_objects d.space.objects k.parts.agrees.heap.granted).at pointer s e).0

        kind : (stay : Bool) → stays s.fact n ≡ stay → (b c : Bool) → nat_lt d.space.shadows (mark d.space.objects + shadow_pages (room_of n)) ≡ b
            → nat_lt (free_count d.free) (frames_for stay n d + need d.space.tables (next_page d.space.objects) (shadow_pages (room_of n))) ≡ c
            → b ≡ false → c ≡ false → first_reason (object_reasons (Some s) found) ≡ None → PagesGo d (realloc_made stay terms s n d)
        kind true i b c g h x y f =
            let marked : mark d.space.objects + shadow_pages (room_of n) ≤ d.space.shadows = grind (arith, nat_tests, g, x) in
            replaced-go terms n d s (block_of s.fact) d.space.heap d.free _ _ _ _ k.parts.agrees.heap k.parts.shadows
            (subst (λ r. mark d.space.objects + shadow_pages r ≤ d.space.shadows) (same_room (room_of n) (room_of s.fact.size) i) marked) is (taken_lives s found f) (λ q z t. t)
        kind false i b c g h x y f =
            let less : block_need d (room_of n) + need d.space.tables (next_page d.space.objects) (shadow_pages (room_of n)) ≤ free_count d.free = grind (arith, nat_tests, h, y) in
            replaced-go terms n d s (next_block d.space.heap (room_of n)) (place d.space.heap (room_of n) d.free).heap (place d.space.heap (room_of n) d.free).free _ _ _ _ k.parts.agrees.heap k.parts.shadows
            (grind (arith, nat_tests, g, x)) is (taken_lives s found f) (frame-stays batch entries words regions n d k (omega (arith, less)))

        go : (r : Option Answer) → first_reason (realloc_reasons (Some s) n found d) ≡ r → PagesGo d (unless r d (realloc_made (stays s.fact n) terms s n d))
        go (Some a) f = unchanged-go d a
        go None f =
            let both = after-object (object_reasons (Some s) found) _ f in
            let want = no_want (nat_lt d.space.shadows (mark d.space.objects + shadow_pages (room_of n)))
            (nat_lt (free_count d.free) (frames_for (stays s.fact n) n d + need d.space.tables (next_page d.space.objects) (shadow_pages (room_of n)))) answer.NoShadow answer.NoFrames both.1 in
            kind (stays s.fact n) refl _ _ refl refl want.0 want.1 both.0

pub plans_go : PlansGo
plans_go = record { malloc = malloc-go; free = free-go; realloc = realloc-go }
