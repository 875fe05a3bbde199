-- The laws of plans: what was made is made only where no reason holds.
use Rattle.std.proofs.Common.{ℕ, zero, suc, ◌+◌, ◌/◌, ◌≡◌, ◌≢◌, ◌<◌, ◌≤◌, ◌==◌, ◌&&◌, ◌||◌, Bool, true, false, cond, Option, Some, None, List, [], ◌∷◌, ◌++◌, length, map, filter, position, slice_get, arith, refl, ap, subst, sym, ◌∙◌}
use Rattle.std.specs.Prelude.{is_some, option_map, option_and_then}
use Rattle.std.specs.List.{list_any, range_with_len, cons_option}
use Rattle.std.proofs.lemmas.Bool.Decides.{nat_tests}
use Rattle.std.proofs.lemmas.List.{length-append, map-append}
use Rattle.std.proofs.lemmas.List.Elements.{filter_map-append}
use Rattle.std.proofs.lemmas.Option.{slice_get-map}
use Rattle.osc_word.specs.declared.calls.Answer.{Answer}
use Rattle.osc_word.specs.declared.calls.Answer.TheVariants as answer
use Rattle.osc_word.specs.declared.job_list.Job.TheVariants.{ClearBox}
use Rattle.osc_class.specs.Rooms.{room_of, shadow_pages}
use Rattle.osc_slot.specs.declared.Block.{Block}
use Rattle.osc_slot.specs.Heap.{next_block}
use Rattle.osc_paging.specs.declared.TableFrame.{TableFrame}
use Rattle.osc_paging.specs.KeptTables.{frame_of}
use Rattle.osc_paging.specs.TableChanges.{Changed, unmap_page, reclaim, leaf_cleared, unlinked}
use Rattle.osc_paging.proofs.TableLists.{frame_of-without_table}
use Rattle.osc_space.specs.declared.ObjectFact.{ObjectFact}
use Rattle.osc_space.specs.Objects.{Seen, seen_as, object_at, mark, fact, facts, kill, grant, next_object, leaf_dead, is_in_leaf}
use Rattle.osc_space.specs.Space.{Space, Draft, Terms, Outcome, GivesBack, first_reason, unless}
use Rattle.osc_space.specs.Header.{Found, object_reasons, block_of}
use Rattle.osc_space.specs.Malloc.{malloc_reasons, malloc_in, malloc_plan, block_need, next_user}
use Rattle.osc_space.specs.Free.{unmap_all, reclaim_all, linked_leaves, dead_leaves, waiting_facts, waiting_blocks, let_wait, is_full, flush_where, closing_where, freed, free_seen, free_plan}
use Rattle.osc_space.specs.Realloc.{stays, block_for, place_where, left_block, realloc_made, realloc_reasons, realloc_seen, realloc_plan}
use Rattle.osc_space.specs.Finish.{finished}
use Rattle.osc_space.specs.PlanLaws.{MarkNeverFalls, ClearsEachBox, ClearsLast, FreeWaits, FreesWait, BatchesOfOneFlush, ReallocsFlush, FlushesEnd, is_given_up, table_after, FlushGivesUp, IsFresh, AddressesAreFresh}
use Rattle.osc_space.proofs.RefusalLawProofs.{is_made, memory_refuses, object_refuses, realloc_refuses}
use Rattle.osc_space.proofs.ObjectLawProofs.{mark-kill, mark-grant}

-- ---- the mark
-- what holds of a draft and of what is made of it holds whether or not it is refused
either : (P : Draft → Type 0) (r : Option Answer) (d : Draft) (made : Outcome) → P d → P made.draft → P (unless r d made).draft
either P None d made p q = q
either P (Some a) d made p q = p

flush_objects : (b : Bool) (harts : ℕ) (d : Draft) → (flush_where b harts d).space.objects ≡ d.space.objects
flush_objects true harts d = refl
flush_objects false harts d = refl

free_mark : (seen : Option Seen) (terms : Terms) (found : Found) (d : Draft) → mark (free_seen seen terms found d).draft.space.objects ≡ mark d.space.objects
free_mark None terms found d = refl
free_mark (Some s) terms found d =
    either (λ e. mark e.space.objects ≡ mark d.space.objects) (first_reason (object_reasons (Some s) found)) d (freed s.number terms (let_wait terms s d)) refl
    (ap mark (flush_objects (is_full terms (let_wait terms s d).space) terms.harts (let_wait terms s d)) ∙ mark-kill s.number terms.call d.space.objects)

place_objects : (b : Bool) (n : ℕ) (d : Draft) → (place_where b n d).space.objects ≡ d.space.objects
place_objects true n d = refl
place_objects false n d = refl

replace_mark : (object call pages size canon : ℕ) (objects was : List ObjectFact) → objects ≡ was → mark was ≤ mark (kill object call (grant pages size canon objects))
replace_mark object call pages size canon objects was e =
    let g = mark-grant pages size canon objects in
    let k = mark-kill object call (grant pages size canon objects) in
    let m : mark objects ≡ mark was = ap mark e in omega (arith, g, k, m)

realloc_mark : (seen : Option Seen) (terms : Terms) (n : ℕ) (found : Found) (d : Draft) → mark d.space.objects ≤ mark (realloc_seen seen terms n found d).draft.space.objects
realloc_mark None terms n found d = omega arith
realloc_mark (Some s) terms n found d =
    either (λ e. mark d.space.objects ≤ mark e.space.objects) (first_reason (realloc_reasons (Some s) n found d)) d (realloc_made (stays s.fact n) terms s n d) (omega arith)
    (replace_mark s.number terms.call _ n _ (place_where (stays s.fact n) n d).space.objects d.space.objects (place_objects (stays s.fact n) n d))

pub mark_never_falls : MarkNeverFalls
unfolding malloc_plan free_plan realloc_plan
mark_never_falls = record {
  malloc = λ n d.
      let block = next_block d.space.heap (room_of n) in
      either (λ e. mark d.space.objects ≤ mark e.space.objects) (first_reason (malloc_reasons n d)) d (malloc_in n block d) (omega arith)
      (let e = mark-grant (shadow_pages block.room) n (block.start + 16) d.space.objects in omega (arith, e));
  free = λ terms pointer found d. free_mark (object_at d.space.objects pointer) terms found d;
  realloc = λ terms pointer n found d. realloc_mark (object_at d.space.objects pointer) terms n found d;
}

-- ---- free
pub range_at : (from count i j : ℕ) → i < count → from + i ≡ j → slice_get (range_with_len from count) i ≡ Some j
range_at from zero i j l e = absurd (omega arith)
range_at from (suc count) zero j l e = grind (arith, e)
range_at from (suc count) (suc i) j l e = range_at (from + 1) count i j (omega arith) (omega (arith, e))

pub clears_each_box : ClearsEachBox
clears_each_box harts hart l = rw (slice_get-map (λ hart. ClearBox hart) (range_with_len 0 harts) hart) (rw (range_at 0 harts hart hart l (omega arith)) refl)

cleared_free : (number : ℕ) (table : Option ℕ) (c : Changed) → (leaf_cleared number table c).free ≡ c.free
cleared_free number None c = refl
cleared_free number (Some table) c = refl

unmap_free : (pages : List ℕ) (c : Changed) → (unmap_all pages c).free ≡ c.free
unmap_free [] c = refl
unmap_free (page ∷ pages) c = unmap_free pages (unmap_page page c) ∙ cleared_free page _ _

unlinked_free : (leaf : ℕ) (frame parent : Option ℕ) (c : Changed) → (unlinked leaf frame parent c).free ≡ c.free
unlinked_free leaf None parent c = refl
unlinked_free leaf (Some frame) None c = refl
unlinked_free leaf (Some frame) (Some parent) c = refl

reclaim_free : (leaves : List ℕ) (c : Changed) → (reclaim_all leaves c).free ≡ c.free
reclaim_free [] c = refl
reclaim_free (leaf ∷ leaves) c = reclaim_free leaves (reclaim leaf c) ∙ unlinked_free leaf _ _ c

flush_free : (b : Bool) (harts : ℕ) (d : Draft) → (flush_where b harts d).free ≡ d.free
flush_free true harts d = reclaim_free (dead_leaves (waiting_facts d.space) d.space) (record { tables = d.space.tables; free = d.free; jobs = d.jobs })
flush_free false harts d = refl

flush_heap : (b : Bool) (harts : ℕ) (d : Draft) → (flush_where b harts d).space.heap ≡ d.space.heap
flush_heap true harts d = refl
flush_heap false harts d = refl

flush_waiting : (b : Bool) (harts : ℕ) (d : Draft) → (flush_where b harts d).space.waiting ≡ d.space.waiting
flush_waiting true harts d = refl
flush_waiting false harts d = refl

flush_clears : (b : Bool) (harts : ℕ) (d : Draft) → b ≡ true → ClearsLast harts (flush_where b harts d).jobs
flush_clears true harts d e = record { before = _; is = refl }
flush_clears false harts d e = cc

-- a death changes no block
kill_block : (objects : List ObjectFact) (object call x : ℕ) → option_map block_of (fact (kill object call objects) x) ≡ option_map block_of (fact objects x)
kill_block [] object call x = refl
kill_block (o ∷ objects) zero call zero = refl
kill_block (o ∷ objects) zero call (suc x) = refl
kill_block (o ∷ objects) (suc object) call zero = refl
kill_block (o ∷ objects) (suc object) call (suc x) = kill_block objects object call x

map_cons : (o : Option ObjectFact) (rest : List ObjectFact) → map block_of (cons_option o rest) ≡ cons_option (option_map block_of o) (map block_of rest)
map_cons None rest = refl
map_cons (Some o) rest = refl

kill_blocks : (objects : List ObjectFact) (object call : ℕ) (numbers : List ℕ) → map block_of (facts (kill object call objects) numbers) ≡ map block_of (facts objects numbers)
kill_blocks objects object call [] = refl
kill_blocks objects object call (x ∷ numbers) =
    map_cons (fact (kill object call objects) x) (facts (kill object call objects) numbers)
    ∙ rw (kill_block objects object call x, kill_blocks objects object call numbers) (sym (map_cons (fact objects x) (facts objects numbers)))

push_blocks : (objects : List ObjectFact) (numbers : List ℕ) (s : Seen) → fact objects s.number ≡ Some s.fact → map block_of (facts objects (numbers ++ s.number ∷ [])) ≡ map block_of (facts objects numbers) ++ block_of s.fact ∷ []
push_blocks objects numbers s e =
    rw (filter_map-append (fact objects) numbers (s.number ∷ []))
    (map-append block_of (facts objects numbers) (facts objects (s.number ∷ []))
    ∙ ap (λ o. map block_of (facts objects numbers) ++ map block_of (cons_option o [])) e)

seen_fact : (objects : List ObjectFact) (number : Option ℕ) (s : Seen) → option_and_then (seen_as objects) number ≡ Some s → fact objects s.number ≡ Some s.fact
seen_fact objects None s e = cc
seen_fact objects (Some number) s e = go (fact objects number) refl e
  where
    go : (o : Option ObjectFact) → fact objects number ≡ o → option_map (λ (x : ObjectFact). record { number = number; fact = x }) o ≡ Some s → fact objects s.number ≡ Some s.fact
    go None f g = cc
    go (Some x) f g =
        let is : (record { number = number; fact = x }) ≡ s = cc in
        subst (λ t. fact objects t.number ≡ Some t.fact) is f

closes : (b c : Bool) (s : Space) → b ≡ c → closing_where b s ≡ closing_where c s
closes b c s e = ap (λ x. closing_where x s) e

full_is : (terms : Terms) (s : Seen) (d : Draft) (b : Bool) → (suc (length d.space.waiting) == terms.batch) ≡ b → is_full terms (let_wait terms s d).space ≡ b
full_is terms s d b e = let l = length-append d.space.waiting (s.number ∷ []) in grind (arith, nat_tests, l, e)

freed_waits : (terms : Terms) (s : Seen) (d : Draft) → fact d.space.objects s.number ≡ Some s.fact → FreeWaits terms d s (freed s.number terms (let_wait terms s d))
freed_waits terms s d e =
    let w = let_wait terms s d in
    let full = is_full terms w.space in
    let unmapped : w.free ≡ d.free = unmap_free (range_with_len s.fact.first s.fact.pages) _ in
    let blocks : waiting_blocks w.space ≡ waiting_blocks d.space ++ block_of s.fact ∷ [] =
    kill_blocks d.space.objects s.number terms.call (d.space.waiting ++ s.number ∷ []) ∙ push_blocks d.space.objects d.space.waiting s e in
    record {
      heap = flush_heap full terms.harts w;
      frames = flush_free full terms.harts w ∙ unmapped;
      waits = flush_waiting full terms.harts w;
      keeps = λ h. closes full false w.space (full_is terms s d false (grind (arith, nat_tests, h)));
      gives = λ h. closes full true w.space (full_is terms s d true (grind (arith, nat_tests, h))) ∙ ap (λ b. GivesBack b) blocks;
      clears = λ h. flush_clears full terms.harts w (full_is terms s d true (grind (arith, nat_tests, h)));
    }

seen_waits : (terms : Terms) (object : ℕ) (found : Found) (d : Draft) (s : Seen) → fact d.space.objects s.number ≡ Some s.fact → (free_seen (Some s) terms found d).answer ≡ answer.Freed object → FreeWaits terms d s (free_seen (Some s) terms found d)
seen_waits terms object found d s f e =
    let made = is_made (object_reasons (Some s) found) d (freed s.number terms (let_wait terms s d)) (answer.Freed object) (object_refuses s found) refl e in
    subst (λ o. FreeWaits terms d s o) (sym made) (freed_waits terms s d f)

pub frees_wait : FreesWait
unfolding free_plan
frees_wait terms pointer object found d s h e =
    let f = seen_fact d.space.objects (position (λ (o : ObjectFact). o.user == pointer) d.space.objects) s h in
    subst (λ x. (free_seen x terms found d).answer ≡ answer.Freed object → FreeWaits terms d s (free_seen x terms found d)) (sym h)
    (seen_waits terms object found d s f) e

pub batches_of_one_flush : BatchesOfOneFlush
batches_of_one_flush terms pointer object found d s b w h e =
    let waits = frees_wait terms pointer object found d s h e in
    waits.gives (rw (b, w) refl) ∙ ap (λ x. GivesBack (map block_of (facts d.space.objects x) ++ block_of s.fact ∷ [])) w

-- ---- realloc and flushes
seen_flushes : (terms : Terms) (n old object moved : ℕ) (found : Found) (d : Draft) (s : Seen) → (realloc_seen (Some s) terms n found d).answer ≡ answer.Moved old object moved → (realloc_seen (Some s) terms n found d).closing ≡ GivesBack (waiting_blocks d.space ++ left_block (stays s.fact n) s.fact)
seen_flushes terms n old object moved found d s e =
    let made = is_made (realloc_reasons (Some s) n found d) d (realloc_made (stays s.fact n) terms s n d) (answer.Moved old object moved) (realloc_refuses s n found d) refl e in
    ap (λ o. o.closing) made

pub reallocs_flush : ReallocsFlush
unfolding realloc_plan
reallocs_flush terms pointer n old object moved found d s h e =
    subst (λ x. (realloc_seen x terms n found d).answer ≡ answer.Moved old object moved → (realloc_seen x terms n found d).closing ≡ GivesBack (waiting_blocks d.space ++ left_block (stays s.fact n) s.fact)) (sym h)
    (seen_flushes terms n old object moved found d s) e

pub flushes_end : (blocks : List Block) (d : Draft) → FlushesEnd blocks d
unfolding finished
flushes_end blocks d = record { waiting = refl; aside = refl }

-- ---- leaf tables that are given up
abbrev is_among : ℕ → List ℕ → Bool
is_among leaf leaves = list_any (λ x. x == leaf) leaves

linked_among : (tables : List TableFrame) (leaf : ℕ) → is_among leaf (map (λ (f : TableFrame). f.piece.number) (filter (λ (f : TableFrame). f.piece.level == 0) tables)) ≡ is_some (frame_of tables 0 leaf)
linked_among [] leaf = refl
linked_among (t ∷ ts) leaf = go (t.piece.level == 0) (t.piece.number == leaf) refl (linked_among ts leaf)
  where
    numbers : List ℕ
    numbers = map (λ (f : TableFrame). f.piece.number) (filter (λ (f : TableFrame). f.piece.level == 0) ts)

    go : (b c : Bool) → (t.piece.number == leaf) ≡ c → is_among leaf numbers ≡ is_some (frame_of ts 0 leaf)
        → is_among leaf (map (λ (f : TableFrame). f.piece.number) (cond b (t ∷ filter (λ (f : TableFrame). f.piece.level == 0) ts) (filter (λ (f : TableFrame). f.piece.level == 0) ts)))
        ≡ is_some (cond (b && c) (Some t.frame) (frame_of ts 0 leaf))
    go true true e later = rw e refl
    go true false e later = rw e later
    go false c e later = later

among_filter : (p : ℕ → Bool) (xs : List ℕ) (f : ℕ) → is_among f (filter p xs) ≡ (is_among f xs && p f)
among_filter p [] f = refl
among_filter p (x ∷ xs) f = go (p x) refl (among_filter p xs f)
  where
    same : (x == f) ≡ true → p f ≡ p x
    same e = let is : f ≡ x = grind (arith, nat_tests, e) in ap p is

    go : (b : Bool) → p x ≡ b → is_among f (filter p xs) ≡ (is_among f xs && p f) → is_among f (cond b (x ∷ filter p xs) (filter p xs)) ≡ (is_among f (x ∷ xs) && p f)
    go true e later = grind (arith, nat_tests, e, later, same)
    go false e later = grind (arith, nat_tests, e, later, same)

abbrev Stand : List TableFrame → Type 0
Stand tables = (leaf : ℕ) → frame_of tables 0 leaf ≢ None → frame_of tables 1 (leaf / 512) ≢ None

-- one leaf, where the table above it is there
unlinked_leaf : (leaf : ℕ) (frame parent : Option ℕ) (c : Changed) (x : ℕ) → frame_of c.tables.tables 0 leaf ≡ frame → (frame ≢ None → parent ≢ None) → frame_of (unlinked leaf frame parent c).tables.tables 0 x ≡ table_after (leaf == x) (frame_of c.tables.tables 0 x)
unlinked_leaf leaf None parent c x e h = go (leaf == x) refl
  where
    go : (b : Bool) → (leaf == x) ≡ b → frame_of c.tables.tables 0 x ≡ table_after b (frame_of c.tables.tables 0 x)
    go true f = let is : leaf ≡ x = grind (arith, nat_tests, f) in subst (λ y. frame_of c.tables.tables 0 y ≡ None) is e
    go false f = refl
unlinked_leaf leaf (Some frame) None c x e h = absurd (h (λ f. cc) refl)
unlinked_leaf leaf (Some frame) (Some parent) c x e h = frame_of-without_table c.tables.tables 0 leaf 0 x ∙ go (leaf == x)
  where
    go : (b : Bool) → cond b None (frame_of c.tables.tables 0 x) ≡ table_after b (frame_of c.tables.tables 0 x)
    go true = refl
    go false = refl

unlinked_above : (leaf : ℕ) (frame parent : Option ℕ) (c : Changed) (level number : ℕ) → frame_of (unlinked leaf frame parent c).tables.tables (suc level) number ≡ frame_of c.tables.tables (suc level) number
unlinked_above leaf None parent c level number = refl
unlinked_above leaf (Some frame) None c level number = refl
unlinked_above leaf (Some frame) (Some parent) c level number =
    let e = frame_of-without_table c.tables.tables 0 leaf (suc level) number in grind (arith, nat_tests, e)

unlinked_pages : (leaf : ℕ) (frame parent : Option ℕ) (c : Changed) → (unlinked leaf frame parent c).tables.pages ≡ c.tables.pages
unlinked_pages leaf None parent c = refl
unlinked_pages leaf (Some frame) None c = refl
unlinked_pages leaf (Some frame) (Some parent) c = refl

reclaim_above : (leaves : List ℕ) (c : Changed) (level number : ℕ) → frame_of (reclaim_all leaves c).tables.tables (suc level) number ≡ frame_of c.tables.tables (suc level) number
reclaim_above [] c level number = refl
reclaim_above (leaf ∷ leaves) c level number = reclaim_above leaves (reclaim leaf c) level number ∙ unlinked_above leaf _ _ c level number

reclaim_pages : (leaves : List ℕ) (c : Changed) → (reclaim_all leaves c).tables.pages ≡ c.tables.pages
reclaim_pages [] c = refl
reclaim_pages (leaf ∷ leaves) c = reclaim_pages leaves (reclaim leaf c) ∙ unlinked_pages leaf _ _ c

reclaim_leaf : (leaf : ℕ) (c : Changed) (x : ℕ) → Stand c.tables.tables → frame_of (reclaim leaf c).tables.tables 0 x ≡ table_after (leaf == x) (frame_of c.tables.tables 0 x)
reclaim_leaf leaf c x h = unlinked_leaf leaf _ _ c x refl (h leaf)

still_linked : (b : Bool) (frame : Option ℕ) → table_after b frame ≢ None → frame ≢ None
still_linked true frame h = absurd (h refl)
still_linked false frame h = h

reclaim_stand : (leaf : ℕ) (c : Changed) → Stand c.tables.tables → Stand (reclaim leaf c).tables.tables
reclaim_stand leaf c h x there =
    let was = still_linked (leaf == x) (frame_of c.tables.tables 0 x) (subst (λ f. f ≢ None) (reclaim_leaf leaf c x h) there) in
    subst (λ f. f ≢ None) (sym (unlinked_above leaf _ _ c 0 (x / 512))) (h x was)

after_both : (b c : Bool) (frame : Option ℕ) → table_after c (table_after b frame) ≡ table_after (b || c) frame
after_both true true frame = refl
after_both true false frame = refl
after_both false c frame = refl

reclaim_leaves : (leaves : List ℕ) (c : Changed) (x : ℕ) → Stand c.tables.tables → frame_of (reclaim_all leaves c).tables.tables 0 x ≡ table_after (is_among x leaves) (frame_of c.tables.tables 0 x)
reclaim_leaves [] c x h = refl
reclaim_leaves (leaf ∷ leaves) c x h =
    reclaim_leaves leaves (reclaim leaf c) x (reclaim_stand leaf c h)
    ∙ ap (λ f. table_after (is_among x leaves) f) (reclaim_leaf leaf c x h)
    ∙ after_both (leaf == x) (is_among x leaves) (frame_of c.tables.tables 0 x)

pub flush_gives_up : (harts : ℕ) (gone : List ObjectFact) (d : Draft) → FlushGivesUp harts gone d
flush_gives_up harts gone d =
    let c : Changed = record { tables = d.space.tables; free = d.free; jobs = d.jobs } in
    let named : (leaf : ℕ) → is_among leaf (dead_leaves gone d.space) ≡ is_given_up gone d leaf =
    λ leaf. among_filter (λ leaf. leaf_dead d.space.objects leaf && list_any (is_in_leaf leaf) gone) (linked_leaves d.space.tables) leaf
    ∙ ap (λ b. b && (leaf_dead d.space.objects leaf && list_any (is_in_leaf leaf) gone)) (linked_among d.space.tables.tables leaf) in
    record {
      named = named;
      leaves = λ h leaf. reclaim_leaves (dead_leaves gone d.space) c leaf h ∙ ap (λ b. table_after b (frame_of d.space.tables.tables 0 leaf)) (named leaf);
      above = λ level number. reclaim_above (dead_leaves gone d.space) c level number;
      pages = reclaim_pages (dead_leaves gone d.space) c;
    }

-- ---- fresh addresses
malloc_fresh : (n object pointer : ℕ) (d : Draft) (block : Block) → (malloc_in n block d).answer ≡ answer.Given object pointer → IsFresh d object pointer
malloc_fresh n object pointer d block e =
    let f : answer.Given (next_object d.space.objects) (next_user d.space.objects block) ≡ answer.Given object pointer = e in grind (arith, f)

realloc_fresh : (seen : Option Seen) (terms : Terms) (n old object moved : ℕ) (found : Found) (d : Draft) → (realloc_seen seen terms n found d).answer ≡ answer.Moved old object moved → IsFresh d object moved
realloc_fresh None terms n old object moved found d e = absurd cc
realloc_fresh (Some s) terms n old object moved found d e =
    let made = is_made (realloc_reasons (Some s) n found d) d (realloc_made (stays s.fact n) terms s n d) (answer.Moved old object moved) (realloc_refuses s n found d) refl e in
    let f : answer.Moved s.number (next_object d.space.objects) (next_user d.space.objects (block_for (stays s.fact n) s.fact n d)) ≡ answer.Moved old object moved = sym (ap (λ o. o.answer) made) ∙ e in
    grind (arith, f)

pub addresses_are_fresh : AddressesAreFresh
unfolding malloc_plan realloc_plan
addresses_are_fresh = record {
  malloc = λ n object pointer d e.
      let block = next_block d.space.heap (room_of n) in
      let made = is_made (malloc_reasons n d) d (malloc_in n block d) (answer.Given object pointer) (memory_refuses (block_need d (room_of n)) (shadow_pages (room_of n)) d) refl e in
      malloc_fresh n object pointer d block (sym (ap (λ o. o.answer) made) ∙ e);
  realloc = λ terms pointer n old object moved found d e. realloc_fresh (object_at d.space.objects pointer) terms n old object moved found d e;
}
