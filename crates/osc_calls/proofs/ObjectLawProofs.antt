-- The law of objects, by induction over objects and by cases on the calls that change them.
use Rattle.std.proofs.Common.{ℕ, zero, suc, ◌+◌, ◌≡◌, ◌≤◌, ◌==◌, Bool, true, false, Option, Some, None, List, [], ◌∷◌, ◌++◌, refl, sym, arith, subst}
use Rattle.std.specs.Prelude.{if◌then◌else◌, option_map, position}
use Rattle.std.proofs.lemmas.List.Sums.{sum_by-cons}
use Rattle.osc_word.specs.declared.calls.Answer.{Answer}
use Rattle.osc_word.specs.declared.calls.Answer.TheVariants as answer
use Rattle.osc_word.specs.declared.settings.HeapKind.{HeapKind}
use Rattle.osc_word.specs.declared.settings.HeapKind.TheVariants.{Oscar, Plain}
use Rattle.osc_slot.specs.declared.Block.{Block}
use Rattle.osc_slot.specs.Slots.{is_room}
use Rattle.osc_slot.specs.Heap.{block_of_user, next_block}
use Rattle.osc_class.specs.Rooms.{room_of, shadow_pages}
use Rattle.osc_space.specs.declared.ObjectFact.{ObjectFact}
use Rattle.osc_space.specs.declared.ObjectState.{ObjectState}
use Rattle.osc_space.specs.declared.ObjectState.TheVariants.{Live, Dead}
use Rattle.osc_space.specs.Objects.{Seen, seen_as, object_at, fact, mark, kill, killed, grant}
use Rattle.osc_space.specs.Space.{Draft, Outcome, Terms, Closing, Keeps, GivesBack, Reason, first_reason, unless, unchanged}
use Rattle.osc_space.specs.Header.{Found, death_reasons, object_reasons}
use Rattle.osc_space.specs.Malloc.{malloc_plan, malloc_reasons, malloc_in}
use Rattle.osc_space.specs.Free.{free_plan, free_seen, freed, let_wait, flush_where, is_full}
use Rattle.osc_space.specs.Realloc.{realloc_plan, realloc_seen, realloc_made, realloc_reasons, block_for, place_where, stays}
use Rattle.osc_space.specs.PlainHeap.{plain_malloc_plan, plain_malloc_in, plain_free_plan, plain_free_of, plain_realloc_plan, plain_realloc_of, plain_realloc_reasons, plain_resize, plain_move, plain_reasons, place_plain, copy_block, emptied_pages, unmap_emptied, kept_bytes}
use Rattle.osc_space.specs.Finish.{finished, give_blocks}
use Rattle.osc_calls.specs.HeapPlans.{malloc_by, free_by, free_of, realloc_by}
use Rattle.osc_calls.specs.ObjectLaws.{StaysObject, Grown, GrownMarks}

-- ---- objects
same-object : (o : ObjectFact) → StaysObject o o
same-object o = record { first = refl; pages = refl; size = refl; user = refl; canon = refl; dead = λ call e. e }

pub grown-same : (objects : List ObjectFact) → Grown objects objects
grown-same [] = tt
grown-same (o ∷ objects) = (same-object o, grown-same objects)

grown-added : (objects more : List ObjectFact) → Grown objects (objects ++ more)
grown-added [] more = tt
grown-added (o ∷ objects) more = (same-object o, grown-added objects more)

later-object : (o l m : ObjectFact) → StaysObject o l → StaysObject l m → StaysObject o m
later-object o l m s t = record {
  first = grind (arith, s.first, t.first);
  pages = grind (arith, s.pages, t.pages);
  size = grind (arith, s.size, t.size);
  user = grind (arith, s.user, t.user);
  canon = grind (arith, s.canon, t.canon);
  dead = λ call e. t.dead call (s.dead call e);
}

grown-later : (objects later more : List ObjectFact) → Grown objects later → Grown later more → Grown objects more
grown-later [] later more g h = tt
grown-later (o ∷ objects) [] more g h = absurd g
grown-later (o ∷ objects) (l ∷ later) [] g h = absurd h
grown-later (o ∷ objects) (l ∷ later) (m ∷ more) g h = (later-object o l m g.0 h.0, grown-later objects later more g.1 h.1)

live-dead : (o : ObjectFact) (call since : ℕ) → o.state ≡ Live → o.state ≡ Dead since → (killed call o).state ≡ Dead since
live-dead o call since e f = cc

killed-object : (o : ObjectFact) (call : ℕ) → o.state ≡ Live → StaysObject o (killed call o)
killed-object o call e =
    record { first = refl; pages = refl; size = refl; user = refl; canon = refl; dead = λ since f. live-dead o call since e f }

some-same : (x y : ObjectFact) → Some x ≡ Some y → x ≡ y
some-same x y e = cc

grown-killed : (objects : List ObjectFact) (number call : ℕ) (o : ObjectFact) → fact objects number ≡ Some o → o.state ≡ Live → Grown objects (kill number call objects)
grown-killed [] number call o e l = tt
grown-killed (x ∷ objects) zero call o e l =
    (killed-object x call (subst (λ (y : ObjectFact). y.state ≡ Live) (sym (some-same x o e)) l), grown-same objects)
grown-killed (x ∷ objects) (suc number) call o e l = (same-object x, grown-killed objects number call o e l)

fact-added : (objects more : List ObjectFact) (number : ℕ) (o : ObjectFact) → fact objects number ≡ Some o → fact (objects ++ more) number ≡ Some o
fact-added [] more number o e = cc
fact-added (x ∷ objects) more zero o e = e
fact-added (x ∷ objects) more (suc number) o e = fact-added objects more number o e

grown-replaced : (objects more : List ObjectFact) (number call : ℕ) (o : ObjectFact) → fact objects number ≡ Some o → o.state ≡ Live → Grown objects (kill number call (objects ++ more))
grown-replaced objects more number call o e l =
    grown-later objects (objects ++ more) (kill number call (objects ++ more)) (grown-added objects more)
    (grown-killed (objects ++ more) number call o (fact-added objects more number o e) l)

pub grown_marks : GrownMarks
grown_marks [] later g = omega arith
grown_marks (o ∷ objects) [] g = absurd g
grown_marks (o ∷ objects) (l ∷ later) g =
    let m : mark objects ≤ mark later = grown_marks objects later g.1 in
    let p : l.pages ≡ o.pages = g.0.pages in
    let a : mark (o ∷ objects) ≡ o.pages + mark objects = sum_by-cons (λ (x : ObjectFact). x.pages) o objects in
    let b : mark (l ∷ later) ≡ l.pages + mark later = sum_by-cons (λ (x : ObjectFact). x.pages) l later in
    omega (arith, m, p, a, b)

-- ---- the object at an address
seen-in : (objects : List ObjectFact) (number : ℕ) (f : Option ObjectFact) (s : Seen) → fact objects number ≡ f
    → option_map (λ (o : ObjectFact). let seen : Seen = record { number = number; fact = o } in seen) f ≡ Some s → fact objects s.number ≡ Some s.fact
seen-in objects number None s e h = cc
seen-in objects number (Some o) s e h = seen-same (record { number = number; fact = o }) s h e
  where
    seen-same : (t s : Seen) → Some t ≡ Some s → fact objects t.number ≡ Some t.fact → fact objects s.number ≡ Some s.fact
    seen-same t s h e = let i : t ≡ s = cc in subst (λ (x : Seen). fact objects x.number ≡ Some x.fact) i e

seen-at : (objects : List ObjectFact) (number : Option ℕ) (s : Seen) → (elim number [ None ↦ None | Some n ↦ seen_as objects n ]) ≡ Some s → fact objects s.number ≡ Some s.fact
seen-at objects None s h = cc
seen-at objects (Some number) s h = seen-in objects number (fact objects number) s refl h

seen : (objects : List ObjectFact) (user : ℕ) (s : Seen) → object_at objects user ≡ Some s → fact objects s.number ≡ Some s.fact
seen objects user s h = seen-at objects (position (λ (o : ObjectFact). o.user == user) objects) s h

-- only a live object has no reason
alive : (state : ObjectState) (number : ℕ) (rest : List Reason) → first_reason (death_reasons number state ++ rest) ≡ None → state ≡ Live
alive Live number rest e = refl
alive (Dead call) number rest e = cc

alive-first : (state : ObjectState) (number : ℕ) (more rest : List Reason) → first_reason ((death_reasons number state ++ more) ++ rest) ≡ None → state ≡ Live
alive-first Live number more rest e = refl
alive-first (Dead call) number more rest e = cc

-- ---- the plans of the heap
unless-grown : (r : Option Answer) (d : Draft) (made : Outcome) → (r ≡ None → Grown d.space.objects made.draft.space.objects)
    → Grown d.space.objects (unless r d made).draft.space.objects
unless-grown (Some a) d made g = grown-same d.space.objects
unless-grown None d made g = g refl

flushed : (full : Bool) (harts : ℕ) (d : Draft) → (flush_where full harts d).space.objects ≡ d.space.objects
flushed true harts d = refl
flushed false harts d = refl

free-grown : (s : Option Seen) (terms : Terms) (found : Found) (d : Draft) → ((x : Seen) → s ≡ Some x → fact d.space.objects x.number ≡ Some x.fact)
    → Grown d.space.objects (free_seen s terms found d).draft.space.objects
free-grown None terms found d f = grown-same d.space.objects
free-grown (Some s) terms found d f =
    unless-grown (first_reason (object_reasons (Some s) found)) d (freed s.number terms (let_wait terms s d)) (λ e.
    subst (λ (objects : List ObjectFact). Grown d.space.objects objects)
    (sym (flushed (is_full terms (let_wait terms s d).space) terms.harts (let_wait terms s d)))
    (grown-killed d.space.objects s.number terms.call s.fact (f s refl) (alive s.fact.state s.number _ e)))

placed-objects : (stay : Bool) (n : ℕ) (d : Draft) → (place_where stay n d).space.objects ≡ d.space.objects
placed-objects true n d = refl
placed-objects false n d = refl

replaced : (objects same : List ObjectFact) (pages size canon number call : ℕ) (o : ObjectFact) → same ≡ objects → fact objects number ≡ Some o → o.state ≡ Live
    → Grown objects (kill number call (grant pages size canon same))
replaced objects same pages size canon number call o e f l =
    subst (λ (xs : List ObjectFact). Grown objects (kill number call (grant pages size canon xs))) (sym e)
    (grown-replaced objects _ number call o f l)

realloc-grown : (s : Option Seen) (terms : Terms) (n : ℕ) (found : Found) (d : Draft) → ((x : Seen) → s ≡ Some x → fact d.space.objects x.number ≡ Some x.fact)
    → Grown d.space.objects (realloc_seen s terms n found d).draft.space.objects
realloc-grown None terms n found d f = grown-same d.space.objects
realloc-grown (Some s) terms n found d f =
    let block : Block = block_for (stays s.fact n) s.fact n d in
    unless-grown (first_reason (realloc_reasons (Some s) n found d)) d (realloc_made (stays s.fact n) terms s n d) (λ e.
    replaced d.space.objects (place_where (stays s.fact n) n d).space.objects (shadow_pages block.room) n (block.start + 16) s.number terms.call s.fact
    (placed-objects (stays s.fact n) n d) (f s refl) (alive-first s.fact.state s.number _ _ e))

-- the plain heap has no objects
unless-same : (r : Option Answer) (d : Draft) (made : Outcome) → made.draft.space.objects ≡ d.space.objects → (unless r d made).draft.space.objects ≡ d.space.objects
unless-same (Some a) d made e = refl
unless-same None d made e = e

unmapped : (pages : List ℕ) (harts : ℕ) (d : Draft) → (unmap_emptied pages harts d).space.objects ≡ d.space.objects
unmapped [] harts d = refl
unmapped (page ∷ pages) harts d = refl

plain-freed : (b : Option Block) (harts : ℕ) (d : Draft) → (plain_free_of b harts d).draft.space.objects ≡ d.space.objects
plain-freed None harts d = refl
plain-freed (Some block) harts d = unmapped (emptied_pages d.space.heap.held block) harts d

plain-moved : (harts : ℕ) (old : Block) (n bytes : ℕ) (block : Block) (d : Draft) → (plain_move harts old n bytes block d).draft.space.objects ≡ d.space.objects
plain-moved harts old n bytes block d =
    unmapped (emptied_pages (copy_block old block bytes (place_plain n block d)).space.heap.held old) harts (copy_block old block bytes (place_plain n block d))

plain-resized : (stay : Bool) (harts : ℕ) (block : Block) (n bytes : ℕ) (d : Draft) → (plain_resize stay harts block n bytes d).draft.space.objects ≡ d.space.objects
plain-resized true harts block n bytes d = refl
plain-resized false harts block n bytes d = plain-moved harts block n bytes (next_block d.space.heap (room_of n)) d

plain-realloced : (b : Option Block) (harts n size : ℕ) (d : Draft) → (plain_realloc_of b harts n size d).draft.space.objects ≡ d.space.objects
plain-realloced None harts n size d = refl
plain-realloced (Some block) harts n size d =
    unless-same (first_reason (plain_realloc_reasons (Some block) n d)) d
    (plain_resize (is_room (room_of n) block.room) harts block n (kept_bytes block size n) d)
    (plain-resized (is_room (room_of n) block.room) harts block n (kept_bytes block size n) d)

pub same-grown : (objects later : List ObjectFact) → later ≡ objects → Grown objects later
same-grown objects later e = subst (Grown objects) (sym e) (grown-same objects)

-- ---- each plan of the heap
abbrev GrownBy : Outcome → Draft → Type 0
GrownBy o d = Grown d.space.objects o.draft.space.objects

pub malloc-grows : (kind : HeapKind) (size : ℕ) (d : Draft) → GrownBy (malloc_by kind size d) d
unfolding malloc_plan plain_malloc_plan
malloc-grows Oscar size d =
    unless-grown (first_reason (malloc_reasons size d)) d (malloc_in size (next_block d.space.heap (room_of size)) d) (λ e. grown-added d.space.objects _)
malloc-grows Plain size d =
    same-grown d.space.objects (plain_malloc_plan size d).draft.space.objects
    (unless-same (first_reason (plain_reasons (room_of size) d)) d (plain_malloc_in size (next_block d.space.heap (room_of size)) d) refl)

free-by-grows : (kind : HeapKind) (terms : Terms) (pointer : ℕ) (found : Found) (d : Draft) → GrownBy (free_by kind terms pointer found d) d
unfolding free_plan plain_free_plan
free-by-grows Oscar terms pointer found d = free-grown (object_at d.space.objects pointer) terms found d (λ x e. seen d.space.objects pointer x e)
free-by-grows Plain terms pointer found d = same-grown d.space.objects (plain_free_plan terms.harts pointer d).draft.space.objects
    (plain-freed (block_of_user d.space.heap.held pointer) terms.harts d)

free-where : (null : Bool) (o : Outcome) (d : Draft) → GrownBy o d → GrownBy (if null then unchanged answer.Nothing d else o) d
free-where true o d g = grown-same d.space.objects
free-where false o d g = g

pub free-grows : (kind : HeapKind) (terms : Terms) (pointer : ℕ) (found : Found) (d : Draft) → GrownBy (free_of kind terms pointer found d) d
free-grows kind terms pointer found d = free-where (pointer == 0) (free_by kind terms pointer found d) d (free-by-grows kind terms pointer found d)

pub realloc-grows : (kind : HeapKind) (terms : Terms) (pointer size : ℕ) (found : Found) (d : Draft) → GrownBy (realloc_by kind terms pointer size found d) d
unfolding realloc_plan plain_realloc_plan
realloc-grows Oscar terms pointer size found d = realloc-grown (object_at d.space.objects pointer) terms size found d (λ x e. seen d.space.objects pointer x e)
realloc-grows Plain terms pointer size found d = same-grown d.space.objects (plain_realloc_plan terms.harts pointer size found.second d).draft.space.objects
    (plain-realloced (block_of_user d.space.heap.held pointer) terms.harts size found.second d)

-- ---- what is given back
given : (blocks : List Block) (d : Draft) → (give_blocks blocks d).space.objects ≡ d.space.objects
given [] d = refl
given (block ∷ blocks) d = given blocks _

pub finished-same : (closing : Closing) (d : Draft) → (finished closing d).space.objects ≡ d.space.objects
unfolding finished
finished-same Keeps d = refl
finished-same (GivesBack blocks) d = given blocks d
