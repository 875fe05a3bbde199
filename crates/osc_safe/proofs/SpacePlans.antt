-- What the plans of the heap make of the objects of a process, and of those that wait.
use Rattle.std.proofs.Common.{ℕ, ◌+◌, ◌≡◌, ◌==◌, Bool, true, false, if◌then◌else◌, Option, Some, None, List, [], ◌∷◌, ◌++◌, length, position, find, cond, option_map, arith, refl, ap, subst}
use Rattle.osc_word.specs.declared.calls.Answer.{Answer}
use Rattle.osc_word.specs.declared.calls.Answer.TheVariants as answer
use Rattle.osc_word.specs.declared.settings.HeapKind.{HeapKind}
use Rattle.osc_word.specs.declared.settings.HeapKind.TheVariants.{Oscar, Plain}
use Rattle.osc_class.specs.Rooms.{room_of, shadow_pages}
use Rattle.osc_slot.specs.declared.Block.{Block}
use Rattle.osc_slot.specs.Slots.{is_room}
use Rattle.osc_slot.specs.Heap.{next_block, block_of_user}
use Rattle.osc_space.specs.declared.ObjectFact.{ObjectFact}
use Rattle.osc_space.specs.declared.ObjectState.{ObjectState}
use Rattle.osc_space.specs.declared.ObjectState.TheVariants.{Live, Dead}
use Rattle.osc_space.specs.Objects.{Seen, fact, kill, grant, granted_at, next_page, object_at, seen_as}
use Rattle.osc_space.specs.Space.{Space, Draft, Outcome, Terms, Reason, first_reason, unchanged, unless}
use Rattle.osc_space.specs.Header.{Found, death_reasons, object_reasons}
use Rattle.osc_space.specs.Malloc.{malloc_reasons, malloc_in, malloc_plan}
use Rattle.osc_space.specs.Free.{let_wait, freed, flush_where, is_full, free_seen, free_plan}
use Rattle.osc_space.specs.Realloc.{stays, block_for, place_where, realloc_reasons, realloc_made, realloc_seen, realloc_plan}
use Rattle.osc_space.specs.PlainHeap.{plain_reasons, plain_malloc_in, plain_malloc_plan, unmap_emptied, emptied_pages, plain_free_of, plain_free_plan, kept_bytes, plain_move, plain_resize, plain_realloc_reasons, plain_realloc_of, plain_realloc_plan, copy_block, place_plain}
use Rattle.osc_space.specs.RefusalLaws.{is_refusal}
use Rattle.osc_space.proofs.RefusalLawProofs.{object_refuses, realloc_refuses}
use Rattle.osc_calls.specs.HeapPlans.{malloc_by, free_by, free_of, realloc_by}

-- an answer that speaks of no object that was given, moved or freed
abbrev pub is_plain : Answer → Bool
is_plain (answer.Given object pointer) = false
is_plain (answer.Moved old object pointer) = false
is_plain (answer.Freed object) = false
is_plain _ = true

-- what a plan makes of a memory; the call has this place in the journal
pub data SpaceGoes (place : ℕ) (old new : Space) (said : Answer) : Type 0 where
  Stays : new.objects ≡ old.objects → new.waiting ≡ old.waiting → is_plain said ≡ true → SpaceGoes place old new said
  Gives : (o : ObjectFact) (pointer : ℕ) → said ≡ answer.Given (length old.objects) pointer
      → new.objects ≡ old.objects ++ o ∷ [] → new.waiting ≡ old.waiting → SpaceGoes place old new said
  Frees : (object : ℕ) (o : ObjectFact) → said ≡ answer.Freed object → fact old.objects object ≡ Some o → o.state ≡ Live
      → new.objects ≡ kill object place old.objects → new.waiting ≡ old.waiting ++ object ∷ [] → SpaceGoes place old new said
  Moves : (object pointer : ℕ) (o more : ObjectFact) → said ≡ answer.Moved object (length old.objects) pointer → fact old.objects object ≡ Some o → o.state ≡ Live
      → new.objects ≡ kill object place (old.objects ++ more ∷ []) → new.waiting ≡ old.waiting → SpaceGoes place old new said

abbrev pub OutcomeGoes : ℕ → Draft → Outcome → Type 0
OutcomeGoes place d o = SpaceGoes place d.space o.draft.space o.answer

-- ---- refusals
abbrev pub AreRefusals : List Reason → Type 0
AreRefusals [] = Unit {0}
AreRefusals (r ∷ reasons) = (is_refusal r.answer ≡ true) × AreRefusals reasons

abbrev pub Refuses : Option Answer → Type 0
Refuses None = Unit {0}
Refuses (Some a) = is_refusal a ≡ true

pub first_refuses : (reasons : List Reason) → AreRefusals reasons → Refuses (first_reason reasons)
first_refuses [] h = tt
first_refuses (x ∷ xs) h = go x.holds (first_refuses xs h.1)
  where
    go : (b : Bool) → Refuses (first_reason xs) → Refuses (option_map (λ (r : Reason). r.answer) (cond b (Some x) (find (λ (r : Reason). r.holds) xs)))
    go true later = h.0
    go false later = later

refusal-plain : (a : Answer) → is_refusal a ≡ true → is_plain a ≡ true
refusal-plain (answer.Given object pointer) e = absurd (let b : ⊥ = grind (arith, e) in b)
refusal-plain (answer.Moved old object pointer) e = absurd (let b : ⊥ = grind (arith, e) in b)
refusal-plain (answer.Freed object) e = absurd (let b : ⊥ = grind (arith, e) in b)
refusal-plain _ e = refl

by-reasons : (place : ℕ) (r : Option Answer) (d : Draft) (made : Outcome) → Refuses r → (r ≡ None → OutcomeGoes place d made) → OutcomeGoes place d (unless r d made)
by-reasons place None d made q g = g refl
by-reasons place (Some a) d made q g = Stays refl refl (refusal-plain a q)

plain-goes : (place : ℕ) (d : Draft) (o : Outcome) → o.draft.space.objects ≡ d.space.objects → o.draft.space.waiting ≡ d.space.waiting → is_plain o.answer ≡ true → OutcomeGoes place d o
plain-goes place d o e f g = Stays e f g

-- ---- the object at an address
seen-in : (objects : List ObjectFact) (number : ℕ) (f : Option ObjectFact) (s : Seen) → fact objects number ≡ f
    → option_map (λ (o : ObjectFact). let seen : Seen = record { number = number; fact = o } in seen) f ≡ Some s → fact objects s.number ≡ Some s.fact
seen-in objects number None s e h = absurd (let b : ⊥ = grind (arith, h) in b)
seen-in objects number (Some o) s e h = seen-same (record { number = number; fact = o }) s h e
  where
    seen-same : (t s : Seen) → Some t ≡ Some s → fact objects t.number ≡ Some t.fact → fact objects s.number ≡ Some s.fact
    seen-same t s h e = let i : t ≡ s = cc in subst (λ (x : Seen). fact objects x.number ≡ Some x.fact) i e

seen-at : (objects : List ObjectFact) (number : Option ℕ) (s : Seen) → (elim number [ None ↦ None | Some n ↦ seen_as objects n ]) ≡ Some s → fact objects s.number ≡ Some s.fact
seen-at objects None s h = absurd (let b : ⊥ = grind (arith, h) in b)
seen-at objects (Some number) s h = seen-in objects number (fact objects number) s refl h

pub seen-fact : (objects : List ObjectFact) (user : ℕ) (s : Seen) → object_at objects user ≡ Some s → fact objects s.number ≡ Some s.fact
seen-fact objects user s h = seen-at objects (position (λ (o : ObjectFact). o.user == user) objects) s h

-- only a live object has no reason
alive : (state : ObjectState) (number : ℕ) (rest : List Reason) → first_reason (death_reasons number state ++ rest) ≡ None → state ≡ Live
alive Live number rest e = refl
alive (Dead call) number rest e = absurd (let b : ⊥ = grind (arith, e) in b)

alive-first : (state : ObjectState) (number : ℕ) (more rest : List Reason) → first_reason ((death_reasons number state ++ more) ++ rest) ≡ None → state ≡ Live
alive-first Live number more rest e = refl
alive-first (Dead call) number more rest e = absurd (let b : ⊥ = grind (arith, e) in b)

-- ---- malloc
pub malloc-goes : (place : ℕ) (kind : HeapKind) (size : ℕ) (d : Draft) → OutcomeGoes place d (malloc_by kind size d)
unfolding malloc_plan plain_malloc_plan
malloc-goes place Oscar size d =
    by-reasons place (first_reason (malloc_reasons size d)) d (malloc_in size (next_block d.space.heap (room_of size)) d) (first_refuses (malloc_reasons size d) (refl, (refl, tt)))
    (λ e. Gives _ _ refl refl refl)
malloc-goes place Plain size d =
    by-reasons place (first_reason (plain_reasons (room_of size) d)) d (plain_malloc_in size (next_block d.space.heap (room_of size)) d) (first_refuses (plain_reasons (room_of size) d) (refl, tt))
    (λ e. Stays refl refl refl)

-- ---- free
record Flushed (full : Bool) (harts : ℕ) (d : Draft) : Type 0 where
  objects : (flush_where full harts d).space.objects ≡ d.space.objects
  waiting : (flush_where full harts d).space.waiting ≡ d.space.waiting

flushed : (full : Bool) (harts : ℕ) (d : Draft) → Flushed full harts d
flushed true harts d = record { objects = refl; waiting = refl }
flushed false harts d = record { objects = refl; waiting = refl }

free-seen-goes : (s : Option Seen) (terms : Terms) (found : Found) (d : Draft) → ((x : Seen) → s ≡ Some x → fact d.space.objects x.number ≡ Some x.fact)
    → OutcomeGoes terms.call d (free_seen s terms found d)
free-seen-goes None terms found d f = Stays refl refl refl
free-seen-goes (Some s) terms found d f =
    let w = flushed (is_full terms (let_wait terms s d).space) terms.harts (let_wait terms s d) in
    by-reasons terms.call (first_reason (object_reasons (Some s) found)) d (freed s.number terms (let_wait terms s d)) (first_refuses (object_reasons (Some s) found) (object_refuses s found))
    (λ e. Frees s.number s.fact refl (f s refl) (alive s.fact.state s.number _ e) w.objects w.waiting)

unmapped-objects : (pages : List ℕ) (harts : ℕ) (d : Draft) → (unmap_emptied pages harts d).space.objects ≡ d.space.objects
unmapped-objects [] harts d = refl
unmapped-objects (page ∷ pages) harts d = refl

unmapped-waiting : (pages : List ℕ) (harts : ℕ) (d : Draft) → (unmap_emptied pages harts d).space.waiting ≡ d.space.waiting
unmapped-waiting [] harts d = refl
unmapped-waiting (page ∷ pages) harts d = refl

plain-freed : (place : ℕ) (b : Option Block) (harts : ℕ) (d : Draft) → OutcomeGoes place d (plain_free_of b harts d)
plain-freed place None harts d = Stays refl refl refl
plain-freed place (Some block) harts d =
    Stays (unmapped-objects (emptied_pages d.space.heap.held block) harts d) (unmapped-waiting (emptied_pages d.space.heap.held block) harts d) refl

free-by-goes : (kind : HeapKind) (terms : Terms) (pointer : ℕ) (found : Found) (d : Draft) → OutcomeGoes terms.call d (free_by kind terms pointer found d)
unfolding free_plan plain_free_plan
free-by-goes Oscar terms pointer found d = free-seen-goes (object_at d.space.objects pointer) terms found d (λ x e. seen-fact d.space.objects pointer x e)
free-by-goes Plain terms pointer found d = plain-freed terms.call (block_of_user d.space.heap.held pointer) terms.harts d

free-where : (place : ℕ) (null : Bool) (o : Outcome) (d : Draft) → OutcomeGoes place d o → OutcomeGoes place d (if null then unchanged answer.Nothing d else o)
free-where place true o d g = Stays refl refl refl
free-where place false o d g = g

pub free-goes : (kind : HeapKind) (terms : Terms) (pointer : ℕ) (found : Found) (d : Draft) → OutcomeGoes terms.call d (free_of kind terms pointer found d)
free-goes kind terms pointer found d = free-where terms.call (pointer == 0) (free_by kind terms pointer found d) d (free-by-goes kind terms pointer found d)

-- ---- realloc
placed-objects : (stay : Bool) (n : ℕ) (d : Draft) → (place_where stay n d).space.objects ≡ d.space.objects
placed-objects true n d = refl
placed-objects false n d = refl

placed-waiting : (stay : Bool) (n : ℕ) (d : Draft) → (place_where stay n d).space.waiting ≡ d.space.waiting
placed-waiting true n d = refl
placed-waiting false n d = refl

realloc-seen-goes : (s : Option Seen) (terms : Terms) (n : ℕ) (found : Found) (d : Draft) → ((x : Seen) → s ≡ Some x → fact d.space.objects x.number ≡ Some x.fact)
    → OutcomeGoes terms.call d (realloc_seen s terms n found d)
realloc-seen-goes None terms n found d f = Stays refl refl refl
realloc-seen-goes (Some s) terms n found d f =
    let block : Block = block_for (stays s.fact n) s.fact n d in
    by-reasons terms.call (first_reason (realloc_reasons (Some s) n found d)) d (realloc_made (stays s.fact n) terms s n d) (first_refuses (realloc_reasons (Some s) n found d) (realloc_refuses s n found d))
    (λ e. Moves s.number _ s.fact (granted_at (next_page d.space.objects) (shadow_pages block.room) n (block.start + 16)) refl (f s refl) (alive-first s.fact.state s.number _ _ e)
    (ap (λ (objects : List ObjectFact). kill s.number terms.call (grant (shadow_pages block.room) n (block.start + 16) objects)) (placed-objects (stays s.fact n) n d))
    (placed-waiting (stays s.fact n) n d))

plain-moved : (place harts : ℕ) (old : Block) (n bytes : ℕ) (block : Block) (d : Draft) → OutcomeGoes place d (plain_move harts old n bytes block d)
plain-moved place harts old n bytes block d =
    let e : Draft = copy_block old block bytes (place_plain n block d) in
    Stays (unmapped-objects (emptied_pages e.space.heap.held old) harts e) (unmapped-waiting (emptied_pages e.space.heap.held old) harts e) refl

plain-resized : (place : ℕ) (stay : Bool) (harts : ℕ) (block : Block) (n bytes : ℕ) (d : Draft) → OutcomeGoes place d (plain_resize stay harts block n bytes d)
plain-resized place true harts block n bytes d = Stays refl refl refl
plain-resized place false harts block n bytes d = plain-moved place harts block n bytes (next_block d.space.heap (room_of n)) d

plain-refuses : (b : Bool) (n : ℕ) (d : Draft) → AreRefusals (if b then [] else plain_reasons (room_of n) d)
plain-refuses true n d = tt
plain-refuses false n d = (refl, tt)

plain-realloced : (place : ℕ) (b : Option Block) (harts n size : ℕ) (d : Draft) → OutcomeGoes place d (plain_realloc_of b harts n size d)
plain-realloced place None harts n size d = Stays refl refl refl
plain-realloced place (Some block) harts n size d =
    by-reasons place (first_reason (plain_realloc_reasons (Some block) n d)) d
    (plain_resize (is_room (room_of n) block.room) harts block n (kept_bytes block size n) d) (first_refuses (plain_realloc_reasons (Some block) n d) (plain-refuses (is_room (room_of n) block.room) n d))
    (λ e. plain-resized place (is_room (room_of n) block.room) harts block n (kept_bytes block size n) d)

pub realloc-goes : (kind : HeapKind) (terms : Terms) (pointer size : ℕ) (found : Found) (d : Draft) → OutcomeGoes terms.call d (realloc_by kind terms pointer size found d)
unfolding realloc_plan plain_realloc_plan
realloc-goes Oscar terms pointer size found d = realloc-seen-goes (object_at d.space.objects pointer) terms size found d (λ x e. seen-fact d.space.objects pointer x e)
realloc-goes Plain terms pointer size found d = plain-realloced terms.call (block_of_user d.space.heap.held pointer) terms.harts size found.second d
