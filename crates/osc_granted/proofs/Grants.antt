-- By how much the plan of a call on the heap raises the mark of its process.
use Rattle.std.proofs.Common.{ℕ, ◌+◌, ◌≡◌, ◌==◌, Bool, true, false, cond, Option, Some, None, List, [], ◌∷◌, arith, refl, sym, ap, ◌∙◌}
use Rattle.std.proofs.lemmas.Bool.Decides.{nat_tests}
use Rattle.osc_word.specs.declared.settings.HeapKind.{HeapKind}
use Rattle.osc_word.specs.declared.settings.HeapKind.TheVariants.{Oscar, Plain}
use Rattle.osc_word.specs.declared.calls.Call.{Call}
use Rattle.osc_word.specs.declared.calls.Call.TheVariants as calls
use Rattle.osc_word.specs.declared.calls.Answer.{Answer}
use Rattle.osc_word.specs.declared.calls.Answer.TheVariants as answers
use Rattle.osc_class.specs.declared.Room.{Room}
use Rattle.osc_class.specs.declared.Room.TheVariants.{Small, Pages}
use Rattle.osc_class.specs.Rooms.{room_of, shadow_pages}
use Rattle.osc_slot.specs.declared.Block.{Block}
use Rattle.osc_slot.specs.Slots.{is_room}
use Rattle.osc_slot.specs.Heap.{next_block, block_of_user}
use Rattle.osc_space.specs.Objects.{Seen, mark, grant, object_at}
use Rattle.osc_space.specs.Header.{Found, object_reasons}
use Rattle.osc_space.specs.Space.{Draft, Terms, Outcome, Closing, Keeps, GivesBack, first_reason, unless, unchanged}
use Rattle.osc_space.specs.Malloc.{malloc_reasons, malloc_in, malloc_plan}
use Rattle.osc_space.specs.Free.{is_full, flush_where, let_wait, freed, free_seen, free_plan}
use Rattle.osc_space.specs.Realloc.{stays, place_where, realloc_reasons, realloc_in, block_for, realloc_made, realloc_seen, realloc_plan}
use Rattle.osc_space.specs.PlainHeap.{plain_reasons, plain_malloc_in, plain_malloc_plan, emptied_pages, unmap_emptied, plain_free_of, plain_free_plan, plain_realloc_reasons, plain_resize, kept_bytes, plain_realloc_of, plain_realloc_plan, copy_block, place_plain}
use Rattle.osc_space.specs.Finish.{give_blocks, finished}
use Rattle.osc_space.specs.RefusalLaws.{is_refusal}
use Rattle.osc_space.proofs.RefusalLawProofs.{object_refuses, realloc_refuses}
use Rattle.osc_space.proofs.ObjectLawProofs.{mark-kill, mark-grant}
use Rattle.osc_calls.specs.HeapPlans.{malloc_by, free_by, free_of, realloc_by}
use Rattle.osc_safe.proofs.SpacePlans.{AreRefusals, Refuses, first_refuses}
use Rattle.osc_granted.specs.Granted.{pages_for}

-- ---- rooms
pub room-pages : (a b : Room) → is_room a b ≡ true → shadow_pages b ≡ shadow_pages a
room-pages (Small a) (Small b) e = refl
room-pages (Small a) (Pages b) e = absurd (let z : ⊥ = grind (arith, e) in z)
room-pages (Pages a) (Small b) e = absurd (let z : ⊥ = grind (arith, e) in z)
room-pages (Pages a) (Pages b) e = grind (arith, nat_tests, e)

-- ---- plans
abbrev pub Raises : Call → Draft → Outcome → Type 0
Raises call d o = mark o.draft.space.objects ≡ mark d.space.objects + pages_for call o.answer

refused-none : (call : Call) (a : Answer) → is_refusal a ≡ true → pages_for call a ≡ 0
refused-none (calls.Malloc size) (answers.Given object pointer) e = absurd (let z : ⊥ = grind (arith, e) in z)
refused-none (calls.Realloc pointer size) (answers.Given object new) e = absurd (let z : ⊥ = grind (arith, e) in z)
refused-none (calls.Realloc pointer size) (answers.Moved old object new) e = absurd (let z : ⊥ = grind (arith, e) in z)
refused-none _ _ e = refl

-- the objects stay, and the answer grants none
quiet : (call : Call) (d : Draft) (o : Outcome) → o.draft.space.objects ≡ d.space.objects → pages_for call o.answer ≡ 0 → Raises call d o
quiet call d o e f = let same = ap mark e in omega (arith, same, f)

by-reasons : (call : Call) (r : Option Answer) (d : Draft) (made : Outcome) → Refuses r → Raises call d made → Raises call d (unless r d made)
by-reasons call None d made q h = h
by-reasons call (Some a) d made q h = quiet call d (unchanged a d) refl (refused-none call a q)

-- ---- malloc
mallocs : (call : Call) (n : ℕ) (d : Draft) → ((object pointer : ℕ) → pages_for call (answers.Given object pointer) ≡ shadow_pages (room_of n)) → Raises call d (malloc_plan n d)
unfolding malloc_plan
mallocs call n d is =
    by-reasons call (first_reason (malloc_reasons n d)) d (malloc_in n (next_block d.space.heap (room_of n)) d) (first_refuses (malloc_reasons n d) (refl, (refl, tt)))
    (mark-grant (shadow_pages (room_of n)) n ((next_block d.space.heap (room_of n)).start + 16) d.space.objects ∙ ap (λ pages. mark d.space.objects + pages) (sym (is _ _)))

plain-mallocs : (call : Call) (n : ℕ) (d : Draft) → ((pointer : ℕ) → pages_for call (answers.Placed pointer) ≡ 0) → Raises call d (plain_malloc_plan n d)
unfolding plain_malloc_plan
plain-mallocs call n d is =
    let made = plain_malloc_in n (next_block d.space.heap (room_of n)) d in
    by-reasons call (first_reason (plain_reasons (room_of n) d)) d made (first_refuses (plain_reasons (room_of n) d) (refl, tt)) (quiet call d made refl (is _))

-- ---- free
flushed : (b : Bool) (harts : ℕ) (d : Draft) → (flush_where b harts d).space.objects ≡ d.space.objects
flushed true harts d = refl
flushed false harts d = refl

frees : (terms : Terms) (pointer : ℕ) (found : Found) (d : Draft) → Raises (calls.Free pointer) d (free_plan terms pointer found d)
unfolding free_plan
frees terms pointer found d = go (object_at d.space.objects pointer)
  where
    go : (o : Option Seen) → Raises (calls.Free pointer) d (free_seen o terms found d)
    go None = quiet (calls.Free pointer) d (unchanged answers.NotAnObject d) refl refl
    go (Some s) =
        let w = let_wait terms s d in
        by-reasons (calls.Free pointer) (first_reason (object_reasons (Some s) found)) d (freed s.number terms w) (first_refuses (object_reasons (Some s) found) (object_refuses s found))
        (let same = ap mark (flushed (is_full terms w.space) terms.harts w) in let killed = mark-kill s.number terms.call d.space.objects in omega (arith, same, killed))

-- ---- realloc
placed : (b : Bool) (n : ℕ) (d : Draft) → (place_where b n d).space.objects ≡ d.space.objects
placed true n d = refl
placed false n d = refl

module _ (pointer n : ℕ) (terms : Terms) (s : Seen) (d : Draft) where
  in-block : (b : Bool) (block : Block) → shadow_pages block.room ≡ shadow_pages (room_of n) → Raises (calls.Realloc pointer n) d (realloc_in b terms s n block d)
  in-block b block e =
      let old = (place_where b n d).space.objects in
      let same = ap mark (placed b n d) in
      let granted = mark-grant (shadow_pages block.room) n (block.start + 16) old in
      let killed = mark-kill s.number terms.call (grant (shadow_pages block.room) n (block.start + 16) old) in
      omega (arith, same, granted, killed, e)

  made : (b : Bool) → stays s.fact n ≡ b → Raises (calls.Realloc pointer n) d (realloc_made b terms s n d)
  made true e = in-block true (block_for true s.fact n d) (room-pages (room_of n) (room_of s.fact.size) e)
  made false e = in-block false (block_for false s.fact n d) refl

reallocs : (terms : Terms) (pointer n : ℕ) (found : Found) (d : Draft) → Raises (calls.Realloc pointer n) d (realloc_plan terms pointer n found d)
unfolding realloc_plan
reallocs terms pointer n found d = go (object_at d.space.objects pointer)
  where
    go : (o : Option Seen) → Raises (calls.Realloc pointer n) d (realloc_seen o terms n found d)
    go None = quiet (calls.Realloc pointer n) d (unchanged answers.NotAnObject d) refl refl
    go (Some s) =
        by-reasons (calls.Realloc pointer n) (first_reason (realloc_reasons (Some s) n found d)) d (realloc_made (stays s.fact n) terms s n d)
        (first_refuses (realloc_reasons (Some s) n found d) (realloc_refuses s n found d)) (made pointer n terms s d (stays s.fact n) refl)

-- ---- the plain heap grants no object
unmapped : (harts : ℕ) (pages : List ℕ) (d : Draft) → (unmap_emptied pages harts d).space.objects ≡ d.space.objects
unmapped harts [] d = refl
unmapped harts (page ∷ pages) d = refl

plain-frees : (harts pointer : ℕ) (d : Draft) → Raises (calls.Free pointer) d (plain_free_plan harts pointer d)
unfolding plain_free_plan
plain-frees harts pointer d = go (block_of_user d.space.heap.held pointer)
  where
    go : (o : Option Block) → Raises (calls.Free pointer) d (plain_free_of o harts d)
    go None = quiet (calls.Free pointer) d (plain_free_of None harts d) refl refl
    go (Some block) = quiet (calls.Free pointer) d (plain_free_of (Some block) harts d) (unmapped harts (emptied_pages d.space.heap.held block) d) refl

plain-refuses : (b : Bool) (n : ℕ) (d : Draft) → AreRefusals (cond b [] (plain_reasons (room_of n) d))
plain-refuses true n d = tt
plain-refuses false n d = (refl, tt)

plain-reallocs : (harts pointer n size : ℕ) (d : Draft) → Raises (calls.Realloc pointer n) d (plain_realloc_plan harts pointer n size d)
unfolding plain_realloc_plan
plain-reallocs harts pointer n size d = go (block_of_user d.space.heap.held pointer)
  where
    sized : (b : Bool) (old : Block) (bytes : ℕ) → Raises (calls.Realloc pointer n) d (plain_resize b harts old n bytes d)
    sized true old bytes = quiet (calls.Realloc pointer n) d (plain_resize true harts old n bytes d) refl refl
    sized false old bytes =
        let block = next_block d.space.heap (room_of n) in
        let copied = copy_block old block bytes (place_plain n block d) in
        quiet (calls.Realloc pointer n) d (plain_resize false harts old n bytes d) (unmapped harts (emptied_pages copied.space.heap.held old) copied) refl

    go : (o : Option Block) → Raises (calls.Realloc pointer n) d (plain_realloc_of o harts n size d)
    go None = quiet (calls.Realloc pointer n) d (plain_realloc_of None harts n size d) refl refl
    go (Some block) =
        by-reasons (calls.Realloc pointer n) (first_reason (plain_realloc_reasons (Some block) n d)) d (plain_resize (is_room (room_of n) block.room) harts block n (kept_bytes block size n) d)
        (first_refuses (plain_realloc_reasons (Some block) n d) (plain-refuses (is_room (room_of n) block.room) n d))
        (sized (is_room (room_of n) block.room) block (kept_bytes block size n))

-- ---- on either heap
pub malloc-raises : (kind : HeapKind) (n : ℕ) (d : Draft) → Raises (calls.Malloc n) d (malloc_by kind n d)
malloc-raises Oscar n d = mallocs (calls.Malloc n) n d (λ object pointer. refl)
malloc-raises Plain n d = plain-mallocs (calls.Malloc n) n d (λ pointer. refl)

-- a realloc of no object is a malloc
pub null-raises : (kind : HeapKind) (pointer n : ℕ) (d : Draft) → Raises (calls.Realloc pointer n) d (malloc_by kind n d)
null-raises Oscar pointer n d = mallocs (calls.Realloc pointer n) n d (λ object new. refl)
null-raises Plain pointer n d = plain-mallocs (calls.Realloc pointer n) n d (λ new. refl)

pub free-raises : (kind : HeapKind) (terms : Terms) (pointer : ℕ) (found : Found) (d : Draft) → Raises (calls.Free pointer) d (free_of kind terms pointer found d)
free-raises kind terms pointer found d = go (pointer == 0) kind
  where
    go : (b : Bool) (kind : HeapKind) → Raises (calls.Free pointer) d (cond b (unchanged answers.Nothing d) (free_by kind terms pointer found d))
    go true kind = quiet (calls.Free pointer) d (unchanged answers.Nothing d) refl refl
    go false Oscar = frees terms pointer found d
    go false Plain = plain-frees terms.harts pointer d

pub realloc-raises : (kind : HeapKind) (terms : Terms) (pointer n : ℕ) (found : Found) (d : Draft) → Raises (calls.Realloc pointer n) d (realloc_by kind terms pointer n found d)
realloc-raises Oscar terms pointer n found d = reallocs terms pointer n found d
realloc-raises Plain terms pointer n found d = plain-reallocs terms.harts pointer n found.second d

-- ---- what is given back
blocks-keep : (blocks : List Block) (d : Draft) → (give_blocks blocks d).space.objects ≡ d.space.objects
blocks-keep [] d = refl
blocks-keep (block ∷ blocks) d = blocks-keep blocks _

pub finished-keeps : (closing : Closing) (d : Draft) → (finished closing d).space.objects ≡ d.space.objects
unfolding finished
finished-keeps Keeps d = refl
finished-keeps (GivesBack blocks) d = blocks-keep blocks d
