-- Blocks that are released one after another, each where it is held.
use Rattle.std.proofs.Common.{ℕ, zero, suc, ◌+◌, ◌*◌, ◌/◌, ◌^◌, ◌≡◌, ◌≢◌, ◌<◌, ◌≤◌, ◌==◌, ◌||◌, ◌&&◌, Bool, true, false, not, cond, Option, Some, None, is_some, List, [], ◌∷◌, length, filter, find, drop, get_or, arith, refl, ap, sym, ◌∙◌, subst, inl, inr}
use Rattle.std.specs.List.{list_any}
use Rattle.std.proofs.lemmas.Bool.Decides.{nat_tests}
use Rattle.osc_word.specs.declared.settings.HeapKind.{HeapKind}
use Rattle.osc_word.specs.declared.job_list.Job.{Job}
use Rattle.osc_class.specs.Rooms.{IsRoom}
use Rattle.osc_class.specs.declared.Room.{Room}
use Rattle.osc_class.specs.declared.Room.TheVariants.{Small, Pages}
use Rattle.osc_slot.specs.declared.Block.{Block}
use Rattle.osc_slot.specs.declared.HeapPage.{HeapPage}
use Rattle.osc_slot.specs.Ordered.{AllAbove, IsAscending}
use Rattle.osc_slot.specs.Areas.{first_page, area_of, slots_in, start_of, IsPlaced}
use Rattle.osc_slot.specs.Slots.{is_block, is_held, is_covered}
use Rattle.osc_slot.specs.Heap.{Heap, HeapAndFree, IsHeap, FramesAgree, ArePlaced, block_of_user, frame_of, without_block, release, give_back}
use Rattle.osc_slot.proofs.Backing.{has_page}
use Rattle.osc_slot.proofs.Bounds.{in_area}
use Rattle.osc_slot.proofs.HeldBlocks.{same_block, is_block_self, Found, found}
use Rattle.osc_slot.proofs.InOrder.{has_number, filter_same}
use Rattle.osc_slot.proofs.Releasing.{above_member}
use Rattle.osc_paging.specs.KeptTables.{KeptTables}
use Rattle.osc_paging.specs.TableChanges.{Changed, give_leaves}
use Rattle.osc_paging.proofs.Elsewhere.{some_piece}
use Rattle.osc_tables.specs.Calls.{HasTaken, changed}
use Rattle.osc_mark.specs.Grants.{Grants}
use Rattle.osc_space.specs.Space.{Space, Draft, Closing, Keeps, GivesBack, with_heap, change}
use Rattle.osc_space.specs.Finish.{give_blocks, none_waits, finished}
use Rattle.osc_shadow.specs.Parts.{space_of, draft_of}
use Rattle.osc_parts.specs.Frames.{among, frames_held, FramesFit, Trades}
use Rattle.osc_parts.proofs.Trading.{held_taken, fit_after}
use Rattle.osc_parts.proofs.Settling.{heap_frames}
use Rattle.osc_parts.proofs.Giving.{with_release, release_trades, any_table_held}
use Rattle.osc_parts.specs.PlanFits.{gives_block}
use Rattle.osc_settled.specs.Memory.{Returns, at_rest}
use Rattle.osc_plain.proofs.Lying.{Lies, held_lies}
use Rattle.osc_process.specs.Returns.{AreSmall, CanReturn, heap_and_free, blocks_given}
use Rattle.osc_process.proofs.Sizes.{finished_sizes}

-- ---- a block that is held is the one that starts there
held_found : (held : List Block) (b : Block) → IsAscending (λ (c : Block). c.start) held → is_held held b ≡ true → find (λ (c : Block). c.start + 16 == b.start + 16) held ≡ Some b
unfolding IsAscending
held_found [] b a e = absurd (let z : ⊥ = cc in z)
held_found (c ∷ held) b a e = go (is_block b c) refl (held_found held b a.1) e
  where
    go : (t : Bool) → is_block b c ≡ t → (is_held held b ≡ true → find (λ (x : Block). x.start + 16 == b.start + 16) held ≡ Some b) → (t || is_held held b) ≡ true
        → find (λ (x : Block). x.start + 16 == b.start + 16) (c ∷ held) ≡ Some b
    go true is later e =
        let same : b ≡ c = same_block b c is in
        let test : (c.start + 16 == b.start + 16) ≡ true = (let s : b.start ≡ c.start = ap (λ (x : Block). x.start) same in grind (arith, nat_tests, s)) in
        rw test (ap Some (sym same))
    go false is later e =
        let l = above_member c.start b held a.0 e in
        let test : (c.start + 16 == b.start + 16) ≡ false = grind (arith, nat_tests, l) in
        rw test (later e)

-- where it is not found, it is not held
unheld : (held : List Block) (b : Block) → IsAscending (λ (c : Block). c.start) held → block_of_user held (b.start + 16) ≢ Some b → is_held held b ≡ false
unheld held b a n = go (is_held held b) refl
  where
    go : (t : Bool) → is_held held b ≡ t → is_held held b ≡ false
    go true e = absurd (n (held_found held b a e))
    go false e = e

-- ---- a block that is not held is released without a change
without_same : (held : List Block) (b : Block) → is_held held b ≡ false → without_block b held ≡ held
without_same [] b e = refl
without_same (c ∷ held) b e = go (is_block b c) refl e (without_same held b)
  where
    go : (t : Bool) → is_block b c ≡ t → (t || is_held held b) ≡ false → (is_held held b ≡ false → without_block b held ≡ held) → cond (not t) (c ∷ without_block b held) (without_block b held) ≡ c ∷ held
    go true is e later = absurd (let z : ⊥ = cc in z)
    go false is e later = ap (λ xs. c ∷ xs) (later e)

filter_all : (pages : List HeapPage) → filter (λ (p : HeapPage). true) pages ≡ pages
filter_all [] = refl
filter_all (p ∷ pages) = ap (λ ps. p ∷ ps) (filter_all pages)

filter_none : (pages : List HeapPage) → filter (λ (p : HeapPage). not true) pages ≡ []
filter_none [] = refl
filter_none (p ∷ pages) = filter_none pages

covered_all : (heap : Heap) → IsHeap heap → (q : ℕ) → has_number (λ (p : HeapPage). p.page) q heap.pages ≡ true → is_covered heap.held q ≡ true
covered_all heap h q e = sym (h.covered q) ∙ (sym (has_page heap.pages q) ∙ e)

pub release_none : (heap : Heap) (b : Block) (free : List Bool) → IsHeap heap → block_of_user heap.held (b.start + 16) ≢ Some b → heap_and_free heap free ≡ release heap b free
unfolding release give_back
release_none heap b free h n =
    let out : without_block b heap.held ≡ heap.held = without_same heap.held b (unheld heap.held b h.ordered n) in
    let all : filter (λ (p : HeapPage). is_covered heap.held p.page) heap.pages ≡ heap.pages =
    filter_same (λ (p : HeapPage). p.page) (is_covered heap.held) (λ q. true) heap.pages (λ q e. covered_all heap h q e) ∙ filter_all heap.pages in
    let none : filter (λ (p : HeapPage). not (is_covered heap.held p.page)) heap.pages ≡ [] =
    filter_same (λ (p : HeapPage). p.page) (λ q. not (is_covered heap.held q)) (λ q. not true) heap.pages (λ q e. ap not (covered_all heap h q e)) ∙ filter_none heap.pages in
    rw (out, all, none) refl

-- ---- all of them
pub given_is : (blocks : List Block) (d : Draft) → give_blocks blocks d ≡ with_heap (blocks_given blocks (heap_and_free d.space.heap d.free)) d
given_is [] d = refl
given_is (b ∷ blocks) d = given_is blocks (with_heap (release d.space.heap b d.free) d)

-- the frames fit still
abbrev pub with_given : Space → HeapAndFree → Space
with_given s r = record s { heap = r.heap }

pub given_fits : (blocks : List Block) (s : Space) (free : List Bool) → FramesFit s free
    → FramesFit (with_given s (blocks_given blocks (heap_and_free s.heap free))) (blocks_given blocks (heap_and_free s.heap free)).free
    × (length (blocks_given blocks (heap_and_free s.heap free)).free ≡ length free)
given_fits [] s free k = (k, refl)
given_fits (b ∷ blocks) s free k =
    let t = release_trades s b free k in
    let r = release s.heap b free in
    let rest = given_fits blocks (with_release s b free) r.free (fit_after s (with_release s b free) free r.free k t) in
    (rest.0, rest.1 ∙ t.count)

pub has_taken : (s : Space) (free : List Bool) → FramesFit s free → length free ≡ s.tables.count → HasTaken s.tables free
has_taken s free k n = record {
  count = n;
  tables = λ f p e. held_taken s free f k (let a = any_table_held s f (inl (some_piece e)) in omega (arith, a));
  aside = λ f p e. held_taken s free f k (let a = any_table_held s f (inr (some_piece e)) in omega (arith, a));
}

-- ---- the return
pub finish_is : (t t1 : KeptTables) (g : Grants) (h h1 : Heap) (w w1 : List ℕ) (free mid after : List Bool) (blocks : List Block) (jobs : List Job)
    → heap_and_free h1 mid ≡ blocks_given blocks (heap_and_free h free) → w1 ≡ [] → changed t1 after jobs ≡ give_leaves (changed t mid jobs)
    → draft_of t1 g h1 w1 after jobs ≡ finished (GivesBack blocks) (draft_of t g h w free jobs)
unfolding finished
finish_is t t1 g h h1 w w1 free mid after blocks jobs e f k =
    ap (λ x. draft_of t1 g h1 x after jobs) f
    ∙ ap (λ (c : Changed). draft_of c.tables g h1 [] c.free c.jobs) k
    ∙ ap (λ (r : HeapAndFree). change give_leaves (none_waits (with_heap r (draft_of t g h w free jobs)))) e
    ∙ ap (λ x. change give_leaves (none_waits x)) (sym (given_is blocks (draft_of t g h w free jobs)))

pub finished_keeps : (d : Draft) → d ≡ finished Keeps d
unfolding finished
finished_keeps d = refl

-- ---- what a return has
pub frames_are : (closing : Closing) (s : Space) (free : List Bool) → CanReturn closing s free → s.heap.frames ≡ length free
frames_are closing s free r =
    let z = finished_sizes closing (at_rest s free) in
    sym z.frames ∙ (r.returns.parts.agrees.frames ∙ r.returns.gives.count)

pub count_is : (closing : Closing) (s : Space) (free : List Bool) → CanReturn closing s free → length free ≡ s.tables.count
count_is closing s free r =
    let z = finished_sizes closing (at_rest s free) in
    sym r.returns.gives.count ∙ (sym r.returns.parts.agrees.count ∙ z.count)

small_in : (heap : Heap) (blocks : List Block) → IsHeap heap → heap.frames ≤ 4096 → ((b : Block) → is_held blocks b ≡ true → is_held heap.held b ≡ true) → AreSmall blocks
small_in heap [] h l all = tt
small_in heap (b ∷ blocks) h l all =
    let self = is_block_self b in
    let lies = held_lies heap b h (all b (grind (arith, nat_tests, self))) l in
    let below = lies.below in
    (omega (arith, below), small_in heap blocks h l (λ c e. all c (grind (arith, nat_tests, e))))

pub small_blocks : (closing : Closing) (blocks : List Block) (s : Space) (free : List Bool) → CanReturn closing s free → closing ≡ GivesBack blocks → IsHeap s.heap → AreSmall blocks
small_blocks closing blocks s free r e h =
    let f = frames_are closing s free r in
    let few = r.few in
    small_in s.heap blocks h (omega (arith, f, few)) (λ b held. r.returns.blocks b (ap (λ k. gives_block k b) e ∙ held))

pub taken_after : (closing : Closing) (blocks : List Block) (s : Space) (free after : List Bool) (h : Heap) → CanReturn closing s free → heap_and_free h after ≡ blocks_given blocks (heap_and_free s.heap free) → HasTaken s.tables after
taken_after closing blocks s free after h r e =
    let fits = given_fits blocks s free r.frames in
    let b = blocks_given blocks (heap_and_free s.heap free) in
    subst (λ (x : HeapAndFree). HasTaken s.tables x.free) (sym e) (has_taken (with_given s b) b.free fits.0 (fits.1 ∙ count_is closing s free r))

-- another block starts there, or none does
pub release_other : (heap : Heap) (b other : Block) (found : Option Block) (free : List Bool) → IsHeap heap → found ≡ block_of_user heap.held (b.start + 16) → found ≡ Some other → is_block other b ≡ false → heap_and_free heap free ≡ release heap b free
release_other heap b other found free h e f n =
    release_none heap b free h (λ k. (let same : other ≡ b = cc in let self = is_block_self b in let z : is_block b b ≡ false = subst (λ x. is_block x b ≡ false) same n in let y : ⊥ = cc in y))

pub release_no : (heap : Heap) (b : Block) (found : Option Block) (free : List Bool) → IsHeap heap → found ≡ block_of_user heap.held (b.start + 16) → found ≡ None → heap_and_free heap free ≡ release heap b free
release_no heap b found free h e f = release_none heap b free h (λ k. (let z : ⊥ = cc in z))
