-- What releasing a block keeps.
use Rattle.std.proofs.Common.{ℕ, ◌≡◌, ◌<◌, ◌≤◌, ◌==◌, nat_lt, nat_le, ◌&&◌, ◌||◌, ◌+◌, Bool, true, false, not, cond, List, [], ◌∷◌, Option, None, is_some, length, filter, find, arith, refl, sym, ap, subst, ◌∙◌}
use Rattle.std.specs.List.{list_any}
use Rattle.std.proofs.lemmas.Bool.Decides.{nat_tests}
use Rattle.osc_class.specs.Rooms.{IsRoom}
use Rattle.osc_slot.specs.declared.Block.{Block}
use Rattle.osc_slot.specs.declared.HeapPage.{HeapPage}
use Rattle.osc_slot.specs.Ordered.{insert_by, AllAbove, IsAscending}
use Rattle.osc_slot.specs.Areas.{slots_in, page_of, block_at_slot, IsPlaced}
use Rattle.osc_slot.specs.Slots.{is_block, is_held, holds_in, is_on, is_covered, block_frames}
use Rattle.osc_slot.specs.Heap.{Heap, with_block, without_block, release, frame_of, frame_of_found, AreTaken, ArePlaced, IsHeap, FramesAgree, Keeps}
use Rattle.osc_slot.proofs.InOrder.{any-insert, any-filter, ascending-filter, insert-front, find-filter, filter_same, length-filter_both, length_range}
use Rattle.osc_slot.proofs.HeldBlocks.{same_block, Found, found}
use Rattle.osc_slot.proofs.Backing.{length-give_back, free_count-give_back, taken-give_back, frames-filter, has_page}
use Rattle.osc_slot.proofs.Fresh.{new_pages, Fresh, fresh, placed_is}

-- a held block starts above what all of them do
pub above_member : (n : ℕ) (b : Block) (held : List Block) → AllAbove (λ (c : Block). c.start) n held → is_held held b ≡ true → n < b.start
unfolding AllAbove
above_member n b [] a e = cc
above_member n b (c ∷ held) a e = go (is_block b c) refl (above_member n b held a.1) e
  where
    go : (t : Bool) → is_block b c ≡ t → (is_held held b ≡ true → n < b.start) → (t || is_held held b) ≡ true → n < b.start
    go true is later e = let same : b.start ≡ c.start = grind (arith, nat_tests, is) in let l = a.0 in omega arith
    go false is later e = later e

-- leaving a block out of those above it
none_out : (b : Block) (held : List Block) → AllAbove (λ (c : Block). c.start) b.start held → filter (λ c. not (is_block b c)) held ≡ held
unfolding AllAbove
none_out b [] a = refl
none_out b (c ∷ held) a =
    let later = none_out b held a.1 in
    let l = a.0 in
    let differ : (b.start == c.start) ≡ false = grind (arith, nat_tests) in
    rw differ (ap (λ xs. c ∷ xs) later)

-- a held block put back where it was left out
pub put_back : (b : Block) (held : List Block) → IsAscending (λ (c : Block). c.start) held → is_held held b ≡ true → with_block b (without_block b held) ≡ held
unfolding IsAscending insert_by
put_back b [] a e = cc
put_back b (c ∷ held) a e = go (is_block b c) refl (put_back b held a.1) e
  where
    go : (t : Bool) → is_block b c ≡ t → (is_held held b ≡ true → with_block b (without_block b held) ≡ held) → (t || is_held held b) ≡ true → with_block b (cond (not t) (c ∷ without_block b held) (without_block b held)) ≡ c ∷ held
    go true is later e =
        let same : b ≡ c = same_block b c is in
        let P : ℕ → Type 0 = λ n. AllAbove (λ (d : Block). d.start) n held in
        let above : AllAbove (λ (d : Block). d.start) b.start held = subst P (sym (ap (λ (d : Block). d.start) same)) a.0 in
        rw (none_out b held above) (insert-front (λ (d : Block). d.start) b held above ∙ ap (λ d. d ∷ held) same)
    go false is later e =
        let l = above_member c.start b held a.0 e in
        let first : nat_lt c.start b.start ≡ true = grind (arith, nat_tests, l) in
        rw first (ap (λ xs. c ∷ xs) (later e))

placed-filter : (frames : ℕ) (test : Block → Bool) (held : List Block) → ArePlaced frames held → ArePlaced frames (filter test held)
unfolding ArePlaced
placed-filter frames test [] p = tt
placed-filter frames test (b ∷ held) p = go (test b) (placed-filter frames test held p.1)
  where
    go : (t : Bool) → ArePlaced frames (filter test held) → ArePlaced frames (cond t (b ∷ filter test held) (filter test held))
    go true later = (p.0, later)
    go false later = later

never : {X : Type 0} (f : X → Bool) (xs : List X) → list_any (λ x. f x && not (f x)) xs ≡ false
never f [] = refl
never f (x ∷ xs) = let later = never f xs in grind (arith, nat_tests, later)

left_out : (b : Block) (held : List Block) → is_held (without_block b held) b ≡ false
left_out b held = any-filter (λ (c : Block). c.start) (λ c. is_block b c) (λ c. not (is_block b c)) held ∙ never (λ c. is_block b c) held

pub taken-filter : (free : List Bool) (test : HeapPage → Bool) (pages : List HeapPage) → AreTaken free pages → AreTaken free (filter test pages)
unfolding AreTaken
taken-filter free test [] t = tt
taken-filter free test (p ∷ pages) t = go (test p) (taken-filter free test pages t.1)
  where
    go : (u : Bool) → AreTaken free (filter test pages) → AreTaken free (cond u (p ∷ filter test pages) (filter test pages))
    go true later = (t.0, later)
    go false later = later

-- what a held block is beside the others
pub record Last (heap : Heap) (block : Block) : Type 0 where
  pub slot : ℕ
  pub room : IsRoom block.room
  pub is : block ≡ block_at_slot heap.frames block.room slot
  pub within : slot < slots_in heap.frames block.room
  pub n : ℕ
  pub n_is : n ≡ new_pages heap.frames (without_block block heap.held) block.room slot
  pub fresh : Fresh heap.frames (without_block block heap.held) block.room slot n
  pub whole : with_block block (without_block block heap.held) ≡ heap.held

pub last : (heap : Heap) (block : Block) → IsHeap heap → is_held heap.held block ≡ true → Last heap block
last heap block h e = go (found heap.frames (λ b. is_block block b) heap.held h.placed e)
  where
    at : (b : Block) → block ≡ b → IsPlaced heap.frames b → IsPlaced heap.frames block
    at b same p = let P : Block → Type 0 = λ c. IsPlaced heap.frames c in subst P (sym same) p

    by : IsPlaced heap.frames block → Last heap block
    by p =
        let is = placed_is heap.frames block p in
        let free : holds_in heap.frames (without_block block heap.held) block.room p.slot ≡ false = ap (λ b. is_held (without_block block heap.held) b) (sym is) ∙ left_out block heap.held in
        record {
          slot = p.slot;
          room = p.room;
          is = is;
          within = p.within;
          n = new_pages heap.frames (without_block block heap.held) block.room p.slot;
          n_is = refl;
          fresh = fresh heap.frames (without_block block heap.held) block.room p.slot p.room p.within (placed-filter heap.frames (λ c. not (is_block block c)) heap.held h.placed) free;
          whole = put_back block heap.held h.ordered e;
        }

    go : Found heap.frames (λ b. is_block block b) heap.held → Last heap block
    go f = by (at f.block (same_block block f.block f.passes) f.placed)

-- the pages of a heap by what covers them
covered_by : (heap : Heap) (block : Block) (x : Last heap block) (q : ℕ) → is_covered heap.held q ≡ (is_on q block || is_covered (without_block block heap.held) q)
covered_by heap block x q = ap (λ held. is_covered held q) (sym x.whole) ∙ any-insert (λ (b : Block). b.start) (λ b. is_on q b) block (without_block block heap.held)

-- the pages that hold no block any more are the block's own
pub emptied : (heap : Heap) (block : Block) (x : Last heap block) (q : ℕ) → is_covered heap.held q ≡ true
    → not (is_covered (without_block block heap.held) q) ≡ (nat_le (page_of heap.frames block.room x.slot) q && nat_lt q (page_of heap.frames block.room x.slot + x.n))
emptied heap block x q e =
    let by : ((nat_le (page_of heap.frames block.room x.slot) q && nat_lt q (page_of heap.frames block.room x.slot + x.n)) || is_covered (without_block block heap.held) q) ≡ true =
    x.fresh.pages q ∙ ap (λ b. is_on q b || is_covered (without_block block heap.held) q) (sym x.is) ∙ sym (covered_by heap block x q) ∙ e in
    let empty = x.fresh.empty q in
    go (is_covered (without_block block heap.held) q) refl by empty
  where
    go : (t : Bool) → is_covered (without_block block heap.held) q ≡ t
        → ((nat_le (page_of heap.frames block.room x.slot) q && nat_lt q (page_of heap.frames block.room x.slot + x.n)) || t) ≡ true
        → (page_of heap.frames block.room x.slot ≤ q → q < page_of heap.frames block.room x.slot + x.n → t ≡ false)
        → not t ≡ (nat_le (page_of heap.frames block.room x.slot) q && nat_lt q (page_of heap.frames block.room x.slot + x.n))
    go t is by empty = grind (arith, nat_tests, by, empty)

-- how many they are
emptied_count : (heap : Heap) (block : Block) → IsHeap heap → (x : Last heap block) → length (filter (λ (p : HeapPage). not (is_covered (without_block block heap.held) p.page)) heap.pages) ≡ x.n
emptied_count heap block h x =
    let same = filter_same (λ (p : HeapPage). p.page) (λ q. not (is_covered (without_block block heap.held) q)) (λ q. nat_le (page_of heap.frames block.room x.slot) q && nat_lt q (page_of heap.frames block.room x.slot + x.n)) heap.pages
    (λ q e. emptied heap block x q (sym (h.covered q) ∙ sym (has_page heap.pages q) ∙ e)) in
    rw same (length_range (λ (p : HeapPage). p.page) x.n (page_of heap.frames block.room x.slot) heap.pages h.pages_ordered (λ q low high. has_page heap.pages q ∙ h.covered q ∙ all q low high))
  where
    all : (q : ℕ) → page_of heap.frames block.room x.slot ≤ q → q < page_of heap.frames block.room x.slot + x.n → is_covered heap.held q ≡ true
    all q low high =
        let by = x.fresh.pages q in
        let e : (is_on q (block_at_slot heap.frames block.room x.slot) || is_covered (without_block block heap.held) q) ≡ true = sym by ∙ grind (arith, nat_tests) in
        covered_by heap block x q ∙ ap (λ b. is_on q b || is_covered (without_block block heap.held) q) x.is ∙ e

kept_page : (t : Bool) (x : Option HeapPage) → is_some (frame_of_found (cond t x None)) ≡ (t && is_some (frame_of_found x))
kept_page true x = refl
kept_page false x = refl

pub release_keeps : (heap : Heap) (block : Block) (free : List Bool) → IsHeap heap → FramesAgree heap free → is_held heap.held block ≡ true → Keeps heap free (release heap block free)
unfolding release
release_keeps heap block free h f e = go (last heap block h e)
  where
    go : Last heap block → Keeps heap free (release heap block free)
    go x =
        let count = emptied_count heap block h x in
        let both = length-filter_both (λ (p : HeapPage). p.page) (λ (p : HeapPage). is_covered (without_block block heap.held) p.page) heap.pages in
        let more : block_frames heap.frames heap.held ≡ x.n + block_frames heap.frames (without_block block heap.held) =
        ap (block_frames heap.frames) (sym x.whole) ∙ ap (λ b. block_frames heap.frames (with_block b (without_block block heap.held))) x.is ∙ x.fresh.more in
        let all = h.count in
        let given = free_count-give_back heap.frames (filter (λ (p : HeapPage). not (is_covered (without_block block heap.held) p.page)) heap.pages) free
        (taken-filter free (λ (p : HeapPage). not (is_covered (without_block block heap.held) p.page)) heap.pages f.taken)
        (frames-filter heap.frames (λ (p : HeapPage). not (is_covered (without_block block heap.held) p.page)) heap.pages h.frames_apart) in
        record {
          is_heap = record {
            ordered = ascending-filter (λ (b : Block). b.start) (λ b. not (is_block block b)) heap.held h.ordered;
            placed = placed-filter heap.frames (λ b. not (is_block block b)) heap.held h.placed;
            pages_ordered = ascending-filter (λ (p : HeapPage). p.page) (λ (p : HeapPage). is_covered (without_block block heap.held) p.page) heap.pages h.pages_ordered;
            covered = λ q. covered q x;
            frames_apart = frames-filter heap.frames (λ (p : HeapPage). is_covered (without_block block heap.held) p.page) heap.pages h.frames_apart;
            count = omega arith;
          };
          same_frames = refl;
          frames_agree = record {
            count = length-give_back (filter (λ (p : HeapPage). not (is_covered (without_block block heap.held) p.page)) heap.pages) free ∙ f.count;
            taken = taken-give_back heap.frames (λ (p : HeapPage). is_covered (without_block block heap.held) p.page) heap.pages free f.taken h.frames_apart;
          };
          add_up = omega arith;
          stays = λ q there still. ap frame_of_found (find-filter (λ (p : HeapPage). p.page) (λ r. is_covered (without_block block heap.held) r) q heap.pages ∙ ap (λ t. cond t (find (λ (p : HeapPage). p.page == q) heap.pages) None) still);
        }
      where
        covered : (q : ℕ) → Last heap block → is_some (frame_of (filter (λ (p : HeapPage). is_covered (without_block block heap.held) p.page) heap.pages) q) ≡ is_covered (without_block block heap.held) q
        covered q x =
            ap (λ y. is_some (frame_of_found y)) (find-filter (λ (p : HeapPage). p.page) (λ r. is_covered (without_block block heap.held) r) q heap.pages)
            ∙ kept_page (is_covered (without_block block heap.held) q) (find (λ (p : HeapPage). p.page == q) heap.pages)
            ∙ ap (λ t. is_covered (without_block block heap.held) q && t) (h.covered q ∙ covered_by heap block x q)
            ∙ absorbed (is_covered (without_block block heap.held) q) (is_on q block)
          where
            absorbed : (t u : Bool) → (t && (u || t)) ≡ t
            absorbed t u = grind (arith, nat_tests)
