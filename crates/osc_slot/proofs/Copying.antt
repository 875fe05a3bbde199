-- What an empty heap, clearing and copying keep.
use Rattle.std.proofs.Common.{ℕ, suc, ◌≡◌, ◌==◌, ◌&&◌, ◌*◌, Bool, true, false, cond, List, [], ◌∷◌, Option, Some, None, is_some, length, map, find, slice_index, arith, refl, sym, ap, ◌∙◌}
use Rattle.std.specs.List.{list_any}
use Rattle.std.specs.Option.{option_map}
use Rattle.osc_slot.specs.declared.HeapPage.{HeapPage}
use Rattle.osc_slot.specs.Ordered.{AllAbove, IsAscending}
use Rattle.osc_slot.specs.Areas.{first_page}
use Rattle.osc_slot.specs.Slots.{is_on, is_small, block_frames}
use Rattle.osc_slot.specs.Heap.{Heap, clear, copy, empty_heap, rename, frame_of, frame_of_found, AreTaken, HaveFrames, ArePlaced, IsHeap, FramesAgree, Keeps, AreNames}
use Rattle.osc_slot.proofs.Counting.{passing_none}
use Rattle.osc_slot.proofs.Backing.{length-give_back, free_count-give_back}

no_frames : (frames : ℕ) → block_frames frames [] ≡ 0
unfolding block_frames
no_frames frames = let none = passing_none (λ page. list_any (λ b. is_small b && is_on page b) []) first_page (13 * frames) (λ i l m. refl) in omega arith

pub empty_is_heap : (frames : ℕ) → IsHeap (empty_heap frames)
unfolding IsAscending ArePlaced HaveFrames
empty_is_heap frames = record { ordered = tt; placed = tt; pages_ordered = tt; covered = λ page. refl; frames_apart = tt; count = sym (no_frames frames) }

pub clear_keeps : (heap : Heap) (free : List Bool) → IsHeap heap → FramesAgree heap free → Keeps heap free (clear heap free)
unfolding AreTaken
clear_keeps heap free h f =
    let given = free_count-give_back heap.frames heap.pages free f.taken h.frames_apart in
    record {
      is_heap = empty_is_heap heap.frames;
      same_frames = refl;
      frames_agree = record { count = length-give_back heap.pages free ∙ f.count; taken = tt };
      add_up = omega arith;
      stays = λ page there still. absurd (cc);
    }

above-rename : (names : List ℕ) (n : ℕ) (pages : List HeapPage) → AllAbove (λ (p : HeapPage). p.page) n pages → AllAbove (λ (p : HeapPage). p.page) n (map (rename names) pages)
unfolding AllAbove
above-rename names n [] a = tt
above-rename names n (p ∷ pages) a = (a.0, above-rename names n pages a.1)

ascending-rename : (names : List ℕ) (pages : List HeapPage) → IsAscending (λ (p : HeapPage). p.page) pages → IsAscending (λ (p : HeapPage). p.page) (map (rename names) pages)
unfolding IsAscending
ascending-rename names [] a = tt
ascending-rename names (p ∷ pages) a = (above-rename names p.page pages a.0, ascending-rename names pages a.1)

length-rename : (names : List ℕ) (pages : List HeapPage) → length (map (rename names) pages) ≡ length pages
length-rename names [] = refl
length-rename names (p ∷ pages) = ap suc (length-rename names pages)

-- the frame of a page of a copy
pub frame_of-rename : (names : List ℕ) (pages : List HeapPage) (page : ℕ) → frame_of (map (rename names) pages) page ≡ option_map (λ f. slice_index names f) (frame_of pages page)
frame_of-rename names [] page = refl
frame_of-rename names (p ∷ pages) page = go (p.page == page) (frame_of-rename names pages page)
  where
    go : (t : Bool) → frame_of (map (rename names) pages) page ≡ option_map (λ f. slice_index names f) (frame_of pages page)
        → frame_of_found (cond t (Some (rename names p)) (find (λ (q : HeapPage). q.page == page) (map (rename names) pages))) ≡ option_map (λ f. slice_index names f) (frame_of_found (cond t (Some p) (find (λ (q : HeapPage). q.page == page) pages)))
    go true later = refl
    go false later = later

still_some : (f : ℕ → ℕ) (x : Option ℕ) → is_some (option_map f x) ≡ is_some x
still_some f None = refl
still_some f (Some x) = refl

pub copy_is_heap : (heap : Heap) (names : List ℕ) → IsHeap heap → AreNames heap.frames names heap.pages → IsHeap (copy names heap)
copy_is_heap heap names h n = record {
  ordered = h.ordered;
  placed = h.placed;
  pages_ordered = ascending-rename names heap.pages h.pages_ordered;
  covered = λ page. ap is_some (frame_of-rename names heap.pages page) ∙ still_some (λ f. slice_index names f) (frame_of heap.pages page) ∙ h.covered page;
  frames_apart = n.1;
  count = length-rename names heap.pages ∙ h.count;
}

pub empty_agrees : (free : List Bool) → FramesAgree (empty_heap (length free)) free
unfolding AreTaken
empty_agrees free = record { count = refl; taken = tt }
