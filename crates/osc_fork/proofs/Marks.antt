-- Frames that are to be copied, one more at a time.
use Rattle.std.proofs.Common.{ℕ, suc, ◌≡◌, ◌<◌, ◌+◌, ◌==◌, Bool, true, false, cond, inl, inr, Some, List, [], ◌∷◌, length, set, get_or, arith, refl, sym, subst, ◌∙◌}
use Rattle.std.specs.Prelude.{All, find, ◌⊎◌}
use Rattle.std.proofs.lemmas.Bool.Decides.{nat_tests}
use Rattle.std.proofs.lemmas.List.{length-set}
use Rattle.osc_slot.specs.declared.HeapPage.{HeapPage}
use Rattle.osc_slot.specs.Heap.{frame_of, frame_of_found, HaveFrames}
use Rattle.osc_paging.proofs.WordLists.{get_or-set}
use Rattle.osc_space.proofs.ForkLawProofs.{block_member}
use Rattle.osc_fork.specs.Names.{to_copy, MarksMore, AreFound, is_heap_frame, mark_all}

-- the frame of a page is one of the machine's
pub frame_small : (frames : ℕ) (pages : List HeapPage) (page frame : ℕ) → HaveFrames frames pages → frame_of pages page ≡ Some frame → frame < frames
unfolding HaveFrames
frame_small frames [] page frame h e = cc
frame_small frames (p ∷ pages) page frame h e = go (p.page == page) e (frame_small frames pages page frame h.2)
  where
    go : (b : Bool) → frame_of_found (cond b (Some p) (find (λ (x : HeapPage). x.page == page) pages)) ≡ Some frame → (frame_of pages page ≡ Some frame → frame < frames) → frame < frames
    go true f rest = let is : p.frame ≡ frame = cc in subst (λ n. n < frames) is h.0
    go false f rest = rest f

-- ---- one frame more
pub set_here : (names : List ℕ) (frame : ℕ) → frame < length names → get_or (set names frame to_copy) frame 0 ≡ to_copy
set_here names frame s = grind (arith, nat_tests, get_or-set names frame frame to_copy)

pub set_other : (names : List ℕ) (frame other : ℕ) → (other == frame) ≡ false → get_or (set names frame to_copy) other 0 ≡ get_or names other 0
set_other names frame other s = rw (get_or-set names frame other to_copy, s) refl

pub none_more : (pages : List HeapPage) (names : List ℕ) → MarksMore pages names names
none_more pages names = record { size = refl; each = λ f. inl refl }

pub one_more : (pages : List HeapPage) (old names : List ℕ) (page frame : ℕ) → frame < length names → frame_of pages page ≡ Some frame → MarksMore pages old names → MarksMore pages old (set names frame to_copy)
one_more pages old names page frame s e m = record {
  size = length-set names frame to_copy ∙ m.size;
  each = λ other. go other (other == frame) refl;
}
  where
    go : (other : ℕ) (b : Bool) → (other == frame) ≡ b → (get_or (set names frame to_copy) other 0 ≡ get_or old other 0) ⊎ ((get_or (set names frame to_copy) other 0 ≡ to_copy) × (is_heap_frame pages other ≡ true))
    go other true k =
        let is : frame ≡ other = grind (arith, nat_tests, k) in
        inr (subst (λ f. (get_or (set names frame to_copy) f 0 ≡ to_copy) × (is_heap_frame pages f ≡ true)) is (set_here names frame s, block_member pages page frame e))
    go other false k = subst (λ n. (n ≡ get_or old other 0) ⊎ ((n ≡ to_copy) × (is_heap_frame pages other ≡ true))) (sym (set_other names frame other k)) (m.each other)

-- what is to be copied stays so
pub stays : (pages : List HeapPage) (old new : List ℕ) (frame : ℕ) → MarksMore pages old new → get_or old frame 0 ≡ to_copy → get_or new frame 0 ≡ to_copy
stays pages old new frame m e = go (m.each frame)
  where
    go : (get_or new frame 0 ≡ get_or old frame 0) ⊎ ((get_or new frame 0 ≡ to_copy) × (is_heap_frame pages frame ≡ true)) → get_or new frame 0 ≡ to_copy
    go (inl k) = k ∙ e
    go (inr k) = k.0

pub more_then : (pages : List HeapPage) (a b c : List ℕ) → MarksMore pages a b → MarksMore pages b c → MarksMore pages a c
more_then pages a b c m n = record { size = n.size ∙ m.size; each = λ frame. go frame (n.each frame) }
  where
    go : (frame : ℕ) → (get_or c frame 0 ≡ get_or b frame 0) ⊎ ((get_or c frame 0 ≡ to_copy) × (is_heap_frame pages frame ≡ true)) → (get_or c frame 0 ≡ get_or a frame 0) ⊎ ((get_or c frame 0 ≡ to_copy) × (is_heap_frame pages frame ≡ true))
    go frame (inl k) = subst (λ n. (n ≡ get_or a frame 0) ⊎ ((n ≡ to_copy) × (is_heap_frame pages frame ≡ true))) (sym k) (m.each frame)
    go frame (inr k) = inr k

pub found_one : (pages : List HeapPage) (first k frame : ℕ) (names : List ℕ) → frame < length names → frame_of pages (first + k) ≡ Some frame → AreFound pages first k names → AreFound pages first (k + 1) (set names frame to_copy)
found_one pages first k frame names s e found j other below f = go (j == k) refl
  where
    keep : get_or names other 0 ≡ to_copy → (b : Bool) → (other == frame) ≡ b → get_or (set names frame to_copy) other 0 ≡ to_copy
    keep h true i = let is : frame ≡ other = grind (arith, nat_tests, i) in subst (λ n. get_or (set names frame to_copy) n 0 ≡ to_copy) is (set_here names frame s)
    keep h false i = set_other names frame other i ∙ h

    go : (b : Bool) → (j == k) ≡ b → get_or (set names frame to_copy) other 0 ≡ to_copy
    go true i =
        let at : j ≡ k = grind (arith, nat_tests, i) in
        let here : frame_of pages (first + k) ≡ Some other = subst (λ n. frame_of pages (first + n) ≡ Some other) at f in
        let is : frame ≡ other = cc in
        subst (λ n. get_or (set names frame to_copy) n 0 ≡ to_copy) is (set_here names frame s)
    go false i = keep (found j other (grind (arith, nat_tests, i, below)) f) (other == frame) refl

pub still_found : (pages : List HeapPage) (first count : ℕ) (old new : List ℕ) → MarksMore pages old new → AreFound pages first count old → AreFound pages first count new
still_found pages first count old new m found k frame s e = stays pages old new frame m (found k frame s e)

-- ---- pages in a row
pub record MarksOne (end names : List ℕ) (frame : ℕ) (frames : List ℕ) : Type 0 where
  pub left : mark_all frames (set names frame to_copy) ≡ end
  pub frames_small : All (λ (f : ℕ). f < length (set names frame to_copy)) frames
  pub here : frame < length names

pub marks_one : (end names : List ℕ) (frame : ℕ) (frames all : List ℕ) → all ≡ frame ∷ frames → mark_all all names ≡ end → All (λ (f : ℕ). f < length names) all → MarksOne end names frame frames
marks_one end names frame frames all e left small = go (subst (λ a. mark_all a names ≡ end) e left) (subst (λ a. All (λ (f : ℕ). f < length names) a) e small)
  where
    go : mark_all (frame ∷ frames) names ≡ end → All (λ (f : ℕ). f < length names) (frame ∷ frames) → MarksOne end names frame frames
    go left small = record {
      left = left;
      frames_small = λ k d s. rw (length-set names frame to_copy) (small (suc k) d (omega (arith, s)));
      here = small 0 0 (omega arith);
    }
