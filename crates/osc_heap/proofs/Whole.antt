-- Areas that are made, cleared and copied as a whole.
use Rattle.std.proofs.Common.{ℕ, zero, suc, ◌≡◌, ◌<◌, ◌≤◌, ◌+◌, Bool, true, false, cond, List, [], ◌∷◌, ◌++◌, Some, length, map, take, drop, get_or, replicate, slice_get, slice_set, arith, refl, sym, ap, ◌∙◌, subst}
use Rattle.std.specs.List.{list_any}
use Rattle.std.proofs.lemmas.Bool.Decides.{nat_tests}
use Rattle.std.proofs.lemmas.Grind.{common_steps}
use Rattle.osc_class.specs.declared.Room.{Room}
use Rattle.osc_slot.specs.declared.Block.{Block}
use Rattle.osc_slot.specs.declared.HeapPage.{HeapPage}
use Rattle.osc_slot.specs.Areas.{slots_in}
use Rattle.osc_slot.specs.Heap.{Heap, give_back, copy, rename, empty_heap, IsHeap, FramesAgree, AreNames, AreTaken, HaveFrames, free_count}
use Rattle.std.proofs.lemmas.List.Sums.{sum_by-cons}
use Rattle.osc_slot.proofs.Backing.{free_count-le, free_count-give_back, length-give_back}
use Rattle.osc_slot.proofs.Copying.{empty_is_heap, clear_keeps, copy_is_heap}
use Rattle.osc_heap.specs.Layout.{room_at, blocks_of_row, blocks_from, AreSized, all_free, free_row, AreFree, CanGiveBack, heap_of, AreParts}
use Rattle.osc_heap.proofs.Giving.{can_give}
use Rattle.osc_heap.proofs.Changes.{row_sized}

-- a row of which no slot is held stands for no block
no_row : (frames : ℕ) (room : Room) (from : ℕ) (row : List Bool) (rest : List Block) → list_any (λ held. held) row ≡ false → blocks_of_row frames room from row rest ≡ rest
unfolding blocks_of_row
no_row frames room from [] rest f = refl
no_row frames room from (true ∷ row) rest f = cc
no_row frames room from (false ∷ row) rest f = no_row frames room (from + 1) row rest f

pub no_blocks : (frames area : ℕ) (rows : List (List Bool)) → all_free rows ≡ true → blocks_from frames area rows ≡ []
unfolding blocks_from
no_blocks frames area [] f = refl
no_blocks frames area (row ∷ rows) f =
    no_row frames (room_at area) 0 row (blocks_from frames (area + 1) rows) (grind (arith, nat_tests)) ∙ no_blocks frames (area + 1) rows (grind (arith, nat_tests))

pub no_held : (n : ℕ) → list_any (λ (held : Bool). held) (replicate n false) ≡ false
no_held zero = refl
no_held (suc n) = no_held n

-- one free area more
pub sized_push : (frames area : ℕ) (rows : List (List Bool)) (row : List Bool) → AreSized frames area rows → length row ≡ slots_in frames (room_at (area + length rows)) → AreSized frames area (rows ++ row ∷ [])
unfolding AreSized
sized_push frames area [] row z l = let e : area + 0 ≡ area = omega arith in (rw e at l, tt)
sized_push frames area (r ∷ rows) row z l = let e : area + suc (length rows) ≡ area + 1 + length rows = omega arith in (z.0, sized_push frames (area + 1) rows row z.1 (rw e at l))

pub free_push : (rows : List (List Bool)) (n : ℕ) → all_free rows ≡ true → all_free (rows ++ replicate n false ∷ []) ≡ true
free_push [] n f = let e = no_held n in rw e refl
free_push (row ∷ rows) n f = let later = free_push rows n in grind (arith, nat_tests, later)

pub length-free_row : (n : ℕ) → length (replicate n false) ≡ n
length-free_row n = grind (arith, common_steps)

-- areas that were cleared
pub sized_cleared : (frames area : ℕ) (rows : List (List Bool)) → AreSized frames area rows → AreSized frames area (map free_row rows)
unfolding AreSized
sized_cleared frames area [] z = tt
sized_cleared frames area (row ∷ rows) z = (length-free_row (length row) ∙ z.0, sized_cleared frames (area + 1) rows z.1)

pub free_cleared : (rows : List (List Bool)) → all_free (map free_row rows) ≡ true
free_cleared [] = refl
free_cleared (row ∷ rows) = let e = no_held (length row) in let later = free_cleared rows in rw e later

length_cleared : (rows : List (List Bool)) → length (map free_row rows) ≡ length rows
length_cleared [] = refl
length_cleared (row ∷ rows) = ap suc (length_cleared rows)

pub cleared_is_free : (frames : ℕ) (rows : List (List Bool)) → length rows ≡ 13 + frames → AreSized frames 0 rows → AreFree frames (map free_row rows)
cleared_is_free frames rows l z = record { areas = length_cleared rows ∙ l; sized = sized_cleared frames 0 rows z; free = free_cleared rows }

-- the parts of an empty heap
pub empty_parts : (frames : ℕ) (rows : List (List Bool)) (capacity : ℕ) → frames ≤ 4096 → AreFree frames rows → frames ≤ capacity → AreParts frames rows [] capacity
empty_parts frames rows capacity m f c =
    let none = no_blocks frames 0 rows f.free in
    let P : List Block → Type 0 = λ held. IsHeap (record { frames = frames; held = held; pages = [] }) in
    record { most = m; areas = f.areas; sized = f.sized; is_heap = subst P (sym none) (empty_is_heap frames); room_for_all = c }

pub empty_view : (frames : ℕ) (rows : List (List Bool)) → AreFree frames rows → heap_of frames rows [] ≡ empty_heap frames
empty_view frames rows f = ap (λ held. record { frames = frames; held = held; pages = [] }) (no_blocks frames 0 rows f.free)

pub no_areas : (frames : ℕ) → AreSized frames 0 []
unfolding AreSized
no_areas frames = tt

-- one area more that is cleared
pub put_cleared : (rows : List (List Bool)) (i : ℕ) (x : List Bool) → i < length rows → x ≡ get_or (map free_row (take i rows) ++ drop i rows) i x
    → slice_set (map free_row (take i rows) ++ drop i rows) i (free_row x) ≡ map free_row (take (i + 1) rows) ++ drop (i + 1) rows
put_cleared [] i x l e = absurd (omega arith)
put_cleared (row ∷ rows) zero x l e = ap (λ y. free_row y ∷ rows) e
put_cleared (row ∷ rows) (suc i) x l e = let s : suc i + 1 ≡ suc (i + 1) = omega arith in rw s (ap (λ ys. free_row row ∷ ys) (put_cleared rows i x (omega arith) e))

-- one area more that is copied
pub put_copied : (from into : List (List Bool)) (i : ℕ) (x : List Bool) → i < length from → i < length into → x ≡ get_or from i x
    → slice_set (take i from ++ drop i into) i x ≡ take (i + 1) from ++ drop (i + 1) into
put_copied [] into i x l m e = absurd (omega arith)
put_copied (a ∷ from) [] i x l m e = absurd (omega arith)
put_copied (a ∷ from) (b ∷ into) zero x l m e = ap (λ y. y ∷ into) e
put_copied (a ∷ from) (b ∷ into) (suc i) x l m e = let s : suc i + 1 ≡ suc (i + 1) = omega arith in rw s (ap (λ ys. a ∷ ys) (put_copied from into i x (omega arith) (omega arith) e))

-- one area more that is cleared, in the list that is there
pub cleared_next : (rows now : List (List Bool)) (i : ℕ) (x y : List Bool) → now ≡ map free_row (take i rows) ++ drop i rows → i < length rows → x ≡ get_or now i x → y ≡ free_row x → slice_set now i y ≡ map free_row (take (i + 1) rows) ++ drop (i + 1) rows
cleared_next rows now i x y n l e f = rw (n, f) (put_cleared rows i x l (e ∙ ap (λ ys. get_or ys i x) n))

pub copied_next : (from into now : List (List Bool)) (i : ℕ) (x y : List Bool) → now ≡ take i from ++ drop i into → i < length from → i < length into → x ≡ get_or from i x → y ≡ x → slice_set now i y ≡ take (i + 1) from ++ drop (i + 1) into
copied_next from into now i x y n l m e f = rw (n, f) (put_copied from into i x l m e)

at_drop : (xs ys : List (List Bool)) (j : ℕ) (d : List Bool) → j ≤ length xs → j < length ys → get_or (take j xs ++ drop j ys) j d ≡ get_or ys j d
at_drop xs ys zero d l m = refl
at_drop [] ys (suc j) d l m = absurd (omega arith)
at_drop (z ∷ xs) [] (suc j) d l m = absurd (omega arith)
at_drop (z ∷ xs) (y ∷ ys) (suc j) d l m = at_drop xs ys j d (omega arith) (omega arith)

same_read : (xs : List (List Bool)) (j : ℕ) (c d : List Bool) → j < length xs → get_or xs j c ≡ get_or xs j d
same_read [] j c d l = absurd (omega arith)
same_read (z ∷ xs) zero c d l = refl
same_read (z ∷ xs) (suc j) c d l = same_read xs j c d (omega arith)

-- the area that is copied next has its size still
pub next_size : (frames : ℕ) (from into : List (List Bool)) (i : ℕ) (x y : List Bool) → length into ≡ length from → AreSized frames 0 from → AreSized frames 0 into → i < length from
    → x ≡ get_or (take i from ++ drop i into) i x → y ≡ get_or from i y → length x ≡ length y
next_size frames from into i x y l s t h e f =
    let a = row_sized frames 0 i from s h in
    let b = row_sized frames 0 i into t (omega arith) in
    let d : x ≡ get_or into i x = e ∙ at_drop from into i x (omega arith) (omega arith) in
    let g : get_or into i x ≡ get_or into i [] = same_read into i x [] (omega arith) in
    let k : get_or from i y ≡ get_or from i [] = same_read from i y [] (omega arith) in
    ap length (d ∙ g) ∙ b ∙ sym a ∙ sym (ap length (f ∙ k))

-- the frames of a heap's pages are no more than the machine's
get_false : (frames i : ℕ) → i < frames → slice_get (replicate frames false) i ≡ Some false
get_false zero i l = absurd (omega arith)
get_false (suc frames) zero l = refl
get_false (suc frames) (suc i) l = get_false frames i (omega arith)

taken_all : (frames : ℕ) (n : ℕ) (pages : List HeapPage) → n ≤ frames → HaveFrames n pages → AreTaken (replicate frames false) pages
unfolding AreTaken HaveFrames
taken_all frames n [] l h = tt
taken_all frames n (p ∷ pages) l h = (get_false frames p.frame (let m = h.0 in omega arith), taken_all frames n pages l h.2)

none_free : (n : ℕ) → free_count (replicate n false) ≡ 0
none_free zero = refl
none_free (suc n) = let e = sum_by-cons (λ (b : Bool). cond b 1 0) false (replicate n false) in let later = none_free n in omega arith

pub pages_le : (frames : ℕ) (pages : List HeapPage) → HaveFrames frames pages → length pages ≤ frames
pages_le frames pages h =
    let given = free_count-give_back frames pages (replicate frames false) (taken_all frames frames pages (omega arith) h) h in
    let most = free_count-le (give_back pages (replicate frames false)) in
    let same = length-give_back pages (replicate frames false) in
    let none = none_free frames in
    let long = length-free_row frames in
    omega arith

pub frame_lt : (frames : ℕ) (pages : List HeapPage) (i : ℕ) (d : HeapPage) → HaveFrames frames pages → i < length pages → (get_or pages i d).frame < frames
unfolding HaveFrames
frame_lt frames [] i d h l = absurd (omega arith)
frame_lt frames (p ∷ pages) zero d h l = h.0
frame_lt frames (p ∷ pages) (suc i) d h l = frame_lt frames pages i d h.2 (omega arith)

-- the parts after all blocks were released
pub record Cleared (frames : ℕ) (rows : List (List Bool)) (pages : List HeapPage) (heap : Heap) (free left : List Bool) (after : ℕ) : Type 0 where
  pub heap_is : heap_of frames rows pages ≡ empty_heap heap.frames
  pub parts : AreParts frames rows pages after
  pub agree : FramesAgree (heap_of frames rows pages) left
  pub add_up : free_count left ≡ free_count free + length heap.pages

pub can_clear : (frames : ℕ) (rows : List (List Bool)) (pages : List HeapPage) (capacity : ℕ) (heap : Heap) (free : List Bool) → heap_of frames rows pages ≡ heap → AreParts frames rows pages capacity → FramesAgree heap free → CanGiveBack free pages
can_clear frames rows pages capacity heap free e p f =
    let P : Heap → Type 0 = λ h. FramesAgree h free in
    let g : FramesAgree (heap_of frames rows pages) free = subst P (sym e) f in
    can_give frames free pages g.taken p.is_heap.frames_apart

cleared_here : (frames : ℕ) (rows : List (List Bool)) (pages : List HeapPage) (capacity : ℕ) (free : List Bool) (after : ℕ) → AreParts frames rows pages capacity → FramesAgree (heap_of frames rows pages) free → capacity ≤ after
    → Cleared frames (map free_row rows) [] (heap_of frames rows pages) free (give_back pages free) after
cleared_here frames rows pages capacity free after p f l =
    let keeps = clear_keeps (heap_of frames rows pages) free p.is_heap f in
    let free_rows = cleared_is_free frames rows p.areas p.sized in
    let view = empty_view frames (map free_row rows) free_rows in
    let most = p.room_for_all in
    let P : Heap → Type 0 = λ h. FramesAgree h (give_back pages free) in
    let sum = keeps.add_up in
    record {
      heap_is = view;
      parts = empty_parts frames (map free_row rows) after p.most free_rows (omega arith);
      agree = subst P (sym view) keeps.frames_agree;
      add_up = omega arith;
    }

pub cleared : (frames : ℕ) (rows : List (List Bool)) (pages : List HeapPage) (capacity : ℕ) (heap : Heap) (free : List Bool) → heap_of frames rows pages ≡ heap → AreParts frames rows pages capacity → FramesAgree heap free
    → (now : List (List Bool)) (gone : List HeapPage) (left : List Bool) (after : ℕ) → now ≡ map free_row rows → gone ≡ [] → left ≡ give_back pages free → capacity ≤ after
    → Cleared frames now gone heap free left after
cleared frames rows pages capacity heap free e p f now gone left after n g l c =
    let P : Heap → Type 0 = λ h. FramesAgree h free in
    let at = cleared_here frames rows pages capacity free after p (subst P (sym e) f) c in
    let Q : Heap → Type 0 = λ h. Cleared frames now gone h free left after in
    subst Q e (rw (n, g, l) at)

-- the parts of a copy
pub record Copied (frames : ℕ) (rows : List (List Bool)) (pages : List HeapPage) (names : List ℕ) (heap : Heap) (after : ℕ) : Type 0 where
  pub heap_is : heap_of frames rows pages ≡ copy names heap
  pub parts : AreParts frames rows pages after
  pub valid : IsHeap heap

pub copied : (frames : ℕ) (rows : List (List Bool)) (pages : List HeapPage) (capacity : ℕ) (heap : Heap) (names : List ℕ) → heap_of frames rows pages ≡ heap → AreParts frames rows pages capacity → AreNames heap.frames names heap.pages
    → (others : ℕ) (now : List (List Bool)) (renamed : List HeapPage) (after : ℕ) → others ≡ frames → now ≡ rows → renamed ≡ map (rename names) pages → frames ≤ after
    → Copied others now renamed names heap after
copied frames rows pages capacity heap names e p a others now renamed after o n r c =
    let N : Heap → Type 0 = λ h. AreNames h.frames names h.pages in
    let is = copy_is_heap (heap_of frames rows pages) names p.is_heap (subst N (sym e) a) in
    let Q : Heap → Type 0 = λ h. Copied others now renamed names h after in
    subst Q e (rw (o, n, r) (record {
      heap_is = refl;
      parts = record { most = p.most; areas = p.areas; sized = p.sized; is_heap = is; room_for_all = c };
      valid = p.is_heap;
    }))
