-- How pages take frames and give them back.
use Rattle.std.proofs.Common.{ℕ, zero, suc, ◌≡◌, ◌<◌, ◌≤◌, ◌==◌, nat_lt, nat_le, ◌&&◌, ◌||◌, ◌+◌, Bool, true, false, not, cond, List, [], ◌∷◌, Option, Some, is_some, length, position, filter, find, slice_get, slice_set, arith, refl, sym, ap, ◌∙◌}
use Rattle.std.specs.List.{list_any}
use Rattle.std.proofs.lemmas.Bool.Decides.{nat_tests}
use Rattle.std.proofs.lemmas.List.Sums.{sum_by-cons, count_by-le-length}
use Rattle.osc_slot.specs.declared.HeapPage.{HeapPage}
use Rattle.osc_slot.specs.Ordered.{insert_by, IsAscending}
use Rattle.osc_slot.specs.Heap.{Backing, back_by, back, give_back, frame_of, frame_of_found, AreTaken, has_frame, HaveFrames, free_count}
use Rattle.osc_slot.proofs.InOrder.{any-insert, length-insert, find-insert, ascending-insert}

free_count-cons : (f : Bool) (free : List Bool) → free_count (f ∷ free) ≡ cond f 1 0 + free_count free
free_count-cons f free = sum_by-cons (λ (b : Bool). cond b 1 0) f free

pub free_count-le : (free : List Bool) → free_count free ≤ length free
free_count-le free = count_by-le-length (λ (f : Bool). f) free

-- the least free frame, where one is free
pub record LeastFree (free : List Bool) : Type 0 where
  pub frame : ℕ
  pub is : position (λ (f : Bool). f) free ≡ Some frame
  pub within : frame < length free
  pub is_free : slice_get free frame ≡ Some true

pub least_free : (free : List Bool) → 0 < free_count free → LeastFree free
least_free [] h = absurd (omega arith)
least_free (true ∷ free) h = record { frame = 0; is = grind (arith, nat_tests); within = omega arith; is_free = refl }
least_free (false ∷ free) h =
    let e = free_count-cons false free in
    let later = least_free free (omega arith) in
    let is = later.is in
    let within = later.within in
    record { frame = suc later.frame; is = grind (arith, nat_tests, is); within = omega arith; is_free = later.is_free }

-- a write to a list of truth values
pub get-set : (free : List Bool) (i j : ℕ) (y : Bool) → slice_get (slice_set free i y) j ≡ cond ((j == i) && is_some (slice_get free j)) (Some y) (slice_get free j)
get-set [] i j y = grind (arith, nat_tests)
get-set (f ∷ free) zero zero y = grind (arith, nat_tests)
get-set (f ∷ free) zero (suc j) y = grind (arith, nat_tests)
get-set (f ∷ free) (suc i) zero y = grind (arith, nat_tests)
get-set (f ∷ free) (suc i) (suc j) y = grind (arith, nat_tests, get-set free i j y)

pub length-set : (free : List Bool) (i : ℕ) (y : Bool) → length (slice_set free i y) ≡ length free
length-set [] i y = refl
length-set (f ∷ free) zero y = refl
length-set (f ∷ free) (suc i) y = ap suc (length-set free i y)

pub free_count-take : (free : List Bool) (i : ℕ) → slice_get free i ≡ Some true → suc (free_count (slice_set free i false)) ≡ free_count free
free_count-take [] i e = cc
free_count-take (f ∷ free) zero e = let is : f ≡ true = cc in let a = free_count-cons f free in let b = free_count-cons false free in grind (arith, a, b, is)
free_count-take (f ∷ free) (suc i) e = let a = free_count-cons f free in let b = free_count-cons f (slice_set free i false) in let later = free_count-take free i e in omega arith

pub free_count-give : (free : List Bool) (i : ℕ) → slice_get free i ≡ Some false → free_count (slice_set free i true) ≡ suc (free_count free)
free_count-give [] i e = cc
free_count-give (f ∷ free) zero e = let is : f ≡ false = cc in let a = free_count-cons f free in let b = free_count-cons true free in grind (arith, a, b, is)
free_count-give (f ∷ free) (suc i) e = let a = free_count-cons f free in let b = free_count-cons f (slice_set free i true) in let later = free_count-give free i e in omega arith

-- taken frames stay taken where another is taken
taken-take : (free : List Bool) (frame : ℕ) (pages : List HeapPage) → AreTaken free pages → AreTaken (slice_set free frame false) pages
unfolding AreTaken
taken-take free frame [] t = tt
taken-take free frame (p ∷ pages) t = ((let e = get-set free frame p.frame false in let h = t.0 in grind (arith, nat_tests, e, h)), taken-take free frame pages t.1)

pub taken-give : (free : List Bool) (frame : ℕ) (pages : List HeapPage) → has_frame frame pages ≡ false → AreTaken free pages → AreTaken (slice_set free frame true) pages
unfolding AreTaken
taken-give free frame [] n t = tt
taken-give free frame (p ∷ pages) n t = ((let e = get-set free frame p.frame true in let h = t.0 in grind (arith, nat_tests, e, h)), taken-give free frame pages (grind (arith, nat_tests)) t.1)

taken-insert : (free : List Bool) (p : HeapPage) (pages : List HeapPage) → slice_get free p.frame ≡ Some false → AreTaken free pages → AreTaken free (insert_by (λ (q : HeapPage). q.page) p pages)
unfolding AreTaken insert_by
taken-insert free p [] is t = (is, tt)
taken-insert free p (q ∷ pages) is t = go (nat_lt q.page p.page) (taken-insert free p pages is t.1)
  where
    go : (u : Bool) → AreTaken free (insert_by (λ (r : HeapPage). r.page) p pages) → AreTaken free (cond u (q ∷ insert_by (λ (r : HeapPage). r.page) p pages) (p ∷ q ∷ pages))
    go true later = (t.0, later)
    go false later = (is, t)

free_not_taken : (free : List Bool) (frame : ℕ) (pages : List HeapPage) → slice_get free frame ≡ Some true → AreTaken free pages → has_frame frame pages ≡ false
unfolding AreTaken
free_not_taken free frame [] f t = refl
free_not_taken free frame (p ∷ pages) f t = go (p.frame == frame) refl (free_not_taken free frame pages f t.1) t.0
  where
    go : (u : Bool) → (p.frame == frame) ≡ u → has_frame frame pages ≡ false → slice_get free p.frame ≡ Some false → (u || has_frame frame pages) ≡ false
    go true e later here = absurd (let same : p.frame ≡ frame = grind (arith, nat_tests) in let a : slice_get free frame ≡ Some false = rw same at here in cc)
    go false e later here = later

-- frames of pages that are put in or left out
frames-insert : (frames : ℕ) (p : HeapPage) (pages : List HeapPage) → p.frame < frames → has_frame p.frame pages ≡ false → HaveFrames frames pages → HaveFrames frames (insert_by (λ (q : HeapPage). q.page) p pages)
unfolding HaveFrames insert_by
frames-insert frames p [] l n h = (l, refl, tt)
frames-insert frames p (q ∷ pages) l n h = go (nat_lt q.page p.page) (frames-insert frames p pages l (grind (arith, nat_tests)) h.2) (any-insert (λ (r : HeapPage). r.page) (λ (r : HeapPage). r.frame == q.frame) p pages) h.1
  where
    go : (t : Bool) → HaveFrames frames (insert_by (λ (r : HeapPage). r.page) p pages) → has_frame q.frame (insert_by (λ (r : HeapPage). r.page) p pages) ≡ ((p.frame == q.frame) || has_frame q.frame pages) → has_frame q.frame pages ≡ false
        → HaveFrames frames (cond t (q ∷ insert_by (λ (r : HeapPage). r.page) p pages) (p ∷ q ∷ pages))
    go true later put none = (h.0, rw put (grind (arith, nat_tests)), later)
    go false later put none = (l, n, h)

has_frame-filter : (test : HeapPage → Bool) (frame : ℕ) (pages : List HeapPage) → has_frame frame pages ≡ false → has_frame frame (filter test pages) ≡ false
has_frame-filter test frame [] n = refl
has_frame-filter test frame (p ∷ pages) n = let later = has_frame-filter test frame pages in grind (arith, nat_tests, later)

pub frames-filter : (frames : ℕ) (test : HeapPage → Bool) (pages : List HeapPage) → HaveFrames frames pages → HaveFrames frames (filter test pages)
unfolding HaveFrames
frames-filter frames test [] h = tt
frames-filter frames test (p ∷ pages) h = go (test p) (frames-filter frames test pages h.2) (has_frame-filter test p.frame pages h.1)
  where
    go : (t : Bool) → HaveFrames frames (filter test pages) → has_frame p.frame (filter test pages) ≡ false → HaveFrames frames (cond t (p ∷ filter test pages) (filter test pages))
    go true later none = (h.0, none, later)
    go false later none = later

-- whether a page has a frame
pub has_page : (pages : List HeapPage) (page : ℕ) → list_any (λ (p : HeapPage). p.page == page) pages ≡ is_some (frame_of pages page)
has_page [] page = refl
has_page (p ∷ pages) page = let later = has_page pages page in grind (arith, nat_tests, later)

-- pages beside the free frames of a machine
pub record Backs (frames : ℕ) (b : Backing) : Type 0 where
  pub count : length b.free ≡ frames
  pub taken : AreTaken b.free b.pages
  pub frames_apart : HaveFrames frames b.pages
  pub ordered : IsAscending (λ (p : HeapPage). p.page) b.pages

-- what so many pages more from one on make of them
pub record Backed (frames n first : ℕ) (b c : Backing) : Type 0 where
  pub backs : Backs frames c
  pub left : free_count c.free + n ≡ free_count b.free
  pub more : length c.pages ≡ n + length b.pages
  pub pages : (page : ℕ) → is_some (frame_of c.pages page) ≡ ((nat_le first page && nat_lt page (first + n)) || is_some (frame_of b.pages page))
  pub stays : (page : ℕ) → is_some (frame_of b.pages page) ≡ true → frame_of c.pages page ≡ frame_of b.pages page

frame_of-insert : (p : HeapPage) (pages : List HeapPage) (page : ℕ) → is_some (frame_of (insert_by (λ (q : HeapPage). q.page) p pages) page) ≡ ((p.page == page) || is_some (frame_of pages page))
frame_of-insert p pages page =
    let e = find-insert (λ (q : HeapPage). q.page) page p pages in
    let rest : Option HeapPage = find (λ (q : HeapPage). q.page == page) pages in
    rw e (go (p.page == page) (find (λ (q : HeapPage). q.page == page) pages))
  where
    go : (t : Bool) (x : Option HeapPage) → is_some (frame_of_found (cond t (Some p) x)) ≡ (t || is_some (frame_of_found x))
    go true x = refl
    go false x = refl

frame_of-insert_other : (p : HeapPage) (pages : List HeapPage) (page : ℕ) → is_some (frame_of pages p.page) ≡ false → is_some (frame_of pages page) ≡ true → frame_of (insert_by (λ (q : HeapPage). q.page) p pages) page ≡ frame_of pages page
frame_of-insert_other p pages page none there =
    let e = find-insert (λ (q : HeapPage). q.page) page p pages in
    rw e (go (p.page == page) refl)
  where
    go : (t : Bool) → (p.page == page) ≡ t → frame_of_found (cond t (Some p) (find (λ (q : HeapPage). q.page == page) pages)) ≡ frame_of pages page
    go true is = absurd (let same : p.page ≡ page = grind (arith, nat_tests) in let a : is_some (frame_of pages page) ≡ false = rw same at none in cc)
    go false is = refl

one_page : (page q : ℕ) → (page == q) ≡ (nat_le page q && nat_lt q (page + 1))
one_page page q = grind (arith, nat_tests)

back_once : (frames page : ℕ) (b : Backing) → Backs frames b → 0 < free_count b.free → is_some (frame_of b.pages page) ≡ false → Backed frames 1 page b (back_by page (position (λ (f : Bool). f) b.free) b)
back_once frames page b k l none = let f = least_free b.free l in rw f.is (by f)
  where
    by : (f : LeastFree b.free) → Backed frames 1 page b (back_by page (Some f.frame) b)
    by f =
        let fresh = free_not_taken b.free f.frame b.pages f.is_free k.taken in
        let absent : list_any (λ (p : HeapPage). p.page == page) b.pages ≡ false = has_page b.pages page ∙ none in
        record {
          backs = record {
            count = length-set b.free f.frame false ∙ k.count;
            taken = taken-insert (slice_set b.free f.frame false) (record { page = page; frame = f.frame }) b.pages (let e = get-set b.free f.frame f.frame false in let h = f.is_free in grind (arith, nat_tests, e, h)) (taken-take b.free f.frame b.pages k.taken);
            frames_apart = frames-insert frames (record { page = page; frame = f.frame }) b.pages (let w = f.within in let c = k.count in omega arith) fresh k.frames_apart;
            ordered = ascending-insert (λ (p : HeapPage). p.page) (record { page = page; frame = f.frame }) b.pages absent k.ordered;
          };
          left = (let e = free_count-take b.free f.frame f.is_free in omega arith);
          more = (let e = length-insert (λ (p : HeapPage). p.page) (record { page = page; frame = f.frame }) b.pages in omega arith);
          pages = λ q. frame_of-insert (record { page = page; frame = f.frame }) b.pages q ∙ ap (λ t. t || is_some (frame_of b.pages q)) (one_page page q);
          stays = λ q there. frame_of-insert_other (record { page = page; frame = f.frame }) b.pages q none there;
        }

two_ranges : (t : Bool) (first n q : ℕ) → ((nat_le (first + 1) q && nat_lt q (first + 1 + n)) || ((nat_le first q && nat_lt q (first + 1)) || t)) ≡ ((nat_le first q && nat_lt q (first + suc n)) || t)
two_ranges t first n q = grind (arith, nat_tests)

no_page : (first : ℕ) (t : Bool) (q : ℕ) → ((nat_le first q && nat_lt q (first + 0)) || t) ≡ t
no_page first t q = grind (arith, nat_tests)

still : (first page : ℕ) (t : Bool) → t ≡ true → ((nat_le first page && nat_lt page (first + 1)) || t) ≡ true
still first page t is = grind (arith, nat_tests, is)

pub back_all : (frames n first : ℕ) (b : Backing) → Backs frames b → n ≤ free_count b.free → ((q : ℕ) → first ≤ q → q < first + n → is_some (frame_of b.pages q) ≡ false) → Backed frames n first b (back n first b)
unfolding back
back_all frames zero first b k l none = record { backs = k; left = omega arith; more = omega arith; pages = λ q. sym (no_page first (is_some (frame_of b.pages q)) q); stays = λ q there. refl }
back_all frames (suc n) first b k l none =
    let once = back_once frames first b k (omega arith) (none first (omega arith) (omega arith)) in
    let c : Backing = back_by first (position (λ (f : Bool). f) b.free) b in
    let left = once.left in
    let more = once.more in
    let rest = back_all frames n (first + 1) (back_by first (position (λ (f : Bool). f) b.free) b) once.backs (omega arith)
    (λ q m o. once.pages q ∙ (let e = none q (omega arith) (omega arith) in grind (arith, nat_tests, e))) in
    let rest_left = rest.left in
    let rest_more = rest.more in
    record {
      backs = rest.backs;
      left = omega arith;
      more = omega arith;
      pages = λ q. rest.pages q ∙ ap (λ t. (nat_le (first + 1) q && nat_lt q (first + 1 + n)) || t) (once.pages q) ∙ two_ranges (is_some (frame_of b.pages q)) first n q;
      stays = λ q there. rest.stays q (once.pages q ∙ still first q (is_some (frame_of b.pages q)) there) ∙ once.stays q there;
    }

-- what giving the frames of pages back makes of the free ones
pub length-give_back : (pages : List HeapPage) (free : List Bool) → length (give_back pages free) ≡ length free
unfolding give_back
length-give_back [] free = refl
length-give_back (p ∷ pages) free = length-give_back pages (slice_set free p.frame true) ∙ length-set free p.frame true

pub free_count-give_back : (frames : ℕ) (pages : List HeapPage) (free : List Bool) → AreTaken free pages → HaveFrames frames pages → free_count (give_back pages free) ≡ free_count free + length pages
unfolding give_back AreTaken HaveFrames
free_count-give_back frames [] free t h = omega arith
free_count-give_back frames (p ∷ pages) free t h =
    let once = free_count-give free p.frame t.0 in
    let rest = free_count-give_back frames pages (slice_set free p.frame true) (taken-give free p.frame pages h.1 t.1) h.2 in
    omega arith

get-give_back : (pages : List HeapPage) (free : List Bool) (frame : ℕ) → has_frame frame pages ≡ false → slice_get (give_back pages free) frame ≡ slice_get free frame
unfolding give_back
get-give_back [] free frame n = refl
get-give_back (p ∷ pages) free frame n =
    get-give_back pages (slice_set free p.frame true) frame (grind (arith, nat_tests))
    ∙ (let e = get-set free p.frame frame true in grind (arith, nat_tests, e))

-- pages that stay keep their frames
pub taken-give_back : (frames : ℕ) (test : HeapPage → Bool) (pages : List HeapPage) (free : List Bool) → AreTaken free pages → HaveFrames frames pages → AreTaken (give_back (filter (λ p. not (test p)) pages) free) (filter test pages)
unfolding give_back AreTaken HaveFrames
taken-give_back frames test [] free t h = tt
taken-give_back frames test (p ∷ pages) free t h =
    go (test p) (taken-give_back frames test pages free t.1 h.2) (taken-give_back frames test pages (slice_set free p.frame true) (taken-give free p.frame pages h.1 t.1) h.2)
    (get-give_back (filter (λ p. not (test p)) pages) free p.frame (has_frame-filter (λ p. not (test p)) p.frame pages h.1))
  where
    go : (u : Bool) → AreTaken (give_back (filter (λ p. not (test p)) pages) free) (filter test pages)
        → AreTaken (give_back (filter (λ p. not (test p)) pages) (slice_set free p.frame true)) (filter test pages)
        → slice_get (give_back (filter (λ p. not (test p)) pages) free) p.frame ≡ slice_get free p.frame
        → AreTaken (give_back (cond (not u) (p ∷ filter (λ p. not (test p)) pages) (filter (λ p. not (test p)) pages)) free) (cond u (p ∷ filter test pages) (filter test pages))
    go true kept given same = (same ∙ t.0, kept)
    go false kept given same = given
