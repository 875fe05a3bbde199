-- The place of a page among ascending pages.
use Rattle.std.proofs.Common.{ℕ, zero, suc, ◌≡◌, ◌≢◌, ◌<◌, ◌≤◌, ◌+◌, ◌==◌, nat_le, Bool, true, false, not, cond, List, [], ◌∷◌, Option, Some, None, length, get_or, arith, refl, sym, ap}
use Rattle.std.specs.List.{position_or_len}
use Rattle.std.proofs.lemmas.Bool.Decides.{nat_tests}
use Rattle.std.proofs.lemmas.List.Sums.{position_or_len_is, prefix_len-le-length}
use Rattle.osc_slot.specs.declared.HeapPage.{HeapPage}
use Rattle.osc_slot.specs.Ordered.{AllAbove, IsAscending}
use Rattle.osc_slot.specs.Heap.{frame_of, frame_of_found}
use Rattle.osc_heap.specs.Layout.{pages_from}
use Rattle.osc_slot.proofs.InOrder.{none_at, find_is_some}

above_at_place : (n k : ℕ) (d : HeapPage) (pages : List HeapPage) → AllAbove (λ (p : HeapPage). p.page) n pages → k < length pages → n < (get_or pages k d).page
unfolding AllAbove
above_at_place n k d [] a l = absurd (omega arith)
above_at_place n zero d (p ∷ pages) a l = a.0
above_at_place n (suc k) d (p ∷ pages) a l = above_at_place n k d pages a.1 (omega arith)

-- a later page is not below an earlier one
pub ascending_le : (i j : ℕ) (d e : HeapPage) (pages : List HeapPage) → IsAscending (λ (p : HeapPage). p.page) pages → i ≤ j → j < length pages → (get_or pages i d).page ≤ (get_or pages j e).page
unfolding IsAscending
ascending_le i j d e [] a l m = absurd (omega arith)
ascending_le zero zero d e (p ∷ pages) a l m = omega arith
ascending_le zero (suc j) d e (p ∷ pages) a l m = let h = above_at_place p.page j e pages a.0 (omega arith) in omega arith
ascending_le (suc i) zero d e (p ∷ pages) a l m = absurd (omega arith)
ascending_le (suc i) (suc j) d e (p ∷ pages) a l m = ascending_le i j d e pages a.1 (omega arith) (omega arith)

pub place_is : (pages : List HeapPage) (page i : ℕ) → i ≤ length pages → ((k : ℕ) (d : HeapPage) → k < i → (get_or pages k d).page < page) → ((k : ℕ) (d : HeapPage) → i ≤ k → k < length pages → page ≤ (get_or pages k d).page)
    → i ≡ position_or_len (λ (p : HeapPage). nat_le page p.page) pages
place_is pages page i l below from =
    let d : HeapPage = record { page = 0; frame = 0 } in
    sym (position_or_len_is (λ (p : HeapPage). nat_le page p.page) pages i d l (λ k m. (let b = below k d m in grind (arith, nat_tests, b))) (λ m. (let f = from i d (omega arith) m in grind (arith, nat_tests, f))))

-- what is found there
none_above_page : (page : ℕ) (pages : List HeapPage) → AllAbove (λ (p : HeapPage). p.page) page pages → frame_of pages page ≡ None
none_above_page page pages a = ap frame_of_found (find_is_some (λ (p : HeapPage). p.page) page pages (none_at (λ (p : HeapPage). p.page) page page pages (omega arith) a))

weaker_above : (n m : ℕ) (pages : List HeapPage) → m ≤ n → AllAbove (λ (p : HeapPage). p.page) n pages → AllAbove (λ (p : HeapPage). p.page) m pages
unfolding AllAbove
weaker_above n m [] l a = tt
weaker_above n m (p ∷ pages) l a = ((let h = a.0 in omega arith), weaker_above n m pages l a.1)

abbrev pub place : ℕ → List HeapPage → ℕ
place page pages = position_or_len (λ (p : HeapPage). nat_le page p.page) pages

pub place_le : (page : ℕ) (pages : List HeapPage) → place page pages ≤ length pages
place_le page pages = let l = prefix_len-le-length (λ (p : HeapPage). not (nat_le page p.page)) pages in l

pub found_place : (page : ℕ) (d : HeapPage) (pages : List HeapPage) → IsAscending (λ (p : HeapPage). p.page) pages → place page pages < length pages → (get_or pages (place page pages) d).page ≡ page → frame_of pages page ≡ Some (get_or pages (place page pages) d).frame
unfolding IsAscending
found_place page d [] a l e = absurd (omega arith)
found_place page d (p ∷ pages) a l e = go (nat_le page p.page) refl (λ m f. found_place page d pages a.1 m f) l e
  where
    go : (t : Bool) → nat_le page p.page ≡ t → (place page pages < length pages → (get_or pages (place page pages) d).page ≡ page → frame_of pages page ≡ Some (get_or pages (place page pages) d).frame)
        → cond (not t) (1 + place page pages) 0 < suc (length pages) → (get_or (p ∷ pages) (cond (not t) (1 + place page pages) 0) d).page ≡ page → frame_of (p ∷ pages) page ≡ Some (get_or (p ∷ pages) (cond (not t) (1 + place page pages) 0) d).frame
    go true is later m f = let same : (p.page == page) ≡ true = grind (arith, nat_tests, f) in rw same refl
    go false is later m f =
        let other : (p.page == page) ≡ false = grind (arith, nat_tests, is) in
        let n : 1 + place page pages ≡ suc (place page pages) = omega arith in
        rw (other, n) (later (omega arith) (rw n at f))

pub missing_place : (page : ℕ) (d : HeapPage) (pages : List HeapPage) → IsAscending (λ (p : HeapPage). p.page) pages → (place page pages < length pages → (get_or pages (place page pages) d).page ≢ page) → frame_of pages page ≡ None
unfolding IsAscending
missing_place page d [] a e = refl
missing_place page d (p ∷ pages) a e = go (nat_le page p.page) refl (λ f. missing_place page d pages a.1 f) e
  where
    go : (t : Bool) → nat_le page p.page ≡ t → ((place page pages < length pages → (get_or pages (place page pages) d).page ≢ page) → frame_of pages page ≡ None)
        → (cond (not t) (1 + place page pages) 0 < suc (length pages) → (get_or (p ∷ pages) (cond (not t) (1 + place page pages) 0) d).page ≢ page) → frame_of (p ∷ pages) page ≡ None
    go true is later f =
        let apart : p.page ≢ page = f (omega arith) in
        let other : (p.page == page) ≡ false = grind (arith, nat_tests, apart) in
        let above : page ≤ p.page = grind (arith, nat_tests, is) in
        rw other (none_above_page page pages (weaker_above p.page page pages above a.0))
    go false is later f =
        let other : (p.page == page) ≡ false = grind (arith, nat_tests, is) in
        let n : 1 + place page pages ≡ suc (place page pages) = omega arith in
        rw other (later (λ m. (rw n at f) (omega arith)))

-- the pages after a table are ascending where all are
pub rest_ascending : (page : ℕ) (table : List (Option ℕ)) (rest : List HeapPage) → IsAscending (λ (p : HeapPage). p.page) (pages_from page table rest) → IsAscending (λ (p : HeapPage). p.page) rest
unfolding pages_from IsAscending
rest_ascending page [] rest a = a
rest_ascending page (None ∷ table) rest a = rest_ascending (page + 1) table rest a
rest_ascending page (Some f ∷ table) rest a = rest_ascending (page + 1) table rest a.1
