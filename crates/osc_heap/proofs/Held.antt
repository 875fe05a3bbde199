-- The pages of a table and those after it, as one list.
use Rattle.std.proofs.Common.{ℕ, zero, suc, ◌≡◌, ◌<◌, ◌≤◌, ◌+◌, ◌-◌, ◌&&◌, ◌==◌, nat_le, nat_lt, Bool, true, false, cond, List, [], ◌∷◌, Option, Some, None, length, filter, position, get_or, map, replicate, drop, ◌++◌, slice_get, slice_index, slice_index_or, slice_set, add-one, drop-cons, drop_of_length-le, arith, refl, sym, ap, ◌∙◌, subst}
use Rattle.std.proofs.lemmas.Bool.Decides.{nat_tests}
use Rattle.osc_slot.specs.declared.HeapPage.{HeapPage}
use Rattle.osc_slot.specs.Ordered.{insert_by, AllAbove}
use Rattle.std.proofs.lemmas.List.{get_or_default}
use Rattle.osc_frames.specs.Free.{without_frame}
use Rattle.osc_slot.specs.Areas.{first_page}
use Rattle.osc_slot.specs.Heap.{Backing, back, back_by, give_back, frame_of, frame_of_found, rename, HaveFrames, has_frame}
use Rattle.osc_slot.proofs.InOrder.{insert-front, none_at, find_is_some}
use Rattle.osc_heap.specs.Layout.{pages_from, renamed, in_range, out_of_range, CanGiveBack}

-- a page below all pages of a list is none of them
above_weaker : (n m : ℕ) (pages : List HeapPage) → m ≤ n → AllAbove (λ (p : HeapPage). p.page) n pages → AllAbove (λ (p : HeapPage). p.page) m pages
unfolding AllAbove
above_weaker n m [] l a = tt
above_weaker n m (p ∷ pages) l a = ((let h = a.0 in omega arith), above_weaker n m pages l a.1)

-- all pages of a table that begins after a page are above it
pub from_above : (n page : ℕ) (table : List (Option ℕ)) (rest : List HeapPage) → n < page → AllAbove (λ (p : HeapPage). p.page) n rest → AllAbove (λ (p : HeapPage). p.page) n (pages_from page table rest)
unfolding AllAbove pages_from
from_above n page [] rest l a = a
from_above n page (None ∷ table) rest l a = from_above n (page + 1) table rest (omega arith) a
from_above n page (Some f ∷ table) rest l a = (l, from_above n (page + 1) table rest (omega arith) a)

none_here : (n page : ℕ) (pages : List HeapPage) → page ≤ n → AllAbove (λ (p : HeapPage). p.page) n pages → frame_of pages page ≡ None
none_here n page pages l a = ap frame_of_found (find_is_some (λ (p : HeapPage). p.page) page pages (none_at (λ (p : HeapPage). p.page) n page pages l a))

-- the frame of a page of the table, and of a page after it
pub frame_in_table : (page at i : ℕ) (table : List (Option ℕ)) (rest : List HeapPage) → at ≡ page + i → i < length table → AllAbove (λ (p : HeapPage). p.page) at rest → frame_of (pages_from page table rest) at ≡ get_or table i None
unfolding pages_from
frame_in_table page at i [] rest e l a = absurd (omega arith)
frame_in_table page at zero (None ∷ table) rest e l a = none_here at at (pages_from (page + 1) table rest) (omega arith) (from_above at (page + 1) table rest (omega arith) a)
frame_in_table page at zero (Some f ∷ table) rest e l a = let same : (page == at) ≡ true = grind (arith, nat_tests) in rw same refl
frame_in_table page at (suc i) (None ∷ table) rest e l a = frame_in_table (page + 1) at i table rest (omega arith) (omega arith) a
frame_in_table page at (suc i) (Some f ∷ table) rest e l a = let other : (page == at) ≡ false = grind (arith, nat_tests) in rw other (frame_in_table (page + 1) at i table rest (omega arith) (omega arith) a)

pub frame_past_table : (page at : ℕ) (table : List (Option ℕ)) (rest : List HeapPage) → page + length table ≤ at → frame_of (pages_from page table rest) at ≡ frame_of rest at
unfolding pages_from
frame_past_table page at [] rest l = refl
frame_past_table page at (None ∷ table) rest l = frame_past_table (page + 1) at table rest (omega arith)
frame_past_table page at (Some f ∷ table) rest l = let other : (page == at) ≡ false = grind (arith, nat_tests) in rw other (frame_past_table (page + 1) at table rest (omega arith))

pub frame_before : (page at : ℕ) (table : List (Option ℕ)) (rest : List HeapPage) → at < page → AllAbove (λ (p : HeapPage). p.page) at rest → frame_of (pages_from page table rest) at ≡ None
frame_before page at table rest l a = none_here at at (pages_from page table rest) (omega arith) (from_above at page table rest l a)

-- a page more in the table, and one after it
pub insert_in_table : (page i frame : ℕ) (new : HeapPage) (table : List (Option ℕ)) (rest : List HeapPage) → new ≡ record { page = page + i; frame = frame } → i < length table → get_or table i None ≡ None → AllAbove (λ (p : HeapPage). p.page) new.page rest
    → insert_by (λ (p : HeapPage). p.page) new (pages_from page table rest) ≡ pages_from page (slice_set table i (Some frame)) rest
unfolding pages_from insert_by
insert_in_table page i frame new [] rest e l n a = absurd (omega arith)
insert_in_table page zero frame new (None ∷ table) rest e l n a =
    let p : new.page ≡ page + 0 = ap (λ (x : HeapPage). x.page) e in
    let same : page + 0 ≡ page = omega arith in
    insert-front (λ (p : HeapPage). p.page) new (pages_from (page + 1) table rest) (from_above new.page (page + 1) table rest (omega arith) a)
    ∙ ap (λ (x : HeapPage). x ∷ pages_from (page + 1) table rest) (e ∙ ap (λ q. record { page = q; frame = frame }) same)
insert_in_table page zero frame new (Some f ∷ table) rest e l n a = cc
insert_in_table page (suc i) frame new (None ∷ table) rest e l n a =
    insert_in_table (page + 1) i frame new table rest (e ∙ ap (λ q. record { page = q; frame = frame }) (omega arith)) (omega arith) n a
insert_in_table page (suc i) frame new (Some f ∷ table) rest e l n a =
    let p : new.page ≡ page + suc i = ap (λ (x : HeapPage). x.page) e in
    let first : nat_lt page new.page ≡ true = grind (arith, nat_tests, p) in
    rw first (ap (λ ps. record { page = page; frame = f } ∷ ps) (insert_in_table (page + 1) i frame new table rest (e ∙ ap (λ q. record { page = q; frame = frame }) (omega arith)) (omega arith) n a))

pub insert_past_table : (page : ℕ) (new : HeapPage) (table : List (Option ℕ)) (rest : List HeapPage) → page + length table ≤ new.page → insert_by (λ (p : HeapPage). p.page) new (pages_from page table rest) ≡ pages_from page table (insert_by (λ (p : HeapPage). p.page) new rest)
unfolding pages_from insert_by
insert_past_table page new [] rest l = refl
insert_past_table page new (None ∷ table) rest l = insert_past_table (page + 1) new table rest (omega arith)
insert_past_table page new (Some f ∷ table) rest l =
    let first : nat_lt page new.page ≡ true = grind (arith, nat_tests) in
    rw first (ap (λ ps. record { page = page; frame = f } ∷ ps) (insert_past_table (page + 1) new table rest (omega arith)))

-- pages that are backed after the table
pub back_past_table : (page count first : ℕ) (table : List (Option ℕ)) (rest : List HeapPage) (free : List Bool) → page + length table ≤ first
    → back count first (record { pages = pages_from page table rest; free = free }) ≡ record { pages = pages_from page table (back count first (record { pages = rest; free = free })).pages; free = (back count first (record { pages = rest; free = free })).free }
unfolding back
back_past_table page zero first table rest free l = refl
back_past_table page (suc count) first table rest free l =
    by (position (λ (f : Bool). f) free) (λ now left. back_past_table page count (first + 1) table now left (omega arith))
  where
    by : (x : Option ℕ) → ((now : List HeapPage) (left : List Bool) → back count (first + 1) (record { pages = pages_from page table now; free = left }) ≡ record { pages = pages_from page table (back count (first + 1) (record { pages = now; free = left })).pages; free = (back count (first + 1) (record { pages = now; free = left })).free })
        → back count (first + 1) (back_by first x (record { pages = pages_from page table rest; free = free }))
        ≡ record { pages = pages_from page table (back count (first + 1) (back_by first x (record { pages = rest; free = free }))).pages; free = (back count (first + 1) (back_by first x (record { pages = rest; free = free }))).free }
    by None later = later rest free
    by (Some f) later =
        let at = insert_past_table page (record { page = first; frame = f }) table rest l in
        ap (λ ps. back count (first + 1) (record { pages = ps; free = slice_set free f false })) at ∙ later (insert_by (λ (p : HeapPage). p.page) (record { page = first; frame = f }) rest) (slice_set free f false)

above_insert : (n : ℕ) (new : HeapPage) (pages : List HeapPage) → n < new.page → AllAbove (λ (p : HeapPage). p.page) n pages → AllAbove (λ (p : HeapPage). p.page) n (insert_by (λ (p : HeapPage). p.page) new pages)
unfolding AllAbove insert_by
above_insert n new [] l a = (l, tt)
above_insert n new (p ∷ pages) l a = by (nat_lt p.page new.page) (above_insert n new pages l a.1)
  where
    by : (t : Bool) → AllAbove (λ (q : HeapPage). q.page) n (insert_by (λ (q : HeapPage). q.page) new pages) → AllAbove (λ (q : HeapPage). q.page) n (cond t (p ∷ insert_by (λ (q : HeapPage). q.page) new pages) (new ∷ p ∷ pages))
    by true later = (a.0, later)
    by false later = (l, a)

pub above_back : (n count first : ℕ) (b : Backing) → n < first → AllAbove (λ (p : HeapPage). p.page) n b.pages → AllAbove (λ (p : HeapPage). p.page) n (back count first b).pages
unfolding back
above_back n zero first b l a = a
above_back n (suc count) first b l a = above_back n count (first + 1) (back_by first (position (λ (f : Bool). f) b.free) b) (omega arith) (by (position (λ (f : Bool). f) b.free))
  where
    by : (x : Option ℕ) → AllAbove (λ (p : HeapPage). p.page) n (back_by first x b).pages
    by None = a
    by (Some f) = above_insert n (record { page = first; frame = f }) b.pages l a

pub above_filter : (n : ℕ) (test : HeapPage → Bool) (pages : List HeapPage) → AllAbove (λ (p : HeapPage). p.page) n pages → AllAbove (λ (p : HeapPage). p.page) n (filter test pages)
unfolding AllAbove
above_filter n test [] a = tt
above_filter n test (p ∷ pages) a = by (test p) (above_filter n test pages a.1)
  where
    by : (t : Bool) → AllAbove (λ (q : HeapPage). q.page) n (filter test pages) → AllAbove (λ (q : HeapPage). q.page) n (cond t (p ∷ filter test pages) (filter test pages))
    by true later = (a.0, later)
    by false later = later

-- one page of the table that is left out
none_in_range : (first count : ℕ) (pages : List HeapPage) → AllAbove (λ (p : HeapPage). p.page) first pages → count ≤ 1 → filter (in_range first count) pages ≡ []
unfolding AllAbove
none_in_range first count [] a l = refl
none_in_range first count (p ∷ pages) a l =
    let above = a.0 in
    let out : (nat_le first p.page && nat_lt p.page (first + count)) ≡ false = grind (arith, nat_tests, above) in
    rw out (none_in_range first count pages a.1 l)

all_out : (first count : ℕ) (pages : List HeapPage) → AllAbove (λ (p : HeapPage). p.page) first pages → count ≤ 1 → filter (out_of_range first count) pages ≡ pages
unfolding AllAbove
all_out first count [] a l = refl
all_out first count (p ∷ pages) a l =
    let above = a.0 in
    let out : (nat_le first p.page && nat_lt p.page (first + count)) ≡ false = grind (arith, nat_tests, above) in
    rw out (ap (λ ps. p ∷ ps) (all_out first count pages a.1 l))

abbrev pub page_with : ℕ → Option ℕ → List HeapPage
page_with page None = []
page_with page (Some frame) = record { page = page; frame = frame } ∷ []

pub in_table_goes : (page at i : ℕ) (table : List (Option ℕ)) (rest : List HeapPage) → at ≡ page + i → i < length table → AllAbove (λ (p : HeapPage). p.page) at rest → filter (in_range at 1) (pages_from page table rest) ≡ page_with at (get_or table i None)
unfolding pages_from
in_table_goes page at i [] rest e l a = absurd (omega arith)
in_table_goes page at zero (None ∷ table) rest e l a = none_in_range at 1 (pages_from (page + 1) table rest) (from_above at (page + 1) table rest (omega arith) a) (omega arith)
in_table_goes page at zero (Some f ∷ table) rest e l a =
    let here : (nat_le at page && nat_lt page (at + 1)) ≡ true = grind (arith, nat_tests) in
    let none = none_in_range at 1 (pages_from (page + 1) table rest) (from_above at (page + 1) table rest (omega arith) a) (omega arith) in
    let same : page ≡ at = omega arith in
    rw (here, none, same) refl
in_table_goes page at (suc i) (None ∷ table) rest e l a = in_table_goes (page + 1) at i table rest (omega arith) (omega arith) a
in_table_goes page at (suc i) (Some f ∷ table) rest e l a =
    let out : (nat_le at page && nat_lt page (at + 1)) ≡ false = grind (arith, nat_tests) in
    rw out (in_table_goes (page + 1) at i table rest (omega arith) (omega arith) a)

pub in_table_stays : (page at i : ℕ) (table : List (Option ℕ)) (rest : List HeapPage) → at ≡ page + i → i < length table → AllAbove (λ (p : HeapPage). p.page) at rest → filter (out_of_range at 1) (pages_from page table rest) ≡ pages_from page (slice_set table i None) rest
unfolding pages_from
in_table_stays page at i [] rest e l a = absurd (omega arith)
in_table_stays page at zero (None ∷ table) rest e l a = all_out at 1 (pages_from (page + 1) table rest) (from_above at (page + 1) table rest (omega arith) a) (omega arith)
in_table_stays page at zero (Some f ∷ table) rest e l a =
    let here : (nat_le at page && nat_lt page (at + 1)) ≡ true = grind (arith, nat_tests) in
    rw here (all_out at 1 (pages_from (page + 1) table rest) (from_above at (page + 1) table rest (omega arith) a) (omega arith))
in_table_stays page at (suc i) (None ∷ table) rest e l a = in_table_stays (page + 1) at i table rest (omega arith) (omega arith) a
in_table_stays page at (suc i) (Some f ∷ table) rest e l a =
    let out : (nat_le at page && nat_lt page (at + 1)) ≡ false = grind (arith, nat_tests) in
    rw out (ap (λ ps. record { page = page; frame = f } ∷ ps) (in_table_stays (page + 1) at i table rest (omega arith) (omega arith) a))

-- pages after the table that are left out
pub past_table_goes : (page first count : ℕ) (table : List (Option ℕ)) (rest : List HeapPage) → page + length table ≤ first → filter (in_range first count) (pages_from page table rest) ≡ filter (in_range first count) rest
unfolding pages_from
past_table_goes page first count [] rest l = refl
past_table_goes page first count (None ∷ table) rest l = past_table_goes (page + 1) first count table rest (omega arith)
past_table_goes page first count (Some f ∷ table) rest l =
    let out : (nat_le first page && nat_lt page (first + count)) ≡ false = grind (arith, nat_tests) in
    rw out (past_table_goes (page + 1) first count table rest (omega arith))

pub past_table_stays : (page first count : ℕ) (table : List (Option ℕ)) (rest : List HeapPage) → page + length table ≤ first → filter (out_of_range first count) (pages_from page table rest) ≡ pages_from page table (filter (out_of_range first count) rest)
unfolding pages_from
past_table_stays page first count [] rest l = refl
past_table_stays page first count (None ∷ table) rest l = past_table_stays (page + 1) first count table rest (omega arith)
past_table_stays page first count (Some f ∷ table) rest l =
    let out : (nat_le first page && nat_lt page (first + count)) ≡ false = grind (arith, nat_tests) in
    rw out (ap (λ ps. record { page = page; frame = f } ∷ ps) (past_table_stays (page + 1) first count table rest (omega arith)))

-- the pages after the table are some of all
pub rest_le : (page : ℕ) (table : List (Option ℕ)) (rest : List HeapPage) → length rest ≤ length (pages_from page table rest)
unfolding pages_from
rest_le page [] rest = omega arith
rest_le page (None ∷ table) rest = rest_le (page + 1) table rest
rest_le page (Some f ∷ table) rest = let l = rest_le (page + 1) table rest in omega arith

pub above_at : (n m : ℕ) (rest : List HeapPage) → m ≤ n → AllAbove (λ (p : HeapPage). p.page) n rest → AllAbove (λ (p : HeapPage). p.page) m rest
above_at n m rest l a = above_weaker n m rest l a

-- what the code reads and writes at a page of the table
pub read_table : (table : List (Option ℕ)) (rest : List HeapPage) (page i : ℕ) (x : Option ℕ) → AllAbove (λ (p : HeapPage). p.page) (0x1FFFFFF + length table) rest → first_page ≤ page → i ≡ page - first_page → i < length table → x ≡ get_or table i None
    → (x ≡ frame_of (pages_from first_page table rest) page) × (x ≡ get_or table i None)
read_table table rest page i x a f e l r =
    (r ∙ sym (frame_in_table first_page page i table rest (omega arith) l (above_at (0x1FFFFFF + length table) page rest (omega arith) a)), r)

set_same : (table : List (Option ℕ)) (i : ℕ) (x : Option ℕ) → get_or table i None ≡ x → i < length table → slice_set table i x ≡ table
set_same [] i x e l = refl
set_same (y ∷ table) zero x e l = ap (λ z. z ∷ table) (sym e)
set_same (y ∷ table) (suc i) x e l = ap (λ ys. y ∷ ys) (set_same table i x e (omega arith))

pub back_one : (count first i : ℕ) (table : List (Option ℕ)) (rest : List HeapPage) (free : List Bool) (x : Option ℕ) → count ≡ 1 → AllAbove (λ (p : HeapPage). p.page) (0x1FFFFFF + length table) rest → first_page ≤ first → i ≡ first - first_page → i < length table
    → frame_of (pages_from first_page table rest) first ≡ None → x ≡ position (λ (f : Bool). f) free
    → back count first (record { pages = pages_from first_page table rest; free = free }) ≡ record { pages = pages_from first_page (slice_set table i x) rest; free = without_frame free x }
unfolding back
back_one count first i table rest free x one a f e l none is =
    let n : count ≡ suc zero = omega arith in
    let above = above_at (0x1FFFFFF + length table) first rest (omega arith) a in
    let empty : get_or table i None ≡ None = sym (frame_in_table first_page first i table rest (omega arith) l above) ∙ none in
    rw (n, ← is) (by x empty above)
  where
    by : (y : Option ℕ) → get_or table i None ≡ None → AllAbove (λ (p : HeapPage). p.page) first rest → back_by first y (record { pages = pages_from first_page table rest; free = free }) ≡ record { pages = pages_from first_page (slice_set table i y) rest; free = without_frame free y }
    by None empty above = let same = set_same table i None empty l in rw same refl
    by (Some frame) empty above =
        let at : first ≡ first_page + i = omega arith in
        ap (λ ps. record { pages = ps; free = slice_set free frame false }) (insert_in_table first_page i frame (record { page = first; frame = frame }) table rest (ap (λ q. record { page = q; frame = frame }) at) l empty above)

pub back_none : (count first : ℕ) (b : Backing) → count ≡ 0 → back count first b ≡ b
unfolding back
back_none count first b e = let n : count ≡ zero = omega arith in rw n refl

pub none_goes : (first count : ℕ) (pages : List HeapPage) → count ≡ 0 → filter (in_range first count) pages ≡ []
none_goes first count [] e = refl
none_goes first count (p ∷ pages) e = let out : (nat_le first p.page && nat_lt p.page (first + count)) ≡ false = grind (arith, nat_tests) in rw out (none_goes first count pages e)

pub all_stay : (first count : ℕ) (pages : List HeapPage) → count ≡ 0 → filter (out_of_range first count) pages ≡ pages
all_stay first count [] e = refl
all_stay first count (p ∷ pages) e = let out : (nat_le first p.page && nat_lt p.page (first + count)) ≡ false = grind (arith, nat_tests) in rw out (ap (λ ps. p ∷ ps) (all_stay first count pages e))

-- the free frames after the frame of an entry is given back, and that it can be
abbrev pub with_given : Option ℕ → List Bool → List Bool
with_given None free = free
with_given (Some frame) free = slice_set free frame true

abbrev pub CanGive : Option ℕ → List Bool → Type 0
CanGive None free = Unit {0}
CanGive (Some frame) free = slice_get free frame ≡ Some false

-- one page of the table is given back
pub record GivesOne (first count i : ℕ) (table : List (Option ℕ)) (rest : List HeapPage) (x : Option ℕ) : Type 0 where
  pub goes : filter (in_range first count) (pages_from first_page table rest) ≡ page_with first x
  pub stays : filter (out_of_range first count) (pages_from first_page table rest) ≡ pages_from first_page (slice_set table i None) rest
  pub same : x ≡ None → slice_set table i None ≡ table

pub gives_one : (count first i : ℕ) (table : List (Option ℕ)) (rest : List HeapPage) (x : Option ℕ) → count ≡ 1 → AllAbove (λ (p : HeapPage). p.page) (0x1FFFFFF + length table) rest → first_page ≤ first → i ≡ first - first_page → i < length table → x ≡ get_or table i None
    → GivesOne first count i table rest x
gives_one count first i table rest x one a f e l r =
    let above = above_at (0x1FFFFFF + length table) first rest (omega arith) a in
    let page : first ≡ first_page + i = omega arith in
    rw one (record {
      goes = in_table_goes first_page first i table rest page l above ∙ ap (page_with first) (sym r);
      stays = in_table_stays first_page first i table rest page l above;
      same = λ none. set_same table i None (sym r ∙ none) l;
    })

pub can_give_one : (free : List Bool) (page frame : ℕ) → CanGiveBack free (page_with page (Some frame)) → slice_get free frame ≡ Some false
unfolding CanGiveBack
can_give_one free page frame c = c.0

pub give_one : (free : List Bool) (page : ℕ) (x : Option ℕ) → give_back (page_with page x) free ≡ with_given x free
unfolding give_back
give_one free page None = refl
give_one free page (Some frame) = refl

-- a table that is given back, cleared and copied whole
pub no_table : (page n : ℕ) (rest : List HeapPage) → pages_from page (replicate n None) rest ≡ rest
unfolding pages_from
no_table page zero rest = refl
no_table page (suc n) rest = no_table (page + 1) n rest

from_append : (page : ℕ) (table : List (Option ℕ)) (rest : List HeapPage) → pages_from page table rest ≡ pages_from page table [] ++ rest
unfolding pages_from
from_append page [] rest = refl
from_append page (None ∷ table) rest = from_append (page + 1) table rest
from_append page (Some f ∷ table) rest = ap (λ ps. record { page = page; frame = f } ∷ ps) (from_append (page + 1) table rest)

give_append : (xs ys : List HeapPage) (free : List Bool) → give_back (xs ++ ys) free ≡ give_back ys (give_back xs free)
unfolding give_back
give_append [] ys free = refl
give_append (x ∷ xs) ys free = give_append xs ys (slice_set free x.frame true)

can_append : (xs ys : List HeapPage) (free : List Bool) → CanGiveBack free (xs ++ ys) → CanGiveBack free xs × CanGiveBack (give_back xs free) ys
unfolding CanGiveBack give_back
can_append [] ys free c = (tt, c)
can_append (x ∷ xs) ys free c = let later = can_append xs ys (slice_set free x.frame true) c.1 in ((c.0, later.0), later.1)

pub give_parts : (page : ℕ) (table : List (Option ℕ)) (rest : List HeapPage) (free : List Bool) → give_back (pages_from page table rest) free ≡ give_back rest (give_back (pages_from page table []) free)
give_parts page table rest free = ap (λ ps. give_back ps free) (from_append page table rest) ∙ give_append (pages_from page table []) rest free

pub can_parts : (page : ℕ) (table : List (Option ℕ)) (rest : List HeapPage) (free : List Bool) → CanGiveBack free (pages_from page table rest) → CanGiveBack free (pages_from page table []) × CanGiveBack (give_back (pages_from page table []) free) rest
can_parts page table rest free c =
    let P : List HeapPage → Type 0 = λ ps. CanGiveBack free ps in
    can_append (pages_from page table []) rest free (subst P (from_append page table rest) c)

have_append : (n : ℕ) (xs ys : List HeapPage) → HaveFrames n (xs ++ ys) → HaveFrames n xs × HaveFrames n ys
unfolding HaveFrames
have_append n [] ys h = (tt, h)
have_append n (x ∷ xs) ys h =
    let later = have_append n xs ys h.2 in
    ((h.0, front x.frame xs ys h.1, later.0), later.1)
  where
    front : (f : ℕ) (xs ys : List HeapPage) → has_frame f (xs ++ ys) ≡ false → has_frame f xs ≡ false
    front f [] ys e = refl
    front f (x ∷ xs) ys e = let later = front f xs ys in grind (arith, nat_tests, later, e)

pub have_parts : (n page : ℕ) (table : List (Option ℕ)) (rest : List HeapPage) → HaveFrames n (pages_from page table rest) → HaveFrames n (pages_from page table []) × HaveFrames n rest
have_parts n page table rest h =
    let P : List HeapPage → Type 0 = λ ps. HaveFrames n ps in
    have_append n (pages_from page table []) rest (subst P (from_append page table rest) h)

pub frame_named : (n page i frame : ℕ) (table : List (Option ℕ)) → HaveFrames n (pages_from page table []) → i < length table → get_or table i None ≡ Some frame → frame < n
unfolding HaveFrames pages_from
frame_named n page i frame [] h l e = absurd (omega arith)
frame_named n page zero frame (None ∷ table) h l e = cc
frame_named n page zero frame (Some f ∷ table) h l e = let same : f ≡ frame = cc in rw same at h.0
frame_named n page (suc i) frame (None ∷ table) h l e = frame_named n (page + 1) i frame table h (omega arith) e
frame_named n page (suc i) frame (Some f ∷ table) h l e = frame_named n (page + 1) i frame table h.2 (omega arith) e

pub map_table : (names : List ℕ) (page : ℕ) (table : List (Option ℕ)) (rest : List HeapPage) → map (rename names) (pages_from page table rest) ≡ pages_from page (map (renamed names) table) (map (rename names) rest)
unfolding pages_from
map_table names page [] rest = refl
map_table names page (None ∷ table) rest = map_table names (page + 1) table rest
map_table names page (Some f ∷ table) rest = ap (λ ps. record { page = page; frame = slice_index names f } ∷ ps) (map_table names (page + 1) table rest)

pub length_renamed : (names : List ℕ) (table : List (Option ℕ)) → length (map (renamed names) table) ≡ length table
length_renamed names [] = refl
length_renamed names (x ∷ table) = ap suc (length_renamed names table)

pub no_rest : (page : ℕ) (table : List (Option ℕ)) (rest : List HeapPage) → pages_from page table rest ≡ [] → rest ≡ []
unfolding pages_from
no_rest page [] rest e = e
no_rest page (None ∷ table) rest e = no_rest (page + 1) table rest e
no_rest page (Some f ∷ table) rest e = cc

pub above_map : (n : ℕ) (names : List ℕ) (pages : List HeapPage) → AllAbove (λ (p : HeapPage). p.page) n pages → AllAbove (λ (p : HeapPage). p.page) n (map (rename names) pages)
unfolding AllAbove
above_map n names [] a = tt
above_map n names (p ∷ pages) a = (a.0, above_map n names pages a.1)

pub none_above : (n : ℕ) → AllAbove (λ (p : HeapPage). p.page) n []
unfolding AllAbove
none_above n = tt

-- one more entry of a table that is given back
pub give_entry : (page i : ℕ) (table : List (Option ℕ)) (x : Option ℕ) (free : List Bool) → i < length table → get_or table i None ≡ x
    → (give_back (pages_from page (drop i table) []) free ≡ give_back (pages_from (page + 1) (drop (i + 1) table) []) (with_given x free)) × (CanGiveBack free (pages_from page (drop i table) []) → CanGive x free × CanGiveBack (with_given x free) (pages_from (page + 1) (drop (i + 1) table) []))
unfolding pages_from give_back CanGiveBack
give_entry page i table x free l e =
    let d : drop i table ≡ get_or table i None ∷ drop (i + 1) table = rw (add-one, drop-cons table i None) refl in
    rw (d, e) (by x)
  where
    by : (y : Option ℕ) → (give_back (pages_from page (y ∷ drop (i + 1) table) []) free ≡ give_back (pages_from (page + 1) (drop (i + 1) table) []) (with_given y free)) × (CanGiveBack free (pages_from page (y ∷ drop (i + 1) table) []) → CanGive y free × CanGiveBack (with_given y free) (pages_from (page + 1) (drop (i + 1) table) []))
    by None = (refl, λ c. (tt, c))
    by (Some f) = (refl, λ c. c)

pub give_next : (i : ℕ) (table : List (Option ℕ)) (x : Option ℕ) (free now all : List Bool) → i < length table → get_or table i None ≡ x → now ≡ with_given x free → all ≡ give_back (pages_from (first_page + i) (drop i table) []) free → CanGiveBack free (pages_from (first_page + i) (drop i table) [])
    → (all ≡ give_back (pages_from (first_page + (i + 1)) (drop (i + 1) table) []) now) × CanGiveBack now (pages_from (first_page + (i + 1)) (drop (i + 1) table) [])
give_next i table x free now all l e n given taken =
    let entry = give_entry (first_page + i) i table x free l e in
    let page : first_page + (i + 1) ≡ first_page + i + 1 = omega arith in
    rw (page, n) (given ∙ entry.0, (entry.1 taken).1)

pub can_give_next : (i frame : ℕ) (table : List (Option ℕ)) (free : List Bool) → i < length table → get_or table i None ≡ Some frame → CanGiveBack free (pages_from (first_page + i) (drop i table) []) → slice_get free frame ≡ Some false
can_give_next i frame table free l e taken = ((give_entry (first_page + i) i table (Some frame) free l e).1 taken).0

pub give_ends : (page i : ℕ) (table : List (Option ℕ)) (free : List Bool) → length table ≤ i → give_back (pages_from page (drop i table) []) free ≡ free
unfolding pages_from give_back
give_ends page i table free l = rw (drop_of_length-le table l) refl
