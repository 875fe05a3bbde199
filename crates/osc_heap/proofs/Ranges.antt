-- The pages of a range stand side by side among ascending pages.
use Rattle.std.proofs.Common.{ℕ, zero, suc, ◌≡◌, ◌<◌, ◌≤◌, ◌+◌, ◌-◌, ◌==◌, nat_lt, nat_le, Bool, true, false, List, [], ◌∷◌, ◌++◌, Option, Some, None, take, drop, filter, position, slice_range, slice_set, arith, refl, sym, ap, ◌∙◌}
use Rattle.std.specs.List.{remove_range, insert_slice}
use Rattle.std.proofs.lemmas.Bool.Decides.{nat_tests}
use Rattle.std.proofs.lemmas.List.{append_assoc, append-nil, take-append-drop}
use Rattle.osc_frames.specs.Free.{without_frame}
use Rattle.osc_slot.specs.declared.HeapPage.{HeapPage}
use Rattle.osc_slot.specs.Ordered.{insert_by, AllAbove, IsAscending}
use Rattle.osc_slot.specs.Heap.{Backing, back, back_by, frame_of}
use Rattle.osc_heap.specs.Layout.{in_range, out_of_range}
use Rattle.osc_heap.proofs.Places.{place}

-- each is below this number, or not below it
unfoldable pub AllBelow : ℕ → List HeapPage → Type 0
AllBelow n [] = Unit {0}
AllBelow n (p ∷ pages) = (p.page < n) × AllBelow n pages

unfoldable pub AllFrom : ℕ → List HeapPage → Type 0
AllFrom n [] = Unit {0}
AllFrom n (p ∷ pages) = (n ≤ p.page) × AllFrom n pages

from_above : (n m : ℕ) (pages : List HeapPage) → m ≤ n → AllAbove (λ (p : HeapPage). p.page) n pages → AllFrom m pages
unfolding AllAbove AllFrom
from_above n m [] l a = tt
from_above n m (p ∷ pages) l a = ((let h = a.0 in omega arith), from_above n m pages l a.1)

-- where a range begins among pages that are all past its first number
place_first : (first : ℕ) (pages : List HeapPage) → AllFrom first pages → place first pages ≡ 0
unfolding AllFrom
place_first first [] a = refl
place_first first (p ∷ pages) a = let here : nat_le first p.page ≡ true = (let h = a.0 in grind (arith, nat_tests, h)) in rw here refl

-- a page below the range, and one that is not
place_below : (first : ℕ) (p : HeapPage) (pages : List HeapPage) → p.page < first → place first (p ∷ pages) ≡ suc (place first pages)
place_below first p pages l = let here : nat_le first p.page ≡ false = grind (arith, nat_tests) in rw here (omega arith)

place_here : (first : ℕ) (p : HeapPage) (pages : List HeapPage) → first ≤ p.page → place first (p ∷ pages) ≡ 0
place_here first p pages l = let here : nat_le first p.page ≡ true = grind (arith, nat_tests) in rw here refl

pub place_order : (first end : ℕ) (pages : List HeapPage) → first ≤ end → place first pages ≤ place end pages
place_order first end [] l = omega arith
place_order first end (p ∷ pages) l = go (nat_le first p.page) refl (place_order first end pages l)
  where
    go : (t : Bool) → nat_le first p.page ≡ t → place first pages ≤ place end pages → place first (p ∷ pages) ≤ place end (p ∷ pages)
    go true e h = let z = place_here first p pages (grind (arith, nat_tests, e)) in omega arith
    go false e h =
        let below : p.page < first = grind (arith, nat_tests, e) in
        let a = place_below first p pages below in
        let b = place_below end p pages (omega arith) in
        omega arith

-- no page from the range's end on is in it
none_in : (first count : ℕ) (pages : List HeapPage) → AllFrom (first + count) pages → filter (in_range first count) pages ≡ []
unfolding AllFrom
none_in first count [] a = refl
none_in first count (p ∷ pages) a =
    let out : in_range first count p ≡ false = (let h = a.0 in grind (arith, nat_tests, h)) in
    rw out (none_in first count pages a.1)

all_out : (first count : ℕ) (pages : List HeapPage) → AllFrom (first + count) pages → filter (out_of_range first count) pages ≡ pages
unfolding AllFrom
all_out first count [] a = refl
all_out first count (p ∷ pages) a =
    let out : in_range first count p ≡ false = (let h = a.0 in grind (arith, nat_tests, h)) in
    rw out (ap (λ ps. p ∷ ps) (all_out first count pages a.1))

-- what stands between the places of a range's ends is what is in it
pub record Range (first count : ℕ) (pages : List HeapPage) : Type 0 where
  pub goes : filter (in_range first count) pages ≡ slice_range pages (place first pages) (place (first + count) pages)
  pub stays : filter (out_of_range first count) pages ≡ remove_range pages (place first pages) (place (first + count) pages)

range_below : (first count : ℕ) (p : HeapPage) (pages : List HeapPage) → p.page < first → Range first count pages → Range first count (p ∷ pages)
range_below first count p pages l r =
    let out : in_range first count p ≡ false = grind (arith, nat_tests) in
    let a = place_below first p pages l in
    let b = place_below (first + count) p pages (omega arith) in
    let n : suc (place (first + count) pages) - suc (place first pages) ≡ place (first + count) pages - place first pages = omega arith in
    record {
      goes = rw (out, a, b, n) r.goes;
      stays = rw (out, a, b) (ap (λ ps. p ∷ ps) r.stays);
    }

range_here : (first count : ℕ) (p : HeapPage) (pages : List HeapPage) → first ≤ p.page → p.page < first + count → place first pages ≡ 0 → Range first count pages → Range first count (p ∷ pages)
range_here first count p pages l m z r =
    let here : in_range first count p ≡ true = grind (arith, nat_tests) in
    let a = place_here first p pages l in
    let b = place_below (first + count) p pages m in
    let n : suc (place (first + count) pages) - 0 ≡ suc (place (first + count) pages) = omega arith in
    let k : place (first + count) pages - 0 ≡ place (first + count) pages = omega arith in
    record {
      goes = rw (here, a, b, n) (ap (λ ps. p ∷ ps) (rw (z, k) at r.goes));
      stays = rw (here, a, b) (rw z at r.stays);
    }

range_past : (first count : ℕ) (p : HeapPage) (pages : List HeapPage) → first + count ≤ p.page → AllFrom (first + count) pages → Range first count (p ∷ pages)
unfolding AllFrom
range_past first count p pages l a =
    let x = place_here first p pages (omega arith) in
    let y = place_here (first + count) p pages l in
    record {
      goes = none_in first count (p ∷ pages) (l, a) ∙ rw (x, y) refl;
      stays = all_out first count (p ∷ pages) (l, a) ∙ rw (x, y) refl;
    }

pub range : (first count : ℕ) (pages : List HeapPage) → IsAscending (λ (p : HeapPage). p.page) pages → Range first count pages
unfolding IsAscending
range first count [] a = record { goes = refl; stays = refl }
range first count (p ∷ pages) a = go (nat_lt p.page first) (nat_lt p.page (first + count)) refl refl (range first count pages a.1)
  where
    go : (t u : Bool) → nat_lt p.page first ≡ t → nat_lt p.page (first + count) ≡ u → Range first count pages → Range first count (p ∷ pages)
    go true u e f r = range_below first count p pages (grind (arith, nat_tests, e)) r
    go false true e f r =
        let from : first ≤ p.page = grind (arith, nat_tests, e) in
        range_here first count p pages from (grind (arith, nat_tests, f)) (place_first first pages (from_above p.page first pages from a.0)) r
    go false false e f r =
        let past : first + count ≤ p.page = grind (arith, nat_tests, f) in
        range_past first count p pages past (from_above p.page (first + count) pages past a.0)

-- the pages before a place are below, and those from it on are past a range with none
pub below_place : (first : ℕ) (pages : List HeapPage) → AllBelow first (take (place first pages) pages)
unfolding AllBelow
below_place first [] = tt
below_place first (p ∷ pages) = go (nat_le first p.page) refl (below_place first pages)
  where
    go : (t : Bool) → nat_le first p.page ≡ t → AllBelow first (take (place first pages) pages) → AllBelow first (take (place first (p ∷ pages)) (p ∷ pages))
    go true e h = rw (place_here first p pages (grind (arith, nat_tests, e))) tt
    go false e h =
        let below : p.page < first = grind (arith, nat_tests, e) in
        rw (place_below first p pages below) (below, h)

pub past_place : (first end : ℕ) (pages : List HeapPage) → IsAscending (λ (p : HeapPage). p.page) pages → ((q : ℕ) → first ≤ q → q < end → frame_of pages q ≡ None) → AllFrom end (drop (place first pages) pages)
unfolding IsAscending AllFrom
past_place first end [] a fresh = tt
past_place first end (p ∷ pages) a fresh = go (nat_le first p.page) refl (λ f. past_place first end pages a.1 f)
  where
    go : (t : Bool) → nat_le first p.page ≡ t → (((q : ℕ) → first ≤ q → q < end → frame_of pages q ≡ None) → AllFrom end (drop (place first pages) pages)) → AllFrom end (drop (place first (p ∷ pages)) (p ∷ pages))
    go true e h =
        let from : first ≤ p.page = grind (arith, nat_tests, e) in
        let past : end ≤ p.page = here (nat_lt p.page end) refl (λ l. fresh p.page from l) in
        rw (place_here first p pages from) (past, from_above p.page end pages past a.0)
      where
        here : (u : Bool) → nat_lt p.page end ≡ u → (p.page < end → frame_of (p ∷ pages) p.page ≡ None) → end ≤ p.page
        here true f none =
            let same : (p.page == p.page) ≡ true = grind (arith, nat_tests) in
            let gone : Some p.frame ≡ None = rw same at none (grind (arith, nat_tests, f)) in
            grind (arith, gone)
        here false f none = grind (arith, nat_tests, f)
    go false e h =
        let below : p.page < first = grind (arith, nat_tests, e) in
        rw (place_below first p pages below) (h (λ q l m. (let other : (p.page == q) ≡ false = grind (arith, nat_tests) in let f = fresh q l m in rw other at f)))

-- a page between those that are below it and those that are not
insert_between : (new : HeapPage) (front behind : List HeapPage) → AllBelow new.page front → AllFrom new.page behind → insert_by (λ (p : HeapPage). p.page) new (front ++ behind) ≡ front ++ new ∷ behind
unfolding insert_by AllBelow AllFrom
insert_between new [] [] b f = refl
insert_between new [] (p ∷ behind) b f = let here : nat_lt p.page new.page ≡ false = (let h = f.0 in grind (arith, nat_tests, h)) in rw here refl
insert_between new (p ∷ front) behind b f =
    let here : nat_lt p.page new.page ≡ true = (let h = b.0 in grind (arith, nat_tests, h)) in
    rw here (ap (λ ps. p ∷ ps) (insert_between new front behind b.1 f))

below_more : (n m : ℕ) (pages : List HeapPage) → n ≤ m → AllBelow n pages → AllBelow m pages
unfolding AllBelow
below_more n m [] l b = tt
below_more n m (p ∷ pages) l b = ((let h = b.0 in omega arith), below_more n m pages l b.1)

below_append : (n : ℕ) (front pages : List HeapPage) → AllBelow n front → AllBelow n pages → AllBelow n (front ++ pages)
unfolding AllBelow
below_append n [] pages b c = c
below_append n (p ∷ front) pages b c = (b.0, below_append n front pages b.1 c)

from_less : (n m : ℕ) (pages : List HeapPage) → m ≤ n → AllFrom n pages → AllFrom m pages
unfolding AllFrom
from_less n m [] l f = tt
from_less n m (p ∷ pages) l f = ((let h = f.0 in omega arith), from_less n m pages l f.1)

-- a page above all
pub last_page : (new : HeapPage) (pages : List HeapPage) → AllBelow new.page pages → insert_by (λ (p : HeapPage). p.page) new pages ≡ pages ++ new ∷ []
unfolding AllFrom
last_page new pages b = ap (insert_by (λ (p : HeapPage). p.page) new) (sym (append-nil pages)) ∙ insert_between new pages [] b tt

-- a page more is the last of those that are backed
pub back_last : (n first : ℕ) (b : Backing) → back (suc n) first b ≡ back_by (first + n) (position (λ (f : Bool). f) (back n first b).free) (back n first b)
unfolding back
back_last zero first b = let e : first + 0 ≡ first = omega arith in rw e refl
back_last (suc n) first b = let e : first + suc n ≡ first + 1 + n = omega arith in rw e (back_last n (first + 1) (back_by first (position (λ (f : Bool). f) b.free) b))

-- the backed pages stand between those that are below them and those that are past them
pub record Between (page : ℕ) (front behind : List HeapPage) (all alone : Backing) : Type 0 where
  pub pages : all.pages ≡ front ++ alone.pages ++ behind
  pub free : all.free ≡ alone.free
  pub below : AllBelow page alone.pages

between_one : (page : ℕ) (front behind : List HeapPage) (all alone : Backing) (x : Option ℕ) → AllBelow page front → AllFrom page behind → Between page front behind all alone
    → Between (page + 1) front behind (back_by page x all) (back_by page x alone)
unfolding AllBelow AllFrom
between_one page front behind all alone None b f between = record { pages = between.pages; free = between.free; below = below_more page (page + 1) alone.pages (omega arith) between.below }
between_one page front behind all alone (Some frame) b f between =
    let new : HeapPage = record { page = page; frame = frame } in
    let mid = last_page new alone.pages between.below in
    let whole = insert_between new (front ++ alone.pages) behind (below_append page front alone.pages b between.below) f in
    let joined : front ++ (alone.pages ++ new ∷ []) ++ behind ≡ front ++ alone.pages ++ new ∷ behind =
    append_assoc front (alone.pages ++ new ∷ []) behind ∙ ap (λ ps. front ++ ps) (append_assoc alone.pages (new ∷ []) behind) ∙ sym (append_assoc front alone.pages (new ∷ behind)) in
    record {
      pages = ap (insert_by (λ (p : HeapPage). p.page) new) between.pages ∙ whole ∙ sym joined ∙ ap (λ ps. front ++ ps ++ behind) (sym mid);
      free = ap (λ (free : List Bool). slice_set free frame false) between.free;
      below = rw mid (below_append (page + 1) alone.pages (new ∷ []) (below_more page (page + 1) alone.pages (omega arith) between.below) ((let l : page < page + 1 = omega arith in l), tt));
    }

pub back_between : (n first : ℕ) (front behind : List HeapPage) (free : List Bool) → AllBelow first front → AllFrom (first + n) behind
    → Between (first + n) front behind (back n first (record { pages = front ++ behind; free = free })) (back n first (record { pages = []; free = free }))
unfolding back AllBelow
back_between zero first front behind free b f = record { pages = ap (λ ps. ps ++ behind) (sym (append-nil front)); free = refl; below = tt }
back_between (suc n) first front behind free b f =
    let all : Backing = record { pages = front ++ behind; free = free } in
    let alone : Backing = record { pages = []; free = free } in
    let before = back_between n first front behind free b (from_less (first + suc n) (first + n) behind (omega arith) f) in
    let next = between_one (first + n) front behind (back n first all) (back n first alone) (position (λ (x : Bool). x) (back n first alone).free) (below_more first (first + n) front (omega arith) b) (from_less (first + suc n) (first + n) behind (omega arith) f) before in
    let e : first + suc n ≡ first + n + 1 = omega arith in
    rw (e, back_last n first all, back_last n first alone, before.free) next

pub back_zero : (first : ℕ) (b : Backing) → back (first - first) first b ≡ b
unfolding back
back_zero first b = let n : first - first ≡ 0 = omega arith in rw n refl

-- one page more of a range, all of whose pages stand alone
pub record Pushed (page : ℕ) (x : Option ℕ) (before after : Backing) : Type 0 where
  pub some : (frame : ℕ) → x ≡ Some frame → after.pages ≡ before.pages ++ record { page = page; frame = frame } ∷ []
  pub none : x ≡ None → after.pages ≡ before.pages
  pub free : after.free ≡ without_frame before.free x

pub pushed : (first page : ℕ) (free now : List Bool) (x : Option ℕ) → first ≤ page → now ≡ (back (page - first) first (record { pages = []; free = free })).free → x ≡ position (λ (f : Bool). f) now
    → Pushed page x (back (page - first) first (record { pages = []; free = free })) (back (page + 1 - first) first (record { pages = []; free = free }))
unfolding AllBelow AllFrom
pushed first page free now x l is least =
    let alone : Backing = record { pages = []; free = free } in
    let n : page + 1 - first ≡ suc (page - first) = omega arith in
    let m : first + (page - first) ≡ page = omega arith in
    let b = (back_between (page - first) first [] [] free tt tt).below in
    let found = least ∙ ap (position (λ (f : Bool). f)) is in
    rw n (rw (back_last (page - first) first alone, m, sym found) (by x (rw m at b)))
  where
    by : (y : Option ℕ) → AllBelow page (back (page - first) first (record { pages = []; free = free })).pages
        → Pushed page y (back (page - first) first (record { pages = []; free = free })) (back_by page y (back (page - first) first (record { pages = []; free = free })))
    by None b = record { some = λ frame e. grind (arith, e); none = λ e. refl; free = refl }
    by (Some f) b = record { some = λ frame e. grind (arith, e, last_page (record { page = page; frame = f }) (back (page - first) first (record { pages = []; free = free })).pages b); none = λ e. grind (arith, e); free = refl }

-- the pages of a range with none are put in their place
pub record Backed (count first : ℕ) (old : List HeapPage) (frames : List Bool) : Type 0 where
  pub pages : (back count first (record { pages = old; free = frames })).pages ≡ insert_slice old (place first old) (back count first (record { pages = []; free = frames })).pages
  pub free : (back count first (record { pages = old; free = frames })).free ≡ (back count first (record { pages = []; free = frames })).free

pub backed : (count first : ℕ) (pages : List HeapPage) (free : List Bool) → IsAscending (λ (p : HeapPage). p.page) pages → ((q : ℕ) → first ≤ q → q < first + count → frame_of pages q ≡ None) → Backed count first pages free
backed count first pages free a fresh =
    let b = back_between count first (take (place first pages) pages) (drop (place first pages) pages) free (below_place first pages) (past_place first (first + count) pages a fresh) in
    let whole = take-append-drop (place first pages) pages in
    record { pages = rw whole at b.pages; free = rw whole at b.free }
