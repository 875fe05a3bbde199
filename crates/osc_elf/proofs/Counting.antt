-- Mapped pages, and the tables that they lie in, are counted page by page.
use Rattle.std.proofs.Common.{ℕ, zero, suc, ◌≡◌, ◌+◌, ◌-◌, ◌/◌, ◌<◌, ◌≤◌, ◌==◌, arith, refl, sym, ◌∙◌, ap, Bool, true, false, cond, not, ◌⊎◌, inl, inr, ◌||◌, List, [], ◌∷◌, ◌++◌, length, map, append-nil, None}
use Rattle.std.proofs.Math.Nat.{div-mul-le_self}
use Rattle.std.proofs.lemmas.Nat.{le-div}
use Rattle.std.specs.Prelude.{if◌then◌else◌, is_some}
use Rattle.std.specs.List.{list_any, filter, range_with_len}
use Rattle.std.proofs.lemmas.Bool.Decides.{nat_tests}
use Rattle.std.proofs.lemmas.Grind.{common_steps}
use Rattle.std.proofs.lemmas.List.Elements.{filter-append}
use Rattle.std.proofs.lemmas.List.Folds.{list_any-append}
use Rattle.osc_sv39.specs.declared.entries.Access.{Access}
use Rattle.osc_sv39.specs.declared.entries.Access.TheVariants.{Fetch, Load, Store}
use Rattle.osc_image.specs.Image.{Image, is_mapped, page_permits, bits_at, page_limit, pages_below, pages, NoneFrom}
use Rattle.osc_image.specs.Frames.{different, stack_pages, tables_below, needed_frames}
use Rattle.osc_sv39.specs.Walk.{piece, IsLevels}
use Rattle.osc_elf.specs.TableNumbers.{tables_of}
use Rattle.osc_elf.proofs.Ranges.{range-more, filter-none, range-split}

pub page_limit-is : page_limit ≡ 1048576
unfolding page_limit
page_limit-is = refl

-- the next page is among them where it is mapped
pages-next : (image : Image) (page : ℕ)
    → pages_below image (page + 1) ≡ pages_below image page ++ filter (is_mapped image) (page ∷ [])
unfolding pages_below
pages-next image page =
    ap (filter (is_mapped image)) (range-more 0 page ∙ ap (λ x. range_with_len 0 page ++ x ∷ []) (omega arith))
    ∙ filter-append (is_mapped image) (range_with_len 0 page) (page ∷ [])

pub pages-start : (image : Image) → pages_below image 0 ≡ []
unfolding pages_below
pages-start image = refl

pub pages-mapped : (image : Image) (page : ℕ) → is_mapped image page ≡ true
    → pages_below image (page + 1) ≡ pages_below image page ++ page ∷ []
pages-mapped image page mapped = pages-next image page ∙ rw mapped refl

pub pages-unmapped : (image : Image) (page : ℕ) → is_mapped image page ≡ false
    → pages_below image (page + 1) ≡ pages_below image page
pages-unmapped image page unmapped = pages-next image page ∙ rw unmapped (append-nil (pages_below image page))

-- a page that permits nothing is not mapped
pub permits-nothing : (image : Image) (page : ℕ) → ((access : Access) → page_permits image.segments access page ≡ false)
    → bits_at image page ≡ None
permits-nothing image page none = rw (none Load, none Store, none Fetch) refl

-- nothing is mapped from a limit on: the pages below it are all
pub pages-all : (image : Image) (limit : ℕ) → limit ≤ 1048576 → NoneFrom image limit → pages_below image limit ≡ pages image
unfolding pages_below
pages-all image limit low none =
    let all : limit + (page_limit - limit) ≡ page_limit = rw page_limit-is (omega arith) in
    sym (ap (λ n. filter (is_mapped image) (range_with_len 0 n)) (sym all)
    ∙ (ap (filter (is_mapped image)) (range-split 0 limit (page_limit - limit))
    ∙ (filter-append (is_mapped image) (range_with_len 0 limit) (range_with_len (0 + limit) (page_limit - limit))
    ∙ (ap (λ xs. filter (is_mapped image) (range_with_len 0 limit) ++ xs)
    (filter-none (is_mapped image) (0 + limit) (page_limit - limit) (λ k above below. ap is_some (none k (omega arith))))
    ∙ append-nil (filter (is_mapped image) (range_with_len 0 limit))))))

-- all pages were looked at
pub pages-limit : (image : Image) (page limit : ℕ) → page ≡ limit → limit ≤ 1048576
    → ((access : Access) (p : ℕ) → limit ≤ p → page_permits image.segments access p ≡ false) → pages_below image page ≡ pages image
pages-limit image page limit end low none =
    ap (pages_below image) end ∙ pages-all image limit low (λ p above. permits-nothing image p (λ access. none access p above))

pub ruleset count_steps = (common_steps, nat_tests, pages-start, pages-mapped, pages-unmapped)

-- ---- how many different numbers
is_among : ℕ → List ℕ → Bool
is_among x xs = list_any (λ y. y == x) xs

-- a number at the end adds one where it is new
pub different-more : (xs : List ℕ) (x : ℕ) → different (xs ++ x ∷ []) ≡ different xs + (if list_any (λ y. y == x) xs then 0 else 1)
different-more [] x = refl
different-more (y ∷ xs) x =
    rw (different-more xs x, list_any-append (λ z. z == y) xs (x ∷ []))
    (at (list_any (λ z. z == y) xs) (list_any (λ z. z == x) xs) (different xs) (same y x xs))
  where
    at : (here there : Bool) (n : ℕ) → ((y ≡ x) → here ≡ there)
        → (if here || ((x == y) || false) then 0 else 1) + (n + (if there then 0 else 1))
        ≡ ((if here then 0 else 1) + n) + (if (y == x) || there then 0 else 1)
    at true true n e = grind (arith, nat_tests)
    at true false n e = grind (arith, nat_tests)
    at false true n e = grind (arith, nat_tests)
    at false false n e = grind (arith, nat_tests)

    same : (y x : ℕ) (xs : List ℕ) → (y ≡ x) → list_any (λ z. z == y) xs ≡ list_any (λ z. z == x) xs
    same y x xs e = ap (λ w. list_any (λ z. z == w) xs) e

-- the tables of the pages so far are those below `next`, and the one before it is the last
pub record Counted (tables : List ℕ) (count next : ℕ) : Type 0 where
  pub count_is : count ≡ different tables
  pub below : (n : ℕ) → next ≤ n → list_any (λ y. y == n) tables ≡ false
  pub last : 0 < next → list_any (λ y. y == next - 1) tables ≡ true

pub Counted-start : Counted [] 0 0
Counted-start = record { count_is = refl; below = λ n above. refl; last = λ some. absurd (omega arith) }

-- a table from `next` on is new
pub Counted-new : (tables : List ℕ) (count next table : ℕ) → next ≤ table → Counted tables count next
    → Counted (tables ++ table ∷ []) (count + 1) (table + 1)
Counted-new tables count next table above counted = record {
  count_is = rw (different-more tables table, counted.below table above) (omega (arith, counted.count_is));
  below = λ n far. rw (list_any-append (λ y. y == n) tables (table ∷ []), counted.below n (omega arith)) (grind (arith, nat_tests));
  last = λ some. rw (list_any-append (λ y. y == table + 1 - 1) tables (table ∷ [])) (grind (arith, nat_tests));
}

-- the one before `next` is not
pub Counted-same : (tables : List ℕ) (count next table : ℕ) → next ≡ table + 1 → Counted tables count next
    → Counted (tables ++ table ∷ []) count next
Counted-same tables count next table is counted =
    let last : list_any (λ y. y == table) tables ≡ true =
    ap (λ n. list_any (λ y. y == n) tables) (omega arith) ∙ counted.last (omega arith) in
    record {
      count_is = rw (different-more tables table, last) (omega (arith, counted.count_is));
      below = λ n far. rw (list_any-append (λ y. y == n) tables (table ∷ []), counted.below n far) (grind (arith, nat_tests));
      last = λ some. rw (list_any-append (λ y. y == next - 1) tables (table ∷ []), counted.last some) refl;
    }

-- ---- the tables of the pages so far
tables_of-more : (size : ℕ) (used : List ℕ) (page : ℕ) → tables_of size (used ++ page ∷ []) ≡ tables_of size used ++ page / size ∷ []
unfolding tables_of
tables_of-more size [] page = refl
tables_of-more size (p ∷ used) page = ap (λ xs. p / size ∷ xs) (tables_of-more size used page)

pub tables-start : (image : Image) (size : ℕ) → Counted (tables_of size (pages_below image 0)) 0 0
unfolding tables_of
tables-start image size = rw (pages-start image) Counted-start

pub tables-new : (image : Image) (size page count next : ℕ) → is_mapped image page ≡ true → next ≤ page / size
    → Counted (tables_of size (pages_below image page)) count next
    → Counted (tables_of size (pages_below image (page + 1))) (count + 1) (page / size + 1)
tables-new image size page count next mapped above counted =
    rw (pages-mapped image page mapped, tables_of-more size (pages_below image page) page)
    (Counted-new (tables_of size (pages_below image page)) count next (page / size) above counted)

pub tables-same : (image : Image) (size page count next : ℕ) → is_mapped image page ≡ true → page / size < next → next ≤ page / size + 1
    → Counted (tables_of size (pages_below image page)) count next → Counted (tables_of size (pages_below image (page + 1))) count next
tables-same image size page count next mapped below bound counted =
    rw (pages-mapped image page mapped, tables_of-more size (pages_below image page) page)
    (Counted-same (tables_of size (pages_below image page)) count next (page / size) (omega arith) counted)

pub tables-unmapped : (image : Image) (size page count next : ℕ) → is_mapped image page ≡ false
    → Counted (tables_of size (pages_below image page)) count next → Counted (tables_of size (pages_below image (page + 1))) count next
tables-unmapped image size page count next unmapped counted = rw (pages-unmapped image page unmapped) counted

-- a later page is in no earlier table
pub table-later : (page size : ℕ) → 0 < size → page / size ≤ (page + 1) / size
table-later page size some =
    le-div (page / size) (page + 1) size some (omega (arith, div-mul-le_self page size))

-- ---- the stack's tables are none of an image's
apart-more : (q : ℕ → Bool) (size table a : ℕ) (rest : List ℕ) (b : Bool) → a / size < table
    → list_any (λ y. y == table) (map (λ page. page / size) rest) ≡ false
    → list_any (λ y. y == table) (map (λ page. page / size) (cond b (a ∷ rest) rest)) ≡ false
apart-more q size table a rest true small none = rw none (grind (arith, nat_tests))
apart-more q size table a rest false small none = none

tables-apart : (q : ℕ → Bool) (size table a n : ℕ) → ((page : ℕ) → page < a + n → page / size < table)
    → list_any (λ y. y == table) (map (λ page. page / size) (filter q (range_with_len a n))) ≡ false
tables-apart q size table a zero small = refl
tables-apart q size table a (suc n) small =
    apart-more q size table a (filter q (range_with_len (a + 1) n)) (q a) (small a (omega arith))
    (tables-apart q size table (a + 1) n (λ page below. small page (omega arith)))

pages-apart : (image : Image) (size table : ℕ) → ((page : ℕ) → page < 1048576 → page / size < table)
    → list_any (λ y. y == table) (map (λ page. page / size) (pages image)) ≡ false
unfolding pages_below
pages-apart image size table small =
    tables-apart (is_mapped image) size table 0 page_limit (λ page below. small page (omega (arith, page_limit-is)))

-- ---- the numbers of tables
directories : (used : List ℕ) → map (piece 2) used ≡ tables_of 262144 used
unfolding tables_of
directories [] = refl
directories (page ∷ used) =
    let same : page / 512 / 512 ≡ page / 262144 = omega arith in rw (same, directories used) refl

-- ---- with four levels all lie in one table of the level below the root
abbrev is_other : ℕ → Bool
is_other table = not (table == 0)

one-more : (y : ℕ) (ys : List ℕ) → list_any is_other (y ∷ ys) ≡ false → (y ≡ 0) × (list_any is_other ys ≡ false)
one-more y ys none = grind (arith, nat_tests)

joined : (y : ℕ) (ys : List ℕ) → (y ≡ 0) × (list_any is_other ys ≡ false) → (list_any is_other ys ≡ false → different (0 ∷ ys) ≡ 1)
    → different (0 ∷ y ∷ ys) ≡ 1
joined y ys (zeroth, none) on = rw zeroth (omega (arith, on none))

one-table : (tables : List ℕ) → list_any is_other tables ≡ false → different (0 ∷ tables) ≡ 1
one-table [] none = refl
one-table (y ∷ ys) none = joined y ys (one-more y ys none) (λ rest. one-table ys rest)

low-tables : (q : ℕ → Bool) (a n : ℕ) → a + n ≤ 134217728
    → list_any is_other (map (piece 3) (filter q (range_with_len a n))) ≡ false
low-tables q a zero low = refl
low-tables q a (suc n) low = low-more (q a) (low-tables q (a + 1) n (omega arith))
  where
    low-more : (b : Bool) → list_any is_other (map (piece 3) (filter q (range_with_len (a + 1) n))) ≡ false
        → list_any is_other (map (piece 3) (cond b (a ∷ filter q (range_with_len (a + 1) n)) (filter q (range_with_len (a + 1) n)))) ≡ false
    low-more true none = let z : a / 512 / 512 / 512 ≡ 0 = omega arith in rw (z, none) refl
    low-more false none = none

top-tables : (image : Image) → different (map (piece 3) (stack_pages ++ pages image)) ≡ 1
unfolding pages_below
top-tables image =
    one-table (map (piece 3) (range_with_len 1048817 15 ++ pages image)) (low-tables (is_mapped image) 0 page_limit (omega (arith, page_limit-is)))

-- ---- the frames that an image needs
lower-tables : (image : Image) → tables_below 2 (stack_pages ++ pages image)
    ≡ 2 + (different (tables_of 262144 (pages image)) + different (tables_of 512 (pages image)))
unfolding tables_below tables_of
lower-tables image =
    rw (directories (pages image), pages-apart image 262144 4 (λ page low. omega arith), pages-apart image 512 2048 (λ page low. omega arith))
    (omega arith)

upper-tables : (image : Image) → tables_below 3 (stack_pages ++ pages image)
    ≡ 3 + (different (tables_of 262144 (pages image)) + different (tables_of 512 (pages image)))
unfolding tables_below
upper-tables image = rw (top-tables image, lower-tables image) (omega arith)

needed-3 : (image : Image) → needed_frames 3 image
    ≡ length (pages image) + 16 + 3 + (different (tables_of 262144 (pages image)) + different (tables_of 512 (pages image)))
unfolding needed_frames
needed-3 image = rw (lower-tables image) (omega arith)

needed-4 : (image : Image) → needed_frames 4 image
    ≡ length (pages image) + 16 + 4 + (different (tables_of 262144 (pages image)) + different (tables_of 512 (pages image)))
unfolding needed_frames
needed-4 image = rw (upper-tables image) (omega arith)

pub needed-is : (levels : ℕ) (image : Image) → IsLevels levels → needed_frames levels image
    ≡ length (pages image) + 16 + levels + (different (tables_of 262144 (pages image)) + different (tables_of 512 (pages image)))
needed-is levels image l = of (which l)
  where
    which : IsLevels levels → (levels ≡ 3) ⊎ (levels ≡ 4)
    which l = grind arith

    of : (levels ≡ 3) ⊎ (levels ≡ 4) → needed_frames levels image
        ≡ length (pages image) + 16 + levels + (different (tables_of 262144 (pages image)) + different (tables_of 512 (pages image)))
    of (inl three) = rw three (needed-3 image)
    of (inr four) = rw four (needed-4 image)
