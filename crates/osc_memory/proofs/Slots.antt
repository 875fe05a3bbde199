-- Pages by their slots.
use Rattle.std.proofs.Common.{◌≡◌, ◌≢◌, ℕ, zero, suc, ◌+◌, ◌<◌, ◌≤◌, ◌==◌, Bool, true, false, cond, List, [], ◌∷◌, length, get_or, Option, Some, None, refl, ap, sym, subst, ◌∙◌, arith, slice_get, set, map}
use Rattle.std.specs.Prelude.{find, unwrap_or}
use Rattle.std.proofs.lemmas.Bool.Decides.{nat_tests}
use Rattle.osc_world.specs.declared.Byte.{Byte}
use Rattle.osc_world.specs.World.{Page}
use Rattle.osc_world.specs.Accesses.{memory_page, page_overlaid}
use Rattle.osc_memory.specs.Slots.{slot, is_page, AreApart, Stand, StandBelow}

-- ---- found by its number

is-same : (n m : ℕ) → (n == m) ≡ true → n ≡ m
is-same n m e = grind (arith, nat_tests, e)

is-other : (n m : ℕ) → (n == m) ≡ false → n ≢ m
is-other n m e same = grind (arith, nat_tests, e, same)

tested : (n m : ℕ) → n ≡ m → (n == m) ≡ true
tested n m same = grind (arith, nat_tests, same)

untested : (n m : ℕ) → n ≢ m → (n == m) ≡ false
untested n m differ = grind (arith, nat_tests, differ)

pub find-none : (pages : List Page) (number : ℕ) → ((i : ℕ) (page : Page) → slice_get pages i ≡ Some page → page.number ≢ number)
    → memory_page pages number ≡ None
find-none [] number none = refl
find-none (page ∷ pages) number none =
    rw (untested page.number number (none 0 page refl)) (find-none pages number (λ i other at. none (suc i) other at))

pub find-only : (pages : List Page) (i : ℕ) (page : Page) (number : ℕ) → slice_get pages i ≡ Some page → page.number ≡ number
    → ((j : ℕ) (other : Page) → slice_get pages j ≡ Some other → other.number ≡ number → j ≡ i) → memory_page pages number ≡ Some page
find-only [] i page number at is only = absurd (cc)
find-only (first ∷ pages) zero page number at is only =
    let same : first ≡ page = cc in rw (same, tested page.number number is) refl
find-only (first ∷ pages) (suc i) page number at is only =
    let differ : first.number ≢ number = λ e. absurd (let none = only 0 first refl e in omega (arith, none)) in
    rw (untested first.number number differ)
    (find-only pages i page number at is (λ j other there same. let next = only (suc j) other there same in omega (arith, next)))

-- the first that is found passes
find-passes : (pages : List Page) (number : ℕ) (page : Page) → memory_page pages number ≡ Some page → page.number ≡ number
find-passes [] number page found = absurd (cc)
find-passes (first ∷ pages) number page found = go (first.number == number) refl found (find-passes pages number page)
  where
    go : (b : Bool) → (first.number == number) ≡ b → cond b (Some first) (memory_page pages number) ≡ Some page
        → (memory_page pages number ≡ Some page → page.number ≡ number) → page.number ≡ number
    go true passes is rest = let same : first ≡ page = cc in rw (← same) (is-same first.number number passes)
    go false passes is rest = rest is

-- ---- the place in a slot

place-stands : (places : List ℕ) (i s : ℕ) → slice_get places s ≡ Some i → unwrap_or (slice_get places s) 0 ≡ i
place-stands places i s at = ap (λ (o : Option ℕ). unwrap_or o 0) at

pub placed-is : (places : List ℕ) (pages : List Page) (number place : ℕ) (b : Bool) → Stand places pages
    → place ≡ unwrap_or (slice_get places (slot number)) 0 → is_page number (slice_get pages place) ≡ b
    → cond b (slice_get pages place) None ≡ memory_page pages number
placed-is places pages number place true stand is here = go (slice_get pages place) refl here
  where
    go : (found : Option Page) → slice_get pages place ≡ found → is_page number found ≡ true → found ≡ memory_page pages number
    go None at passes = absurd (cc)
    go (Some page) at passes =
        let same = is-same page.number number passes in
        sym (find-only pages place page number at same (λ j other there equal.
        let slotted : slice_get places (slot number) ≡ Some j = rw equal at (stand j other there) in
        sym (is ∙ place-stands places j (slot number) slotted)))
placed-is places pages number place false stand is here =
    sym (find-none pages number (λ j other there equal.
    let slotted : slice_get places (slot number) ≡ Some j = rw equal at (stand j other there) in
    let same : place ≡ j = is ∙ place-stands places j (slot number) slotted in
    let found : slice_get pages place ≡ Some other = rw same there in
    absurd (grind (arith, nat_tests, here, found, equal))))

pub placed-inside : (pages : List Page) (number place : ℕ) → is_page number (slice_get pages place) ≡ true → place < length pages
placed-inside [] number place here = absurd (cc)
placed-inside (page ∷ pages) number zero here = omega arith
placed-inside (page ∷ pages) number (suc place) here = let rest = placed-inside pages number place here in omega (arith, rest)

-- ---- a store

overlaid-other : (number offset : ℕ) (bytes : List Byte) (page : Page) → page.number ≢ number → page_overlaid number offset bytes page ≡ page
overlaid-other number offset bytes page differ = rw (untested page.number number differ) refl

pub put-none : (number offset : ℕ) (bytes : List Byte) (pages : List Page) → memory_page pages number ≡ None
    → pages ≡ map (page_overlaid number offset bytes) pages
put-none number offset bytes [] none = refl
put-none number offset bytes (page ∷ pages) none = go (page.number == number) refl none (put-none number offset bytes pages)
  where
    go : (b : Bool) → (page.number == number) ≡ b → cond b (Some page) (memory_page pages number) ≡ None
        → (memory_page pages number ≡ None → pages ≡ map (page_overlaid number offset bytes) pages)
        → page ∷ pages ≡ map (page_overlaid number offset bytes) (page ∷ pages)
    go true passes is rest = absurd (cc)
    go false passes is rest = rw passes (ap (λ ps. page ∷ ps) (rest is))

all-others : (number offset : ℕ) (bytes : List Byte) (pages : List Page) → ((j : ℕ) (other : Page) → slice_get pages j ≡ Some other → other.number ≢ number)
    → map (page_overlaid number offset bytes) pages ≡ pages
all-others number offset bytes pages none = sym (put-none number offset bytes pages (find-none pages number none))

put-only : (number offset : ℕ) (bytes : List Byte) (pages : List Page) (i : ℕ) (page : Page) → slice_get pages i ≡ Some page
    → ((j : ℕ) (other : Page) → slice_get pages j ≡ Some other → other.number ≡ number → j ≡ i)
    → set pages i (page_overlaid number offset bytes page) ≡ map (page_overlaid number offset bytes) pages
put-only number offset bytes [] i page at only = absurd (cc)
put-only number offset bytes (first ∷ pages) zero page at only =
    let same : first ≡ page = cc in
    let rest = all-others number offset bytes pages (λ j other there equal. absurd (let none = only (suc j) other there equal in omega (arith, none))) in
    rw (same, rest) refl
put-only number offset bytes (first ∷ pages) (suc i) page at only =
    let differ : first.number ≢ number = λ e. absurd (let none = only 0 first refl e in omega (arith, none)) in
    rw (overlaid-other number offset bytes first differ)
    (ap (λ ps. first ∷ ps) (put-only number offset bytes pages i page at (λ j other there equal. let next = only (suc j) other there equal in omega (arith, next))))

-- two pages of one number stand at one place
stands-once : (places : List ℕ) (pages : List Page) (i j : ℕ) (a b : Page) → Stand places pages → slice_get pages i ≡ Some a → slice_get pages j ≡ Some b
    → b.number ≡ a.number → j ≡ i
stands-once places pages i j a b stand at there same =
    let one = stand i a at in
    let other : slice_get places (slot a.number) ≡ Some j = rw same at (stand j b there) in
    let both : Some j ≡ Some i = sym other ∙ one in cc

pub put-at : (places : List ℕ) (pages : List Page) (number offset : ℕ) (bytes : List Byte) (place : ℕ) (page : Page) → Stand places pages
    → slice_get pages place ≡ Some page → slice_get pages place ≡ memory_page pages number
    → set pages place (page_overlaid number offset bytes page) ≡ map (page_overlaid number offset bytes) pages
put-at places pages number offset bytes place page stand at found =
    let named : page.number ≡ number = find-passes pages number page (sym found ∙ at) in
    put-only number offset bytes pages place page at (λ j other there equal. stands-once places pages place j page other stand at there (equal ∙ sym named))

-- ---- what stands still stands

overlaid-number : (number offset : ℕ) (bytes : List Byte) (page : Page) → (page_overlaid number offset bytes page).number ≡ page.number
overlaid-number number offset bytes page = go (page.number == number) refl
  where
    go : (b : Bool) → (page.number == number) ≡ b → (page_overlaid number offset bytes page).number ≡ page.number
    go true e = rw e refl
    go false e = rw e refl

from-mapped : (number offset : ℕ) (bytes : List Byte) (pages : List Page) (i n : ℕ) (page : Page) (P : ℕ → ℕ → Type 0)
    → ((j : ℕ) (old : Page) → slice_get pages j ≡ Some old → P old.number j)
    → slice_get (map (page_overlaid number offset bytes) pages) i ≡ Some page → P page.number i
from-mapped number offset bytes [] i n page P each at = absurd (cc)
from-mapped number offset bytes (first ∷ pages) zero n page P each at =
    let same : page_overlaid number offset bytes first ≡ page = cc in
    let numbered : first.number ≡ page.number = sym (overlaid-number number offset bytes first) ∙ ap (λ (p : Page). p.number) same in
    subst (λ m. P m 0) numbered (each 0 first refl)
from-mapped number offset bytes (first ∷ pages) (suc i) n page P each at =
    from-mapped number offset bytes pages i n page (λ m j. P m (suc j)) (λ j old there. each (suc j) old there) at

pub stand-overlaid : (number offset : ℕ) (bytes : List Byte) (places : List ℕ) (pages : List Page) → Stand places pages
    → Stand places (map (page_overlaid number offset bytes) pages)
stand-overlaid number offset bytes places pages stand i page at =
    from-mapped number offset bytes pages i i page (λ m j. slice_get places (slot m) ≡ Some j) (λ j old there. stand j old there) at

-- ---- laying the places

put-here : (xs : List ℕ) (i y : ℕ) → i < length xs → slice_get (set xs i y) i ≡ Some y
put-here [] i y inside = absurd (omega arith)
put-here (x ∷ xs) zero y inside = refl
put-here (x ∷ xs) (suc i) y inside = put-here xs i y (omega arith)

put-elsewhere : (xs : List ℕ) (i j y : ℕ) → j ≢ i → slice_get (set xs i y) j ≡ slice_get xs j
put-elsewhere [] i j y differ = refl
put-elsewhere (x ∷ xs) zero zero y differ = absurd (differ refl)
put-elsewhere (x ∷ xs) zero (suc j) y differ = refl
put-elsewhere (x ∷ xs) (suc i) zero y differ = refl
put-elsewhere (x ∷ xs) (suc i) (suc j) y differ = put-elsewhere xs i j y (λ e. differ (ap suc e))

pub stand-next : (places now : List ℕ) (pages : List Page) (place : ℕ) (page : Page) → AreApart pages → slice_get pages place ≡ Some page
    → slot page.number < length places → now ≡ set places (slot page.number) place → StandBelow place places pages → StandBelow (place + 1) now pages
stand-next places now pages place page apart at inside is stand i other below there = go (i == place) refl
  where
    go : (b : Bool) → (i == place) ≡ b → slice_get now (slot other.number) ≡ Some i
    go true e =
        let here = is-same i place e in
        let found : slice_get pages place ≡ Some other = rw here at there in
        let both : Some other ≡ Some page = sym found ∙ at in
        let same : other ≡ page = cc in
        rw (is, same, here) (put-here places (slot page.number) place inside)
    go false e =
        let before : i < place = let differ = is-other i place e in omega (arith, differ, below) in
        let differ = apart i place other page before there at in
        rw is (put-elsewhere places (slot page.number) (slot other.number) place differ ∙ stand i other before there)
