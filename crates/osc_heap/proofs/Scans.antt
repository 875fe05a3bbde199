-- One more number of a range that is searched.
use Rattle.std.proofs.Common.{ℕ, zero, suc, ◌≡◌, ◌<◌, ◌≤◌, ◌&&◌, ◌||◌, ◌+◌, ◌-◌, ◌*◌, ◌/◌, Bool, true, false, not, cond, List, ◌∷◌, Option, Some, None, length, slice_get, slice_set, drop, get_or, arith, refl, ap, ◌∙◌, add-one, drop-cons, drop_of_length-le}
use Rattle.std.proofs.Math.Nat.{suc-mul, mul-le-mul_right, div-eq_of_lt-le}
use Rattle.osc_slot.specs.Least.{least, any}
use Rattle.osc_slot.specs.Slots.{or_else}
use Rattle.osc_slot.proofs.Counting.{least_same}
use Rattle.std.proofs.lemmas.Bool.Decides.{nat_tests}
use Rattle.osc_slot.specs.declared.HeapPage.{HeapPage}
use Rattle.osc_slot.specs.Heap.{give_back}
use Rattle.osc_heap.specs.Layout.{CanGiveBack, bit_at, page_held, page_beside, row_beside}

pub any_more : (test : ℕ → Bool) (i end : ℕ) → i < end → any test i (end - i) ≡ (test i || any test (i + 1) (end - (i + 1)))
unfolding any
any_more test i end l = let e : end - i ≡ suc (end - (i + 1)) = omega arith in rw e refl

pub any_end : (test : ℕ → Bool) (i end : ℕ) → end ≤ i → any test i (end - i) ≡ false
unfolding any
any_end test i end l = let e : end - i ≡ 0 = omega arith in rw e refl

pub least_more : (test : ℕ → Bool) (i end : ℕ) → i < end → least test i (end - i) ≡ cond (test i) (Some i) (least test (i + 1) (end - (i + 1)))
unfolding least
least_more test i end l = let e : end - i ≡ suc (end - (i + 1)) = omega arith in rw e refl

pub least_end : (test : ℕ → Bool) (i end : ℕ) → end ≤ i → least test i (end - i) ≡ None
unfolding least
least_end test i end l = let e : end - i ≡ 0 = omega arith in rw e refl

-- a range in two parts
pub least_split : (test : ℕ → Bool) (from a b : ℕ) → least test from (a + b) ≡ or_else (least test from a) (least test (from + a) b)
unfolding least
least_split test from zero b =
    let e : zero + b ≡ b = omega arith in
    let m : from + zero ≡ from = omega arith in
    rw (e, m) refl
least_split test from (suc a) b =
    let rest = least_split test (from + 1) a b in
    let e : suc a + b ≡ suc (a + b) = omega arith in
    let m : from + suc a ≡ from + 1 + a = omega arith in
    rw (e, m) (grind (arith, rest))

pub least_none : (from count : ℕ) → least (λ slot. false) from count ≡ None
unfolding least
least_none from zero = refl
least_none from (suc count) = least_none (from + 1) count

-- no slot of a page without a block is beside one
beside_page : (slots : ℕ) (row : List Bool) (page : ℕ) → 0 < slots → least (λ slot. page_held slots row (slot / slots) && not (bit_at row slot)) (page * slots) slots ≡ page_beside slots row page
beside_page slots row page p = same ∙ by (page_held slots row page)
  where
    same : least (λ slot. page_held slots row (slot / slots) && not (bit_at row slot)) (page * slots) slots ≡ least (λ slot. page_held slots row page && not (bit_at row slot)) (page * slots) slots
    same = least_same (λ slot. page_held slots row (slot / slots) && not (bit_at row slot)) (λ slot. page_held slots row page && not (bit_at row slot)) (page * slots) slots
        (λ i l m. ap (λ q. page_held slots row q && not (bit_at row i)) (div-eq_of_lt-le {k = page} slots l (omega arith)))

    by : (t : Bool) → least (λ slot. t && not (bit_at row slot)) (page * slots) slots ≡ cond t (least (λ slot. not (bit_at row slot)) (page * slots) slots) None
    by true = refl
    by false = least_none (page * slots) slots

-- the least free slot beside a block, from a page on
unfoldable pub beside_from : ℕ → ℕ → List Bool → ℕ → Option ℕ
beside_from pages slots row page = least (λ slot. page_held slots row (slot / slots) && not (bit_at row slot)) (page * slots) ((pages - page) * slots)

pub beside_more : (pages slots : ℕ) (row : List Bool) (page : ℕ) → 0 < slots → page < pages → beside_from pages slots row page ≡ or_else (page_beside slots row page) (beside_from pages slots row (page + 1))
unfolding beside_from
beside_more pages slots row page p l =
    let e : (pages - page) * slots ≡ slots + (pages - (page + 1)) * slots = (let n : pages - page ≡ suc (pages - (page + 1)) = omega arith in let m = suc-mul (pages - (page + 1)) slots in rw n (omega arith)) in
    let m : page * slots + slots ≡ (page + 1) * slots = omega arith in
    let f = least_split (λ slot. page_held slots row (slot / slots) && not (bit_at row slot)) (page * slots) slots ((pages - (page + 1)) * slots) in
    let g = beside_page slots row page p in
    rw (e, f, g, m) refl

pub beside_end : (pages slots : ℕ) (row : List Bool) (page : ℕ) → pages ≤ page → beside_from pages slots row page ≡ None
unfolding least beside_from
beside_end pages slots row page l = let e : pages - page ≡ 0 = omega arith in rw e (let z : 0 * slots ≡ 0 = omega arith in rw z refl)

pub beside_all : (pages slots : ℕ) (row : List Bool) → row_beside pages slots row ≡ beside_from pages slots row 0
unfolding row_beside beside_from
beside_all pages slots row = let z : 0 * slots ≡ 0 = omega arith in let n : pages - 0 ≡ pages = omega arith in rw (z, n) refl

-- the slots of a page are slots of the area
pub page_fits : (page pages slots : ℕ) → page < pages → page * slots + slots ≤ pages * slots
page_fits page pages slots l =
    let m = mul-le-mul_right slots (let n : suc page ≤ pages = omega arith in n) in
    let e = suc-mul page slots in
    omega arith

pub slot_fits : (page pages slots : ℕ) → page < pages → page * slots ≤ pages * slots
slot_fits page pages slots l = mul-le-mul_right slots (let n : page ≤ pages = omega arith in n)

pub ruleset scans = (any_more, any_end, least_more, least_end, beside_more, beside_end, beside_all, page_fits, slot_fits)

-- one more page that is given back
pub give_back-drop : (pages : List HeapPage) (i : ℕ) (d : HeapPage) (free : List Bool) → i < length pages → give_back (drop i pages) free ≡ give_back (drop (i + 1) pages) (slice_set free (get_or pages i d).frame true)
unfolding give_back
give_back-drop pages i d free l = rw (add-one, drop-cons pages i d) refl

pub give_back-end : (pages : List HeapPage) (i : ℕ) (free : List Bool) → length pages ≤ i → give_back (drop i pages) free ≡ free
unfolding give_back
give_back-end pages i free l = rw (drop_of_length-le pages l) refl

pub can_give-drop : (pages : List HeapPage) (i : ℕ) (d : HeapPage) (free : List Bool) → i < length pages → CanGiveBack free (drop i pages) → (slice_get free (get_or pages i d).frame ≡ Some false) × CanGiveBack (slice_set free (get_or pages i d).frame true) (drop (i + 1) pages)
unfolding CanGiveBack
can_give-drop pages i d free l c = let e : drop i pages ≡ get_or pages i d ∷ drop (i + 1) pages = rw (add-one, drop-cons pages i d) refl in rw e at c

pub ruleset page_scans = (give_back-drop, give_back-end, nat_tests)
