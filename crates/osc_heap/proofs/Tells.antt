-- What is told of the pages of an area, and what a change of one slot makes of it.
use Rattle.std.proofs.Common.{ℕ, zero, suc, ◌≡◌, ◌≢◌, ◌<◌, ◌≤◌, ◌+◌, ◌*◌, ◌/◌, ◌||◌, ◌==◌, nat_le, Bool, true, false, not, cond, List, [], ◌∷◌, Option, Some, None, is_some, length, position, get_or, slice_index_or, slice_set, arith, refl, sym, ap, ◌∙◌, subst}
use Rattle.std.specs.List.{list_any}
use Rattle.std.proofs.lemmas.Bool.Decides.{nat_tests}
use Rattle.std.proofs.lemmas.List.{length-set, length-replicate, get_or-replicate, get_or-set_same, get_or-set_other}
use Rattle.std.proofs.lemmas.List.Quantifiers.{position-Some}
use Rattle.std.proofs.lemmas.List.Sums.{position_or_len_is}
use Rattle.std.proofs.Math.Nat.{mul-le-mul_right, div-eq_of_lt-le}
use Rattle.osc_class.specs.Rooms.{IsRoom}
use Rattle.osc_class.specs.declared.Room.{Room}
use Rattle.osc_class.specs.declared.Room.TheVariants.{Small, Pages}
use Rattle.osc_frames.specs.Free.{least_free}
use Rattle.osc_slot.specs.Least.{least, any}
use Rattle.osc_slot.specs.Areas.{area_of, slots_of, slots_in}
use Rattle.osc_slot.specs.Slots.{or_else, beside, empty_page}
use Rattle.osc_slot.proofs.Bounds.{slots_positive}
use Rattle.osc_slot.proofs.Counting.{least_same, any_same, least-Some, least-None}
use Rattle.osc_heap.specs.declared.page_sets.PageSets.{PageSets}
use Rattle.osc_heap.specs.Layout.{AreSized, AreTold, IsTold, room_at, bit_at, row_of, bits, with_bit, page_held, page_beside, row_beside, row_empty_page, all_free, page_slots, page_count, no_block_on, with_page, TellsRow, TellRows, TellNone}
use Rattle.osc_heap.proofs.Rows.{room_at_area, area_of_room_at, room_at_is_room}
use Rattle.osc_heap.proofs.Changes.{room_sized}
use Rattle.osc_heap.proofs.Parts.{beside_is}
use Rattle.osc_heap.proofs.Scans.{page_fits, beside_from, beside_more, beside_end, beside_all}

least_before : (test : ℕ → Bool) (from count i m : ℕ) → least test from count ≡ Some i → from ≤ m → m < i → test m ≡ false
unfolding least
least_before test from zero i m e l h = cc
least_before test from (suc count) i m e l h = grind (arith, nat_tests, least_before test (from + 1) count i m, e)

-- the least number of a set is the least that passes the test that it tells
pub position_least : (xs : List Bool) (test : ℕ → Bool) (n : ℕ) → length xs ≡ n → ((k : ℕ) → k < n → get_or xs k false ≡ test k) → position (λ b. b) xs ≡ least test 0 n
position_least xs test n l same = go (least test 0 n) refl
  where
    go : (x : Option ℕ) → least test 0 n ≡ x → position (λ b. b) xs ≡ x
    go None e =
        let at = position_or_len_is (λ b. b) xs (length xs) false (omega arith) (λ k m. same k (omega arith) ∙ least-None test 0 n k e (omega arith) (omega arith)) (λ m. absurd (omega arith)) in
        grind (arith, nat_tests, at)
    go (Some i) e =
        let found = least-Some test 0 n i e in
        let high = found.2 in
        let at = position_or_len_is (λ b. b) xs i false (omega arith) (λ k m. same k (omega arith) ∙ least_before test 0 n i k e (omega arith) m) (λ m. same i (omega arith) ∙ found.0) in
        grind (arith, nat_tests, at)

-- the least slot beside a block is on the least page that has one
abbrev pub on_page : ℕ → List Bool → Option ℕ → Option ℕ
on_page slots row None = None
on_page slots row (Some page) = page_beside slots row page

beside_least : (pages slots : ℕ) (row : List Bool) (page n : ℕ) → 0 < slots → page + n ≡ pages → beside_from pages slots row page ≡ on_page slots row (least (λ p. is_some (page_beside slots row p)) page n)
unfolding least
beside_least pages slots row page zero p e = beside_end pages slots row page (omega arith)
beside_least pages slots row page (suc n) p e =
    beside_more pages slots row page p (omega arith) ∙ ap (or_else (page_beside slots row page)) (beside_least pages slots row (page + 1) n p (omega arith)) ∙ by (page_beside slots row page) refl
  where
    by : (x : Option ℕ) → page_beside slots row page ≡ x
        → or_else (page_beside slots row page) (on_page slots row (least (λ p. is_some (page_beside slots row p)) (page + 1) n)) ≡ on_page slots row (cond (is_some (page_beside slots row page)) (Some page) (least (λ p. is_some (page_beside slots row p)) (page + 1) n))
    by None e = rw e refl
    by (Some i) e = rw e (sym e)

pub row_beside_least : (pages slots : ℕ) (row : List Bool) → 0 < slots → row_beside pages slots row ≡ on_page slots row (least (λ p. is_some (page_beside slots row p)) 0 pages)
row_beside_least pages slots row p = beside_all pages slots row ∙ beside_least pages slots row 0 pages p (omega arith)

-- a write on one page leaves the others
other_bit : (row : List Bool) (slots slot page i : ℕ) (t : Bool) → 0 < slots → page ≢ slot / slots → page * slots ≤ i → i < page * slots + slots → bit_at (slice_set row slot t) i ≡ bit_at row i
other_bit row slots slot page i t p n l m =
    let at : i / slots ≡ page = div-eq_of_lt-le {k = page} slots l (omega arith) in
    let apart : i ≢ slot = (λ e. n (sym at ∙ ap (λ j. j / slots) e)) in
    get_or-set_other row slot i t false apart

held_other : (row : List Bool) (slots slot page : ℕ) (t : Bool) → 0 < slots → page ≢ slot / slots → page_held slots (slice_set row slot t) page ≡ page_held slots row page
held_other row slots slot page t p n = any_same (λ i. bit_at (slice_set row slot t) i) (λ i. bit_at row i) (page * slots) slots (λ i l m. other_bit row slots slot page i t p n l m)

beside_other : (row : List Bool) (slots slot page : ℕ) (t : Bool) → 0 < slots → page ≢ slot / slots → page_beside slots (slice_set row slot t) page ≡ page_beside slots row page
beside_other row slots slot page t p n =
    let held = held_other row slots slot page t p n in
    let free = least_same (λ i. not (bit_at (slice_set row slot t) i)) (λ i. not (bit_at row i)) (page * slots) slots (λ i l m. ap not (other_bit row slots slot page i t p n l m)) in
    rw (held, free) refl

-- one page is told anew
pub tells_set : (pages slots : ℕ) (row : List Bool) (sets : PageSets) (slot page : ℕ) (t : Bool) → TellsRow pages slots row sets → 0 < slots → page ≡ slot / slots → page < pages
    → TellsRow pages slots (slice_set row slot t) (with_page sets page (is_some (page_beside slots (slice_set row slot t) page)) (not (page_held slots (slice_set row slot t) page)))
tells_set pages slots row sets slot page t told p e l = record {
  count = told.count;
  partly_count = length-set sets.partly page (is_some (page_beside slots (slice_set row slot t) page)) ∙ told.partly_count;
  empty_count = length-set sets.empty page (not (page_held slots (slice_set row slot t) page)) ∙ told.empty_count;
  partly = λ q m. (let here = told.partly q m in
      let same = get_or-set_same sets.partly page (is_some (page_beside slots (slice_set row slot t) page)) false (let c = told.partly_count in omega arith) in
      let other = get_or-set_other sets.partly page q (is_some (page_beside slots (slice_set row slot t) page)) false in
      let kept = beside_other row slots slot q t p in
      grind (arith, nat_tests, here, same, other, kept));
  empty = λ q m. (let here = told.empty q m in
      let same = get_or-set_same sets.empty page (not (page_held slots (slice_set row slot t) page)) false (let c = told.empty_count in omega arith) in
      let other = get_or-set_other sets.empty page q (not (page_held slots (slice_set row slot t) page)) false in
      let kept = held_other row slots slot q t p in
      grind (arith, nat_tests, here, same, other, kept));
}

-- one slot of one area is written
other_row : (rows : List (List Bool)) (a b : Room) (slot : ℕ) (t : Bool) → area_of a ≢ area_of b → row_of (with_bit rows b slot t) a ≡ row_of rows a
other_row rows a b slot t n = get_or-set_other rows (area_of b) (area_of a) (slice_set (row_of rows b) slot t) [] n

same_row : (rows : List (List Bool)) (a : Room) (slot : ℕ) (t : Bool) → area_of a < length rows → row_of (with_bit rows a slot t) a ≡ slice_set (row_of rows a) slot t
same_row rows a slot t l = get_or-set_same rows (area_of a) (slice_set (row_of rows a) slot t) [] l

pub rows_set : (frames : ℕ) (rows : List (List Bool)) (told : List PageSets) (room : Room) (slot : ℕ) (t : Bool) (now : PageSets) → TellRows frames rows told → IsRoom room → area_of room < length rows → area_of room < length told
    → TellsRow (page_count frames room) (page_slots room) (slice_set (row_of rows room) slot t) now → TellRows frames (with_bit rows room slot t) (slice_set told (area_of room) now)
rows_set frames rows told room slot t now is r l m here = record { areas = length-set told (area_of room) now ∙ is.areas; each = each }
  where
    each : (a : Room) (d : PageSets) → IsRoom a → area_of a < length (slice_set told (area_of room) now) → TellsRow (page_count frames a) (page_slots a) (row_of (with_bit rows room slot t) a) (slice_index_or (slice_set told (area_of room) now) (area_of a) d)
    each a d s n = go (area_of a == area_of room) refl
      where
        go : (b : Bool) → (area_of a == area_of room) ≡ b → TellsRow (page_count frames a) (page_slots a) (row_of (with_bit rows room slot t) a) (slice_index_or (slice_set told (area_of room) now) (area_of a) d)
        go true e =
            let at : area_of a ≡ area_of room = grind (arith, nat_tests, e) in
            let same : room ≡ a = sym (room_at_area room r) ∙ ap room_at (sym at) ∙ room_at_area a s in
            let P : Room → Type 0 = λ b. TellsRow (page_count frames b) (page_slots b) (row_of (with_bit rows room slot t) b) (slice_index_or (slice_set told (area_of room) now) (area_of b) d) in
            subst P same (rw (same_row rows room slot t l, get_or-set_same told (area_of room) now d m) here)
        go false e =
            let apart : area_of a ≢ area_of room = grind (arith, nat_tests, e) in
            let size = length-set told (area_of room) now in
            rw (other_row rows a room slot t apart, get_or-set_other told (area_of room) (area_of a) now d apart) (is.each a d s (omega arith))

pub rows_past : (frames : ℕ) (rows : List (List Bool)) (told : List PageSets) (room : Room) (slot : ℕ) (t : Bool) → TellRows frames rows told → length told ≤ area_of room → TellRows frames (with_bit rows room slot t) told
rows_past frames rows told room slot t is l = record { areas = is.areas; each = λ a d s n. rw (other_row rows a room slot t (let m : area_of a < area_of room = omega arith in (λ e. absurd (omega arith)))) (is.each a d s n) }

-- areas that hold no block
no_bit : (row : List Bool) (i : ℕ) → list_any (λ held. held) row ≡ false → bit_at row i ≡ false
no_bit [] i e = refl
no_bit (true ∷ row) i e = cc
no_bit (false ∷ row) zero e = refl
no_bit (false ∷ row) (suc i) e = no_bit row i e

free_bit : (rows : List (List Bool)) (area i : ℕ) → all_free rows ≡ true → bit_at (slice_index_or rows area []) i ≡ false
free_bit [] area i e = refl
free_bit (row ∷ rows) zero i e = no_bit row i (grind (arith, nat_tests, e))
free_bit (row ∷ rows) (suc area) i e = free_bit rows area i (grind (arith, nat_tests, e))

any_false : (from count : ℕ) → any (λ i. false) from count ≡ false
unfolding any
any_false from zero = refl
any_false from (suc count) = any_false (from + 1) count

pub none_told : (frames : ℕ) (rows : List (List Bool)) (told : List PageSets) → all_free rows ≡ true → TellNone frames told → TellRows frames rows told
none_told frames rows told f is = record { areas = is.areas; each = each }
  where
    held : (a : Room) (slots page : ℕ) → page_held slots (row_of rows a) page ≡ false
    held a slots page = any_same (λ i. bit_at (row_of rows a) i) (λ i. false) (page * slots) slots (λ i l m. free_bit rows (area_of a) i f) ∙ any_false (page * slots) slots

    empty_row : (a : Room) (n slots : ℕ) → TellsRow n slots (row_of rows a) (no_block_on n)
    empty_row a n slots = record {
      count = refl;
      partly_count = length-replicate n false;
      empty_count = length-replicate n true;
      partly = λ page l. (let h = held a slots page in get_or-replicate n page false false l ∙ rw h refl);
      empty = λ page l. (let h = held a slots page in get_or-replicate n page true false l ∙ rw h refl);
    }

    each : (a : Room) (d : PageSets) → IsRoom a → area_of a < length told → TellsRow (page_count frames a) (page_slots a) (row_of rows a) (slice_index_or told (area_of a) d)
    each a d r l =
        let at : slice_index_or told (area_of a) d ≡ no_block_on (page_count frames a) = is.each (area_of a) d l ∙ ap (λ b. no_block_on (page_count frames b)) (room_at_area a r) in
        rw at (empty_row a (page_count frames a) (page_slots a))

-- what is told of an area, read at its place
told_at : (frames : ℕ) (rows : List (List Bool)) (told : List PageSets) (room : Room) (d : PageSets) → TellRows frames rows told → IsRoom room → area_of room < length told → d ≡ slice_index_or told (area_of room) d
    → TellsRow (page_count frames room) (page_slots room) (row_of rows room) d
told_at frames rows told room d is r l e = let P : PageSets → Type 0 = λ x. TellsRow (page_count frames room) (page_slots room) (row_of rows room) x in subst P (sym e) (is.each room d r l)

classes_told : (frames class : ℕ) (rows : List (List Bool)) (told : List PageSets) → TellRows frames rows told → class < 13 → class < length told
classes_told frames class rows told is l = let a = is.areas in omega arith

partly_least : (frames class : ℕ) (rows : List (List Bool)) (told : List PageSets) (d : PageSets) → TellRows frames rows told → class < 13 → d ≡ slice_index_or told class d
    → least_free d.partly ≡ least (λ p. is_some (page_beside (slots_of class) (row_of rows (Small class)) p)) 0 frames
partly_least frames class rows told d is l e =
    let t = told_at frames rows told (Small class) d is l (classes_told frames class rows told is l) e in
    position_least d.partly (λ p. is_some (page_beside (slots_of class) (row_of rows (Small class)) p)) frames t.partly_count t.partly

-- the least page beside a block, and the slot there
pub beside_told : (frames class : ℕ) (rows : List (List Bool)) (told : List PageSets) (d : PageSets) (x : Option ℕ) → TellRows frames rows told → class < 13 → d ≡ slice_index_or told class d → x ≡ least_free d.partly
    → on_page (slots_of class) (row_of rows (Small class)) x ≡ beside frames (bits rows) class
beside_told frames class rows told d x is l e f =
    ap (on_page (slots_of class) (row_of rows (Small class))) (f ∙ partly_least frames class rows told d is l e)
    ∙ sym (row_beside_least frames (slots_of class) (row_of rows (Small class)) (slots_positive class l)) ∙ beside_is frames rows class

pub has_told : (frames class : ℕ) (rows : List (List Bool)) (told : List PageSets) (d : PageSets) (x : Option ℕ) → TellRows frames rows told → class < 13 → d ≡ slice_index_or told class d → x ≡ least_free d.partly → is_some x ≡ is_some (beside frames (bits rows) class)
has_told frames class rows told d None is l e f = ap (λ (y : Option ℕ). is_some y) (beside_told frames class rows told d None is l e f)
has_told frames class rows told d (Some page) is l e f =
    let found = least-Some (λ p. is_some (page_beside (slots_of class) (row_of rows (Small class)) p)) 0 frames page (sym (f ∙ partly_least frames class rows told d is l e)) in
    sym found.0 ∙ ap (λ (y : Option ℕ). is_some y) (beside_told frames class rows told d (Some page) is l e f)

pub partly_within : (frames class page : ℕ) (rows : List (List Bool)) (told : List PageSets) (d : PageSets) → TellRows frames rows told → class < 13 → d ≡ slice_index_or told class d → Some page ≡ least_free d.partly
    → page * slots_of class + slots_of class ≤ frames * slots_of class
partly_within frames class page rows told d is l e f =
    let found = least-Some (λ p. is_some (page_beside (slots_of class) (row_of rows (Small class)) p)) 0 frames page (sym (f ∙ partly_least frames class rows told d is l e)) in
    page_fits page frames (slots_of class) (let high = found.2 in omega arith)

-- the least page with no block
pub empty_told : (frames class : ℕ) (rows : List (List Bool)) (told : List PageSets) (d : PageSets) (x : Option ℕ) → TellRows frames rows told → class < 13 → d ≡ slice_index_or told class d → x ≡ least_free d.empty
    → x ≡ empty_page frames (bits rows) class
unfolding row_empty_page empty_page
empty_told frames class rows told d x is l e f =
    let t = told_at frames rows told (Small class) d is l (classes_told frames class rows told is l) e in
    f ∙ position_least d.empty (λ p. not (page_held (slots_of class) (row_of rows (Small class)) p)) frames t.empty_count t.empty

pub empty_within : (frames class page : ℕ) (rows : List (List Bool)) (told : List PageSets) (d : PageSets) → TellRows frames rows told → class < 13 → d ≡ slice_index_or told class d → Some page ≡ least_free d.empty → page < frames
empty_within frames class page rows told d is l e f =
    let t = told_at frames rows told (Small class) d is l (classes_told frames class rows told is l) e in
    let found = position-Some (λ b. b) d.empty page false (sym f) in
    let count = t.empty_count in
    let within = found.0 in
    omega arith

-- the least free slot of whole pages
one_slot : (row : List Bool) (page : ℕ) → page_held 1 row page ≡ bit_at row page
unfolding any
one_slot row page = let e : page * 1 ≡ page = omega arith in rw e (or_false (bit_at row page))
  where
    or_false : (t : Bool) → (t || false) ≡ t
    or_false true = refl
    or_false false = refl

pub whole_told : (frames : ℕ) (rows : List (List Bool)) (told : List PageSets) (room : Room) (d : PageSets) (x : Option ℕ) → TellRows frames rows told → IsRoom room → 13 ≤ area_of room → area_of room < length told → d ≡ slice_index_or told (area_of room) d → x ≡ least_free d.empty
    → x ≡ least (λ slot. not (bits rows room slot)) 0 (slots_in frames room)
whole_told frames rows told (Small class) d x is r m l e f = absurd (omega arith)
whole_told frames rows told (Pages pages) d x is r m l e f =
    let t = told_at frames rows told (Pages pages) d is r l e in
    f ∙ position_least d.empty (λ p. not (page_held 1 (row_of rows (Pages pages)) p)) (frames / pages) t.empty_count t.empty
    ∙ least_same (λ p. not (page_held 1 (row_of rows (Pages pages)) p)) (λ p. not (bit_at (row_of rows (Pages pages)) p)) 0 (frames / pages) (λ i l m. ap not (one_slot (row_of rows (Pages pages)) i))

-- the page of a slot
pages_slots : (frames : ℕ) (room : Room) → slots_in frames room ≡ page_count frames room * page_slots room
pages_slots frames (Small class) = refl
pages_slots frames (Pages pages) = omega arith

some_slots : (room : Room) → IsRoom room → 0 < page_slots room
some_slots (Small class) r = slots_positive class r
some_slots (Pages pages) r = omega arith

div_lt : (slot pages slots : ℕ) → 0 < slots → slot < pages * slots → slot / slots < pages
div_lt slot pages slots p l = go (nat_le pages (slot / slots)) refl
  where
    go : (b : Bool) → nat_le pages (slot / slots) ≡ b → slot / slots < pages
    go true e =
        let past : pages ≤ slot / slots = grind (arith, nat_tests, e) in
        let m = mul-le-mul_right slots past in
        let q : slot / slots * slots ≤ slot = grind arith in
        absurd (omega arith)
    go false e = grind (arith, nat_tests, e)

same_read : (xs : List (List Bool)) (j : ℕ) (c d : List Bool) → j < length xs → slice_index_or xs j c ≡ slice_index_or xs j d
same_read [] j c d l = absurd (omega arith)
same_read (z ∷ xs) zero c d l = refl
same_read (z ∷ xs) (suc j) c d l = same_read xs j c d (omega arith)

pub slot_within : (frames : ℕ) (rows : List (List Bool)) (room : Room) (slot : ℕ) (row : List Bool) → AreSized frames 0 rows → IsRoom room → area_of room < length rows → slot < slots_in frames room → row ≡ slice_index_or rows (area_of room) row → slot < length row
slot_within frames rows room slot row z r l m e =
    let size = room_sized frames rows room r z l in
    let here = ap length (e ∙ same_read rows (area_of room) row [] l) in
    omega arith

-- what is known where a slot is written
pub record Written (frames : ℕ) (rows : List (List Bool)) (told : List PageSets) (room : Room) (slot : ℕ) (held : Bool) (row set_row read : List Bool) : Type 0 where
  pub page : slot / page_slots room * page_slots room + page_slots room ≤ length read
  pub tells : (old now : PageSets) → area_of room < length told → old ≡ slice_index_or told (area_of room) old
      → now ≡ with_page old (slot / page_slots room) (is_some (page_beside (page_slots room) read (slot / page_slots room))) (not (page_held (page_slots room) read (slot / page_slots room)))
      → TellRows frames (slice_set rows (area_of room) set_row) (slice_set told (area_of room) now)

pub written : (frames : ℕ) (rows : List (List Bool)) (told : List PageSets) (room : Room) (slot : ℕ) (held : Bool) (row set_row read : List Bool) → TellRows frames rows told → AreSized frames 0 rows → IsRoom room → area_of room < length rows → slot < slots_in frames room
    → row ≡ slice_index_or rows (area_of room) row → set_row ≡ slice_set row slot held → read ≡ slice_index_or (slice_set rows (area_of room) set_row) (area_of room) read → Written frames rows told room slot held row set_row read
written frames rows told room slot held row set_row read is z r l m e f g =
    let size = room_sized frames rows room r z l in
    let at : row ≡ row_of rows room = e ∙ same_read rows (area_of room) row [] l in
    let reads : read ≡ set_row = g ∙ get_or-set_same rows (area_of room) set_row read l in
    let new : set_row ≡ slice_set (row_of rows room) slot held = f ∙ ap (λ x. slice_set x slot held) at in
    let long : length read ≡ page_count frames room * page_slots room = ap length (reads ∙ new) ∙ length-set (row_of rows room) slot held ∙ size ∙ pages_slots frames room in
    let count = pages_slots frames room in
    let page : slot / page_slots room < page_count frames room = div_lt slot (page_count frames room) (page_slots room) (some_slots room r) (omega arith) in
    record {
      page = (let fits = page_fits (slot / page_slots room) (page_count frames room) (page_slots room) page in omega arith);
      tells = λ old now n o w. (
          let here = told_at frames rows told room old is r n o in
          let same : read ≡ slice_set (row_of rows room) slot held = reads ∙ new in
          let anew = tells_set (page_count frames room) (page_slots room) (row_of rows room) old slot (slot / page_slots room) held here (some_slots room r) refl page in
          let P : List Bool → Type 0 = λ x. TellsRow (page_count frames room) (page_slots room) (slice_set (row_of rows room) slot held) (with_page old (slot / page_slots room) (is_some (page_beside (page_slots room) x (slot / page_slots room))) (not (page_held (page_slots room) x (slot / page_slots room)))) in
          let Q : PageSets → Type 0 = λ x. TellsRow (page_count frames room) (page_slots room) (slice_set (row_of rows room) slot held) x in
          let R : List Bool → Type 0 = λ x. TellRows frames (slice_set rows (area_of room) x) (slice_set told (area_of room) now) in
          subst R (sym new) (rows_set frames rows told room slot held now is r l n (subst Q (sym w) (subst P (sym same) anew))));
    }

-- each area is told of so many pages
pub sets_told : (frames : ℕ) (rows : List (List Bool)) (told : List PageSets) → TellRows frames rows told → AreTold frames told
sets_told frames rows told is = record { areas = is.areas; each = each }
  where
    each : (area : ℕ) (d : PageSets) → area < length told → IsTold (page_count frames (room_at area)) (slice_index_or told area d)
    each area d l =
        let is_area = area_of_room_at area in
        let P : ℕ → Type 0 = λ a. IsTold (page_count frames (room_at area)) (slice_index_or told a d) in
        let t = is.each (room_at area) d (room_at_is_room area) (omega arith) in
        subst P is_area (record { count = t.count; partly = t.partly_count; empty = t.empty_count })
