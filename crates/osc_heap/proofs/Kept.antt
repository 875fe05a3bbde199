-- Areas that have room of their own, and those that share it.
use Rattle.std.proofs.Common.{ℕ, zero, suc, ◌≡◌, ◌≢◌, ◌<◌, ◌≤◌, ◌+◌, ◌-◌, ◌*◌, ◌/◌, ◌==◌, nat_lt, Bool, true, false, not, cond, List, [], ◌∷◌, Option, Some, None, length, map, replicate, set, get_or, min, ⊎_elim, arith, refl, sym, ap, ◌∙◌}
use Rattle.std.specs.List.{list_any, range_with_len}
use Rattle.std.proofs.lemmas.Bool.{cases_lt}
use Rattle.std.proofs.lemmas.Bool.Decides.{nat_tests}
use Rattle.std.proofs.Math.Nat.{div-mul-le_self, mul-le-mul_right}
use Rattle.std.proofs.lemmas.List.{same_lists, length-set, length-replicate, get_or-replicate, get_or_default, get_or-set_same, get_or-set_other, get_or_past}
use Rattle.std.proofs.lemmas.List.FromFn.{length-map-range_with_len, get_or-map-range_with_len}
use Rattle.osc_slot.specs.Areas.{slots_in}
use Rattle.osc_slot.specs.Least.{least}
use Rattle.osc_slot.proofs.Counting.{least-Some, least_same}
use Rattle.osc_heap.specs.Layout.{room_at, bit_at, free_row, all_free, AreSized, AreFree, kept_row, rows_of}
use Rattle.osc_heap.proofs.Whole.{no_held, length-free_row}

-- ---- rows that are free
pub free_are : (frames from : ℕ) (rows : List (List Bool)) → ((i : ℕ) → i < length rows → get_or rows i [] ≡ replicate (slots_in frames (room_at (from + i))) false) → AreSized frames from rows × (all_free rows ≡ true)
unfolding AreSized
free_are frames from [] free = (tt, refl)
free_are frames from (row ∷ rows) free =
    let e : from + 0 ≡ from = omega arith in
    let here : row ≡ replicate (slots_in frames (room_at from)) false = rw e at (free 0 (omega arith)) in
    let later = free_are frames (from + 1) rows (λ i l. let n : from + suc i ≡ from + 1 + i = omega arith in rw n at (free (suc i) (omega arith))) in
    let none = no_held (slots_in frames (room_at from)) in
    ((ap length here ∙ length-free_row (slots_in frames (room_at from)), later.0), rw (here, none) later.1)

-- ---- what the areas are
pub length_rows : (frames : ℕ) (wide : List (List Bool)) (narrow : List Bool) → length (rows_of frames wide narrow) ≡ 13 + frames
length_rows frames wide narrow = length-map-range_with_len (λ area. kept_row frames wide narrow area) 0 (13 + frames)

pub read_row : (frames area : ℕ) (wide : List (List Bool)) (narrow : List Bool) → area < 13 + frames → get_or (rows_of frames wide narrow) area [] ≡ kept_row frames wide narrow area
read_row frames area wide narrow l = get_or-map-range_with_len (λ a. kept_row frames wide narrow a) 0 (13 + frames) area area [] l (omega arith)

pub wide_row : (frames area : ℕ) (wide : List (List Bool)) (narrow : List Bool) → area < 76 → kept_row frames wide narrow area ≡ get_or wide area []
wide_row frames area wide narrow l = let t : nat_lt area 76 ≡ true = grind (arith, nat_tests) in rw t refl

pub narrow_row : (frames area : ℕ) (wide : List (List Bool)) (narrow : List Bool) → 76 ≤ area → kept_row frames wide narrow area ≡ map (λ slot. bit_at narrow slot) (range_with_len (64 * (area - 76)) (slots_in frames (room_at area)))
narrow_row frames area wide narrow l = let t : nat_lt area 76 ≡ false = grind (arith, nat_tests) in rw t refl

pub rows_are : (frames : ℕ) (wide : List (List Bool)) (narrow : List Bool) (rows : List (List Bool)) → length rows ≡ 13 + frames → ((area : ℕ) → area < 13 + frames → kept_row frames wide narrow area ≡ get_or rows area []) → rows_of frames wide narrow ≡ rows
rows_are frames wide narrow rows long same =
    let size = length_rows frames wide narrow in
    same_lists (rows_of frames wide narrow) rows (size ∙ sym long) (λ k d l.
    get_or_default (rows_of frames wide narrow) k d [] l ∙ read_row frames k wide narrow (omega arith) ∙ same k (omega arith) ∙ get_or_default rows k [] d (omega arith))

-- ---- the slots of an area that shares its room
pub few_slots : (frames area : ℕ) → frames ≤ 4096 → 76 ≤ area → slots_in frames (room_at area) ≤ 64
few_slots frames area m l =
    let t : nat_lt area 13 ≡ false = grind (arith, nat_tests) in
    let q = div-mul-le_self frames (area - 12) in
    let r : 64 * (frames / (area - 12)) ≤ (area - 12) * (frames / (area - 12)) = mul-le-mul_right (frames / (area - 12)) (omega arith) in
    rw t (omega (arith, q, r))

pub narrow_fits : (frames area : ℕ) → frames ≤ 4096 → 76 ≤ area → area < 13 + frames → 64 * (area - 76) + slots_in frames (room_at area) ≤ 64 * (13 + frames - 76)
narrow_fits frames area m l n = let few = few_slots frames area m l in omega arith

pub length_narrow : (frames area : ℕ) (narrow : List Bool) → length (map (λ slot. bit_at narrow slot) (range_with_len (64 * (area - 76)) (slots_in frames (room_at area)))) ≡ slots_in frames (room_at area)
length_narrow frames area narrow = length-map-range_with_len (λ slot. bit_at narrow slot) (64 * (area - 76)) (slots_in frames (room_at area))

pub narrow_bit : (frames area slot : ℕ) (narrow : List Bool) → slot < slots_in frames (room_at area) → get_or (map (λ s. bit_at narrow s) (range_with_len (64 * (area - 76)) (slots_in frames (room_at area)))) slot false ≡ bit_at narrow (64 * (area - 76) + slot)
narrow_bit frames area slot narrow l = get_or-map-range_with_len (λ s. bit_at narrow s) (64 * (area - 76)) (slots_in frames (room_at area)) slot (64 * (area - 76) + slot) false l refl

-- a row that reads as the kept slots do is the area's
narrow_is : (frames area : ℕ) (wide : List (List Bool)) (narrow row : List Bool) → 76 ≤ area → length row ≡ slots_in frames (room_at area) → ((slot : ℕ) → slot < slots_in frames (room_at area) → bit_at narrow (64 * (area - 76) + slot) ≡ get_or row slot false) → kept_row frames wide narrow area ≡ row
narrow_is frames area wide narrow row m long same =
    let size = length_narrow frames area narrow in
    narrow_row frames area wide narrow m ∙ same_lists (map (λ slot. bit_at narrow slot) (range_with_len (64 * (area - 76)) (slots_in frames (room_at area)))) row (size ∙ sym long) (λ k d l.
    get_or_default (map (λ slot. bit_at narrow slot) (range_with_len (64 * (area - 76)) (slots_in frames (room_at area)))) k d false l ∙ narrow_bit frames area k narrow (omega arith) ∙ same k (omega arith) ∙ get_or_default row k false d (omega arith))

-- ---- areas that are made
zero_at : (n k : ℕ) → bit_at (replicate n false) k ≡ false
zero_at n k = let l = length-replicate n false in ⊎_elim (λ m. get_or-replicate n k false false m) (λ m. get_or_past (replicate n false) k false (omega arith)) (cases_lt k n)

pub made_free : (frames n : ℕ) (wide : List (List Bool)) (narrow : List Bool) → frames ≤ 4096 → narrow ≡ replicate n false → length wide ≡ min (13 + frames) 76 → ((area : ℕ) → area < length wide → get_or wide area [] ≡ replicate (slots_in frames (room_at area)) false)
    → AreFree frames (rows_of frames wide narrow) × AreSized frames 0 wide
made_free frames n wide narrow m none long free =
    let size = length_rows frames wide narrow in
    let a = free_are frames 0 (rows_of frames wide narrow) (λ i l. let z : 0 + i ≡ i = omega arith in rw z (read_row frames i wide narrow (omega arith) ∙ kept i (omega arith))) in
    (record { areas = size; sized = a.0; free = a.1 }, (free_are frames 0 wide (λ i l. let z : 0 + i ≡ i = omega arith in rw z (free i l))).0)
  where
    kept : (area : ℕ) → area < 13 + frames → kept_row frames wide narrow area ≡ replicate (slots_in frames (room_at area)) false
    kept area l = ⊎_elim (λ less. wide_row frames area wide narrow less ∙ free area (omega arith)) (λ more. narrow_is frames area wide narrow (replicate (slots_in frames (room_at area)) false) more (length-free_row (slots_in frames (room_at area))) (λ slot k. rw none (zero_at n (64 * (area - 76) + slot)) ∙ sym (get_or-replicate (slots_in frames (room_at area)) slot false false k))) (cases_lt area 76)

-- ---- areas that are written
pub wide_written : (frames area : ℕ) (wide : List (List Bool)) (narrow row : List Bool) → area < 76 → area < length wide → area < 13 + frames → rows_of frames (set wide area row) narrow ≡ set (rows_of frames wide narrow) area row
wide_written frames area wide narrow row l w m =
    let long = length_rows frames wide narrow in
    rows_are frames (set wide area row) narrow (set (rows_of frames wide narrow) area row) (length-set (rows_of frames wide narrow) area row ∙ long) (λ k n.
    ⊎_elim (λ less. other k n (omega arith)) (λ more. ⊎_elim (λ less. other k n (omega arith)) (λ same. here k (omega arith)) (cases_lt area k)) (cases_lt k area))
  where
    here : (k : ℕ) → k ≡ area → kept_row frames (set wide area row) narrow k ≡ get_or (set (rows_of frames wide narrow) area row) k []
    here k e =
        let long = length_rows frames wide narrow in
        rw e (wide_row frames area (set wide area row) narrow l ∙ get_or-set_same wide area row [] w ∙ sym (get_or-set_same (rows_of frames wide narrow) area row [] (omega arith)))

    other : (k : ℕ) → k < 13 + frames → k ≢ area → kept_row frames (set wide area row) narrow k ≡ get_or (set (rows_of frames wide narrow) area row) k []
    other k n differ =
        let same : kept_row frames (set wide area row) narrow k ≡ kept_row frames wide narrow k = ap (λ r. cond (nat_lt k 76) r (map (λ slot. bit_at narrow slot) (range_with_len (64 * (k - 76)) (slots_in frames (room_at k))))) (get_or-set_other wide area k row [] differ) in
        same ∙ sym (read_row frames k wide narrow n) ∙ sym (get_or-set_other (rows_of frames wide narrow) area k row [] differ)

pub narrow_written : (frames area slot : ℕ) (held : Bool) (wide : List (List Bool)) (narrow : List Bool) → frames ≤ 4096 → 76 ≤ area → area < 13 + frames → slot < slots_in frames (room_at area) → length narrow ≡ 64 * (13 + frames - 76)
    → rows_of frames wide (set narrow (64 * (area - 76) + slot) held) ≡ set (rows_of frames wide narrow) area (set (get_or (rows_of frames wide narrow) area []) slot held)
narrow_written frames area slot held wide narrow m l n s size =
    let long = length_rows frames wide narrow in
    let row = set (get_or (rows_of frames wide narrow) area []) slot held in
    rows_are frames wide (set narrow (64 * (area - 76) + slot) held) (set (rows_of frames wide narrow) area row) (length-set (rows_of frames wide narrow) area row ∙ long) (λ k b.
    ⊎_elim (λ less. other k b (omega arith)) (λ more. ⊎_elim (λ less. other k b (omega arith)) (λ same. here k (omega arith)) (cases_lt area k)) (cases_lt k area))
  where
    at : ℕ
    at = 64 * (area - 76) + slot

    old : List Bool
    old = map (λ s. bit_at narrow s) (range_with_len (64 * (area - 76)) (slots_in frames (room_at area)))

    is_old : get_or (rows_of frames wide narrow) area [] ≡ old
    is_old = read_row frames area wide narrow n ∙ narrow_row frames area wide narrow l

    bit : (k : ℕ) → k < slots_in frames (room_at area) → bit_at (set narrow at held) (64 * (area - 76) + k) ≡ get_or (set old slot held) k false
    bit k b =
        let fits = narrow_fits frames area m l n in
        let size_old = length_narrow frames area narrow in
        ⊎_elim (λ less. apart k b (omega arith) (omega arith)) (λ more. ⊎_elim (λ less. apart k b (omega arith) (omega arith)) (λ same. (let e : k ≡ slot = omega arith in rw e (get_or-set_same narrow at held false (omega arith) ∙ sym (get_or-set_same old slot held false (omega arith))))) (cases_lt slot k)) (cases_lt k slot)
      where
        apart : (k : ℕ) → k < slots_in frames (room_at area) → k ≢ slot → 64 * (area - 76) + k ≢ at → bit_at (set narrow at held) (64 * (area - 76) + k) ≡ get_or (set old slot held) k false
        apart k b d e = get_or-set_other narrow at (64 * (area - 76) + k) held false e ∙ sym (narrow_bit frames area k narrow b) ∙ sym (get_or-set_other old slot k held false d)

    here : (k : ℕ) → k ≡ area → kept_row frames wide (set narrow at held) k ≡ get_or (set (rows_of frames wide narrow) area (set (get_or (rows_of frames wide narrow) area []) slot held)) k []
    here k e =
        let long = length_rows frames wide narrow in
        rw (e, is_old) (narrow_is frames area wide (set narrow at held) (set old slot held) l (length-set old slot held ∙ length_narrow frames area narrow) bit ∙ sym (get_or-set_same (rows_of frames wide narrow) area (set old slot held) [] (omega arith)))

    outside : (k : ℕ) → k < 13 + frames → k ≢ area → 76 ≤ k → kept_row frames wide (set narrow at held) k ≡ kept_row frames wide narrow k
    outside k b differ more =
        let few = few_slots frames area m l in
        let few_k = few_slots frames k m more in
        let size_k = length_narrow frames k narrow in
        narrow_is frames k wide (set narrow at held) (map (λ s. bit_at narrow s) (range_with_len (64 * (k - 76)) (slots_in frames (room_at k)))) more size_k (λ j c. get_or-set_other narrow at (64 * (k - 76) + j) held false (omega arith) ∙ sym (narrow_bit frames k j narrow c))
        ∙ sym (narrow_row frames k wide narrow more)

    other : (k : ℕ) → k < 13 + frames → k ≢ area → kept_row frames wide (set narrow at held) k ≡ get_or (set (rows_of frames wide narrow) area (set (get_or (rows_of frames wide narrow) area []) slot held)) k []
    other k b differ =
        ⊎_elim (λ less. wide_row frames k wide (set narrow at held) less ∙ sym (wide_row frames k wide narrow less)) (λ more. outside k b differ more) (cases_lt k 76)
        ∙ sym (read_row frames k wide narrow b) ∙ sym (get_or-set_other (rows_of frames wide narrow) area k (set (get_or (rows_of frames wide narrow) area []) slot held) [] differ)

-- ---- the same where the areas are seen as a list
pub area_count : (frames : ℕ) (wide : List (List Bool)) (narrow : List Bool) (rows : List (List Bool)) → rows_of frames wide narrow ≡ rows → length rows ≡ 13 + frames
area_count frames wide narrow rows view = ap (λ (rs : List (List Bool)). length rs) (sym view) ∙ length_rows frames wide narrow

pub seen_wide : (frames area : ℕ) (wide : List (List Bool)) (narrow : List Bool) (rows : List (List Bool)) → rows_of frames wide narrow ≡ rows → area < length rows → area < 76 → get_or rows area [] ≡ get_or wide area []
seen_wide frames area wide narrow rows view l m =
    let long = area_count frames wide narrow rows view in
    ap (λ (rs : List (List Bool)). get_or rs area []) (sym view) ∙ read_row frames area wide narrow (omega arith) ∙ wide_row frames area wide narrow m

pub seen_narrow : (frames area : ℕ) (wide : List (List Bool)) (narrow : List Bool) (rows : List (List Bool)) → rows_of frames wide narrow ≡ rows → area < length rows → 76 ≤ area → get_or rows area [] ≡ map (λ slot. bit_at narrow slot) (range_with_len (64 * (area - 76)) (slots_in frames (room_at area)))
seen_narrow frames area wide narrow rows view l m =
    let long = area_count frames wide narrow rows view in
    ap (λ (rs : List (List Bool)). get_or rs area []) (sym view) ∙ read_row frames area wide narrow (omega arith) ∙ narrow_row frames area wide narrow m

pub narrow_past : (frames area slot : ℕ) (narrow : List Bool) → slots_in frames (room_at area) ≤ slot → get_or (map (λ s. bit_at narrow s) (range_with_len (64 * (area - 76)) (slots_in frames (room_at area)))) slot false ≡ false
narrow_past frames area slot narrow l =
    let size = length_narrow frames area narrow in
    get_or_past (map (λ s. bit_at narrow s) (range_with_len (64 * (area - 76)) (slots_in frames (room_at area)))) slot false (omega arith)

-- ---- the least slot that is kept from a place on
abbrev pub before : ℕ → ℕ → Option ℕ → Option ℕ
before from to None = None
before from to (Some at) = Some (to + (at - from))

pub least_moved : (f g : ℕ → Bool) (from to count : ℕ) → ((i : ℕ) → i < count → g (to + i) ≡ f (from + i)) → least g to count ≡ before from to (least f from count)
unfolding least
least_moved f g from to zero same = refl
least_moved f g from to (suc count) same =
    let e : from + 0 ≡ from = omega arith in
    let d : to + 0 ≡ to = omega arith in
    let here : g to ≡ f from = rw (e, d) at (same 0 (omega arith)) in
    let later = least_moved f g (from + 1) (to + 1) count (λ i l. let n : from + suc i ≡ from + 1 + i = omega arith in let m : to + suc i ≡ to + 1 + i = omega arith in rw (n, m) at (same (suc i) (omega arith))) in
    rw (here, later) (by (f from) (λ at e. (least-Some f (from + 1) count at e).1))
  where
    by : (t : Bool) → ((at : ℕ) → least f (from + 1) count ≡ Some at → from + 1 ≤ at) → cond t (Some to) (before (from + 1) (to + 1) (least f (from + 1) count)) ≡ before from to (cond t (Some from) (least f (from + 1) count))
    by true past = let z : to + (from - from) ≡ to = omega arith in rw z refl
    by false past = step (least f (from + 1) count) past
      where
        step : (x : Option ℕ) → ((at : ℕ) → x ≡ Some at → from + 1 ≤ at) → before (from + 1) (to + 1) x ≡ before from to x
        step None past = refl
        step (Some at) past = let l = past at refl in ap Some (omega arith)

pub narrow_least : (frames area : ℕ) (narrow row : List Bool) → row ≡ map (λ slot. bit_at narrow slot) (range_with_len (64 * (area - 76)) (slots_in frames (room_at area)))
    → least (λ slot. not (bit_at row slot)) 0 (length row) ≡ before (64 * (area - 76)) 0 (least (λ slot. not (bit_at narrow slot)) (64 * (area - 76)) (slots_in frames (room_at area)))
narrow_least frames area narrow row e =
    let size : length row ≡ slots_in frames (room_at area) = ap length e ∙ length_narrow frames area narrow in
    ap (λ (n : ℕ). least (λ slot. not (bit_at row slot)) 0 n) size
    ∙ least_moved (λ slot. not (bit_at narrow slot)) (λ slot. not (bit_at row slot)) (64 * (area - 76)) 0 (slots_in frames (room_at area))
    (λ i l. let z : 0 + i ≡ i = omega arith in rw z (ap (λ (r : List Bool). not (bit_at r i)) e ∙ ap not (narrow_bit frames area i narrow l)))

-- ---- areas that are cleared
get_or-free : (rows : List (List Bool)) (k : ℕ) → get_or (map free_row rows) k [] ≡ free_row (get_or rows k [])
get_or-free [] k = refl
get_or-free (row ∷ rows) zero = refl
get_or-free (row ∷ rows) (suc k) = get_or-free rows k

pub length-free : (rows : List (List Bool)) → length (map free_row rows) ≡ length rows
length-free [] = refl
length-free (row ∷ rows) = ap suc (length-free rows)

pub cleared_rows : (frames : ℕ) (wide : List (List Bool)) (narrow : List Bool) → rows_of frames (map free_row wide) (free_row narrow) ≡ map free_row (rows_of frames wide narrow)
cleared_rows frames wide narrow =
    rows_are frames (map free_row wide) (free_row narrow) (map free_row (rows_of frames wide narrow)) (length-free (rows_of frames wide narrow) ∙ length_rows frames wide narrow) (λ area l.
    kept area ∙ ap free_row (sym (read_row frames area wide narrow l)) ∙ sym (get_or-free (rows_of frames wide narrow) area))
  where
    kept : (area : ℕ) → kept_row frames (map free_row wide) (free_row narrow) area ≡ free_row (kept_row frames wide narrow area)
    kept area =
        ⊎_elim (λ less. wide_row frames area (map free_row wide) (free_row narrow) less ∙ get_or-free wide area ∙ ap free_row (sym (wide_row frames area wide narrow less))) (λ more. (let size = ap length (narrow_row frames area wide narrow more) ∙ length_narrow frames area narrow in narrow_is frames area (map free_row wide) (free_row narrow) (free_row (kept_row frames wide narrow area)) more (length-free_row (length (kept_row frames wide narrow area)) ∙ size) (λ slot l. zero_at (length narrow) (64 * (area - 76) + slot) ∙ sym (zero_at (length (kept_row frames wide narrow area)) slot)))) (cases_lt area 76)

-- ---- what the code reads
pub wide_there : (frames area : ℕ) (wide : List (List Bool)) (narrow : List Bool) (rows : List (List Bool)) → rows_of frames wide narrow ≡ rows → length wide ≡ min (13 + frames) 76 → area < length rows → area < 76 → area < length wide
wide_there frames area wide narrow rows view long l m = let count = area_count frames wide narrow rows view in omega arith

pub wide_read : (frames area : ℕ) (wide : List (List Bool)) (narrow x : List Bool) (rows : List (List Bool)) → rows_of frames wide narrow ≡ rows → length wide ≡ min (13 + frames) 76 → area < length rows → area < 76 → x ≡ get_or wide area x → (x ≡ get_or rows area []) × (x ≡ get_or wide area [])
wide_read frames area wide narrow x rows view long l m e =
    let at : x ≡ get_or wide area [] = e ∙ get_or_default wide area x [] (wide_there frames area wide narrow rows view long l m) in
    (at ∙ sym (seen_wide frames area wide narrow rows view l m), at)

pub narrow_long : (frames area : ℕ) (wide : List (List Bool)) (narrow : List Bool) (rows : List (List Bool)) → rows_of frames wide narrow ≡ rows → area < length rows → 76 ≤ area → length (get_or rows area []) ≡ slots_in frames (room_at area)
narrow_long frames area wide narrow rows view l m = ap length (seen_narrow frames area wide narrow rows view l m) ∙ length_narrow frames area narrow

pub narrow_held : (frames area slot : ℕ) (wide : List (List Bool)) (narrow : List Bool) (rows : List (List Bool)) → rows_of frames wide narrow ≡ rows → area < length rows → 76 ≤ area → slot < slots_in frames (room_at area) → bit_at (get_or rows area []) slot ≡ bit_at narrow (64 * (area - 76) + slot)
narrow_held frames area slot wide narrow rows view l m n = ap (λ (r : List Bool). bit_at r slot) (seen_narrow frames area wide narrow rows view l m) ∙ narrow_bit frames area slot narrow n

pub narrow_none : (frames area slot : ℕ) (wide : List (List Bool)) (narrow : List Bool) (rows : List (List Bool)) → rows_of frames wide narrow ≡ rows → area < length rows → 76 ≤ area → slots_in frames (room_at area) ≤ slot → bit_at (get_or rows area []) slot ≡ false
narrow_none frames area slot wide narrow rows view l m n = ap (λ (r : List Bool). bit_at r slot) (seen_narrow frames area wide narrow rows view l m) ∙ narrow_past frames area slot narrow n

pub kept_least : (frames area : ℕ) (wide : List (List Bool)) (narrow : List Bool) (rows : List (List Bool)) (x : Option ℕ) → rows_of frames wide narrow ≡ rows → area < length rows → 76 ≤ area → x ≡ least (λ slot. not (bit_at narrow slot)) (64 * (area - 76)) (slots_in frames (room_at area))
    → least (λ slot. not (bit_at (get_or rows area []) slot)) 0 (length (get_or rows area [])) ≡ before (64 * (area - 76)) 0 x
kept_least frames area wide narrow rows x view l m e = narrow_least frames area narrow (get_or rows area []) (seen_narrow frames area wide narrow rows view l m) ∙ ap (before (64 * (area - 76)) 0) (sym e)

pub alike : (frames others : ℕ) (wide more : List (List Bool)) (narrow kept : List Bool) (rows other : List (List Bool)) → rows_of frames wide narrow ≡ rows → rows_of others more kept ≡ other → length rows ≡ length other → frames ≡ others
alike frames others wide more narrow kept rows other view seen e =
    let a = area_count frames wide narrow rows view in
    let b = area_count others more kept other seen in
    omega arith
