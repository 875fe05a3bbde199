-- Where slots lie: within their areas, and apart from each other.
use Rattle.std.proofs.Common.{ℕ, suc, ◌≡◌, ◌≢◌, ◌<◌, ◌≤◌, ◌+◌, ◌*◌, ◌/◌, ◌%◌, ◌⊎◌, inl, inr, ⊎_elim, arith, refl, ap}
use Rattle.std.proofs.lemmas.Bool.{cases_lt}
use Rattle.std.proofs.Math.Nat.{mul-le-mul_right, suc-mul, le-div_iff_mul-le, div-lt_iff_lt-mul, div-add-mod', mod-lt}
use Rattle.osc_class.specs.Rooms.{size_of, IsRoom, block_bytes, shadow_pages}
use Rattle.osc_class.specs.declared.Room.{Room}
use Rattle.osc_class.specs.declared.Room.TheVariants.{Small, Pages}
use Rattle.osc_slot.specs.Areas.{first_page, area_of, slots_of, slots_in, page_in, offset_in, page_of, start_of, LieApart, block_at_slot}

pub size_positive : (class : ℕ) → class < 13 → 0 < size_of class
size_positive class l = grind arith

pub slots_positive : (class : ℕ) → class < 13 → 0 < slots_of class
slots_positive class l = grind arith

pub slots_fit : (class : ℕ) → slots_of class * size_of class ≤ 4096
slots_fit class = let e = div-add-mod' 4096 (size_of class) in omega arith

-- the pages of a slot are pages of its area
pub pages_within : (frames : ℕ) (room : Room) (slot : ℕ) → IsRoom room → slot < slots_in frames room → page_in room slot + shadow_pages room ≤ frames
pages_within frames (Small class) slot r l = let h = (div-lt_iff_lt-mul {x = slot} {y = frames} (slots_positive class r)).1 l in omega arith
pages_within frames (Pages pages) slot r l =
    let h : suc slot * pages ≤ frames = (le-div_iff_mul-le {x = suc slot} {y = frames} r).0 (omega arith) in
    let e = suc-mul slot pages in
    omega arith

-- the bytes of a block lie on its pages
pub bytes_within : (room : Room) (slot : ℕ) → IsRoom room → offset_in room slot + block_bytes room ≤ 4096 * shadow_pages room
bytes_within (Small class) slot r =
    let l = mod-lt slot (slots_positive class r) in
    let m = mul-le-mul_right (size_of class) (let n : suc (slot % slots_of class) ≤ slots_of class = omega arith in n) in
    let e = suc-mul (slot % slots_of class) (size_of class) in
    let f = slots_fit class in
    omega arith
bytes_within (Pages pages) slot r = omega arith

pub bytes_positive : (room : Room) → IsRoom room → 0 < block_bytes room
bytes_positive (Small class) r = size_positive class r
bytes_positive (Pages pages) r = omega arith

pub pages_positive : (room : Room) → IsRoom room → 0 < shadow_pages room
pages_positive (Small class) r = omega arith
pages_positive (Pages pages) r = r

pub offset_below : (room : Room) (slot : ℕ) → IsRoom room → offset_in room slot < 4096
offset_below (Small class) slot r = let h = bytes_within (Small class) slot r in let p = size_positive class r in omega arith
offset_below (Pages pages) slot r = omega arith

-- the page that a block starts on
pub start_page : (frames : ℕ) (room : Room) (slot : ℕ) → IsRoom room → start_of frames room slot / 4096 ≡ page_of frames room slot
start_page frames room slot r = let l = offset_below room slot r in omega arith

-- a slot of a class after another one
after_small : (slots size q r p t : ℕ) → r < slots → t < slots → slots * size ≤ 4096 → q * slots + r < p * slots + t → 4096 * q + r * size + size ≤ 4096 * p + t * size
after_small slots size q r p t l m f h = ⊎_elim (λ (b : q < p). first b) (λ (a : p ≤ q). ⊎_elim (λ (b : p < q). absurd (past b)) (λ (e : q ≤ p). same (omega arith)) (cases_lt p q)) (cases_lt q p)
  where
    first : q < p → 4096 * q + r * size + size ≤ 4096 * p + t * size
    first b =
        let e = suc-mul r size in
        let k = mul-le-mul_right size (let n : suc r ≤ slots = omega arith in n) in
        omega arith

    past : p < q → ⊥
    past b =
        let e = suc-mul p slots in
        let k = mul-le-mul_right slots (let n : suc p ≤ q = omega arith in n) in
        omega arith

    same : q ≡ p → 4096 * q + r * size + size ≤ 4096 * p + t * size
    same is =
        let e = suc-mul r size in
        let n : r < t = let w = ap (λ x. x * slots) is in omega arith in
        let k = mul-le-mul_right size (let j : suc r ≤ t = omega arith in j) in
        omega arith

-- a block ends before those at later slots of its area start
pub later_slot : (frames : ℕ) (room : Room) (slot later : ℕ) → IsRoom room → slot < later → start_of frames room slot + block_bytes room ≤ start_of frames room later
later_slot frames (Small class) slot later r l =
    let q = div-add-mod' slot (slots_of class) in
    let p = div-add-mod' later (slots_of class) in
    let h = after_small (slots_of class) (size_of class) (slot / slots_of class) (slot % slots_of class) (later / slots_of class) (later % slots_of class) (mod-lt slot (slots_positive class r)) (mod-lt later (slots_positive class r)) (slots_fit class) (omega arith) in
    omega arith
later_slot frames (Pages pages) slot later r l =
    let e = suc-mul slot pages in
    let k = mul-le-mul_right pages (let n : suc slot ≤ later = omega arith in n) in
    omega arith

pub same_area : (a b : Room) → IsRoom a → IsRoom b → area_of a ≡ area_of b → a ≡ b
same_area (Small a) (Small b) r s e = ap Small e
same_area (Small a) (Pages b) r s e = absurd (omega arith)
same_area (Pages a) (Small b) r s e = absurd (omega arith)
same_area (Pages a) (Pages b) r s e = ap Pages (omega arith)

-- the pages of a later area come after those of an earlier one
pub later_area : (frames a b : ℕ) → a < b → a * frames + frames ≤ b * frames
later_area frames a b l =
    let e = suc-mul a frames in
    let k = mul-le-mul_right frames (let n : suc a ≤ b = omega arith in n) in
    omega arith

pub pages_before : (frames : ℕ) (a b : Room) (slot other : ℕ) → IsRoom a → slot < slots_in frames a → area_of a < area_of b → page_of frames a slot + shadow_pages a ≤ page_of frames b other
pages_before frames a b slot other r l m =
    let w = pages_within frames a slot r l in
    let k = later_area frames (area_of a) (area_of b) m in
    omega arith

before : (frames : ℕ) (a b : Room) (slot other : ℕ) → IsRoom a → slot < slots_in frames a → area_of a < area_of b → start_of frames a slot + block_bytes a ≤ start_of frames b other
before frames a b slot other r l m =
    let w = pages_before frames a b slot other r l m in
    let k = bytes_within a slot r in
    omega arith

-- blocks at different slots lie apart
pub apart : (frames : ℕ) (a b : Room) (slot other : ℕ) → IsRoom a → IsRoom b → slot < slots_in frames a → other < slots_in frames b → block_at_slot frames a slot ≢ block_at_slot frames b other → LieApart (block_at_slot frames a slot) (block_at_slot frames b other)
apart frames a b slot other r s l m differ = ⊎_elim first (⊎_elim in_one last) (three (area_of a) (area_of b))
  where
    three : (x y : ℕ) → (x < y) ⊎ ((x ≡ y) ⊎ (y < x))
    three x y = ⊎_elim (λ (b : x < y). inl b) (λ (c : y ≤ x). inr (⊎_elim (λ (d : y < x). inr d) (λ (e : x ≤ y). inl (omega arith)) (cases_lt y x))) (cases_lt x y)

    first : area_of a < area_of b → LieApart (block_at_slot frames a slot) (block_at_slot frames b other)
    first h = inl (before frames a b slot other r l h)

    last : area_of b < area_of a → LieApart (block_at_slot frames a slot) (block_at_slot frames b other)
    last h = inr (before frames b a other slot s m h)

    in_one : area_of a ≡ area_of b → LieApart (block_at_slot frames a slot) (block_at_slot frames b other)
    in_one h =
        let same : a ≡ b = same_area a b r s h in
        ⊎_elim (λ (e : slot < other). inl (rw (← same) (later_slot frames a slot other r e)))
        (⊎_elim (λ (e : slot ≡ other). absurd (differ (rw (same, e) refl))) (λ (e : other < slot). inr (rw (← same) (later_slot frames a other slot r e))))
        (three slot other)

pub in_area : (frames : ℕ) (room : Room) (slot : ℕ) → IsRoom room → slot < slots_in frames room → (first_page + area_of room * frames ≤ start_of frames room slot / 4096) × (start_of frames room slot / 4096 + shadow_pages room ≤ first_page + (area_of room + 1) * frames)
in_area frames room slot r l =
    let e = start_page frames room slot r in
    let w = pages_within frames room slot r l in
    let k = suc-mul (area_of room) frames in
    rw e (omega arith, omega arith)
