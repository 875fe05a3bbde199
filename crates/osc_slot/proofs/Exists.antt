-- A slot exists wherever the need is at most the free frames.
use Rattle.std.proofs.Common.{ℕ, suc, ◌≡◌, ◌≢◌, ◌<◌, ◌≤◌, ◌==◌, ◌&&◌, ◌||◌, ◌+◌, ◌-◌, ◌*◌, ◌/◌, ⊎_elim, Bool, true, false, cond, List, [], ◌∷◌, Option, Some, None, IsSome, is_some, sum_by, arith, refl, sym, ◌∙◌}
use Rattle.std.specs.List.{list_any}
use Rattle.std.proofs.lemmas.Bool.Decides.{nat_tests}
use Rattle.std.proofs.lemmas.Bool.{cases_lt}
use Rattle.std.proofs.lemmas.List.Sums.{sum_by-cons}
use Rattle.std.proofs.Math.Nat.{mul-le-mul_right, suc-mul, le-div_iff_mul-le}
use Rattle.osc_class.specs.Rooms.{IsRoom}
use Rattle.osc_class.specs.declared.Room.{Room}
use Rattle.osc_class.specs.declared.Room.TheVariants.{Small, Pages}
use Rattle.osc_slot.specs.declared.Block.{Block}
use Rattle.osc_slot.specs.Least.{passing}
use Rattle.osc_slot.specs.Areas.{first_page, slots_of, start_of, block_at_slot}
use Rattle.osc_slot.specs.Slots.{is_block, holds_in, has_block, is_on, is_small, beside, empty_page, first_slot, or_else, slot, need, least_start, start_of_slot, own_frames, block_frames}
use Rattle.osc_slot.proofs.Counting.{some_fails, passing_more_pass, passing_split, passing_moved, passing_either, passing_none, passing_once}
use Rattle.osc_slot.proofs.Bounds.{later_slot, later_area, bytes_positive}
use Rattle.osc_slot.proofs.HeldBlocks.{small_page}

-- blocks of one room at one start are at one slot
pub same_slot : (frames : ℕ) (room : Room) (i j : ℕ) → IsRoom room → start_of frames room i ≡ start_of frames room j → i ≡ j
same_slot frames room i j r e =
    let b = bytes_positive room r in
    ⊎_elim (λ (l : i < j). absurd (let h = later_slot frames room i j r l in omega arith))
    (λ (m : j ≤ i). ⊎_elim (λ (l : j < i). absurd (let h = later_slot frames room j i r l in omega arith)) (λ (n : i ≤ j). omega arith) (cases_lt j i))
    (cases_lt i j)

-- the pages of a class that hold blocks are pages that hold small blocks
class_pages : (frames : ℕ) (held : List Block) (class : ℕ) → class < 13 → passing (λ page. has_block (holds_in frames held) class page) 0 frames ≤ passing (λ page. list_any (λ b. is_small b && is_on page b) held) first_page (13 * frames)
class_pages frames held class l =
    let some = passing_more_pass (λ page. has_block (holds_in frames held) class page) (λ page. list_any (λ b. is_small b && is_on (first_page + class * frames + page) b) held) 0 frames (λ i m n e. small_page frames held class i l e) in
    let moved = passing_moved (λ page. list_any (λ b. is_small b && is_on page b) held) (first_page + class * frames) 0 frames in
    let within = later_area frames class 13 l in
    let all : class * frames + (frames + (13 * frames - (class * frames + frames))) ≡ 13 * frames = omega arith in
    let front = passing_split (λ page. list_any (λ b. is_small b && is_on page b) held) first_page (class * frames) (frames + (13 * frames - (class * frames + frames))) in
    let back = passing_split (λ page. list_any (λ b. is_small b && is_on page b) held) (first_page + class * frames) frames (13 * frames - (class * frames + frames)) in
    let whole = rw all at front in
    let at : first_page + class * frames + 0 ≡ first_page + class * frames = omega arith in
    let here = rw at at moved in
    omega arith

own_pages_step : (t : ℕ → Bool) (u : ℕ → Bool) (count pages own rest : ℕ) → passing t 0 count * pages ≤ own → passing u 0 count * pages ≤ rest → passing (λ i. t i || u i) 0 count * pages ≤ own + rest
own_pages_step t u count pages own rest a b =
    let e = passing_either t u 0 count in
    let m = mul-le-mul_right pages e in
    omega arith

own_here : (frames : ℕ) (b : Block) (pages : ℕ) → 0 < pages → (count : ℕ) → (room : Room) → b.room ≡ room → passing (λ i. is_block (block_at_slot frames (Pages pages) i) b) 0 count * pages ≤ own_frames room
own_here frames b pages p count (Small class) e =
    let none = passing_none (λ i. is_block (block_at_slot frames (Pages pages) i) b) 0 count (λ i l m. rw e (grind (arith, nat_tests))) in
    rw none (omega arith)
own_here frames b pages p count (Pages k) e = go (pages == k) refl
  where
    go : (t : Bool) → (pages == k) ≡ t → passing (λ i. is_block (block_at_slot frames (Pages pages) i) b) 0 count * pages ≤ k
    go true is =
        let same : pages ≡ k = grind (arith, nat_tests) in
        let once = passing_once (λ i. is_block (block_at_slot frames (Pages pages) i) b) 0 count (λ i j s t. same_slot frames (Pages pages) i j p (start i s ∙ sym (start j t))) in
        let m = mul-le-mul_right pages once in
        omega arith
      where
        start : (i : ℕ) → is_block (block_at_slot frames (Pages pages) i) b ≡ true → start_of frames (Pages pages) i ≡ b.start
        start i s = grind (arith, nat_tests, s)
    go false is =
        let none = passing_none (λ i. is_block (block_at_slot frames (Pages pages) i) b) 0 count (λ i l m. rw e (grind (arith, nat_tests))) in
        rw none (omega arith)

-- the blocks of so many pages have as many frames each
own_pages : (frames : ℕ) (held : List Block) (pages : ℕ) → 0 < pages → (count : ℕ) → passing (λ i. holds_in frames held (Pages pages) i) 0 count * pages ≤ sum_by (λ (b : Block). own_frames b.room) held
own_pages frames [] pages p count = let none = passing_none (λ i. holds_in frames [] (Pages pages) i) 0 count (λ i l m. refl) in rw none (omega arith)
own_pages frames (b ∷ held) pages p count =
    let here = own_here frames b pages p count b.room refl in
    let later = own_pages frames held pages p count in
    let both = own_pages_step (λ i. is_block (block_at_slot frames (Pages pages) i) b) (λ i. holds_in frames held (Pages pages) i) count pages (own_frames b.room) (sum_by (λ (b : Block). own_frames b.room) held) here later in
    rw (sum_by-cons (λ (b : Block). own_frames b.room) b held) both

-- the law, for small blocks and for whole pages
slot_small : (frames : ℕ) (held : List Block) (class free : ℕ) → class < 13 → block_frames frames held + free ≤ frames → need frames held (Small class) ≤ free → slot frames (holds_in frames held) (Small class) ≢ None
unfolding block_frames empty_page
slot_small frames held class free l s n = go (beside frames (holds_in frames held) class) refl n
  where
    go : (x : Option ℕ) → beside frames (holds_in frames held) class ≡ x → cond (is_some x) 0 1 ≤ free → or_else x (first_slot (slots_of class) (empty_page frames (holds_in frames held) class)) ≢ None
    go (Some i) e m = λ d. cc
    go None e m =
        let fewer = class_pages frames held class l in
        let h = some_fails (λ page. has_block (holds_in frames held) class page) 0 frames (omega arith) in
        grind (arith, h)

slot_large : (frames : ℕ) (held : List Block) (pages free : ℕ) → 0 < pages → block_frames frames held + free ≤ frames → pages ≤ free → slot frames (holds_in frames held) (Pages pages) ≢ None
unfolding block_frames
slot_large frames held pages free p s n =
    let fewer = own_pages frames held pages p (frames / pages) in
    let more = suc-mul (passing (λ i. holds_in frames held (Pages pages) i) 0 (frames / pages)) pages in
    let within : suc (passing (λ i. holds_in frames held (Pages pages) i) 0 (frames / pages)) ≤ frames / pages = (le-div_iff_mul-le p).1 (omega arith) in
    some_fails (λ i. holds_in frames held (Pages pages) i) 0 (frames / pages) (omega arith)

pub slot_exists : (frames : ℕ) (held : List Block) (room : Room) (free : ℕ) → IsRoom room → block_frames frames held + free ≤ frames → need frames held room ≤ free → IsSome (slot frames (holds_in frames held) room)
slot_exists frames held room free r s n = some (slot frames (holds_in frames held) room) (by_room room r n)
  where
    some : (x : Option ℕ) → x ≢ None → IsSome x
    some None h = absurd (h refl)
    some (Some i) h = refl

    by_room : (room : Room) → IsRoom room → need frames held room ≤ free → slot frames (holds_in frames held) room ≢ None
    by_room (Small class) r n = slot_small frames held class free r s n
    by_room (Pages pages) r n = slot_large frames held pages free r s n

pub start_exists : (frames : ℕ) (held : List Block) (room : Room) (free : ℕ) → IsRoom room → block_frames frames held + free ≤ frames → need frames held room ≤ free → IsSome (least_start frames held room)
start_exists frames held room free r s n = go (slot frames (holds_in frames held) room) (slot_exists frames held room free r s n)
  where
    go : (x : Option ℕ) → IsSome x → IsSome (start_of_slot frames room x)
    go None h = h
    go (Some i) h = refl
