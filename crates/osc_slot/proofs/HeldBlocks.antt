-- Which pages a list of held blocks covers.
use Rattle.std.proofs.Common.{ℕ, ◌≡◌, ◌<◌, ◌≤◌, ◌&&◌, ◌||◌, ◌+◌, ◌*◌, ◌/◌, ◌%◌, ⊎_elim, Bool, true, false, List, [], ◌∷◌, arith, refl, ap, ◌∙◌}
use Rattle.std.specs.List.{list_any}
use Rattle.std.proofs.lemmas.Bool.Decides.{nat_tests}
use Rattle.std.proofs.lemmas.Bool.{cases_lt}
use Rattle.std.proofs.Math.Nat.{div-eq_of_lt-le, div-add-mod', mod-lt}
use Rattle.osc_class.specs.Rooms.{IsRoom, shadow_pages}
use Rattle.osc_class.specs.declared.Room.{Room}
use Rattle.osc_class.specs.declared.Room.TheVariants.{Small, Pages}
use Rattle.osc_slot.specs.declared.Block.{Block}
use Rattle.osc_slot.specs.Areas.{first_page, area_of, slots_of, page_of, start_of, block_at_slot, IsPlaced}
use Rattle.osc_slot.specs.Slots.{is_room, is_block, is_held, holds_in, has_block, is_on, is_covered, is_small}
use Rattle.osc_slot.specs.Heap.{ArePlaced}
use Rattle.osc_slot.proofs.Counting.{any_where, any_at}
use Rattle.osc_slot.proofs.Bounds.{slots_positive, pages_within, start_page, later_area, same_area}

pub same_room : (a b : Room) → is_room a b ≡ true → a ≡ b
same_room (Small a) (Small b) e = let h : a ≡ b = grind (arith, nat_tests) in ap Small h
same_room (Small a) (Pages b) e = cc
same_room (Pages a) (Small b) e = cc
same_room (Pages a) (Pages b) e = let h : a ≡ b = grind (arith, nat_tests) in ap Pages h

is_room_self : (a : Room) → is_room a a ≡ true
is_room_self (Small a) = grind (arith, nat_tests)
is_room_self (Pages a) = grind (arith, nat_tests)

pub same_block : (a b : Block) → is_block a b ≡ true → a ≡ b
same_block a b e =
    let s : a.start ≡ b.start = grind (arith, nat_tests) in
    let r : a.room ≡ b.room = same_room a.room b.room (grind (arith, nat_tests)) in
    λ i. record { start = s i; room = r i }

pub is_block_self : (a : Block) → is_block a a ≡ true
is_block_self a = let r = is_room_self a.room in grind (arith, nat_tests)

-- a weaker test
pub any_weaker : {X : Type 0} (f g : X → Bool) → ((x : X) → f x ≡ true → g x ≡ true) → (xs : List X) → list_any f xs ≡ true → list_any g xs ≡ true
any_weaker f g h [] e = absurd (cc)
any_weaker f g h (x ∷ xs) e = let here = h x in let later = any_weaker f g h xs in grind (arith, nat_tests)

-- a held block that passes a test
pub record Found (frames : ℕ) (test : Block → Bool) (held : List Block) : Type 0 where
  pub block : Block
  pub held_there : is_held held block ≡ true
  pub passes : test block ≡ true
  pub placed : IsPlaced frames block

pub found : (frames : ℕ) (test : Block → Bool) (held : List Block) → ArePlaced frames held → list_any test held ≡ true → Found frames test held
unfolding ArePlaced
found frames test [] p e = absurd (cc)
found frames test (b ∷ held) p e = go (test b) refl (found frames test held p.1) e
  where
    go : (t : Bool) → test b ≡ t → (list_any test held ≡ true → Found frames test held) → (t || list_any test held) ≡ true → Found frames test (b ∷ held)
    go true is later e = record { block = b; held_there = (let s = is_block_self b in grind (arith, nat_tests)); passes = is; placed = p.0 }
    go false is later e =
        let f = later e in
        record { block = f.block; held_there = (let s = f.held_there in grind (arith, nat_tests)); passes = f.passes; placed = f.placed }

-- the page of a slot of a class
slot_page : (class page slot : ℕ) → page * slots_of class ≤ slot → slot < page * slots_of class + slots_of class → slot / slots_of class ≡ page
slot_page class page slot l m = div-eq_of_lt-le {k = page} (slots_of class) l (omega arith)

-- a page of a class that holds a block
pub small_page : (frames : ℕ) (held : List Block) (class page : ℕ) → class < 13 → has_block (holds_in frames held) class page ≡ true → list_any (λ b. is_small b && is_on (first_page + class * frames + page) b) held ≡ true
small_page frames held class page l e =
    let w = any_where (λ slot. holds_in frames held (Small class) slot) (page * slots_of class) (slots_of class) e in
    any_weaker (λ b. is_block (block_at_slot frames (Small class) w.number) b) (λ b. is_small b && is_on (first_page + class * frames + page) b) (λ b is. at b w.number (slot_page class page w.number w.low w.high) is) held w.passes
  where
    at : (b : Block) (slot : ℕ) → slot / slots_of class ≡ page → is_block (block_at_slot frames (Small class) slot) b ≡ true → (is_small b && is_on (first_page + class * frames + page) b) ≡ true
    at b slot on is =
        let same : block_at_slot frames (Small class) slot ≡ b = same_block (block_at_slot frames (Small class) slot) b is in
        rw (← same) (let h : start_of frames (Small class) slot / 4096 ≡ page_of frames (Small class) slot = start_page frames (Small class) slot l in
        let g : start_of frames (Small class) slot / 4096 ≡ first_page + class * frames + page = omega arith in
        grind (arith, nat_tests, g))

-- the area of a block that covers a page
covering_area : (frames page : ℕ) (b : Block) (p : IsPlaced frames b) → is_on page b ≡ true → (first_page + area_of b.room * frames ≤ page) × (page < first_page + area_of b.room * frames + frames)
covering_area frames page b p e =
    let h = start_page frames b.room p.slot p.room in
    let w = pages_within frames b.room p.slot p.room p.within in
    let s = p.start in
    let g : b.start / 4096 ≡ page_of frames b.room p.slot = ap (λ x. x / 4096) s ∙ h in
    let l : (b.start / 4096 ≤ page) × (page < b.start / 4096 + shadow_pages b.room) = grind (arith, nat_tests) in
    (omega arith, omega arith)

-- the room of a block that covers a page of an area
pub covering_room : (frames page : ℕ) (room : Room) (b : Block) (p : IsPlaced frames b) → IsRoom room → first_page + area_of room * frames ≤ page → page < first_page + area_of room * frames + frames → is_on page b ≡ true → b.room ≡ room
covering_room frames page room b p r l m e = same_area b.room room p.room r (equal (covering_area frames page b p e))
  where
    equal : (first_page + area_of b.room * frames ≤ page) × (page < first_page + area_of b.room * frames + frames) → area_of b.room ≡ area_of room
    equal a = ⊎_elim
        (λ (h : area_of b.room < area_of room). absurd (let k = later_area frames (area_of b.room) (area_of room) h in omega arith))
        (λ (h : area_of room ≤ area_of b.room). ⊎_elim
        (λ (g : area_of room < area_of b.room). absurd (let k = later_area frames (area_of room) (area_of b.room) g in omega arith))
        (λ (g : area_of b.room ≤ area_of room). omega arith)
        (cases_lt (area_of room) (area_of b.room)))
        (cases_lt (area_of b.room) (area_of room))

-- the slots of a page of a class
page_slots : (class page slot : ℕ) → class < 13 → slot / slots_of class ≡ page → (page * slots_of class ≤ slot) × (slot < page * slots_of class + slots_of class)
page_slots class page slot l e =
    let q = div-add-mod' slot (slots_of class) in
    let r = mod-lt slot (slots_positive class l) in
    let k : page * slots_of class + slot % slots_of class ≡ slot = rw e at q in
    (omega arith, omega arith)

-- a covered page of a class's area has a held block at one of its slots
pub covered_has_block : (frames : ℕ) (held : List Block) (class page : ℕ) → class < 13 → page < frames → ArePlaced frames held → is_covered held (first_page + class * frames + page) ≡ true → has_block (holds_in frames held) class page ≡ true
covered_has_block frames held class page l m placed e = go (found frames (λ b. is_on (first_page + class * frames + page) b) held placed e)
  where
    at : (b : Block) (slot : ℕ) → b.room ≡ Small class → b.start ≡ start_of frames b.room slot → b ≡ block_at_slot frames (Small class) slot
    at b slot r s = λ i. record { start = (s ∙ ap (λ room. start_of frames room slot) r) i; room = r i }

    go : Found frames (λ b. is_on (first_page + class * frames + page) b) held → has_block (holds_in frames held) class page ≡ true
    go f =
        let r : f.block.room ≡ Small class = covering_room frames (first_page + class * frames + page) (Small class) f.block f.placed l (omega arith) (omega arith) f.passes in
        let is : f.block ≡ block_at_slot frames (Small class) f.placed.slot = at f.block f.placed.slot r f.placed.start in
        let there : holds_in frames held (Small class) f.placed.slot ≡ true = rw is at f.held_there in
        let on : is_on (first_page + class * frames + page) (block_at_slot frames (Small class) f.placed.slot) ≡ true = rw is at f.passes in
        let first : start_of frames (Small class) f.placed.slot / 4096 ≡ page_of frames (Small class) f.placed.slot = start_page frames (Small class) f.placed.slot l in
        let here : f.placed.slot / slots_of class ≡ page = grind (arith, nat_tests, on, first) in
        let s = page_slots class page f.placed.slot l here in
        any_at (λ slot. holds_in frames held (Small class) slot) (page * slots_of class) (slots_of class) f.placed.slot s.0 s.1 there
