-- Rooms, slots and held blocks.
use Rattle.std.proofs.Common.{ℕ, zero, suc, ◌≡◌, ◌≢◌, ◌<◌, ◌≤◌, ◌==◌, ◌+◌, ◌-◌, ◌*◌, ◌/◌, ◌%◌, nat_le, Bool, true, false, not, cond, ◌&&◌, ◌||◌, List, [], ◌∷◌, Option, Some, None, arith, refl, ap, sym, subst, ◌∙◌, ◌⊎◌, inl, inr, filter}
use Rattle.std.proofs.lemmas.Bool.Decides.{nat_tests}
use Rattle.std.proofs.lemmas.List.Quantifiers.{position-Some}
use Rattle.std.proofs.Math.Nat.{mul-div_left, mul-le-mul_right, suc-mul, mul-le-mul}
use Rattle.std.specs.List.{list_any, find}
use Rattle.osc_class.specs.declared.Room.{Room}
use Rattle.osc_class.specs.declared.Room.TheVariants.{Small, Pages}
use Rattle.osc_class.specs.Rooms.{sizes, size_of, class_of, class_or_pages, room_of, IsRoom, block_bytes, shadow_pages}
use Rattle.osc_slot.specs.declared.Block.{Block}
use Rattle.osc_slot.specs.Least.{least}
use Rattle.osc_slot.specs.Areas.{first_page, area_of, slots_of, slots_in, offset_in, page_of, start_of, block_at_slot, IsPlaced, LieApart}
use Rattle.osc_slot.specs.Slots.{is_room, is_block, is_held, holds_in, has_block, beside, empty_page, first_slot, or_else, slot, start_of_slot, least_start}
use Rattle.osc_slot.specs.Heap.{with_block, without_block, block_of_user}
use Rattle.osc_slot.proofs.Counting.{least-Some, any_none}
use Rattle.osc_slot.proofs.Bounds.{slots_positive, bytes_within, bytes_positive, pages_within, start_page, apart, in_area}
use Rattle.osc_slot.proofs.HeldBlocks.{same_block, is_block_self, same_room}
use Rattle.osc_slot.proofs.Fresh.{placed_is}
use Rattle.osc_slot.proofs.InOrder.{any-insert, any-filter}
use Rattle.osc_means.proofs.Rows.{some-same, found-passes}

-- ---- rooms

pub room_is_room : (n : ℕ) → IsRoom (room_of n)
unfolding room_of
room_is_room n = by (class_of (n + 16)) refl
  where
    by : (x : Option ℕ) → class_of (n + 16) ≡ x → IsRoom (class_or_pages x (n + 16))
    by (Some class) e = (position-Some (λ size. nat_le (n + 16) size) sizes class 0 e).0
    by None e = omega arith

-- the bytes of a size have room with the header
pub room_holds : (n : ℕ) → n + 16 ≤ block_bytes (room_of n)
unfolding room_of
room_holds n = by (class_of (n + 16)) refl
  where
    by : (x : Option ℕ) → class_of (n + 16) ≡ x → n + 16 ≤ block_bytes (class_or_pages x (n + 16))
    by (Some class) e = let p = (position-Some (λ size. nat_le (n + 16) size) sizes class 0 e).1 in grind (arith, nat_tests, p)
    by None e = omega arith

-- ---- placed blocks

even_offset : (class slot : ℕ) → class < 13 → offset_in (Small class) slot % 16 ≡ 0
even_offset zero slot l = omega arith
even_offset (suc zero) slot l = omega arith
even_offset (suc (suc zero)) slot l = omega arith
even_offset (suc (suc (suc zero))) slot l = omega arith
even_offset (suc (suc (suc (suc zero)))) slot l = omega arith
even_offset (suc (suc (suc (suc (suc zero))))) slot l = omega arith
even_offset (suc (suc (suc (suc (suc (suc zero)))))) slot l = omega arith
even_offset (suc (suc (suc (suc (suc (suc (suc zero))))))) slot l = omega arith
even_offset (suc (suc (suc (suc (suc (suc (suc (suc zero)))))))) slot l = omega arith
even_offset (suc (suc (suc (suc (suc (suc (suc (suc (suc zero))))))))) slot l = omega arith
even_offset (suc (suc (suc (suc (suc (suc (suc (suc (suc (suc zero)))))))))) slot l = omega arith
even_offset (suc (suc (suc (suc (suc (suc (suc (suc (suc (suc (suc zero))))))))))) slot l = omega arith
even_offset (suc (suc (suc (suc (suc (suc (suc (suc (suc (suc (suc (suc zero)))))))))))) slot l = omega arith
even_offset (suc (suc (suc (suc (suc (suc (suc (suc (suc (suc (suc (suc (suc class))))))))))))) slot l = absurd (omega arith)

even_start : (frames : ℕ) (room : Room) (slot : ℕ) → IsRoom room → start_of frames room slot % 16 ≡ 0
even_start frames (Small class) slot r = let e = even_offset class slot r in omega (arith, e)
even_start frames (Pages pages) slot r = omega arith

-- no area goes past the end of the map
area_ends : (frames : ℕ) (room : Room) (slot : ℕ) → frames ≤ 4096 → IsRoom room → slot < slots_in frames room → (area_of room + 1) * frames ≤ 4109 * 4096
area_ends frames (Small class) slot l r w = mul-le-mul (let a : class + 1 ≤ 4109 = omega arith in a) l
area_ends frames (Pages pages) slot l r w =
    let inside = pages_within frames (Pages pages) slot r w in
    mul-le-mul (let a : 12 + pages + 1 ≤ 4109 = omega (arith, inside, l) in a) l

-- what is known of a placed block
pub record Bounded (block : Block) : Type 0 where
  pub above : 0x2000000000 ≤ block.start
  pub below : block.start + block_bytes block.room ≤ 0x4000000000
  pub even : block.start % 16 ≡ 0

pub bounded : (frames : ℕ) (block : Block) → frames ≤ 4096 → IsPlaced frames block → Bounded block
bounded frames block l p =
    let area = in_area frames block.room p.slot p.room p.within in
    let bytes = bytes_within block.room p.slot p.room in
    let page = start_page frames block.room p.slot p.room in
    let ends = area_ends frames block.room p.slot l p.room p.within in
    let split : start_of frames block.room p.slot ≡ 4096 * page_of frames block.room p.slot + offset_in block.room p.slot = refl in
    let start = p.start in
    record {
      above = omega (arith, area, start);
      below = omega (arith, area, start, bytes, page, ends, split);
      even = ap (λ x. x % 16) start ∙ even_start frames block.room p.slot p.room;
    }

pub lie_apart : (frames : ℕ) (a b : Block) → IsPlaced frames a → IsPlaced frames b → a ≢ b → LieApart a b
lie_apart frames a b p q n =
    let x = placed_is frames a p in
    let y = placed_is frames b q in
    let d = apart frames a.room b.room p.slot q.slot p.room q.room p.within q.within (λ e. n (x ∙ e ∙ sym y)) in
    subst (λ z. LieApart z b) (sym x) (subst (LieApart (block_at_slot frames a.room p.slot)) (sym y) d)

-- one block starts at one place
pub one_start : (frames : ℕ) (a b : Block) → IsPlaced frames a → IsPlaced frames b → a.start ≡ b.start → a ≡ b
one_start frames a b p q e = by (is_block a b) refl
  where
    by : (t : Bool) → is_block a b ≡ t → a ≡ b
    by true f = same_block a b f
    by false f = absurd (let n : a ≢ b = (λ s. let self : is_block a a ≡ true = is_block_self a in let no : is_block a a ≡ false = ap (is_block a) s ∙ f in cc) in
        let d = lie_apart frames a b p q n in let x = bytes_positive a.room p.room in let y = bytes_positive b.room q.room in grind (arith, d, x, y, e))

-- ---- held blocks

pub held-with : (b c : Block) (held : List Block) → is_held held c ≡ true → is_held (with_block b held) c ≡ true
held-with b c held e = let f = any-insert (λ (x : Block). x.start) (λ x. is_block c x) b held in f ∙ either (is_block c b) e
  where
    either : (t : Bool) → is_held held c ≡ true → (t || is_held held c) ≡ true
    either true e = refl
    either false e = e

pub held-new : (b : Block) (held : List Block) → is_held (with_block b held) b ≡ true
held-new b held = any-insert (λ (x : Block). x.start) (λ x. is_block b x) b held ∙ ap (λ t. t || is_held held b) (is_block_self b)

pub with-held : (b c : Block) (held : List Block) → is_held (with_block b held) c ≡ true → (c ≡ b) ⊎ (is_held held c ≡ true)
with-held b c held e = by (is_block c b) refl (sym (any-insert (λ (x : Block). x.start) (λ x. is_block c x) b held) ∙ e)
  where
    by : (t : Bool) → is_block c b ≡ t → (t || is_held held c) ≡ true → (c ≡ b) ⊎ (is_held held c ≡ true)
    by true f g = inl (same_block c b f)
    by false f g = inr g

pub without-held : (b c : Block) (held : List Block) → is_held (without_block b held) c ≡ true → is_held held c ≡ true
without-held b c [] e = e
without-held b c (x ∷ held) e = by (is_block b x) e (without-held b c held)
  where
    by : (t : Bool) → is_held (cond (not t) (x ∷ without_block b held) (without_block b held)) c ≡ true → (is_held (without_block b held) c ≡ true → is_held held c ≡ true) → (is_block c x || is_held held c) ≡ true
    by true f later = or_right (is_block c x) (later f)
      where
        or_right : (t : Bool) → is_held held c ≡ true → (t || is_held held c) ≡ true
        or_right true g = refl
        or_right false g = g
    by false f later = both (is_block c x) f later
      where
        both : (t : Bool) → (t || is_held (without_block b held) c) ≡ true → (is_held (without_block b held) c ≡ true → is_held held c ≡ true) → (t || is_held held c) ≡ true
        both true g later = refl
        both false g later = later g

pub held-without : (b c : Block) (held : List Block) → c ≢ b → is_held held c ≡ true → is_held (without_block b held) c ≡ true
held-without b c [] n e = e
held-without b c (x ∷ held) n e = by (is_block b x) (is_block c x) refl refl e (held-without b c held n)
  where
    by : (t u : Bool) → is_block b x ≡ t → is_block c x ≡ u → (u || is_held held c) ≡ true → (is_held held c ≡ true → is_held (without_block b held) c ≡ true)
        → is_held (cond (not t) (x ∷ without_block b held) (without_block b held)) c ≡ true
    by true true f g h later = absurd (n (same_block c x g ∙ sym (same_block b x f)))
    by true false f g h later = later h
    by false true f g h later = ap (λ t. t || is_held (without_block b held) c) g
    by false false f g h later = ap (λ t. t || is_held (without_block b held) c) g ∙ later h

-- the block of a user address
pub user-block : (held : List Block) (user : ℕ) (b : Block) → block_of_user held user ≡ Some b → (b.start + 16 ≡ user) × (is_held held b ≡ true)
user-block held user b e = (let f = found-passes (λ (x : Block). x.start + 16 == user) held b e in grind (arith, nat_tests, f), there held e)
  where
    there : (held : List Block) → block_of_user held user ≡ Some b → is_held held b ≡ true
    there [] e = absurd (cc)
    there (x ∷ held) e = by (x.start + 16 == user) e (there held)
      where
        by : (t : Bool) → cond t (Some x) (block_of_user held user) ≡ Some b → (block_of_user held user ≡ Some b → is_held held b ≡ true) → (is_block b x || is_held held b) ≡ true
        by true f later = let s = some-same x b f in ap (λ t. t || is_held held b) (subst (λ z. is_block b z ≡ true) (sym s) (is_block_self b))
        by false f later = or_right (is_block b x) (later f)
          where
            or_right : (t : Bool) → is_held held b ≡ true → (t || is_held held b) ≡ true
            or_right true g = refl
            or_right false g = g

pub block-found : (held : List Block) (user : ℕ) (b : Block) → is_held held b ≡ true → b.start + 16 ≡ user → block_of_user held user ≢ None
block-found [] user b e f = λ g. absurd (cc)
block-found (x ∷ held) user b e f = λ g. by (is_block b x) (x.start + 16 == user) refl refl e g (λ h. block-found held user b h f)
  where
    by : (t u : Bool) → is_block b x ≡ t → (x.start + 16 == user) ≡ u → (t || is_held held b) ≡ true → cond u (Some x) (block_of_user held user) ≡ None → (is_held held b ≡ true → block_of_user held user ≢ None) → ⊥
    by t true g h i j later = absurd (cc)
    by true false g h i j later = let s = same_block b x g in let z : x.start + 16 ≡ user = ap (λ (y : Block). y.start + 16) (sym s) ∙ f in absurd (grind (arith, nat_tests, h, z))
    by false false g h i j later = later i j

pub no-user : (held : List Block) → block_of_user held 0 ≡ None
no-user [] = refl
no-user (x ∷ held) = by (x.start + 16 == 0) refl (no-user held)
  where
    by : (t : Bool) → (x.start + 16 == 0) ≡ t → block_of_user held 0 ≡ None → cond t (Some x) (block_of_user held 0) ≡ None
    by true e later = absurd (grind (arith, nat_tests, e))
    by false e later = later

-- ---- the next slot

pub record Found (frames : ℕ) (held : List Block) (room : Room) (start : ℕ) : Type 0 where
  pub placed : IsPlaced frames (record { start = start; room = room })
  pub free : is_held held (record { start = start; room = room }) ≡ false

-- a slot that was found
record Slot (frames : ℕ) (held : List Block) (room : Room) (i : ℕ) : Type 0 where
  within : i < slots_in frames room
  free : holds_in frames held room i ≡ false

small_slot : (frames : ℕ) (held : List Block) (class i : ℕ) → class < 13 → slot frames (holds_in frames held) (Small class) ≡ Some i → Slot frames held (Small class) i
unfolding beside empty_page
small_slot frames held class i r e = by (beside frames (holds_in frames held) class) refl e
  where
    on_page : (x : Option ℕ) → empty_page frames (holds_in frames held) class ≡ x → first_slot (slots_of class) x ≡ Some i → Slot frames held (Small class) i
    on_page None a d = absurd (cc)
    on_page (Some p) a d =
        let f = least-Some (λ page. not (has_block (holds_in frames held) class page)) 0 frames p a in
        let same : p * slots_of class ≡ i = cc in
        let bare : has_block (holds_in frames held) class p ≡ false = grind (arith, f) in
        let s = slots_positive class r in
        let m = mul-le-mul_right (slots_of class) (let l : suc p ≤ frames = omega (arith, f) in l) in
        let k = suc-mul p (slots_of class) in
        record {
          within = omega (arith, same, s, m, k);
          free = any_none (λ j. holds_in frames held (Small class) j) (p * slots_of class) (slots_of class) i bare (omega (arith, same)) (omega (arith, same, s));
        }

    by : (x : Option ℕ) → beside frames (holds_in frames held) class ≡ x → or_else x (first_slot (slots_of class) (empty_page frames (holds_in frames held) class)) ≡ Some i → Slot frames held (Small class) i
    by None b d = on_page (empty_page frames (holds_in frames held) class) refl d
    by (Some j) b d =
        let f = least-Some (λ j. has_block (holds_in frames held) class (j / slots_of class) && not (holds_in frames held (Small class) j)) 0 (frames * slots_of class) j b in
        let same : j ≡ i = cc in
        let free : holds_in frames held (Small class) j ≡ false = grind (arith, f) in
        rw (← same) (record { within = omega (arith, f); free = free })

found_slot : (frames : ℕ) (held : List Block) (room : Room) (i : ℕ) → IsRoom room → slot frames (holds_in frames held) room ≡ Some i → Slot frames held room i
found_slot frames held (Small class) i r e = small_slot frames held class i r e
found_slot frames held (Pages pages) i r e =
    let f = least-Some (λ j. not (holds_in frames held (Pages pages) j)) 0 (frames / pages) i e in
    record { within = omega (arith, f); free = grind (arith, f) }

pub found-start : (frames : ℕ) (held : List Block) (room : Room) (start : ℕ) → IsRoom room → least_start frames held room ≡ Some start → Found frames held room start
found-start frames held room start r e = by (slot frames (holds_in frames held) room) refl e
  where
    by : (x : Option ℕ) → slot frames (holds_in frames held) room ≡ x → start_of_slot frames room x ≡ Some start → Found frames held room start
    by None f g = absurd (cc)
    by (Some i) f g =
        let s = found_slot frames held room i r f in
        let same = some-same (start_of frames room i) start g in
        record {
          placed = record { room = r; slot = i; within = s.within; start = sym same };
          free = ap (λ x. is_held held (record { start = x; room = room })) (sym same) ∙ s.free;
        }
