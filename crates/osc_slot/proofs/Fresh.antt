-- What a block at a free slot adds to the held ones.
use Rattle.std.proofs.Common.{ℕ, suc, ◌≡◌, ◌≢◌, ◌<◌, ◌≤◌, ◌==◌, nat_lt, nat_le, ◌&&◌, ◌||◌, ◌+◌, ◌*◌, ◌/◌, ⊎_elim, Bool, true, false, cond, List, arith, refl, sym, ap, ◌∙◌}
use Rattle.std.specs.List.{list_any}
use Rattle.std.proofs.lemmas.Bool.Decides.{nat_tests}
use Rattle.std.proofs.lemmas.Bool.{cases_lt}
use Rattle.std.proofs.Math.Nat.{mul-le-mul_right, suc-mul}
use Rattle.osc_class.specs.Rooms.{IsRoom, block_bytes, shadow_pages}
use Rattle.osc_class.specs.declared.Room.{Room}
use Rattle.osc_class.specs.declared.Room.TheVariants.{Small, Pages}
use Rattle.osc_slot.specs.declared.Block.{Block}
use Rattle.osc_slot.specs.Areas.{first_page, slots_of, slots_in, page_of, start_of, block_at_slot, IsPlaced}
use Rattle.osc_slot.specs.Slots.{is_block, is_held, holds_in, has_block, is_on, is_covered, is_small, own_frames, pages_alone, block_frames}
use Rattle.osc_slot.specs.Heap.{with_block, ArePlaced}
use Rattle.osc_slot.proofs.Counting.{passing_same, passing_more}
use Rattle.osc_slot.proofs.InOrder.{any-insert, sum-insert, has_number}
use Rattle.osc_slot.proofs.Bounds.{pages_within, bytes_positive, start_page, later_area, apart}
use Rattle.osc_slot.proofs.HeldBlocks.{same_block, is_block_self, any_weaker, Found, found, small_page, covering_room, covered_has_block}

-- the pages that a block at a slot covers beside those of the held blocks
abbrev pub new_pages : ℕ → List Block → Room → ℕ → ℕ
new_pages frames held room slot = pages_alone (holds_in frames held) room slot

pub record Fresh (frames : ℕ) (held : List Block) (room : Room) (slot n : ℕ) : Type 0 where
  pub pages : (q : ℕ) → ((nat_le (page_of frames room slot) q && nat_lt q (page_of frames room slot + n)) || is_covered held q) ≡ (is_on q (block_at_slot frames room slot) || is_covered held q)
  pub empty : (q : ℕ) → page_of frames room slot ≤ q → q < page_of frames room slot + n → is_covered held q ≡ false
  pub more : block_frames frames (with_block (block_at_slot frames room slot) held) ≡ n + block_frames frames held
  pub absent : has_number (λ (b : Block). b.start) (start_of frames room slot) held ≡ false

-- a placed block is the one at its slot
pub placed_is : (frames : ℕ) (b : Block) (p : IsPlaced frames b) → b ≡ block_at_slot frames b.room p.slot
placed_is frames b p = λ i. record { start = p.start i; room = b.room }

-- no held block starts where one that is not held does
pub absent_start : (frames : ℕ) (held : List Block) (room : Room) (slot : ℕ) → IsRoom room → slot < slots_in frames room → ArePlaced frames held → holds_in frames held room slot ≡ false → has_number (λ (b : Block). b.start) (start_of frames room slot) held ≡ false
absent_start frames held room slot r l placed free = go (has_number (λ (b : Block). b.start) (start_of frames room slot) held) refl
  where
    clash : Found frames (λ b. b.start == start_of frames room slot) held → ⊥
    clash f = by (is_block (block_at_slot frames room slot) f.block) refl
      where
        start : f.block.start ≡ start_of frames room slot
        start = let e = f.passes in grind (arith, nat_tests, e)

        by : (t : Bool) → is_block (block_at_slot frames room slot) f.block ≡ t → ⊥
        by true e =
            let same : block_at_slot frames room slot ≡ f.block = same_block (block_at_slot frames room slot) f.block e in
            let there : holds_in frames held room slot ≡ true = ap (λ x. is_held held x) same ∙ f.held_there in
            cc
        by false e =
            let differ : block_at_slot frames room slot ≢ block_at_slot frames f.block.room f.placed.slot =
            λ same. (let is : block_at_slot frames room slot ≡ f.block = same ∙ sym (placed_is frames f.block f.placed) in
            let t : is_block f.block f.block ≡ true = is_block_self f.block in
            let u : is_block f.block f.block ≡ false = sym (ap (λ x. is_block x f.block) is) ∙ e in
            cc) in
            let a = apart frames room f.block.room slot f.placed.slot r f.placed.room l f.placed.within differ in
            let x = bytes_positive room r in
            let y = bytes_positive f.block.room f.placed.room in
            let s = f.placed.start in
            let at = start in
            ⊎_elim (λ (h : start_of frames room slot + block_bytes room ≤ start_of frames f.block.room f.placed.slot). omega arith)
            (λ (h : start_of frames f.block.room f.placed.slot + block_bytes f.block.room ≤ start_of frames room slot). omega arith) a

    go : (t : Bool) → has_number (λ (b : Block). b.start) (start_of frames room slot) held ≡ t → t ≡ false
    go true e = absurd (clash (found frames (λ b. b.start == start_of frames room slot) held placed e))
    go false e = refl

-- with the page that a block starts on written out
on_block : (frames : ℕ) (room : Room) (slot q : ℕ) → IsRoom room → is_on q (block_at_slot frames room slot) ≡ (nat_le (page_of frames room slot) q && nat_lt q (page_of frames room slot + shadow_pages room))
on_block frames room slot q r = let e = start_page frames room slot r in rw e refl

-- no held block covers a page of a free slot of whole pages
large_empty : (frames : ℕ) (held : List Block) (pages slot q : ℕ) → 0 < pages → slot < slots_in frames (Pages pages) → ArePlaced frames held → holds_in frames held (Pages pages) slot ≡ false → page_of frames (Pages pages) slot ≤ q → q < page_of frames (Pages pages) slot + pages → is_covered held q ≡ false
large_empty frames held pages slot q r l placed free low high = go (is_covered held q) refl
  where
    clash : Found frames (λ b. is_on q b) held → ⊥
    clash f = by (is_block (block_at_slot frames (Pages pages) slot) f.block) refl
      where
        w : slot * pages + pages ≤ frames
        w = pages_within frames (Pages pages) slot r l

        room : f.block.room ≡ Pages pages
        room = let h = w in covering_room frames q (Pages pages) f.block f.placed r (omega arith) (omega arith) f.passes

        is : f.block ≡ block_at_slot frames (Pages pages) f.placed.slot
        is = λ i. record { start = (f.placed.start ∙ ap (λ x. start_of frames x f.placed.slot) room) i; room = room i }

        on : (nat_le (page_of frames (Pages pages) f.placed.slot) q && nat_lt q (page_of frames (Pages pages) f.placed.slot + pages)) ≡ true
        on = sym (on_block frames (Pages pages) f.placed.slot q r) ∙ sym (ap (λ b. is_on q b) is) ∙ f.passes

        differ : f.placed.slot ≢ slot
        differ e =
            let at : f.block ≡ block_at_slot frames (Pages pages) slot = is ∙ ap (λ i. block_at_slot frames (Pages pages) i) e in
            let there : holds_in frames held (Pages pages) slot ≡ true = ap (λ x. is_held held x) (sym at) ∙ f.held_there in
            cc

        by : (t : Bool) → is_block (block_at_slot frames (Pages pages) slot) f.block ≡ t → ⊥
        by t e =
            let o = on in
            let b : (page_of frames (Pages pages) f.placed.slot ≤ q) × (q < page_of frames (Pages pages) f.placed.slot + pages) = grind (arith, nat_tests, o) in
            ⊎_elim (λ (h : f.placed.slot < slot).
            let m = mul-le-mul_right pages (let n : suc f.placed.slot ≤ slot = omega arith in n) in
            let s = suc-mul f.placed.slot pages in
            omega arith)
            (λ (h : slot ≤ f.placed.slot). ⊎_elim
            (λ (g : slot < f.placed.slot).
            let m = mul-le-mul_right pages (let n : suc slot ≤ f.placed.slot = omega arith in n) in
            let s = suc-mul slot pages in
            omega arith)
            (λ (g : f.placed.slot ≤ slot). differ (omega arith))
            (cases_lt slot f.placed.slot))
            (cases_lt f.placed.slot slot)

    go : (t : Bool) → is_covered held q ≡ t → t ≡ false
    go true e = absurd (clash (found frames (λ b. is_on q b) held placed e))
    go false e = refl

-- the held blocks' frames with one block more
more_large : (frames : ℕ) (held : List Block) (b : Block) (pages : ℕ) → b.room ≡ Pages pages → block_frames frames (with_block b held) ≡ pages + block_frames frames held
unfolding block_frames
more_large frames held b pages e =
    let sums = sum-insert (λ (c : Block). c.start) (λ (c : Block). own_frames c.room) b held in
    let own : own_frames b.room ≡ pages = ap own_frames e in
    let same = passing_same (λ page. list_any (λ c. is_small c && is_on page c) (with_block b held)) (λ page. list_any (λ c. is_small c && is_on page c) held) first_page (13 * frames)
    (λ q l m. any-insert (λ (c : Block). c.start) (λ c. is_small c && is_on q c) b held ∙ other q b.room e) in
    omega arith
  where
    other : (q : ℕ) (room : Room) → room ≡ Pages pages → ((is_small (record { start = b.start; room = room }) && is_on q (record { start = b.start; room = room })) || list_any (λ c. is_small c && is_on q c) held) ≡ list_any (λ c. is_small c && is_on q c) held
    other q room is = rw is refl

-- a page of a class holds a block exactly where a small block lies on it
small_page_is : (frames : ℕ) (held : List Block) (class page : ℕ) → class < 13 → page < frames → ArePlaced frames held → list_any (λ b. is_small b && is_on (first_page + class * frames + page) b) held ≡ has_block (holds_in frames held) class page
small_page_is frames held class page l m placed = go (has_block (holds_in frames held) class page) refl (list_any (λ b. is_small b && is_on (first_page + class * frames + page) b) held) refl
  where
    covered : list_any (λ b. is_small b && is_on (first_page + class * frames + page) b) held ≡ true → is_covered held (first_page + class * frames + page) ≡ true
    covered e = any_weaker (λ b. is_small b && is_on (first_page + class * frames + page) b) (λ b. is_on (first_page + class * frames + page) b) (λ b h. grind (arith, nat_tests, h)) held e

    go : (t : Bool) → has_block (holds_in frames held) class page ≡ t → (u : Bool) → list_any (λ b. is_small b && is_on (first_page + class * frames + page) b) held ≡ u → u ≡ t
    go true e true f = refl
    go true e false f = let h = small_page frames held class page l e in cc
    go false e true f = let h = covered_has_block frames held class page l m placed (covered f) in cc
    go false e false f = refl

one_page : (page q : ℕ) → (nat_le page q && nat_lt q (page + 1)) ≡ (page == q)
one_page page q = grind (arith, nat_tests)

more_small : (frames : ℕ) (held : List Block) (class slot : ℕ) → class < 13 → slot / slots_of class < frames → ArePlaced frames held → block_frames frames (with_block (block_at_slot frames (Small class) slot) held) ≡ new_pages frames held (Small class) slot + block_frames frames held
unfolding block_frames
more_small frames held class slot l m placed =
    let sums = sum-insert (λ (c : Block). c.start) (λ (c : Block). own_frames c.room) (block_at_slot frames (Small class) slot) held in
    let within = later_area frames class 13 l in
    let same = passing_same (λ page. list_any (λ c. is_small c && is_on page c) (with_block (block_at_slot frames (Small class) slot) held)) (λ page. (page_of frames (Small class) slot == page) || list_any (λ c. is_small c && is_on page c) held) first_page (13 * frames)
    (λ q l m. any-insert (λ (c : Block). c.start) (λ c. is_small c && is_on q c) (block_at_slot frames (Small class) slot) held ∙ ap (λ t. t || list_any (λ c. is_small c && is_on q c) held) (on q)) in
    let more = passing_more (λ page. list_any (λ c. is_small c && is_on page c) held) (page_of frames (Small class) slot) first_page (13 * frames) (omega arith) (omega arith) in
    let here = small_page_is frames held class (slot / slots_of class) l m placed in
    let count : cond (list_any (λ c. is_small c && is_on (page_of frames (Small class) slot) c) held) 0 1 ≡ new_pages frames held (Small class) slot = ap (λ t. cond t 0 1) here in
    omega arith
  where
    on : (q : ℕ) → (is_small (block_at_slot frames (Small class) slot) && is_on q (block_at_slot frames (Small class) slot)) ≡ (page_of frames (Small class) slot == q)
    on q = on_block frames (Small class) slot q l ∙ one_page (page_of frames (Small class) slot) q

pub fresh : (frames : ℕ) (held : List Block) (room : Room) (slot : ℕ) → IsRoom room → slot < slots_in frames room → ArePlaced frames held → holds_in frames held room slot ≡ false → Fresh frames held room slot (new_pages frames held room slot)
fresh frames held (Pages pages) slot r l placed free = record {
  pages = λ q. ap (λ t. t || is_covered held q) (sym (on_block frames (Pages pages) slot q r));
  empty = λ q low high. large_empty frames held pages slot q r l placed free low high;
  more = more_large frames held (block_at_slot frames (Pages pages) slot) pages refl;
  absent = absent_start frames held (Pages pages) slot r l placed free;
}
fresh frames held (Small class) slot r l placed free = record {
  pages = λ q. by (has_block (holds_in frames held) class (slot / slots_of class)) refl q ∙ ap (λ t. t || is_covered held q) (sym (on_block frames (Small class) slot q r));
  empty = λ q low high. none (has_block (holds_in frames held) class (slot / slots_of class)) refl q low high;
  more = more_small frames held class slot r within placed;
  absent = absent_start frames held (Small class) slot r l placed free;
}
  where
    within : slot / slots_of class < frames
    within = let w = pages_within frames (Small class) slot r l in omega arith

    covered : has_block (holds_in frames held) class (slot / slots_of class) ≡ true → is_covered held (page_of frames (Small class) slot) ≡ true
    covered e = any_weaker (λ b. is_small b && is_on (page_of frames (Small class) slot) b) (λ b. is_on (page_of frames (Small class) slot) b) (λ b h. grind (arith, nat_tests, h)) held (small_page frames held class (slot / slots_of class) r e)

    bare : has_block (holds_in frames held) class (slot / slots_of class) ≡ false → (t : Bool) → is_covered held (page_of frames (Small class) slot) ≡ t → t ≡ false
    bare e true f = let h = covered_has_block frames held class (slot / slots_of class) r within placed f in cc
    bare e false f = refl

    by : (t : Bool) → has_block (holds_in frames held) class (slot / slots_of class) ≡ t → (q : ℕ) → ((nat_le (page_of frames (Small class) slot) q && nat_lt q (page_of frames (Small class) slot + cond t 0 1)) || is_covered held q) ≡ ((nat_le (page_of frames (Small class) slot) q && nat_lt q (page_of frames (Small class) slot + 1)) || is_covered held q)
    by true e q = go (page_of frames (Small class) slot == q) refl
      where
        go : (u : Bool) → (page_of frames (Small class) slot == q) ≡ u → ((nat_le (page_of frames (Small class) slot) q && nat_lt q (page_of frames (Small class) slot + 0)) || is_covered held q) ≡ ((nat_le (page_of frames (Small class) slot) q && nat_lt q (page_of frames (Small class) slot + 1)) || is_covered held q)
        go true is = let same : page_of frames (Small class) slot ≡ q = grind (arith, nat_tests) in let c : is_covered held q ≡ true = ap (λ x. is_covered held x) (sym same) ∙ covered e in rw c (grind (arith, nat_tests))
        go false is = grind (arith, nat_tests)
    by false e q = refl

    none : (t : Bool) → has_block (holds_in frames held) class (slot / slots_of class) ≡ t → (q : ℕ) → page_of frames (Small class) slot ≤ q → q < page_of frames (Small class) slot + cond t 0 1 → is_covered held q ≡ false
    none true e q low high = absurd (omega arith)
    none false e q low high = let same : page_of frames (Small class) slot ≡ q = omega arith in ap (λ x. is_covered held x) (sym same) ∙ (let b = bare e (is_covered held (page_of frames (Small class) slot)) refl in b)
