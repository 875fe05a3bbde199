-- The blocks of objects that wait, and where the block of an object lies.
use Rattle.std.proofs.Common.{ℕ, ◌+◌, ◌-◌, ◌/◌, ◌≡◌, ◌<◌, ◌==◌, ◌&&◌, ◌||◌, Bool, true, false, not, cond, Option, Some, None, List, [], ◌∷◌, map, filter, arith, refl, ap, sym, ◌∙◌, subst}
use Rattle.std.specs.List.{list_any, cons_option}
use Rattle.std.proofs.lemmas.Bool.Decides.{nat_tests}
use Rattle.osc_class.specs.declared.Room.{Room}
use Rattle.osc_class.specs.declared.Room.TheVariants.{Small, Pages}
use Rattle.osc_class.specs.Rooms.{room_of, shadow_pages, IsRoom}
use Rattle.osc_slot.specs.declared.Block.{Block}
use Rattle.osc_slot.specs.Areas.{start_of, IsPlaced}
use Rattle.osc_slot.specs.Slots.{is_held, is_covered, is_on, is_block}
use Rattle.osc_slot.specs.Heap.{ArePlaced}
use Rattle.osc_slot.proofs.Bounds.{bytes_within}
use Rattle.osc_slot.proofs.HeldBlocks.{is_block_self, same_block, any_weaker, found}
use Rattle.osc_space.specs.declared.ObjectFact.{ObjectFact}
use Rattle.osc_space.specs.Objects.{fact, facts}
use Rattle.osc_space.specs.Header.{block_of}
use Rattle.osc_space.specs.Agree.{AreApart}
use Rattle.osc_parts.proofs.Blocks.{room_bytes}

-- ---- where a held block lies
pub header_page : (frames : ℕ) (room : Room) (slot : ℕ) → IsRoom room → (start_of frames room slot + 16) / 4096 ≡ start_of frames room slot / 4096
header_page frames (Pages pages) slot r = omega arith
header_page frames (Small class) slot r =
    let a = bytes_within (Small class) slot r in
    let b = room_bytes (Small class) r in
    omega (arith, a, b)

pub record Lies (o : ObjectFact) : Type 0 where
  pub canon : o.canon ≡ (block_of o).start + 16
  pub page : o.canon / 4096 ≡ (block_of o).start / 4096

pub lies : (frames : ℕ) (held : List Block) (o : ObjectFact) → ArePlaced frames held → is_held held (block_of o) ≡ true → Lies o
lies frames held o p h =
    let f = found frames (λ b. is_block (block_of o) b) held p h in
    let same = same_block (block_of o) f.block f.passes in
    at f.block same f.placed
  where
    at : (b : Block) → block_of o ≡ b → IsPlaced frames b → Lies o
    at b same q =
        let start : o.canon - 16 ≡ start_of frames b.room q.slot = ap (λ (c : Block). c.start) same ∙ q.start in
        let low : 0 < start_of frames b.room q.slot = omega arith in
        let canon : o.canon ≡ start_of frames b.room q.slot + 16 = omega (arith, start, low) in
        record {
          canon = omega (arith, start, low);
          page = ap (λ x. x / 4096) canon ∙ header_page frames b.room q.slot q.room ∙ ap (λ x. x / 4096) (sym start);
        }

pub covers : (held : List Block) (block : Block) (page : ℕ) → is_held held block ≡ true → is_on page block ≡ true → is_covered held page ≡ true
covers held block page h on =
    any_weaker (λ b. is_block block b) (λ b. is_on page b) (λ b t. subst (λ c. is_on page c ≡ true) (same_block block b t) on) held h

pub object_covered : (frames : ℕ) (held : List Block) (o : ObjectFact) (k : ℕ) → ArePlaced frames held → is_held held (block_of o) ≡ true → o.pages ≡ shadow_pages (room_of o.size) → k < o.pages
    → is_covered held (o.canon / 4096 + k) ≡ true
object_covered frames held o k p h e l =
    let x = (lies frames held o p h).page in
    let on : is_on ((block_of o).start / 4096 + k) (block_of o) ≡ true = grind (arith, nat_tests, e, l) in
    covers held (block_of o) (o.canon / 4096 + k) h (subst (λ q. is_on (q + k) (block_of o) ≡ true) (sym x) on)

-- ---- lists of blocks
pub block_swap : (a b : Block) → is_block a b ≡ is_block b a
block_swap a b = go (is_block a b) refl (is_block b a) refl
  where
    go : (x : Bool) → is_block a b ≡ x → (y : Bool) → is_block b a ≡ y → is_block a b ≡ is_block b a
    go true e true f = e ∙ sym f
    go false e false f = e ∙ sym f
    go true e false f = absurd (let s = same_block a b e in let t : is_block b a ≡ true = subst (λ c. is_block c a ≡ true) s (is_block_self a) in let z : ⊥ = grind (arith, t, f) in z)
    go false e true f = absurd (let s = same_block b a f in let t : is_block a b ≡ true = subst (λ c. is_block c b ≡ true) s (is_block_self b) in let z : ⊥ = grind (arith, t, e) in z)

-- no two blocks are one
abbrev pub Different : List Block → Type 0
Different [] = Unit {0}
Different (b ∷ bs) = (is_held bs b ≡ false) × Different bs

abbrev pub AllHeld : List Block → List Block → Type 0
AllHeld held [] = Unit {0}
AllHeld held (b ∷ bs) = (is_held held b ≡ true) × AllHeld held bs

pub held_without : (b c : Block) (held : List Block) → is_held (filter (λ x. not (is_block b x)) held) c ≡ (is_held held c && not (is_block c b))
held_without b c [] = refl
held_without b c (x ∷ held) = go (is_block b x) refl (is_block c x) refl (held_without b c held)
  where
    go : (t : Bool) → is_block b x ≡ t → (u : Bool) → is_block c x ≡ u → is_held (filter (λ y. not (is_block b y)) held) c ≡ (is_held held c && not (is_block c b))
        → is_held (cond (not t) (x ∷ filter (λ y. not (is_block b y)) held) (filter (λ y. not (is_block b y)) held)) c ≡ ((is_block c x || is_held held c) && not (is_block c b))
    go true e true f later = let s = same_block c x f in let r = same_block b x e in let q : is_block c b ≡ true = subst (λ y. is_block y b ≡ true) (r ∙ sym s) (is_block_self b) in grind (arith, nat_tests, later, q)
    go true e false f later = grind (arith, nat_tests, later, f)
    go false e false f later = grind (arith, nat_tests, later, f)
    go false e true f later = let s = same_block c x f in let q : is_block c b ≡ false = block_swap c b ∙ subst (λ y. is_block b y ≡ false) (sym s) e in grind (arith, nat_tests, later, q, f)

pub less_covered : (b : Block) (page : ℕ) (held : List Block) → is_covered (filter (λ x. not (is_block b x)) held) page ≡ true → is_covered held page ≡ true
less_covered b page [] e = e
less_covered b page (x ∷ held) e = go (is_block b x) (less_covered b page held) e
  where
    go : (t : Bool) → (is_covered (filter (λ y. not (is_block b y)) held) page ≡ true → is_covered held page ≡ true)
        → is_covered (cond (not t) (x ∷ filter (λ y. not (is_block b y)) held) (filter (λ y. not (is_block b y)) held)) page ≡ true → (is_on page x || is_covered held page) ≡ true
    go true later h = let l = later h in grind (arith, nat_tests, l)
    go false later h = or (is_on page x) (λ f. later (grind (arith, nat_tests, h, f))) refl
      where
        or : (u : Bool) → (is_on page x ≡ false → is_covered held page ≡ true) → is_on page x ≡ u → (is_on page x || is_covered held page) ≡ true
        or true k f = grind (arith, nat_tests, f)
        or false k f = let l = k f in grind (arith, nat_tests, l)

-- ---- objects that wait
abbrev pub is_in : List ℕ → ℕ → Bool
is_in numbers object = list_any (λ w. w == object) numbers

abbrev pub blocks_of : List ObjectFact → List ℕ → List Block
blocks_of objects numbers = map block_of (facts objects numbers)

-- the object of a block among them
pub record Waiter (objects : List ObjectFact) (numbers : List ℕ) (block : Block) : Type 0 where
  pub object : ℕ
  pub of : ObjectFact
  pub waits : is_in numbers object ≡ true
  pub is_fact : fact objects object ≡ Some of
  pub is : block_of of ≡ block

pub waiter : (objects : List ObjectFact) (numbers : List ℕ) (block : Block) → is_held (blocks_of objects numbers) block ≡ true → Waiter objects numbers block
waiter objects [] block e = absurd (let z : ⊥ = grind (arith, e) in z)
waiter objects (x ∷ xs) block e = go (fact objects x) refl e (waiter objects xs block)
  where
    more : Waiter objects xs block → Waiter objects (x ∷ xs) block
    more w = let h = w.waits in record { object = w.object; of = w.of; waits = grind (arith, nat_tests, h); is_fact = w.is_fact; is = w.is }

    first : (o : ObjectFact) → fact objects x ≡ Some o → (b : Bool) → is_block block (block_of o) ≡ b → (b || is_held (blocks_of objects xs) block) ≡ true → (is_held (blocks_of objects xs) block ≡ true → Waiter objects xs block) → Waiter objects (x ∷ xs) block
    first o f true d h later = record { object = x; of = o; waits = grind (arith, nat_tests); is_fact = f; is = sym (same_block block (block_of o) d) }
    first o f false d h later = more (later h)

    go : (y : Option ObjectFact) → fact objects x ≡ y → is_held (map block_of (cons_option y (facts objects xs))) block ≡ true → (is_held (blocks_of objects xs) block ≡ true → Waiter objects xs block) → Waiter objects (x ∷ xs) block
    go None f h later = more (later h)
    go (Some o) f h later = first o f (is_block block (block_of o)) refl h later

pub waiting_held : (objects : List ObjectFact) (numbers : List ℕ) (object : ℕ) (o : ObjectFact) → is_in numbers object ≡ true → fact objects object ≡ Some o → is_held (blocks_of objects numbers) (block_of o) ≡ true
waiting_held objects [] object o w f = absurd (let z : ⊥ = grind (arith, w) in z)
waiting_held objects (x ∷ xs) object o w f = go (x == object) refl (waiting_held objects xs object o)
  where
    more : (y : Option ObjectFact) → is_held (blocks_of objects xs) (block_of o) ≡ true → is_held (map block_of (cons_option y (facts objects xs))) (block_of o) ≡ true
    more None h = h
    more (Some p) h = grind (arith, nat_tests, h)

    go : (b : Bool) → (x == object) ≡ b → (is_in xs object ≡ true → fact objects object ≡ Some o → is_held (blocks_of objects xs) (block_of o) ≡ true) → is_held (map block_of (cons_option (fact objects x) (facts objects xs))) (block_of o) ≡ true
    go true d later =
        let same : object ≡ x = grind (arith, nat_tests, d) in
        let here : fact objects x ≡ Some o = subst (λ y. fact objects y ≡ Some o) same f in
        subst (λ y. is_held (map block_of (cons_option y (facts objects xs))) (block_of o) ≡ true) (sym here) (let s = is_block_self (block_of o) in grind (arith, nat_tests, s))
    go false d later = more (fact objects x) (later (grind (arith, nat_tests, w, d)) f)

pub waiting_all_held : (held : List Block) (objects : List ObjectFact) (numbers : List ℕ) → ((object : ℕ) (o : ObjectFact) → is_in numbers object ≡ true → fact objects object ≡ Some o → is_held held (block_of o) ≡ true) → AllHeld held (blocks_of objects numbers)
waiting_all_held held objects [] h = tt
waiting_all_held held objects (x ∷ xs) h = go (fact objects x) refl (waiting_all_held held objects xs (λ object o w f. h object o (grind (arith, nat_tests, w)) f))
  where
    go : (y : Option ObjectFact) → fact objects x ≡ y → AllHeld held (blocks_of objects xs) → AllHeld held (map block_of (cons_option y (facts objects xs)))
    go None e later = later
    go (Some o) e later = (h x o (grind (arith, nat_tests)) e, later)

-- they are different where no two objects have one block
pub waiting_differ : (objects : List ObjectFact) (numbers : List ℕ) → AreApart numbers
    → ((a b : ℕ) (o p : ObjectFact) → is_in numbers a ≡ true → is_in numbers b ≡ true → fact objects a ≡ Some o → fact objects b ≡ Some p → block_of o ≡ block_of p → a ≡ b)
    → Different (blocks_of objects numbers)
waiting_differ objects [] a h = tt
waiting_differ objects (x ∷ xs) a h = go (fact objects x) refl (waiting_differ objects xs a.1 (λ i j o p u v. h i j o p (grind (arith, nat_tests, u)) (grind (arith, nat_tests, v))))
  where
    none : (o : ObjectFact) → fact objects x ≡ Some o → (b : Bool) → is_held (blocks_of objects xs) (block_of o) ≡ b → b ≡ false
    none o e false d = refl
    none o e true d =
        let w = waiter objects xs (block_of o) d in
        let u = w.waits in
        let same = h x w.object o w.of (grind (arith, nat_tests)) (grind (arith, nat_tests, u)) e w.is_fact (sym w.is) in
        let apart = a.0 in
        let there : is_in xs x ≡ true = subst (λ y. is_in xs y ≡ true) (sym same) u in
        absurd (let z : ⊥ = grind (arith, there, apart) in z)

    go : (y : Option ObjectFact) → fact objects x ≡ y → Different (blocks_of objects xs) → Different (map block_of (cons_option y (facts objects xs)))
    go None e later = later
    go (Some o) e later = (none o e (is_held (blocks_of objects xs) (block_of o)) refl, later)
