-- Grants and frees keep the plain bytes and blocks of a process those of its objects.
use Rattle.std.proofs.Common.{ℕ, zero, suc, ◌≡◌, ◌≢◌, ◌<◌, ◌≤◌, ◌==◌, ◌+◌, ◌-◌, ◌*◌, ◌%◌, Bool, true, false, cond, List, [], ◌∷◌, ◌++◌, Option, Some, None, option_map, arith, refl, ap, sym, subst, ◌∙◌, ◌⊎◌, inl, inr, slice_get, length, length-append, map, get_or}
use Rattle.std.proofs.lemmas.Bool.Decides.{nat_tests}
use Rattle.std.proofs.lemmas.List.{length-map}
use Rattle.std.proofs.lemmas.Option.{slice_get-map, slice_get_within, get_or_from_slice_get}
use Rattle.std.specs.Prelude.{slice_index}
use Rattle.osc_class.specs.Rooms.{room_of, block_bytes}
use Rattle.osc_slot.specs.declared.Block.{Block}
use Rattle.osc_slot.specs.Areas.{IsPlaced}
use Rattle.osc_slot.specs.Slots.{is_held}
use Rattle.osc_slot.proofs.Bounds.{bytes_positive}
use Rattle.osc_world.specs.declared.Byte.{Byte}
use Rattle.osc_world.specs.States.{changed_at}
use Rattle.osc_world.specs.World.{Memory, Object, Live, Dead, Page, object_size, killed}
use Rattle.osc_world.specs.Accesses.{memory_page}
use Rattle.osc_world.specs.Calls.{without_object}
use Rattle.osc_world.specs.PlainWorld.{Flat, with_bytes, with_given}
use Rattle.osc_world.proofs.Lists.{slice_get-changed_at, length-changed_at}
use Rattle.osc_means.specs.Shown.{shown_byte, block_for, Laid, Mirrors}
use Rattle.osc_means.proofs.Rows.{some-same, pushed, pushed-last}
use Rattle.osc_means.proofs.Memory.{Comes, laid-comes, outside, inside}
use Rattle.osc_means.proofs.Blocks.{room_holds, Bounded, bounded, lie_apart}

-- ---- an object that is dead

-- a live object was live before, and is another one
pub record LiveOther (objects : List Object) (o q : ℕ) (bs : List Byte) : Type 0 where
  pub other : q ≢ o
  pub live : slice_get objects q ≡ Some (Live bs)

pub live-other : (objects : List Object) (o q : ℕ) (bs : List Byte) → slice_get (without_object objects o) q ≡ Some (Live bs) → LiveOther objects o q bs
live-other objects o q bs e = by (slice_get objects q) refl (q == o) refl (sym (slice_get-changed_at killed objects o q) ∙ e)
  where
    by : (found : Option Object) → slice_get objects q ≡ found → (t : Bool) → (q == o) ≡ t → cond t (option_map killed (slice_get objects q)) (slice_get objects q) ≡ Some (Live bs) → LiveOther objects o q bs
    by None f true t g = absurd (grind (arith, f, g))
    by None f false t g = absurd (grind (arith, f, g))
    by (Some x) f true t g = absurd (grind (arith, f, g))
    by (Some x) f false t g = record { other = grind (arith, nat_tests, t); live = g }

killed-comes : (objects : List Object) (o : ℕ) → Comes objects (without_object objects o)
killed-comes objects o = record {
  some = λ q z e. some q z (slice_get objects q) refl (q == o) (sym (slice_get-changed_at killed objects o q) ∙ e);
  live = λ q bs e. let l = live-other objects o q bs e in (bs, l.live, refl);
}
  where
    some : (q : ℕ) (z : Object) (found : Option Object) → slice_get objects q ≡ found → (t : Bool) → cond t (option_map killed (slice_get objects q)) (slice_get objects q) ≡ Some z
        → (x : Object) × (slice_get objects q ≡ Some x) × (object_size z ≡ object_size x)
    some q z None f true e = absurd (grind (arith, f, e))
    some q z None f false e = absurd (grind (arith, f, e))
    some q z (Some x) f true e = let g : killed x ≡ z = grind (arith, f, e) in (x, f, ap object_size (sym g))
    some q z (Some x) f false e = let g : x ≡ z = grind (arith, f, e) in (x, f, ap object_size (sym g))

-- the blocks of two live objects are two
pub two-blocks : (place : ℕ → ℕ) (objects : List Object) (o q : ℕ) (a b : List Byte) → Laid place objects → slice_get objects o ≡ Some (Live a) → slice_get objects q ≡ Some (Live b) → o ≢ q
    → block_for (place o) (length a) ≢ block_for (place q) (length b)
two-blocks place objects o q a b laid e f n =
    let d = laid.apart o q a b e f n in let x = laid.above o (Live a) e in let y = laid.above q (Live b) f in
    λ s. let same : place o - 16 ≡ place q - 16 = ap (λ (z : Block). z.start) s in grind (arith, d, x, y, same)

-- an object is dead, and other blocks than its own stay held
pub killed-mirrors : (frames : ℕ) (place : ℕ → ℕ) (m : Memory) (z : Flat) (o : ℕ) (held : List Block) → Mirrors frames place m z
    → ((b : Block) → is_held held b ≡ true → is_held z.held b ≡ true)
    → ((q : ℕ) (bs : List Byte) → slice_get m.objects q ≡ Some (Live bs) → q ≢ o → is_held held (block_for (place q) (length bs)) ≡ true)
    → Mirrors frames place (record m { objects = without_object m.objects o }) (record z { held = held })
killed-mirrors frames place m z o held s less stay = record {
  machine = s.machine;
  pages = s.pages;
  low = s.low;
  whole = s.whole;
  bytes = λ q i bs b e f. let l = live-other m.objects o q bs e in s.bytes q i bs b l.live f;
  laid = laid-comes place m.objects _ (killed-comes m.objects o) s.laid;
  held = λ q bs e. let l = live-other m.objects o q bs e in stay q bs l.live l.other;
  sizes = λ q bs e. let l = live-other m.objects o q bs e in s.sizes q bs l.live;
  placed = λ b e. s.placed b (less b e);
  given = s.given ∙ sym (length-changed_at killed m.objects o);
}

-- ---- an object that is granted

pub record Grants (frames : ℕ) (place : ℕ → ℕ) (m : Memory) (user size : ℕ) (held : List Block) : Type 0 where
  pub limit : frames ≤ 4096
  pub here : place (length m.objects) ≡ user
  pub block : IsPlaced frames (block_for user size)
  pub start : 16 ≤ user
  pub placed : (b : Block) → is_held held b ≡ true → IsPlaced frames b
  pub new : is_held held (block_for user size) ≡ true
  pub old : (o : ℕ) (bs : List Byte) → slice_get m.objects o ≡ Some (Live bs) → is_held held (block_for (place o) (length bs)) ≡ true
  pub other : (o : ℕ) (bs : List Byte) → slice_get m.objects o ≡ Some (Live bs) → block_for (place o) (length bs) ≢ block_for user size

pub granted-mirrors : (frames : ℕ) (place : ℕ → ℕ) (m : Memory) (z : Flat) (user size : ℕ) (held : List Block) (bytes : List Byte) → Mirrors frames place m z → Grants frames place m user size held
    → length bytes ≡ size
    → Mirrors frames place (record m { objects = m.objects ++ Live bytes ∷ [] }) (with_given z held user size (map (shown_byte place) bytes))
granted-mirrors frames place m z user size held bytes s g long = record {
  machine = s.machine;
  pages = λ n i page b e f.
      let low = s.low n page e in let whole = s.whole n page e in let in_page = slice_get_within page.bytes i b f in
      outside z.bytes user (map (shown_byte place) bytes) (4096 * n + i) (inl (omega (arith, above))) ∙ s.pages n i page b e f;
  low = s.low;
  whole = s.whole;
  bytes = λ q i bs b e f. bytes_at q i bs b (q == length m.objects) refl e f;
  laid = record {
    above = λ q x e. above_at q x (q == length m.objects) refl e;
    below = λ q x e. below_at q x (q == length m.objects) refl e;
    even = λ q x e. even_at q x (q == length m.objects) refl e;
    apart = λ o q a b e f n. apart_at o q a b n (o == length m.objects) (q == length m.objects) refl refl e f;
  };
  held = λ q bs e. held_at q bs (q == length m.objects) refl e;
  sizes = λ q bs e. size_at q bs (q == length m.objects) refl e;
  placed = g.placed;
  given = length-append z.given (user ∷ []) ∙ ap (λ n. n + 1) s.given ∙ sym (length-append m.objects (Live bytes ∷ []));
}
  where
    count : ℕ
    count = length m.objects

    objects : List Object
    objects = m.objects ++ Live bytes ∷ []

    bounds : Bounded (block_for user size)
    bounds = bounded frames (block_for user size) g.limit g.block

    above : 0x2000000010 ≤ user
    above = let a = bounds.above in let u = g.start in omega arith

    ends : user + size ≤ 0x4000000000
    ends = let b = bounds.below in let u = g.start in let h = room_holds size in omega arith

    old_at : (q : ℕ) (x : Object) → (q == length m.objects) ≡ false → slice_get (m.objects ++ Live bytes ∷ []) q ≡ Some x → slice_get m.objects q ≡ Some x
    old_at q x t e = pushed m.objects (Live bytes) x q e (let n : q ≢ length m.objects = grind (arith, nat_tests, t) in n)

    new_at : (q : ℕ) (x : Object) → (q == length m.objects) ≡ true → slice_get (m.objects ++ Live bytes ∷ []) q ≡ Some x → (place q ≡ user) × (Live bytes ≡ x)
    new_at q x t e =
        let is : q ≡ length m.objects = grind (arith, nat_tests, t) in
        (ap place is ∙ g.here, some-same (Live bytes) x (sym (pushed-last m.objects (Live bytes)) ∙ ap (slice_get (m.objects ++ Live bytes ∷ [])) (sym is) ∙ e))

    new_bytes : (q : ℕ) (bs : List Byte) → (q == length m.objects) ≡ true → slice_get (m.objects ++ Live bytes ∷ []) q ≡ Some (Live bs) → (place q ≡ user) × (bytes ≡ bs)
    new_bytes q bs t e = let f = new_at q (Live bs) t e in (f.0, let h = f.1 in cc)

    -- where a live object lies against the new one
    clear : (o : ℕ) (bs : List Byte) → slice_get m.objects o ≡ Some (Live bs) → (place o + length bs + 16 ≤ user) ⊎ (user + size + 16 ≤ place o)
    clear o bs e =
        let d = lie_apart frames (block_for (place o) (length bs)) (block_for user size) (s.placed (block_for (place o) (length bs)) (s.held o bs e)) g.block (g.other o bs e) in
        let x = room_holds (length bs) in let y = room_holds size in let a = s.laid.above o (Live bs) e in let u = above in
        elim d as (λ _. (place o + length bs + 16 ≤ user) ⊎ (user + size + 16 ≤ place o)) [
          | inl f ↦ inl (omega arith)
          | inr f ↦ inr (omega arith)
        ]

    bytes_at : (q i : ℕ) (bs : List Byte) (b : Byte) (t : Bool) → (q == length m.objects) ≡ t → slice_get (m.objects ++ Live bytes ∷ []) q ≡ Some (Live bs) → slice_get bs i ≡ Some b
        → with_bytes z.bytes user (map (shown_byte place) bytes) (place q + i) ≡ shown_byte place b
    bytes_at q i bs b true t e f =
        let n = new_bytes q bs t e in
        let there : slice_get bytes i ≡ Some b = ap (λ y. slice_get y i) n.1 ∙ f in
        let within = slice_get_within bytes i b there in
        let size = length-map bytes (shown_byte place) in
        let back : user + i - user ≡ i = omega arith in
        ap (λ x. with_bytes z.bytes user (map (shown_byte place) bytes) (x + i)) n.0
        ∙ inside z.bytes user (map (shown_byte place) bytes) (user + i) (omega arith) (omega (arith, size, within))
        ∙ ap (slice_index (map (shown_byte place) bytes)) back
        ∙ get_or_from_slice_get (map (shown_byte place) bytes) i (shown_byte place b) 0 (slice_get-map (shown_byte place) bytes i ∙ ap (option_map (shown_byte place)) there)
    bytes_at q i bs b false t e f =
        let old = old_at q (Live bs) t e in
        let within = slice_get_within bs i b f in
        let long_row = length-map bytes (shown_byte place) in
        let away : (place q + i < user) ⊎ (user + length (map (shown_byte place) bytes) ≤ place q + i) = elim (clear q bs old) as (λ _. (place q + i < user) ⊎ (user + length (map (shown_byte place) bytes) ≤ place q + i)) [
          | inl d ↦ inl (omega arith)
          | inr d ↦ inr (omega (arith, long_row, long))
        ] in
        outside z.bytes user (map (shown_byte place) bytes) (place q + i) away ∙ s.bytes q i bs b old f

    above_at : (q : ℕ) (x : Object) (t : Bool) → (q == length m.objects) ≡ t → slice_get (m.objects ++ Live bytes ∷ []) q ≡ Some x → 0x2000000010 ≤ place q
    above_at q x true t e = let n = (new_at q x t e).0 in let a = above in omega arith
    above_at q x false t e = s.laid.above q x (old_at q x t e)

    below_at : (q : ℕ) (x : Object) (t : Bool) → (q == length m.objects) ≡ t → slice_get (m.objects ++ Live bytes ∷ []) q ≡ Some x → place q + object_size x ≤ 0x4000000000
    below_at q x true t e = let n = new_at q x t e in let a = ends in let long_x : length bytes ≡ object_size x = ap object_size n.1 in let here = n.0 in omega arith
    below_at q x false t e = s.laid.below q x (old_at q x t e)

    even_at : (q : ℕ) (x : Object) (t : Bool) → (q == length m.objects) ≡ t → slice_get (m.objects ++ Live bytes ∷ []) q ≡ Some x → place q % 16 ≡ 0
    even_at q x true t e = let n = (new_at q x t e).0 in let a = bounds.even in let u = above in omega arith
    even_at q x false t e = s.laid.even q x (old_at q x t e)

    apart_at : (o q : ℕ) (a b : List Byte) → o ≢ q → (t u : Bool) → (o == length m.objects) ≡ t → (q == length m.objects) ≡ u
        → slice_get (m.objects ++ Live bytes ∷ []) o ≡ Some (Live a) → slice_get (m.objects ++ Live bytes ∷ []) q ≡ Some (Live b)
        → (place o + length a + 16 ≤ place q) ⊎ (place q + length b + 16 ≤ place o)
    apart_at o q a b n true true t u e f = absurd (n (let x : o ≡ length m.objects = grind (arith, nat_tests, t) in let y : q ≡ length m.objects = grind (arith, nat_tests, u) in x ∙ sym y))
    apart_at o q a b n true false t u e f =
        let x = new_bytes o a t e in
        let l : length a ≡ size = ap length (sym x.1) ∙ long in
        let here = x.0 in
        let d = clear q b (old_at q (Live b) u f) in
        grind (arith, d, l, here)
    apart_at o q a b n false true t u e f =
        let x = new_bytes q b u f in
        let l : length b ≡ size = ap length (sym x.1) ∙ long in
        let here = x.0 in
        let d = clear o a (old_at o (Live a) t e) in
        grind (arith, d, l, here)
    apart_at o q a b n false false t u e f = s.laid.apart o q a b (old_at o (Live a) t e) (old_at q (Live b) u f) n

    held_at : (q : ℕ) (bs : List Byte) (t : Bool) → (q == length m.objects) ≡ t → slice_get (m.objects ++ Live bytes ∷ []) q ≡ Some (Live bs) → is_held held (block_for (place q) (length bs)) ≡ true
    held_at q bs true t e = let n = new_bytes q bs t e in let l : length bs ≡ size = ap length (sym n.1) ∙ long in ap (λ x. is_held held (block_for x (length bs))) n.0 ∙ ap (λ x. is_held held (block_for user x)) l ∙ g.new
    held_at q bs false t e = g.old q bs (old_at q (Live bs) t e)

    size_at : (q : ℕ) (bs : List Byte) (t : Bool) → (q == length m.objects) ≡ t → slice_get (m.objects ++ Live bytes ∷ []) q ≡ Some (Live bs) → cond (place q == user) size (z.sizes (place q)) ≡ length bs
    size_at q bs true t e = let n = new_bytes q bs t e in let l : length bs ≡ size = ap length (sym n.1) ∙ long in let same : (place q == user) ≡ true = (let h = n.0 in grind (arith, nat_tests, h)) in rw same (sym l)
    size_at q bs false t e =
        let old = old_at q (Live bs) t e in
        let d = clear q bs old in
        let other : (place q == user) ≡ false = grind (arith, nat_tests, d) in
        rw other (s.sizes q bs old)
