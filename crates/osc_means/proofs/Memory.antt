-- Stores keep the plain bytes of a process those of its memory.
use Rattle.std.proofs.Common.{ℕ, zero, suc, ◌≡◌, ◌≢◌, ◌<◌, ◌≤◌, ◌==◌, ◌+◌, ◌-◌, ◌*◌, ◌&&◌, Bool, true, false, cond, List, [], ◌∷◌, Option, Some, None, option_map, arith, refl, ap, sym, subst, ◌∙◌, ◌⊎◌, inl, inr, slice_get, nat_lt, nat_le, length, map, get_or}
use Rattle.std.proofs.lemmas.Bool.Decides.{nat_tests}
use Rattle.std.proofs.lemmas.List.{length-map, length-set, map-set}
use Rattle.std.proofs.lemmas.Option.{slice_get-map, slice_get_within, get_or_from_slice_get}
use Rattle.std.specs.Prelude.{slice_set, slice_index}
use Rattle.std.specs.List.{find}
use Rattle.osc_world.specs.declared.Byte.{Byte}
use Rattle.osc_world.specs.States.{changed_at}
use Rattle.osc_world.specs.World.{Memory, Object, Live, Dead, Page, object_size}
use Rattle.osc_world.specs.Accesses.{memory_page, overlaid, object_overlaid, page_overlaid}
use Rattle.osc_world.specs.PlainWorld.{Flat, with_bytes}
use Rattle.osc_world.proofs.Lists.{slice_get-changed_at, length-changed_at, set-same, length-overlaid, overlaid-below, overlaid-above}
use Rattle.osc_means.specs.Shown.{shown_byte, block_for, Laid, Mirrors}
use Rattle.osc_means.proofs.Rows.{found-passes}

-- ---- what stands after a store

pub overlaid-inside : {B : Type 0} (bytes : List B) (k : ℕ) (others : List B) (j : ℕ) → k + length others ≤ length bytes → j < length others
    → slice_get (overlaid bytes k others) (k + j) ≡ slice_get others j
unfolding overlaid
overlaid-inside bytes k [] j l m = absurd (omega arith)
overlaid-inside bytes k (o ∷ others) zero l m =
    let same : k + 0 ≡ k = omega arith in
    rw same (overlaid-below (slice_set bytes k o) (k + 1) others k (omega arith) ∙ set-same bytes k o (omega arith))
overlaid-inside bytes k (o ∷ others) (suc j) l m =
    let same : k + suc j ≡ k + 1 + j = omega arith in
    let long = length-set bytes k o in
    rw same (overlaid-inside (slice_set bytes k o) (k + 1) others j (omega arith) (omega arith))

pub overlaid-map : {B C : Type 0} (f : B → C) (bytes : List B) (k : ℕ) (others : List B) → overlaid (map f bytes) k (map f others) ≡ map f (overlaid bytes k others)
unfolding overlaid
overlaid-map f bytes k [] = refl
overlaid-map f bytes k (o ∷ others) = ap (λ z. overlaid z (k + 1) (map f others)) (sym (map-set f bytes k o)) ∙ overlaid-map f (slice_set bytes k o) (k + 1) others

pub outside : (bytes : ℕ → ℕ) (start : ℕ) (others : List ℕ) (a : ℕ) → (a < start) ⊎ (start + length others ≤ a) → with_bytes bytes start others a ≡ bytes a
outside bytes start others a e = grind (arith, nat_tests, e)

pub inside : (bytes : ℕ → ℕ) (start : ℕ) (others : List ℕ) (a : ℕ) → start ≤ a → a < start + length others → with_bytes bytes start others a ≡ slice_index others (a - start)
inside bytes start others a l m = grind (arith, nat_tests, l, m)

-- a byte of a row that was stored, and one that was not
stored-byte : (f : ℕ → ℕ) (place : ℕ → ℕ) (bytes others : List Byte) (start k i : ℕ) (b : Byte) → k + length others ≤ length bytes
    → slice_get (overlaid bytes k others) i ≡ Some b → ((c : Byte) → slice_get bytes i ≡ Some c → f (start + i) ≡ shown_byte place c)
    → with_bytes f (start + k) (map (shown_byte place) others) (start + i) ≡ shown_byte place b
stored-byte f place bytes others start k i b l e old = by (nat_le k i) (nat_lt i (k + length others)) refl refl
  where
    size : length (map (shown_byte place) others) ≡ length others
    size = length-map others (shown_byte place)

    by : (s t : Bool) → nat_le k i ≡ s → nat_lt i (k + length others) ≡ t → with_bytes f (start + k) (map (shown_byte place) others) (start + i) ≡ shown_byte place b
    by false t g h =
        let below : i < k = grind (arith, nat_tests, g) in
        outside f (start + k) (map (shown_byte place) others) (start + i) (inl (omega arith)) ∙ old b (sym (overlaid-below bytes k others i below) ∙ e)
    by true false g h =
        let above : k + length others ≤ i = grind (arith, nat_tests, h) in
        outside f (start + k) (map (shown_byte place) others) (start + i) (inr (omega (arith, size))) ∙ old b (sym (overlaid-above bytes k others i above) ∙ e)
    by true true g h =
        let low : k ≤ i = grind (arith, nat_tests, g) in
        let high : i < k + length others = grind (arith, nat_tests, h) in
        let split : k + (i - k) ≡ i = omega arith in
        let there : slice_get others (i - k) ≡ Some b = sym (overlaid-inside bytes k others (i - k) l (omega arith)) ∙ ap (slice_get (overlaid bytes k others)) split ∙ e in
        let place_in : start + i - (start + k) ≡ i - k = omega arith in
        inside f (start + k) (map (shown_byte place) others) (start + i) (omega arith) (omega (arith, size))
        ∙ ap (slice_index (map (shown_byte place) others)) place_in
        ∙ get_or_from_slice_get (map (shown_byte place) others) (i - k) (shown_byte place b) 0 (slice_get-map (shown_byte place) others (i - k) ∙ ap (option_map (shown_byte place)) there)

-- ---- objects that keep their sizes

-- each object was one of this size before, and each live one was live
pub record Comes (before after : List Object) : Type 0 where
  pub some : (q : ℕ) (z : Object) → slice_get after q ≡ Some z → (x : Object) × (slice_get before q ≡ Some x) × (object_size z ≡ object_size x)
  pub live : (q : ℕ) (bs : List Byte) → slice_get after q ≡ Some (Live bs) → (old : List Byte) × (slice_get before q ≡ Some (Live old)) × (length bs ≡ length old)

pub laid-comes : (place : ℕ → ℕ) (before after : List Object) → Comes before after → Laid place before → Laid place after
laid-comes place before after c l = record {
  above = λ o x e. let f = c.some o x e in l.above o f.0 f.1;
  below = λ o x e. let f = c.some o x e in let g = l.below o f.0 f.1 in let s = f.2 in omega arith;
  even = λ o x e. let f = c.some o x e in l.even o f.0 f.1;
  apart = λ o q a b e f n. let g = c.live o a e in let h = c.live q b f in let d = l.apart o q g.0 h.0 g.1 h.1 n in let s = g.2 in let t = h.2 in grind (arith, d, s, t);
}

overlaid-comes : (objects : List Object) (o k : ℕ) (others : List Byte) → Comes objects (changed_at (object_overlaid k others) objects o)
overlaid-comes objects o k others = record {
  some = λ q z e. some q z (slice_get objects q) refl (q == o) (sym (slice_get-changed_at (object_overlaid k others) objects o q) ∙ e);
  live = λ q bs e. live q bs (slice_get objects q) refl (q == o) (sym (slice_get-changed_at (object_overlaid k others) objects o q) ∙ e);
}
  where
    same_size : (x : Object) → object_size (object_overlaid k others x) ≡ object_size x
    same_size (Live bytes) = length-overlaid bytes k others
    same_size (Dead n) = refl

    some : (q : ℕ) (z : Object) (found : Option Object) → slice_get objects q ≡ found → (t : Bool) → cond t (option_map (object_overlaid k others) (slice_get objects q)) (slice_get objects q) ≡ Some z
        → (x : Object) × (slice_get objects q ≡ Some x) × (object_size z ≡ object_size x)
    some q z None f true e = absurd (grind (arith, f, e))
    some q z None f false e = absurd (grind (arith, f, e))
    some q z (Some x) f true e = let g : object_overlaid k others x ≡ z = grind (arith, f, e) in (x, f, ap object_size (sym g) ∙ same_size x)
    some q z (Some x) f false e = let g : x ≡ z = grind (arith, f, e) in (x, f, ap object_size (sym g))

    live : (q : ℕ) (bs : List Byte) (found : Option Object) → slice_get objects q ≡ found → (t : Bool) → cond t (option_map (object_overlaid k others) (slice_get objects q)) (slice_get objects q) ≡ Some (Live bs)
        → (old : List Byte) × (slice_get objects q ≡ Some (Live old)) × (length bs ≡ length old)
    live q bs None f true e = absurd (grind (arith, f, e))
    live q bs None f false e = absurd (grind (arith, f, e))
    live q bs (Some (Dead n)) f true e = absurd (grind (arith, f, e))
    live q bs (Some (Dead n)) f false e = absurd (grind (arith, f, e))
    live q bs (Some (Live old)) f true e = let g : overlaid old k others ≡ bs = grind (arith, f, e) in (old, f, ap length (sym g) ∙ length-overlaid old k others)
    live q bs (Some (Live old)) f false e = let g : old ≡ bs = grind (arith, f, e) in (old, f, ap length (sym g))

page-number : (pages : List Page) (n : ℕ) (page : Page) → memory_page pages n ≡ Some page → page.number ≡ n
page-number pages n page e = let f = found-passes (λ (p : Page). p.number == n) pages page e in grind (arith, nat_tests, f)

-- ---- stores

pub stored-object : (frames : ℕ) (place : ℕ → ℕ) (m : Memory) (z : Flat) (o k : ℕ) (bytes others : List Byte) → Mirrors frames place m z
    → slice_get m.objects o ≡ Some (Live bytes) → k + length others ≤ length bytes
    → Mirrors frames place (record m { objects = changed_at (object_overlaid k others) m.objects o })
    (record z { bytes = with_bytes z.bytes (place o + k) (map (shown_byte place) others) })
stored-object frames place m z o k bytes others s e l = record {
  machine = s.machine;
  pages = λ n i page b f g.
      let low = s.low n page f in let whole = s.whole n page f in let in_page = slice_get_within page.bytes i b g in let above = s.laid.above o (Live bytes) e in
      outside z.bytes (place o + k) (map (shown_byte place) others) (4096 * n + i) (inl (omega arith)) ∙ s.pages n i page b f g;
  low = s.low;
  whole = s.whole;
  bytes = λ q i bs b f g. at q i bs b (slice_get m.objects q) refl (q == o) refl (sym (slice_get-changed_at (object_overlaid k others) m.objects o q) ∙ f) g;
  laid = laid-comes place m.objects _ comes s.laid;
  held = λ q bs f. let c = comes.live q bs f in rw c.2 (s.held q c.0 c.1);
  sizes = λ q bs f. let c = comes.live q bs f in s.sizes q c.0 c.1 ∙ sym c.2;
  placed = s.placed;
  given = s.given ∙ sym (length-changed_at (object_overlaid k others) m.objects o);
}
  where
    comes : Comes m.objects (changed_at (object_overlaid k others) m.objects o)
    comes = overlaid-comes m.objects o k others

    size : length (map (shown_byte place) others) ≡ length others
    size = length-map others (shown_byte place)

    at : (q i : ℕ) (bs : List Byte) (b : Byte) (found : Option Object) → slice_get m.objects q ≡ found → (t : Bool) → (q == o) ≡ t
        → cond t (option_map (object_overlaid k others) (slice_get m.objects q)) (slice_get m.objects q) ≡ Some (Live bs) → slice_get bs i ≡ Some b
        → with_bytes z.bytes (place o + k) (map (shown_byte place) others) (place q + i) ≡ shown_byte place b
    at q i bs b None f true t g h = absurd (grind (arith, f, g))
    at q i bs b None f false t g h = absurd (grind (arith, f, g))
    at q i bs b (Some (Dead n)) f true t g h = absurd (grind (arith, f, g))
    at q i bs b (Some (Dead n)) f false t g h = absurd (grind (arith, f, g))
    at q i bs b (Some (Live old)) f true t g h =
        let here : q ≡ o = grind (arith, nat_tests, t) in
        let now : overlaid old k others ≡ bs = grind (arith, f, g) in
        let same : old ≡ bytes = grind (arith, f, e, here) in
        rw here (stored-byte z.bytes place bytes others (place o) k i b l (rw (← same, now) h) (λ c j. s.bytes o i bytes c e j))
    at q i bs b (Some (Live old)) f false t g h =
        let other : q ≢ o = grind (arith, nat_tests, t) in
        let now : old ≡ bs = grind (arith, f, g) in
        let there : slice_get m.objects q ≡ Some (Live bs) = rw (← now) f in
        let in_object = slice_get_within bs i b h in
        let apart = s.laid.apart q o bs bytes there e other in
        let away : (place q + i < place o + k) ⊎ (place o + k + length (map (shown_byte place) others) ≤ place q + i) = elim apart as (λ _. (place q + i < place o + k) ⊎ (place o + k + length (map (shown_byte place) others) ≤ place q + i)) [
          | inl d ↦ inl (omega (arith, size))
          | inr d ↦ inr (omega (arith, size))
        ] in
        outside z.bytes (place o + k) (map (shown_byte place) others) (place q + i) away ∙ s.bytes q i bs b there h

find-map : {X : Type 0} (f : X → X) (p : X → Bool) (xs : List X) → ((x : X) → p (f x) ≡ p x) → find p (map f xs) ≡ option_map f (find p xs)
find-map f p [] h = refl
find-map f p (x ∷ xs) h = ap (λ t. cond t (Some (f x)) (find p (map f xs))) (h x) ∙ by (p x) (find-map f p xs h)
  where
    by : (t : Bool) → find p (map f xs) ≡ option_map f (find p xs) → cond t (Some (f x)) (find p (map f xs)) ≡ option_map f (cond t (Some x) (find p xs))
    by true later = refl
    by false later = later

same-number : (n k : ℕ) (others : List Byte) (page : Page) → (page_overlaid n k others page).number ≡ page.number
same-number n k others page = by (page.number == n)
  where
    by : (t : Bool) → (cond t (record page { bytes = overlaid page.bytes k others }) page).number ≡ page.number
    by true = refl
    by false = refl

-- the page of a number, once one was stored in
page-overlaid : (n k : ℕ) (others : List Byte) (pages : List Page) (j : ℕ) → memory_page (map (page_overlaid n k others) pages) j ≡ option_map (page_overlaid n k others) (memory_page pages j)
page-overlaid n k others pages j = find-map (page_overlaid n k others) (λ (page : Page). page.number == j) pages (λ page. ap (λ x. x == j) (same-number n k others page))

-- a page after the store came from one before
page-comes : (n k : ℕ) (others : List Byte) (pages : List Page) (j : ℕ) (now : Page) → memory_page (map (page_overlaid n k others) pages) j ≡ Some now
    → (page : Page) × (memory_page pages j ≡ Some page) × (now ≡ page_overlaid n k others page)
page-comes n k others pages j now e = by (memory_page pages j) refl (sym (page-overlaid n k others pages j) ∙ e)
  where
    by : (found : Option Page) → memory_page pages j ≡ found → option_map (page_overlaid n k others) (memory_page pages j) ≡ Some now → (page : Page) × (memory_page pages j ≡ Some page) × (now ≡ page_overlaid n k others page)
    by None f g = absurd (grind (arith, f, g))
    by (Some page) f g = let h : page_overlaid n k others page ≡ now = grind (arith, f, g) in (page, f, sym h)

overlaid-size : (n k : ℕ) (others : List Byte) (page : Page) → length (page_overlaid n k others page).bytes ≡ length page.bytes
overlaid-size n k others page = by (page.number == n)
  where
    by : (t : Bool) → length (cond t (record page { bytes = overlaid page.bytes k others }) page).bytes ≡ length page.bytes
    by true = length-overlaid page.bytes k others
    by false = refl

pub stored-page : (frames : ℕ) (place : ℕ → ℕ) (m : Memory) (z : Flat) (n k : ℕ) (page : Page) (others : List Byte) → Mirrors frames place m z
    → memory_page m.pages n ≡ Some page → k + length others ≤ 4096
    → Mirrors frames place (record m { pages = map (page_overlaid n k others) m.pages })
    (record z { bytes = with_bytes z.bytes (4096 * n + k) (map (shown_byte place) others) })
stored-page frames place m z n k page others s e l = record {
  machine = s.machine;
  pages = λ j i now b f g. let c = page-comes n k others m.pages j now f in at j i b c.0 c.1 (c.0.number == n) refl (subst (λ x. slice_get x.bytes i ≡ Some b) c.2 g);
  low = λ j now f. let c = page-comes n k others m.pages j now f in s.low j c.0 c.1;
  whole = λ j now f. let c = page-comes n k others m.pages j now f in ap (λ (x : Page). length x.bytes) c.2 ∙ overlaid-size n k others c.0 ∙ s.whole j c.0 c.1;
  bytes = λ o i bs b f g.
      let low = s.low n page e in let above = s.laid.above o (Live bs) f in
      outside z.bytes (4096 * n + k) (map (shown_byte place) others) (place o + i) (inr (omega (arith, size))) ∙ s.bytes o i bs b f g;
  laid = s.laid;
  held = s.held;
  sizes = s.sizes;
  placed = s.placed;
  given = s.given;
}
  where
    size : length (map (shown_byte place) others) ≡ length others
    size = length-map others (shown_byte place)

    at : (j i : ℕ) (b : Byte) (old : Page) → memory_page m.pages j ≡ Some old → (t : Bool) → (old.number == n) ≡ t
        → slice_get (cond t (record old { bytes = overlaid old.bytes k others }) old).bytes i ≡ Some b
        → with_bytes z.bytes (4096 * n + k) (map (shown_byte place) others) (4096 * j + i) ≡ shown_byte place b
    at j i b old f true t g =
        let number = page-number m.pages j old f in
        let is : old.number ≡ n = grind (arith, nat_tests, t) in
        let here : j ≡ n = sym number ∙ is in
        let whole = s.whole j old f in
        let fits : k + length others ≤ length old.bytes = omega arith in
        subst (λ x. with_bytes z.bytes (4096 * n + k) (map (shown_byte place) others) (4096 * x + i) ≡ shown_byte place b) (sym here)
        (stored-byte z.bytes place old.bytes others (4096 * n) k i b fits g (λ c h. s.pages n i old c (ap (memory_page m.pages) (sym here) ∙ f) h))
    at j i b old f false t g =
        let number = page-number m.pages j old f in
        let other : old.number ≢ n = grind (arith, nat_tests, t) in
        let in_page = slice_get_within old.bytes i b g in
        let whole = s.whole j old f in
        let away : (4096 * j + i < 4096 * n + k) ⊎ (4096 * n + k + length (map (shown_byte place) others) ≤ 4096 * j + i) = apart j (omega arith) in_page whole in
        outside z.bytes (4096 * n + k) (map (shown_byte place) others) (4096 * j + i) away ∙ s.pages j i old b f g
      where
        apart : (j : ℕ) → j ≢ n → i < length old.bytes → length old.bytes ≡ 4096 → (4096 * j + i < 4096 * n + k) ⊎ (4096 * n + k + length (map (shown_byte place) others) ≤ 4096 * j + i)
        apart j d a b = by (nat_lt j n) refl
          where
            by : (t : Bool) → nat_lt j n ≡ t → (4096 * j + i < 4096 * n + k) ⊎ (4096 * n + k + length (map (shown_byte place) others) ≤ 4096 * j + i)
            by true e = let less : j < n = grind (arith, nat_tests, e) in inl (omega arith)
            by false e = let more : n ≤ j = grind (arith, nat_tests, e) in inr (omega (arith, size))
