-- The plain state of the boot shows the world of the boot.
use Rattle.std.proofs.Common.{ℕ, zero, suc, ◌≡◌, ◌<◌, ◌≤◌, ◌==◌, ◌+◌, ◌-◌, ◌*◌, Bool, true, false, cond, List, [], ◌∷◌, ◌++◌, Option, Some, None, option_map, arith, refl, ap, sym, subst, ◌∙◌, ◌⊎◌, inl, inr, slice_get, length, map, replicate, filter, nat_lt}
use Rattle.std.proofs.lemmas.Bool.Decides.{nat_tests}
use Rattle.std.proofs.lemmas.List.{length-map}
use Rattle.std.proofs.lemmas.Option.{slice_get-map}
use Rattle.std.specs.List.{range_with_len, find}
use Rattle.osc_word.specs.AddressMap.{first_stack_page, stack_size, first_shared_page, first_shadow_page}
use Rattle.osc_word.specs.declared.settings.Config.{Config}
use Rattle.osc_image.specs.Image.{Image, page_limit, pages_below, pages, is_mapped, laid_byte}
use Rattle.osc_slot.specs.Slots.{is_held}
use Rattle.osc_world.specs.declared.Byte.{Byte}
use Rattle.osc_world.specs.declared.Byte.TheVariants.{Number}
use Rattle.osc_world.specs.declared.Value.TheVariants.{Num}
use Rattle.osc_world.specs.States.{Process, Hart, idle, boot_hart}
use Rattle.osc_world.specs.World.{World, Memory, Page}
use Rattle.osc_world.specs.Accesses.{memory_page}
use Rattle.osc_world.specs.Run.{page_of_image, zero_page, memory_with, boot}
use Rattle.osc_world.specs.PlainWorld.{Flat, Plain}
use Rattle.osc_world.specs.PlainRun.{flat_of, plain_boot}
use Rattle.osc_means.specs.Shown.{shown_byte, shown_hart, Mirrors, Mirrored, Shows}
use Rattle.osc_means.proofs.Rows.{map-replicate, found-passes, some-same}

-- ---- lists

range-at : (from count i z : ℕ) → slice_get (range_with_len from count) i ≡ Some z → (z ≡ from + i) × (i < count)
range-at from zero i z e = absurd (cc)
range-at from (suc count) zero z e = let s : from ≡ z = cc in (omega arith, omega arith)
range-at from (suc count) (suc i) z e = let r = range-at (from + 1) count i z e in (omega (arith, r), omega (arith, r))

range-long : (from count : ℕ) → length (range_with_len from count) ≡ count
range-long from zero = refl
range-long from (suc count) = ap suc (range-long (from + 1) count)

replicate-at : {X : Type 0} (n i : ℕ) (x z : X) → slice_get (replicate n x) i ≡ Some z → x ≡ z
replicate-at zero i x z e = absurd (cc)
replicate-at (suc n) zero x z e = cc
replicate-at (suc n) (suc i) x z e = replicate-at n i x z e

replicate-long : {X : Type 0} (n : ℕ) (x : X) → length (replicate n x) ≡ n
replicate-long zero x = refl
replicate-long (suc n) x = ap suc (replicate-long n x)

-- an element that was found in a list
found-in : {X : Type 0} (p : X → Bool) (xs : List X) (x : X) → find p xs ≡ Some x → (i : ℕ) × (slice_get xs i ≡ Some x)
found-in p [] x e = absurd (cc)
found-in p (y ∷ xs) x e = by (p y) e (found-in p xs x)
  where
    by : (t : Bool) → cond t (Some y) (find p xs) ≡ Some x → (find p xs ≡ Some x → (i : ℕ) × (slice_get xs i ≡ Some x)) → (i : ℕ) × (slice_get (y ∷ xs) i ≡ Some x)
    by true f later = (0, f)
    by false f later = let r = later f in (suc r.0, r.1)

-- one that stands in the one list or in the other
in-both : {X : Type 0} (xs ys : List X) (i : ℕ) (z : X) → slice_get (xs ++ ys) i ≡ Some z → ((j : ℕ) × (slice_get xs j ≡ Some z)) ⊎ ((j : ℕ) × (slice_get ys j ≡ Some z))
in-both [] ys i z e = inr (i, e)
in-both (x ∷ xs) ys zero z e = inl (0, e)
in-both (x ∷ xs) ys (suc i) z e = elim (in-both xs ys i z e) as (λ _. ((j : ℕ) × (slice_get (x ∷ xs) j ≡ Some z)) ⊎ ((j : ℕ) × (slice_get ys j ≡ Some z))) [
  | inl f ↦ inl (suc f.0, f.1)
  | inr f ↦ inr f
]

in-map : {X Y : Type 0} (f : X → Y) (xs : List X) (i : ℕ) (y : Y) → slice_get (map f xs) i ≡ Some y → (x : X) × (slice_get xs i ≡ Some x × f x ≡ y)
in-map f [] i y e = absurd (cc)
in-map f (x ∷ xs) zero y e = (x, (refl, some-same (f x) y e))
in-map f (x ∷ xs) (suc i) y e = in-map f xs i y e

in-filter : {X : Type 0} (p : X → Bool) (xs : List X) (i : ℕ) (z : X) → slice_get (filter p xs) i ≡ Some z → (j : ℕ) × (slice_get xs j ≡ Some z)
in-filter p [] i z e = absurd (cc)
in-filter p (x ∷ xs) i z e = by (p x) i e (λ k. in-filter p xs k z)
  where
    by : (t : Bool) (i : ℕ) → slice_get (cond t (x ∷ filter p xs) (filter p xs)) i ≡ Some z → ((k : ℕ) → slice_get (filter p xs) k ≡ Some z → (j : ℕ) × (slice_get xs j ≡ Some z))
        → (j : ℕ) × (slice_get (x ∷ xs) j ≡ Some z)
    by true zero f later = (0, f)
    by true (suc i) f later = let r = later i f in (suc r.0, r.1)
    by false i f later = let r = later i f in (suc r.0, r.1)

-- ---- pages

-- the pages of an image are below its limit
listed-below : (image : Image) (limit i n : ℕ) → slice_get (pages_below image limit) i ≡ Some n → n < limit
unfolding pages_below
listed-below image limit i n e =
    let f = in-filter (is_mapped image) (range_with_len 0 limit) i n e in
    let r = range-at 0 limit f.0 n f.1 in
    omega (arith, r)

limit-is : page_limit ≡ 1048576
unfolding page_limit
limit-is = refl

page-below : (image : Image) (i n : ℕ) → slice_get (pages image) i ≡ Some n → n < 1048576
page-below image i n e = let l = listed-below image page_limit i n e in subst (λ z. n < z) limit-is l

-- a page of the image, or one of the stack
Booted : Image → ℕ → Page → Type 0
Booted image n page = ((page ≡ page_of_image image n) × (n < 1048576)) ⊎ ((page ≡ zero_page n) × (0x1000F0 ≤ n) × (n < 0x100100))

booted : (image : Image) (n : ℕ) (page : Page) → memory_page (memory_with image (pages image)).pages n ≡ Some page → Booted image n page
unfolding Booted
booted image n page e =
    let number : page.number ≡ n = (let f = found-passes (λ (p : Page). p.number == n) (memory_with image (pages image)).pages page e in grind (arith, nat_tests, f)) in
    let there = found-in (λ (p : Page). p.number == n) (memory_with image (pages image)).pages page e in
    elim (in-both (map (page_of_image image) (pages image)) (map zero_page (range_with_len first_stack_page stack_size)) there.0 page there.1)
    as (λ _. ((page ≡ page_of_image image n) × (n < 1048576)) ⊎ ((page ≡ zero_page n) × (0x1000F0 ≤ n) × (n < 0x100100))) [
      | inl f ↦ (
          let k = in-map (page_of_image image) (pages image) f.0 page f.1 in
          let is : k.0 ≡ n = ap (λ (p : Page). p.number) k.1.1 ∙ number in
          let low = page-below image f.0 k.0 k.1.0 in
          inl (sym k.1.1 ∙ ap (page_of_image image) is, subst (λ z. z < 1048576) is low))
      | inr f ↦ (
          let k = in-map zero_page (range_with_len first_stack_page stack_size) f.0 page f.1 in
          let is : k.0 ≡ n = ap (λ (p : Page). p.number) k.1.1 ∙ number in
          let r = range-at first_stack_page stack_size f.0 k.0 k.1.0 in
          inr (sym k.1.1 ∙ ap zero_page is, omega (arith, is, r), omega (arith, is, r)))
    ]

page-shown : (image : Image) (frames : ℕ) (place : ℕ → ℕ) (n i : ℕ) (page : Page) (b : Byte) → Booted image n page → slice_get page.bytes i ≡ Some b → (flat_of image frames).bytes (4096 * n + i) ≡ shown_byte place b
unfolding Booted
page-shown image frames place n i page b (inl f) e =
    let there : slice_get (page_of_image image n).bytes i ≡ Some b = ap (λ (p : Page). slice_get p.bytes i) (sym f.0) ∙ e in
    let k = in-map (λ address. Number (laid_byte image.segments address)) (range_with_len (4096 * n) 4096) i b there in
    let r = range-at (4096 * n) 4096 i k.0 k.1.0 in
    let low : nat_lt (4096 * n + i) 0x100000000 ≡ true = (let l = f.1 in let s = r.1 in let t : 4096 * n + i < 0x100000000 = omega arith in grind (arith, nat_tests, t)) in
    ap (λ t. cond t (laid_byte image.segments (4096 * n + i)) 0) low ∙ ap (laid_byte image.segments) (sym r.0) ∙ ap (shown_byte place) k.1.1
page-shown image frames place n i page b (inr f) e =
    let there : slice_get (zero_page n).bytes i ≡ Some b = ap (λ (p : Page). slice_get p.bytes i) (sym f.0) ∙ e in
    let is = replicate-at 4096 i (Number 0) b there in
    let high : nat_lt (4096 * n + i) 0x100000000 ≡ false = (let l = f.1 in let t : 0x100000000 ≤ 4096 * n + i = omega arith in grind (arith, nat_tests, t)) in
    ap (λ t. cond t (laid_byte image.segments (4096 * n + i)) 0) high ∙ ap (shown_byte place) is

page-low : (image : Image) (n : ℕ) (page : Page) → Booted image n page → n < first_shared_page
unfolding Booted
page-low image n page (inl f) = let l = f.1 in omega arith
page-low image n page (inr f) = let l = f.2 in omega arith

page-whole : (image : Image) (n : ℕ) (page : Page) → Booted image n page → length page.bytes ≡ 4096
unfolding Booted
page-whole image n page (inl f) = ap (λ (p : Page). length p.bytes) f.0 ∙ length-map (range_with_len (4096 * n) 4096) (λ address. Number (laid_byte image.segments address)) ∙ range-long (4096 * n) 4096
page-whole image n page (inr f) = ap (λ (p : Page). length p.bytes) f.0 ∙ replicate-long 4096 (Number 0)

-- ---- the boot

boot-mirrors : (image : Image) (frames : ℕ) (place : ℕ → ℕ) → Mirrors frames place (memory_with image (pages image)) (flat_of image frames)
boot-mirrors image frames place = record {
  machine = refl;
  pages = λ n i page b e f. page-shown image frames place n i page b (booted image n page e) f;
  low = λ n page e. page-low image n page (booted image n page e);
  whole = λ n page e. page-whole image n page (booted image n page e);
  bytes = λ o i bs b e f. absurd (cc);
  laid = record {
    above = λ o x e. absurd (cc);
    below = λ o x e. absurd (cc);
    even = λ o x e. absurd (cc);
    apart = λ o q a b e f n. absurd (cc);
  };
  held = λ o bs e. absurd (cc);
  sizes = λ o bs e. absurd (cc);
  placed = λ block e. absurd (cc);
  given = refl;
}

boot-mirrored : (image : Image) (frames : ℕ) (place : ℕ → ℕ) → Mirrored frames 0 place (record { memory = memory_with image (pages image); shared = []; parent = None; status = None }) (record { memory = flat_of image frames; shared = []; parent = None; status = None })
boot-mirrored image frames place = record {
  memory = boot-mirrors image frames place;
  shared = refl;
  parent = refl;
  status = refl;
  few = omega arith;
  regions = λ i page e. absurd (cc);
}

pub boot-shows : (image : Image) (config : Config) (place : ℕ → ℕ → ℕ) → Shows config.frames place (boot image config) (plain_boot image config)
boot-shows image config place = record {
  output = refl;
  shared = refl;
  wide = λ page bytes e. absurd (cc);
  harts = ap (λ z. boot_hart (λ n. n) image.entry ∷ z) (sym (map-replicate (shown_hart place) (config.harts - 1) idle));
  threads = refl;
  count = refl;
  processes = processes;
}
  where
    processes : (pid : ℕ) (x : Process Memory) (y : Process Flat) → slice_get (boot image config).processes pid ≡ Some x → slice_get (plain_boot image config).processes pid ≡ Some y → Mirrored config.frames 0 (place pid) x y
    processes zero x y e f =
        let s = some-same (record { memory = memory_with image (pages image); shared = []; parent = None; status = None }) x e in
        let t = some-same (record { memory = flat_of image config.frames; shared = []; parent = None; status = None }) y f in
        rw (← s, ← t) (boot-mirrored image config.frames (place 0))
    processes (suc pid) x y e f = absurd (cc)
