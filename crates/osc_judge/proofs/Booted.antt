-- The pages at the boot.
use Rattle.std.proofs.Common.{◌≡◌, ◌≢◌, ℕ, zero, suc, ◌+◌, ◌-◌, ◌*◌, ◌/◌, ◌<◌, ◌≤◌, ◌⊎◌, inl, inr, Bool, true, false, List, [], ◌∷◌, ◌++◌, length, map, Some, None, refl, ap, sym, ◌∙◌, arith, slice_get, take, drop, append_assoc}
use Rattle.std.specs.Prelude.{unwrap_or, is_some, IsSome, slice_index}
use Rattle.std.specs.List.{filter, range_with_len}
use Rattle.std.proofs.lemmas.Bool.Decides.{nat_tests}
use Rattle.std.proofs.lemmas.Nat.{div-mul-add}
use Rattle.std.proofs.Math.Seq.{take-append_seam}
use Rattle.std.proofs.lemmas.List.{map-append}
use Rattle.std.proofs.lemmas.List.FromFn.{map-range_with_len_more}
use Rattle.osc_sv39.specs.declared.flags.PteBits.{PteBits}
use Rattle.osc_word.specs.AddressMap.{first_stack_page, stack_size}
use Rattle.osc_image.specs.Image.{Image, Segment, IsNextPage, NoneFrom, bits_at, byte_at, is_mapped, laid_byte, pages_below, page_limit}
use Rattle.osc_elf.proofs.Counting.{pages-start, pages-mapped, pages-unmapped, pages-all, page_limit-is}
use Rattle.osc_world.specs.declared.Byte.{Byte}
use Rattle.osc_world.specs.declared.Byte.TheVariants.{Number}
use Rattle.osc_world.specs.World.{Page}
use Rattle.osc_world.specs.Run.{page_of_image, zero_page}
use Rattle.osc_memory.specs.Slots.{slot, AreApart}
use Rattle.osc_judge.specs.Booting.{pages_up_to, image_pages}

-- ---- one after another

pub none-yet : (image : Image) → [] ≡ pages_up_to image 0
none-yet image = sym (ap (map (page_of_image image)) (pages-start image))

with-page : (image : Image) (n : ℕ) → is_mapped image n ≡ true → pages_up_to image (n + 1) ≡ pages_up_to image n ++ page_of_image image n ∷ []
with-page image n e =
    ap (map (page_of_image image)) (pages-mapped image n e) ∙ map-append (page_of_image image) (pages_below image n) (n ∷ [])

without-page : (image : Image) (n : ℕ) → bits_at image n ≡ None → pages_up_to image (n + 1) ≡ pages_up_to image n
without-page image n e = ap (map (page_of_image image)) (pages-unmapped image n (ap is_some e))

past : (image : Image) (from gap : ℕ) → ((other : ℕ) → from ≤ other → other < from + gap → bits_at image other ≡ None)
    → pages_up_to image (from + gap) ≡ pages_up_to image from
past image from zero none = ap (pages_up_to image) (let same : from + 0 ≡ from = omega arith in same)
past image from (suc gap) none =
    let next : from + suc gap ≡ (from + gap) + 1 = omega arith in
    ap (pages_up_to image) next ∙ without-page image (from + gap) (none (from + gap) (omega arith) (omega arith))
    ∙ past image from gap (λ other above below. none other above (omega (arith, below)))

pages-to : (image : Image) (from page : ℕ) → IsNextPage image from page → pages_up_to image page ≡ pages_up_to image from
pages-to image from page is =
    let above = is.at_or_above in
    let there : from + (page - from) ≡ page = omega (arith, above) in
    sym (ap (pages_up_to image) there) ∙ past image from (page - from) (λ other a b. is.least other a (omega (arith, b, above)))

pub one-more : (image : Image) (from page : ℕ) (xs ys : List Page) → xs ≡ pages_up_to image from → IsNextPage image from page → is_mapped image page ≡ true
    → ys ≡ xs ++ page_of_image image page ∷ [] → ys ≡ pages_up_to image (page + 1)
one-more image from page xs ys so next mapped more =
    more ∙ ap (λ (ps : List Page). ps ++ page_of_image image page ∷ []) (so ∙ sym (pages-to image from page next))
    ∙ sym (with-page image page mapped)

pub pages-ended : (image : Image) (from : ℕ) → from ≤ 1048576 → NoneFrom image from → pages_up_to image from ≡ image_pages image
pages-ended image from low none = ap (map (page_of_image image)) (pages-all image from low none)

-- ---- the bytes of a page

bytes-from : (segments : List Segment) (bytes : List ℕ) (from width : ℕ) → length bytes ≡ width
    → ((i : ℕ) → i < width → slice_index bytes i ≡ laid_byte segments (from + i))
    → map Number bytes ≡ map (λ address. Number (laid_byte segments address)) (range_with_len from width)
bytes-from segments [] from zero count each = refl
bytes-from segments [] from (suc width) count each = absurd (omega (arith, count))
bytes-from segments (byte ∷ bytes) from zero count each = absurd (omega (arith, count))
bytes-from segments (byte ∷ bytes) from (suc width) count each =
    let here : from + 0 ≡ from = omega arith in
    let first : byte ≡ laid_byte segments from = each 0 (omega arith) ∙ ap (laid_byte segments) here in
    let rest = bytes-from segments bytes (from + 1) width (omega (arith, count))
    (λ i below. let next : from + suc i ≡ from + 1 + i = omega arith in each (suc i) (omega (arith, below)) ∙ ap (laid_byte segments) next) in
    rw (first, rest) refl

page-number : (number i : ℕ) → i < 4096 → (4096 * number + i) / 4096 ≡ number
page-number number i below =
    let turned : 4096 * number + i ≡ number * 4096 + i = omega arith in
    ap (λ n. n / 4096) turned ∙ div-mul-add number 4096 i below

byte-laid : (image : Image) (number i : ℕ) → is_mapped image number ≡ true → i < 4096
    → unwrap_or (byte_at image (4096 * number + i)) 0 ≡ laid_byte image.segments (4096 * number + i)
byte-laid image number i mapped below = rw (page-number number i below, mapped) refl

pub page-bytes : (image : Image) (number width : ℕ) (bytes : List ℕ) → width ≤ 4096 → is_mapped image number ≡ true → length bytes ≡ width
    → ((i : ℕ) → i < 4096 → slice_index bytes i ≡ unwrap_or (byte_at image (4096 * number + i)) 0)
    → map Number bytes ≡ map (λ address. Number (laid_byte image.segments address)) (range_with_len (4096 * number) width)
page-bytes image number width bytes few mapped count each =
    bytes-from image.segments bytes (4096 * number) width count
    (λ i below. each i (omega (arith, below, few)) ∙ byte-laid image number i mapped (omega (arith, below, few)))

-- a buffer that was filled has the bytes that it was filled with
pub bytes-kept : (filled old : List ℕ) (width : ℕ) → width ≡ 4096 → length filled ≡ 4096 → take width (filled ++ drop (length filled) old) ≡ filled
bytes-kept filled old width is count = rw (is ∙ sym count) (take-append_seam filled (drop (length filled) old))

pub is-mapped : (image : Image) (number : ℕ) → IsSome (bits_at image number) → is_mapped image number ≡ true
is-mapped image number some = some

pub page-made : (image : Image) (number : ℕ) (bits : PteBits) (row : List Byte) (bytes : List ℕ) → IsSome (bits_at image number)
    → bits ≡ unwrap_or (bits_at image number) (record { 0 = 0 }) → row ≡ map Number bytes → length bytes ≡ 4096
    → ((i : ℕ) → i < 4096 → slice_index bytes i ≡ unwrap_or (byte_at image (4096 * number + i)) 0)
    → record { number = number; bits = bits; bytes = row } ≡ page_of_image image number
page-made image number bits row bytes mapped permits numbers count each =
    ap (λ (b : PteBits). record { number = number; bits = b; bytes = row }) permits
    ∙ ap (λ (bs : List Byte). record { number = number; bits = unwrap_or (bits_at image number) (record { 0 = 0 }); bytes = bs })
    (numbers ∙ page-bytes image number 4096 bytes (omega arith) (is-mapped image number mapped) count each)

-- one page of zeros more
pub zeros-next : (old so now : List Page) (first n : ℕ) → so ≡ old ++ map zero_page (range_with_len first n)
    → now ≡ so ++ zero_page (first + n) ∷ [] → now ≡ old ++ map zero_page (range_with_len first (n + 1))
zeros-next old so now first n are more =
    more ∙ ap (λ (ps : List Page). ps ++ zero_page (first + n) ∷ []) are
    ∙ append_assoc old (map zero_page (range_with_len first n)) (zero_page (first + n) ∷ [])
    ∙ ap (λ (ps : List Page). old ++ ps) (sym (map-range_with_len_more zero_page first n (first + n) refl))

-- ---- no two pages have one slot

abbrev IsPlace : ℕ → Type 0
IsPlace n = (n < 1048576) ⊎ ((first_stack_page ≤ n) × (n < 0x100100))

abbrev Rises : ℕ → List Page → Type 0
Rises low [] = Unit {0}
Rises low (page ∷ rest) = (low ≤ page.number) × (IsPlace page.number × Rises (suc page.number) rest)

slot-low : (n : ℕ) → n < 1048576 → slot n ≡ n + 16
slot-low n low = grind (arith, nat_tests, low)

slot-high : (n : ℕ) → first_stack_page ≤ n → slot n ≡ n - first_stack_page
slot-high n high = grind (arith, nat_tests, high)

slots-differ : (a b : ℕ) → IsPlace a → IsPlace b → a < b → slot a ≢ slot b
slots-differ a b (inl i) (inl j) below same = let x = slot-low a i in let y = slot-low b j in omega (arith, i, j, below, same, x, y)
slots-differ a b (inl i) (inr j) below same =
    let x = slot-low a i in let y = slot-high b j.0 in let z = j.1 in omega (arith, i, z, below, same, x, y)
slots-differ a b (inr i) (inl j) below same = let x = i.0 in omega (arith, x, j, below)
slots-differ a b (inr i) (inr j) below same =
    let x = slot-high a i.0 in let y = slot-high b j.0 in let z = i.0 in omega (arith, below, same, x, y, z)

later : (low : ℕ) (list : List Page) (j : ℕ) (b : Page) → Rises low list → slice_get list j ≡ Some b → (low ≤ b.number) × IsPlace b.number
later low [] j b rises there = absurd (cc)
later low (page ∷ rest) zero b rises there =
    let same : page ≡ b = cc in
    let first : (low ≤ page.number) × IsPlace page.number = (rises.0, rises.1.0) in
    rw same at first
later low (page ∷ rest) (suc j) b rises there =
    let more = later (suc page.number) rest j b rises.1.1 there in
    let first = rises.0 in let next = more.0 in (omega (arith, first, next), more.1)

apart : (low : ℕ) (list : List Page) → Rises low list → AreApart list
apart low [] rises i j a b below here there = absurd (cc)
apart low (page ∷ rest) rises zero zero a b below here there = absurd (omega (arith, below))
apart low (page ∷ rest) rises zero (suc j) a b below here there =
    let same : page ≡ a = cc in
    let more = later (suc page.number) rest j b rises.1.1 there in
    let next = more.0 in
    rw same at (slots-differ page.number b.number rises.1.0 more.1 (omega (arith, next)))
apart low (page ∷ rest) rises (suc i) zero a b below here there = absurd (omega (arith, below))
apart low (page ∷ rest) rises (suc i) (suc j) a b below here there = apart (suc page.number) rest rises.1.1 i j a b (omega (arith, below)) here there

rises-stack : (low n count : ℕ) → low ≤ n → first_stack_page ≤ n → n + count ≤ 0x100100 → Rises low (map zero_page (range_with_len n count))
rises-stack low n zero above high inside = tt
rises-stack low n (suc count) above high inside =
    (above, (inr (high, omega (arith, inside)), rises-stack (suc n) (n + 1) count (omega arith) (omega (arith, high)) (omega (arith, inside))))

rises-image : (image : Image) (rest : List Page) (from count low : ℕ) → low ≤ from → from + count ≤ 1048576 → ((m : ℕ) → m ≤ 1048576 → Rises m rest)
    → Rises low (map (page_of_image image) (filter (is_mapped image) (range_with_len from count)) ++ rest)
rises-image image rest from zero low above inside then = then low (omega (arith, above, inside))
rises-image image rest from (suc count) low above inside then =
    go (is_mapped image from) refl (λ m near. rises-image image rest (from + 1) count m near (omega (arith, inside)) then)
  where
    go : (b : Bool) → is_mapped image from ≡ b
        → ((m : ℕ) → m ≤ from + 1 → Rises m (map (page_of_image image) (filter (is_mapped image) (range_with_len (from + 1) count)) ++ rest))
        → Rises low (map (page_of_image image) (filter (is_mapped image) (from ∷ range_with_len (from + 1) count)) ++ rest)
    go true e next = rw e (above, (inl (omega (arith, inside)), next (suc from) (omega arith)))
    go false e next = rw e (next low (omega (arith, above)))

rises-below : (image : Image) (limit : ℕ) (rest : List Page) → limit ≤ 1048576 → ((m : ℕ) → m ≤ 1048576 → Rises m rest)
    → Rises 0 (map (page_of_image image) (pages_below image limit) ++ rest)
unfolding pages_below
rises-below image limit rest low then = rises-image image rest 0 limit 0 (omega arith) (omega (arith, low)) then

limit-low : page_limit ≤ 1048576
limit-low = let is = page_limit-is in omega (arith, is)

pub pages-apart : (image : Image) (count : ℕ) → count ≤ stack_size → AreApart (image_pages image ++ map zero_page (range_with_len first_stack_page count))
pages-apart image count few =
    apart 0 (image_pages image ++ map zero_page (range_with_len first_stack_page count))
    (rises-below image page_limit (map zero_page (range_with_len first_stack_page count)) limit-low
    (λ m below. rises-stack m first_stack_page count (omega (arith, below)) (omega arith) (omega (arith, few))))
