-- The pages of an image as the kernel takes them.
use Rattle.std.proofs.Common.{ℕ, zero, suc, ◌+◌, ◌-◌, ◌≡◌, ◌<◌, ◌≤◌, true, Option, Some, None, is_some, option_map, List, [], ◌∷◌, ◌++◌, length, map, arith, refl, ap, sym, ◌∙◌}
use Rattle.std.specs.List.{filter_map, cons_option}
use Rattle.std.proofs.lemmas.Bool.Decides.{nat_tests}
use Rattle.std.proofs.lemmas.Grind.{common_steps}
use Rattle.osc_word.specs.AddressMap.{is_image_or_stack}
use Rattle.osc_sv39.specs.declared.flags.PteBits.{PteBits}
use Rattle.osc_image.specs.Image.{Image, IsNextPage, NoneFrom, bits_at, pages_below}
use Rattle.osc_image.specs.Frames.{stack_pages, table_count, needed_frames}
use Rattle.osc_elf.proofs.Counting.{pages-start, pages-mapped, pages-unmapped, pages-all}
use Rattle.osc_calls.specs.Open.{OpenPage, open_page, image_page, image_pages}
use Rattle.osc_open.specs.Laying.{AreImagePages, pages_of, number_of_page, frames_for}
use Rattle.osc_settled.proofs.Images.{number, Ascend, image_ascends, image_numbers, none_below}
use Rattle.osc_core.specs.Boot.{IsOfFile}

-- ---- one after another
abbrev pub pages_so_far : Image → ℕ → List OpenPage
pages_so_far image n = filter_map (image_page image) (pages_below image n)

more : (f : ℕ → Option OpenPage) (xs : List ℕ) (x : ℕ) → filter_map f (xs ++ x ∷ []) ≡ filter_map f xs ++ cons_option (f x) []
more f [] x = refl
more f (y ∷ xs) x = go (f y) (more f xs x)
  where
    go : (o : Option OpenPage) → filter_map f (xs ++ x ∷ []) ≡ filter_map f xs ++ cons_option (f x) [] → cons_option o (filter_map f (xs ++ x ∷ [])) ≡ cons_option o (filter_map f xs) ++ cons_option (f x) []
    go None e = e
    go (Some z) e = ap (λ (l : List OpenPage). z ∷ l) e

pub none_yet : (image : Image) → pages_so_far image 0 ≡ []
none_yet image = ap (filter_map (image_page image)) (pages-start image)

with_page : (image : Image) (n : ℕ) (b : PteBits) → bits_at image n ≡ Some b → pages_so_far image (n + 1) ≡ pages_so_far image n ++ open_page n b ∷ []
with_page image n b e =
    ap (filter_map (image_page image)) (pages-mapped image n (ap (λ (o : Option PteBits). is_some o) e))
    ∙ more (image_page image) (pages_below image n) n
    ∙ ap (λ (o : Option PteBits). pages_so_far image n ++ cons_option (option_map (open_page n) o) []) e

without_page : (image : Image) (n : ℕ) → bits_at image n ≡ None → pages_so_far image (n + 1) ≡ pages_so_far image n
without_page image n e = ap (filter_map (image_page image)) (pages-unmapped image n (ap (λ (o : Option PteBits). is_some o) e))

pages_more : (xs : List (ℕ × PteBits)) (n : ℕ) (b : PteBits) → pages_of (xs ++ (n, b) ∷ []) ≡ pages_of xs ++ open_page n b ∷ []
pages_more [] n b = refl
pages_more (x ∷ xs) n b = ap (λ (l : List OpenPage). open_page x.0 x.1 ∷ l) (pages_more xs n b)

-- over pages that are not mapped
past : (image : Image) (from gap : ℕ) → ((other : ℕ) → from ≤ other → other < from + gap → bits_at image other ≡ None) → pages_so_far image (from + gap) ≡ pages_so_far image from
past image from zero none = ap (pages_so_far image) (omega arith)
past image from (suc gap) none =
    let next : from + suc gap ≡ (from + gap) + 1 = omega arith in
    ap (pages_so_far image) next ∙ without_page image (from + gap) (none (from + gap) (omega arith) (omega arith))
    ∙ past image from gap (λ other above below. none other above (omega (arith, below)))

pages_to : (image : Image) (from page : ℕ) → IsNextPage image from page → pages_so_far image page ≡ pages_so_far image from
pages_to image from page is =
    let above = is.at_or_above in
    let there : from + (page - from) ≡ page = omega (arith, above) in
    sym (ap (pages_so_far image) there) ∙ past image from (page - from) (λ other a b. is.least other a (omega (arith, b, above)))

pub one_more : (image : Image) (from page : ℕ) (bits : PteBits) (xs ys : List (ℕ × PteBits)) → pages_of xs ≡ pages_so_far image from → IsNextPage image from page
    → bits_at image page ≡ Some bits → ys ≡ xs ++ (page, bits) ∷ [] → pages_of ys ≡ pages_so_far image (page + 1)
one_more image from page bits xs ys so next has more =
    ap pages_of more ∙ pages_more xs page bits ∙ ap (λ (l : List OpenPage). l ++ open_page page bits ∷ []) (so ∙ sym (pages_to image from page next))
    ∙ sym (with_page image page bits has)

pub pages_all : (image : Image) (from : ℕ) → from ≤ 1048576 → NoneFrom image from → pages_so_far image from ≡ image_pages image
pages_all image from low none = ap (filter_map (image_page image)) (pages-all image from low none)

-- ---- the frames that they need
numbers_same : (ps : List OpenPage) → map number_of_page ps ≡ map number ps
numbers_same [] = refl
numbers_same (p ∷ ps) = ap (λ (l : List ℕ). p.page ∷ l) (numbers_same ps)

pub frames_needed : (image : Image) (levels : ℕ) → frames_for levels (image_pages image) ≡ needed_frames levels image
unfolding frames_for needed_frames
frames_needed image levels =
    ap (λ (l : List ℕ). length (stack_pages ++ l) + table_count levels (stack_pages ++ l)) (numbers_same (image_pages image) ∙ image_numbers image)

-- ---- the pages of a file's image
abbrev last : OpenPage
last = open_page 0x1000F0 (record { 0 = 6 })

below_last : (low : ℕ) (ps : List OpenPage) → Ascend low (ps ++ last ∷ []) → low ≤ 0x1000F0
below_last low [] a = a.0
below_last low (p ∷ ps) a = let b = a.0 in let c = below_last (suc p.page) ps a.3 in omega (arith, b, c)

in_image : (n : ℕ) → is_image_or_stack n ≡ true → n < 0x1000F0 → (16 ≤ n) × (n < 0x100000)
in_image n e l = (grind (arith, nat_tests, e, l), grind (arith, nat_tests, e, l))

from_ascend : (low : ℕ) (ps : List OpenPage) → Ascend low (ps ++ last ∷ []) → AreImagePages low ps
from_ascend low [] a = tt
from_ascend low (p ∷ ps) a =
    let c = below_last (suc p.page) ps a.3 in
    (a.0, (in_image p.page a.1 (omega (arith, c))).1, a.2, from_ascend (suc p.page) ps a.3)

from_16 : (ps : List OpenPage) → Ascend 0 (ps ++ last ∷ []) → AreImagePages 16 ps
from_16 [] a = tt
from_16 (p ∷ ps) a =
    let c = below_last (suc p.page) ps a.3 in
    let i = in_image p.page a.1 (omega (arith, c)) in
    (i.0, i.1, a.2, from_ascend (suc p.page) ps a.3)

pub are_image_pages : (image : Image) → IsOfFile image → AreImagePages 16 (image_pages image)
are_image_pages image f =
    from_16 (image_pages image) (image_ascends image (none_below f.file image f.taken) (last ∷ []) (omega arith, refl, refl, tt))

pub ruleset page_steps = (common_steps, none_yet)
