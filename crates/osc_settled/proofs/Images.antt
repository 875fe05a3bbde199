-- The pages of an image that a file means: they ascend, each is one of the image's range, and what each
-- permits makes a leaf.
use Rattle.std.proofs.Common.{ℕ, zero, suc, ◌+◌, ◌≡◌, ◌<◌, ◌≤◌, nat_lt, ◌&&◌, ◌||◌, Bool, true, false, cond, Option, Some, None, is_some, option_map, Ok, List, [], ◌∷◌, ◌++◌, map, filter, find, slice_get, arith, refl, ap, sym, ◌∙◌, subst}
use Rattle.std.specs.Prelude.{IsTrue, if◌then◌else◌}
use Rattle.std.specs.List.{list_any, filter_map, cons_option, range_with_len}
use Rattle.std.specs.Option.{option_or}
use Rattle.std.proofs.lemmas.Bool.Decides.{nat_tests}
use Rattle.osc_word.specs.AddressMap.{is_image_or_stack}
use Rattle.osc_sv39.specs.declared.flags.PteBits.{PteBits}
use Rattle.osc_sv39.specs.declared.entries.Access.{Access}
use Rattle.osc_sv39.specs.declared.entries.Access.TheVariants.{Fetch, Load, Store}
use Rattle.osc_sv39.specs.ReadBack.{is_leaf}
use Rattle.osc_image.specs.declared.ImageFault.{ImageFault}
use Rattle.osc_image.specs.declared.SegmentWhy.{SegmentWhy}
use Rattle.osc_image.specs.Image.{Segment, Image, touches, permits, page_permits, bits_of, bits_at, is_mapped, page_limit, pages_below, pages}
use Rattle.osc_image.specs.declared.ImageFault.TheVariants as fault
use Rattle.osc_image.specs.declared.SegmentWhy.TheVariants as why
use Rattle.osc_image.specs.Form.{Check, check, first_of, e_phnum, p_vaddr, p_memsz, header_place, is_load, is_laid, is_out_of_range, load_checks, segment_checks, segment_why, segment_fault, first, header_fault, table_fault, map_fault, segments_of, segment_at, laid_segment, image_in, fault_of, image_of, refused_or}
use Rattle.osc_space.specs.LeafFlags.{leaf_of_page}
use Rattle.osc_calls.specs.Open.{OpenPage, open_page, image_page, image_pages}

abbrev pub number : OpenPage → ℕ
number p = p.page

-- pages ascend from one on, are of the image or the stack, and what each permits makes a leaf
abbrev pub Ascend : ℕ → List OpenPage → Type 0
Ascend low [] = Unit {0}
Ascend low (p ∷ ps) = (low ≤ p.page) × (is_image_or_stack p.page ≡ true) × IsTrue (is_leaf (leaf_of_page p.bits)) × Ascend (suc p.page) ps

pub from_lower : (low high : ℕ) (ps : List OpenPage) → low ≤ high → Ascend high ps → Ascend low ps
from_lower low high [] l a = tt
from_lower low high (p ∷ ps) l a = (let b = a.0 in omega (arith, l, b), a.1, a.2, a.3)

-- ---- what a page permits
any_more : (f g : Segment → Bool) → ((s : Segment) → f s ≡ true → g s ≡ true) → (ss : List Segment) → list_any f ss ≡ true → list_any g ss ≡ true
any_more f g h [] e = e
any_more f g h (s ∷ ss) e = go (f s) refl e (any_more f g h ss)
  where
    go : (b : Bool) → f s ≡ b → (b || list_any f ss) ≡ true → (list_any f ss ≡ true → list_any g ss ≡ true) → (g s || list_any g ss) ≡ true
    go true is t later = let z = h s is in grind (arith, z)
    go false is t later = let z = later t in grind (arith, nat_tests, z)

load_of_store : (touched r w : Bool) → (touched && w) ≡ true → (touched && (r || w)) ≡ true
load_of_store true true true e = refl
load_of_store true true false e = refl
load_of_store true false true e = refl
load_of_store true false false e = e
load_of_store false r w e = e

-- what can be written can be read too
reads_too : (segments : List Segment) (page : ℕ) → page_permits segments Store page ≡ true → page_permits segments Load page ≡ true
unfolding page_permits
reads_too segments page e =
    any_more (λ s. touches page s && permits s Store) (λ s. touches page s && permits s Load) (λ s h. load_of_store (touches page s) s.readable s.writable h) segments e

some_bits : (x y : PteBits) → Some x ≡ Some y → x ≡ y
some_bits x y e = cc

leaf_by : (r w x : Bool) (b : PteBits) → (w ≡ true → r ≡ true) → bits_of r w x ≡ Some b → IsTrue (is_leaf (leaf_of_page b))
leaf_by true true true b h e = subst (λ (y : PteBits). IsTrue (is_leaf (leaf_of_page y))) (some_bits _ b e) refl
leaf_by true true false b h e = subst (λ (y : PteBits). IsTrue (is_leaf (leaf_of_page y))) (some_bits _ b e) refl
leaf_by true false true b h e = subst (λ (y : PteBits). IsTrue (is_leaf (leaf_of_page y))) (some_bits _ b e) refl
leaf_by true false false b h e = subst (λ (y : PteBits). IsTrue (is_leaf (leaf_of_page y))) (some_bits _ b e) refl
leaf_by false true x b h e = absurd (let z = h refl in let w : ⊥ = grind (arith, z) in w)
leaf_by false false true b h e = subst (λ (y : PteBits). IsTrue (is_leaf (leaf_of_page y))) (some_bits _ b e) refl
leaf_by false false false b h e = absurd (let w : ⊥ = grind (arith, e) in w)

leaf_is : (image : Image) (page : ℕ) (b : PteBits) → bits_at image page ≡ Some b → IsTrue (is_leaf (leaf_of_page b))
leaf_is image page b e =
    leaf_by (page_permits image.segments Load page) (page_permits image.segments Store page) (page_permits image.segments Fetch page) b (reads_too image.segments page) e

-- ---- the pages, from one on
abbrev numbers_from : Image → ℕ → ℕ → List ℕ
numbers_from image from n = filter (is_mapped image) (range_with_len from n)

abbrev pages_from : Image → ℕ → ℕ → List OpenPage
pages_from image from n = filter_map (image_page image) (numbers_from image from n)

module _ (image : Image) where
  none_here : (from n : ℕ) → bits_at image from ≡ None → numbers_from image from (suc n) ≡ numbers_from image (from + 1) n
  none_here from n e = ap (λ (o : Option PteBits). cond (is_some o) (from ∷ numbers_from image (from + 1) n) (numbers_from image (from + 1) n)) e

  some_here : (from n : ℕ) (b : PteBits) → bits_at image from ≡ Some b → numbers_from image from (suc n) ≡ from ∷ numbers_from image (from + 1) n
  some_here from n b e = ap (λ (o : Option PteBits). cond (is_some o) (from ∷ numbers_from image (from + 1) n) (numbers_from image (from + 1) n)) e

  page_here : (from n : ℕ) (b : PteBits) → bits_at image from ≡ Some b → pages_from image from (suc n) ≡ open_page from b ∷ pages_from image (from + 1) n
  page_here from n b e =
      ap (λ (xs : List ℕ). filter_map (image_page image) xs) (some_here from n b e)
      ∙ ap (λ (o : Option PteBits). cons_option (option_map (open_page from) o) (pages_from image (from + 1) n)) e

  no_page : (from n : ℕ) → bits_at image from ≡ None → pages_from image from (suc n) ≡ pages_from image (from + 1) n
  no_page from n e = ap (λ (xs : List ℕ). filter_map (image_page image) xs) (none_here from n e)

  pub numbers_are : (from n : ℕ) → map number (pages_from image from n) ≡ numbers_from image from n
  numbers_are from zero = refl
  numbers_are from (suc n) = go (bits_at image from) refl (numbers_are (from + 1) n)
    where
      go : (o : Option PteBits) → bits_at image from ≡ o → map number (pages_from image (from + 1) n) ≡ numbers_from image (from + 1) n → map number (pages_from image from (suc n)) ≡ numbers_from image from (suc n)
      go None e later = ap (map number) (no_page from n e) ∙ later ∙ sym (none_here from n e)
      go (Some b) e later = ap (map number) (page_here from n b e) ∙ ap (λ (xs : List ℕ). from ∷ xs) later ∙ sym (some_here from n b e)

  -- before others that ascend from after the image's range on
  pub ascend_from : ((page : ℕ) → page < 16 → bits_at image page ≡ None) → (from n : ℕ) (after : List OpenPage) → from + n ≤ 0x100000 → Ascend 0x100000 after → Ascend from (pages_from image from n ++ after)
  ascend_from low from zero after l a = from_lower from 0x100000 after (omega arith) a
  ascend_from low from (suc n) after l a = go (bits_at image from) refl (ascend_from low (from + 1) n after (omega arith) a)
    where
      go : (o : Option PteBits) → bits_at image from ≡ o → Ascend (from + 1) (pages_from image (from + 1) n ++ after) → Ascend from (pages_from image from (suc n) ++ after)
      go None e later = subst (λ (xs : List OpenPage). Ascend from (xs ++ after)) (sym (no_page from n e)) (from_lower from (from + 1) (pages_from image (from + 1) n ++ after) (omega arith) later)
      go (Some b) e later = subst (λ (xs : List OpenPage). Ascend from (xs ++ after)) (sym (page_here from n b e)) (omega arith, within, leaf_is image from b e, from_lower (suc from) (from + 1) (pages_from image (from + 1) n ++ after) (omega arith) later)
        where
          above : 16 ≤ from
          above = by (nat_lt from 16) refl
            where
              by : (t : Bool) → nat_lt from 16 ≡ t → 16 ≤ from
              by true f = absurd (let z = low from (grind (arith, nat_tests, f)) in let w : ⊥ = grind (arith, z, e) in w)
              by false f = grind (arith, nat_tests, f)

          within : is_image_or_stack from ≡ true
          within = let z = above in grind (arith, nat_tests, z, l)

-- the numbers of an image, without counting up to the limit
limit_is : page_limit ≡ 0x100000
unfolding page_limit
limit_is = refl

below_is : (image : Image) (n : ℕ) → pages_below image n ≡ numbers_from image 0 n
unfolding pages_below
below_is image n = refl

pub image_numbers : (image : Image) → map number (image_pages image) ≡ pages image
image_numbers image =
    ap (λ (xs : List ℕ). map number (filter_map (image_page image) xs)) (below_is image page_limit)
    ∙ numbers_are image 0 page_limit ∙ sym (below_is image page_limit)

pub image_ascends : (image : Image) → ((page : ℕ) → page < 16 → bits_at image page ≡ None) → (after : List OpenPage) → Ascend 0x100000 after → Ascend 0 (image_pages image ++ after)
image_ascends image low after a =
    subst (λ (xs : List ℕ). Ascend 0 (filter_map (image_page image) xs ++ after)) (sym (below_is image page_limit))
    (ascend_from image low 0 page_limit after (let z = limit_is in omega (arith, z)) a)

-- ---- an image of a file has no page below its range
none_fails : {F : Type 0} (cs : List (Check F)) (i : ℕ) (c : Check F) → first_of cs ≡ None → slice_get cs i ≡ Some c → c.fails ≡ false
none_fails [] i c e g = absurd (let z : ⊥ = grind (arith, g) in z)
none_fails {F} (x ∷ cs) i c e g = go x.fails refl e i g (none_fails cs)
  where
    go : (b : Bool) → x.fails ≡ b → option_map (λ (y : Check F). y.answer) (cond b (Some x) (find (λ (y : Check F). y.fails) cs)) ≡ None → (j : ℕ) → slice_get (x ∷ cs) j ≡ Some c
        → ((k : ℕ) (d : Check F) → first_of cs ≡ None → slice_get cs k ≡ Some d → d.fails ≡ false) → c.fails ≡ false
    go true f h j k later = absurd (let z : ⊥ = grind (arith, h) in z)
    go false f h zero k later = ap (λ (y : Check F). y.fails) (let same : c ≡ x = cc in same) ∙ f
    go false f h (suc j) k later = later j c h k

above_by : (size address end : ℕ) → (nat_lt 0 size && (nat_lt address 65536 || nat_lt 4294967296 end)) ≡ false → nat_lt 0 size ≡ true → 65536 ≤ address
above_by size address end e l = grind (arith, nat_tests, e, l)

both : (a b : Bool) → (a && b) ≡ true → (a ≡ true) × (b ≡ true)
both true b e = (refl, e)
both false b e = absurd (let z : ⊥ = grind (arith, e) in z)

-- a segment that is laid begins at or above the image's range
above_range : (file : List ℕ) (index : ℕ) → segment_why file index ≡ None → is_laid file (header_place file index) ≡ true → 65536 ≤ p_vaddr file (header_place file index)
unfolding segment_why
above_range file index e l =
    let place = header_place file index in
    let loads = both (is_load file place) (nat_lt 0 (p_memsz file place)) l in
    let last : slice_get (segment_checks file place) 6 ≡ Some (check (is_out_of_range file place) why.Range) = ap (λ b. slice_get (if b then load_checks file place else []) 2) loads.0 in
    above_by (p_memsz file place) (p_vaddr file place) (p_vaddr file place + p_memsz file place) (none_fails (segment_checks file place) 6 (check (is_out_of_range file place) why.Range) e last) loads.1

touches_none : (page : ℕ) (s : Segment) → page < 16 → 65536 ≤ s.address → touches page s ≡ false
touches_none page s l a = grind (arith, nat_tests, l, a)

no_fault : (o : Option SegmentWhy) (index : ℕ) → option_map (λ w. fault.Segment index w) o ≡ None → o ≡ None
no_fault None index e = refl
no_fault (Some w) index e = absurd (let z : ⊥ = grind (arith, e) in z)

none_cons : {X : Type 0} (o : Option X) (xs : List X) → cons_option o xs ≡ [] → (o ≡ None) × (xs ≡ [])
none_cons None xs e = (refl, e)
none_cons (Some x) xs e = absurd (let z : ⊥ = grind (arith, e) in z)

none_permits : (file : List ℕ) (access : Access) (page : ℕ) → page < 16 → (indices : List ℕ) → filter_map (segment_fault file) indices ≡ []
    → list_any (λ s. touches page s && permits s access) (filter_map (laid_segment file) indices) ≡ false
unfolding laid_segment
none_permits file access page l [] e = refl
none_permits file access page l (i ∷ is) e =
    let apart = none_cons (segment_fault file i) (filter_map (segment_fault file) is) e in
    go (is_laid file (header_place file i)) refl (no_fault (segment_why file i) i apart.0) (none_permits file access page l is apart.1)
  where
    go : (b : Bool) → is_laid file (header_place file i) ≡ b → segment_why file i ≡ None
        → list_any (λ s. touches page s && permits s access) (filter_map (laid_segment file) is) ≡ false
        → list_any (λ s. touches page s && permits s access) (cons_option (if b then Some (segment_at file (header_place file i)) else None) (filter_map (laid_segment file) is)) ≡ false
    go false f w later = later
    go true f w later =
        ap (λ b. (b && permits (segment_at file (header_place file i)) access) || list_any (λ s. touches page s && permits s access) (filter_map (laid_segment file) is)) (touches_none page (segment_at file (header_place file i)) l (above_range file i w f))
        ∙ later

none_first : {X : Type 0} (xs : List X) → first xs ≡ None → xs ≡ []
none_first [] e = refl
none_first (x ∷ xs) e = absurd (let z : ⊥ = grind (arith, e) in z)

both_none : (a b : Option ImageFault) → option_or a b ≡ None → (a ≡ None) × (b ≡ None)
both_none None b e = (refl, e)
both_none (Some f) b e = absurd (let z : ⊥ = grind (arith, e) in z)

taken_image : (o : Option ImageFault) (made image : Image) → refused_or o made ≡ Ok image → (o ≡ None) × (made ≡ image)
taken_image None made image e = (refl, let z : made ≡ image = cc in z)
taken_image (Some f) made image e = absurd (let z : ⊥ = cc in z)

permits_none : (file : List ℕ) (access : Access) (page : ℕ) → page < 16 → table_fault file ≡ None → page_permits (segments_of file (e_phnum file)) access page ≡ false
unfolding table_fault segments_of page_permits
permits_none file access page l e = none_permits file access page l (range_with_len 0 (e_phnum file)) (none_first (filter_map (segment_fault file) (range_with_len 0 (e_phnum file))) e)

pub none_below : (file : List ℕ) (image : Image) → image_of file ≡ Ok image → (page : ℕ) → page < 16 → bits_at image page ≡ None
unfolding image_of
none_below file image e page l =
    let t = taken_image (fault_of file) (image_in file) image e in
    let table = (both_none (table_fault file) (map_fault (image_in file)) (both_none (header_fault file) (option_or (table_fault file) (map_fault (image_in file))) t.0).1).0 in
    let none = λ (access : Access). permits_none file access page l table in
    let segments = segments_of file (e_phnum file) in
    subst (λ (x : Image). bits_at x page ≡ None) t.1
    (ap (λ b. bits_of b (page_permits segments Store page) (page_permits segments Fetch page)) (none Load)
    ∙ ap (λ b. bits_of false b (page_permits segments Fetch page)) (none Store)
    ∙ ap (λ b. bits_of false false b) (none Fetch))
