-- The start: the pages of the image and of the stack are laid one after another, each in a frame of its own.
use Rattle.std.proofs.Common.{ℕ, zero, suc, ◌+◌, ◌-◌, ◌/◌, ◌^◌, ◌≡◌, ◌<◌, ◌≤◌, ◌==◌, nat_lt, Bool, true, false, cond, Option, Some, None, is_some, List, [], ◌∷◌, ◌++◌, length, map, filter, position, replicate, slice_set, arith, refl, ap, sym, ◌∙◌, length-append}
use Rattle.std.proofs.lemmas.Bool.Decides.{nat_tests}
use Rattle.std.proofs.lemmas.List.{map-append}
use Rattle.std.proofs.lemmas.List.Sums.{sum_by-cons}
use Rattle.osc_word.specs.declared.settings.Config.{Config}
use Rattle.osc_word.specs.AddressMap.{stack_size, is_image_or_stack}
use Rattle.osc_sv39.specs.declared.entries.Mapping.{Mapping}
use Rattle.osc_sv39.specs.Walk.{piece}
use Rattle.osc_slot.specs.Heap.{free_count}
use Rattle.osc_image.specs.Image.{Image, pages, bits_at}
use Rattle.osc_image.specs.Frames.{different, stack_pages, tables_below, needed_frames}
use Rattle.osc_paging.specs.declared.Mapped.{Mapped}
use Rattle.osc_paging.specs.KeptTables.{KeptTables, mapping_at, frame_of, root_of, need}
use Rattle.osc_paging.specs.TableChanges.{Changed, link_all, leaf_put, map_page, table_frame, with_page}
use Rattle.osc_paging.specs.TableLaws.{MapsPage}
use Rattle.osc_paging.proofs.TableLists.{mapping_at-with_page}
use Rattle.osc_paging.proofs.Kept.{position_passes}
use Rattle.osc_paging.proofs.Needed.{Grown, link_all-grown, link_all-pages}
use Rattle.osc_paging.proofs.TableLawProofs.{mapping_takes_need, piece-top}
use Rattle.osc_space.specs.Fork.{frame_of_page, image_frames}
use Rattle.osc_space.specs.LeafFlags.{leaf_of_page}
use Rattle.osc_parts.proofs.JobCounts.{length-mapped}
use Rattle.osc_parts.proofs.MallocParts.{high_enough, some_root}
use Rattle.osc_calls.specs.Open.{OpenPage, open_page, image_pages, all_pages, laid, lay, lay_all, rooted}
use Rattle.osc_settled.proofs.Different.{different-swap}
use Rattle.osc_settled.proofs.Lacking.{lacking, lacking_less, need_least, all_lacking}
use Rattle.osc_settled.proofs.Images.{number, Ascend, from_lower, image_ascends, image_numbers}
use Rattle.osc_settled.proofs.Laying.{Ranges, low_page}

-- ---- free frames
one_fewer : (free : List Bool) (g : ℕ) → free_count free ≤ suc (free_count (slice_set free g false))
one_fewer [] g = omega arith
one_fewer (true ∷ free) zero = let a = sum_by-cons (λ x. cond x 1 0) true free in let b = sum_by-cons (λ x. cond x 1 0) false free in omega (arith, a, b)
one_fewer (false ∷ free) zero = omega arith
one_fewer (b ∷ free) (suc g) = let a = sum_by-cons (λ x. cond x 1 0) b free in let d = sum_by-cons (λ x. cond x 1 0) b (slice_set free g false) in let l = one_fewer free g in omega (arith, a, d, l)

all_free : (n : ℕ) → free_count (replicate n true) ≡ n
all_free zero = refl
all_free (suc n) = let a = sum_by-cons (λ x. cond x 1 0) true (replicate n true) in let l = all_free n in omega (arith, a, l)

none_free : (free : List Bool) → position (λ (b : Bool). b) free ≡ None → free_count free ≡ 0
none_free [] e = refl
none_free (true ∷ free) e = absurd (let z : ⊥ = grind (arith, e) in z)
none_free (false ∷ free) e = let l = none_free free (let z : position (λ (b : Bool). b) free ≡ None = grind (arith, e) in z) in let a = sum_by-cons (λ x. cond x 1 0) false free in omega (arith, a, l)

-- ---- pages of the image and the stack
image_count : List Mapped → ℕ
image_count ms = length (filter (λ (m : Mapped). is_image_or_stack m.number) ms)

page_count : (n : ℕ) (m : Mapping) (ms : List Mapped) → is_image_or_stack n ≡ true → image_count (with_page n m ms) ≡ suc (image_count ms)
unfolding image_count
page_count n m [] e = ap (λ b. length {A = Mapped} (cond b ((record { number = n; mapping = m }) ∷ []) [])) e
page_count n m (x ∷ ms) e = go (nat_lt x.number n) (page_count n m ms e)
  where
    sub : (c : Bool) → length (filter (λ (y : Mapped). is_image_or_stack y.number) (with_page n m ms)) ≡ suc (length (filter (λ (y : Mapped). is_image_or_stack y.number) ms))
        → length (cond c (x ∷ filter (λ (y : Mapped). is_image_or_stack y.number) (with_page n m ms)) (filter (λ (y : Mapped). is_image_or_stack y.number) (with_page n m ms))) ≡ suc (length (cond c (x ∷ filter (λ (y : Mapped). is_image_or_stack y.number) ms) (filter (λ (y : Mapped). is_image_or_stack y.number) ms)))
    sub true later = ap suc later
    sub false later = later

    go : (b : Bool) → length (filter (λ (y : Mapped). is_image_or_stack y.number) (with_page n m ms)) ≡ suc (length (filter (λ (y : Mapped). is_image_or_stack y.number) ms))
        → length (filter (λ (y : Mapped). is_image_or_stack y.number) (cond b (x ∷ with_page n m ms) ((record { number = n; mapping = m }) ∷ x ∷ ms))) ≡ suc (length (filter (λ (y : Mapped). is_image_or_stack y.number) (x ∷ ms)))
    go true later = sub (is_image_or_stack x.number) later
    go false later = ap (λ c. length (cond c ((record { number = n; mapping = m }) ∷ filter (λ (y : Mapped). is_image_or_stack y.number) (x ∷ ms)) (filter (λ (y : Mapped). is_image_or_stack y.number) (x ∷ ms)))) e

-- ---- the page itself
pub record LaidIn (p : OpenPage) (d e : Changed) : Type 0 where
  pub tables : e.tables.tables ≡ d.tables.tables
  pub top : e.tables.top ≡ d.tables.top
  pub free : free_count d.free ≤ suc (free_count e.free)
  pub pages : (q : ℕ) → suc p.page ≤ q → mapping_at e.tables.pages q ≡ mapping_at d.tables.pages q

put : (p : OpenPage) (g : ℕ) (m : Mapping) (t : Option ℕ) (d : Changed) → LaidIn p d (leaf_put p.page m t (record d { free = slice_set d.free g false }))
put p g m None d = record { tables = refl; top = refl; free = one_fewer d.free g; pages = λ q l. refl }
put p g m (Some t) d = record {
  tables = refl;
  top = refl;
  free = one_fewer d.free g;
  pages = λ q l. mapping_at-with_page d.tables.pages p.page q m ∙ (let other : (p.page == q) ≡ false = grind (arith, nat_tests, l) in ap (λ b. cond b (Some m) (mapping_at d.tables.pages q)) other);
}

lays_in : (p : OpenPage) (o : Option ℕ) (d : Changed) → LaidIn p d (laid p o d)
lays_in p None d = record { tables = refl; top = refl; free = omega arith; pages = λ q l. refl }
lays_in p (Some g) d = put p g (record { frame = g; bits = leaf_of_page p.bits }) (frame_of d.tables.tables 0 (p.page / 512)) d

-- where a frame is free and its leaf table is there, it is one page more
laid-more : (p : OpenPage) (o : Option ℕ) (d : Changed) → position (λ (b : Bool). b) d.free ≡ o → 0 < free_count d.free → (frame_of d.tables.tables 0 (p.page / 512) ≡ None → ⊥) → is_image_or_stack p.page ≡ true
    → image_count (laid p o d).tables.pages ≡ suc (image_count d.tables.pages)
laid-more p None d e l h i = absurd (let z = none_free d.free e in let w : ⊥ = omega (arith, z, l) in w)
laid-more p (Some g) d e l h i = go (frame_of d.tables.tables 0 (p.page / 512)) h
  where
    go : (t : Option ℕ) → (t ≡ None → ⊥) → image_count (leaf_put p.page (record { frame = g; bits = leaf_of_page p.bits }) t (record d { free = slice_set d.free g false })).tables.pages ≡ suc (image_count d.tables.pages)
    go None h = absurd (h refl)
    go (Some t) h = page_count p.page (record { frame = g; bits = leaf_of_page p.bits }) d.tables.pages i

-- its tables
pub record LinkedIn (n : ℕ) (c d : Changed) : Type 0 where
  pub root : root_of d.tables ≡ root_of c.tables
  pub top : d.tables.top ≡ c.tables.top
  pub taken : free_count d.free + need c.tables n 1 ≡ free_count c.free

links_in : (n : ℕ) (m : Mapping) (t : Option ℕ) (c d : Changed) → MapsPage n m c (leaf_put n m t d) → LinkedIn n c d
links_in n m None c d a = record { root = a.root; top = a.top; taken = a.taken }
links_in n m (Some t) c d a = record { root = a.root; top = a.top; taken = a.taken }

-- ---- pages that can be laid one after another
pub record CanLayThese (ps : List OpenPage) (c : Changed) : Type 0 where
  pub low : ℕ
  pub pages : Ascend low ps
  pub unmapped : (q : ℕ) → low ≤ q → mapping_at c.tables.pages q ≡ None
  pub root : is_some (root_of c.tables) ≡ true
  pub levels : 2 ≤ c.tables.top
  pub enough : length ps + lacking c.tables.tables c.tables.top (map number ps) ≤ free_count c.free

module _ (p : OpenPage) (ps : List OpenPage) (c : Changed) (can : CanLayThese (p ∷ ps) c) where
  abbrev n : ℕ
  n = p.page

  abbrev top : ℕ
  top = c.tables.top

  abbrev pub linked_all : Changed
  linked_all = link_all top n c

  small : n < 512 ^ suc top
  small = let a = high_enough top can.levels in let b = low_page n can.pages.1 in omega (arith, a, b)

  least : need c.tables n 1 + 1 ≤ free_count c.free
  least = let a = need_least top n (map number ps) c.tables.tables in let e = can.enough in omega (arith, a, e)

  the_root : (r : ℕ) × (root_of c.tables ≡ Some r)
  the_root = some_root (root_of c.tables) can.root

  enough_now : need c.tables n 1 ≤ free_count c.free
  enough_now = let a = least in omega (arith, a)

  m : Mapping
  m = record { frame = 0; bits = leaf_of_page p.bits }

  maps : MapsPage n m c (map_page n m c)
  maps = mapping_takes_need n the_root.0 m c the_root.1 small enough_now

  pub linked : LinkedIn n c linked_all
  linked = links_in n m (frame_of linked_all.tables.tables 0 (n / 512)) c linked_all maps

  -- its leaf table was linked
  no_leaf : frame_of linked_all.tables.tables 0 (n / 512) ≡ None → ⊥
  no_leaf e =
      let same : (map_page n m c).tables.pages ≡ c.tables.pages = ap (λ x. (leaf_put n m x linked_all).tables.pages) e ∙ link_all-pages c.tables.top n c in
      let itself : (n == n) ≡ true = grind (arith, nat_tests) in
      let now : mapping_at (map_page n m c).tables.pages n ≡ Some m = maps.pages n ∙ ap (λ b. cond b (Some m) (mapping_at c.tables.pages n)) itself in
      let z : None ≡ Some m = sym (can.unmapped n can.pages.0) ∙ sym (ap (λ ps. mapping_at ps n) same) ∙ now in
      let w : ⊥ = grind (arith, z) in w

  one_more : image_count (lay p linked_all).tables.pages ≡ suc (image_count c.tables.pages)
  one_more =
      laid-more p (position (λ b. b) linked_all.free) linked_all refl (let a = least in let b = linked.taken in omega (arith, a, b)) no_leaf can.pages.1
      ∙ ap (λ ms. suc (image_count ms)) (link_all-pages top n c)

  pub its : LaidIn p linked_all (lay p linked_all)
  its = lays_in p (position (λ b. b) linked_all.free) linked_all

  pub grown : Grown top n c.tables.tables linked_all.tables.tables
  grown = link_all-grown top n c the_root.0 (ap (frame_of c.tables.tables top) (piece-top (suc top) n small) ∙ the_root.1) enough_now

  lacks : lacking c.tables.tables top (n ∷ map number ps) ≡ need c.tables n 1 + lacking linked_all.tables.tables top (map number ps)
  lacks = lacking_less top top n (map number ps) c.tables.tables linked_all.tables.tables (omega arith) grown

  pub others_can : CanLayThese ps (lay p linked_all)
  others_can = record {
    low = suc n;
    pages = can.pages.3;
    unmapped = λ q l. its.pages q l ∙ ap (λ ms. mapping_at ms q) (link_all-pages top n c) ∙ can.unmapped q (let a = can.pages.0 in omega (arith, a, l));
    root = ap (λ ts. is_some (frame_of ts (lay p linked_all).tables.top 0)) its.tables ∙ ap (λ k. is_some (frame_of linked_all.tables.tables k 0)) its.top ∙ ap (λ (o : Option ℕ). is_some o) linked.root ∙ can.root;
    levels = let a = can.levels in let b = linked.top in let d = its.top in omega (arith, a, b, d);
    enough = (let a = lacks in let b = can.enough in let d = linked.taken in let e = its.free in
        let same : lacking (lay p linked_all).tables.tables (lay p linked_all).tables.top (map number ps) ≡ lacking linked_all.tables.tables top (map number ps) =
        ap (λ ts. lacking ts (lay p linked_all).tables.top (map number ps)) its.tables ∙ ap (λ k. lacking linked_all.tables.tables k (map number ps)) (its.top ∙ linked.top) in
        omega (arith, a, b, d, e, same));
  }

laid-count : (ps : List OpenPage) (c : Changed) → CanLayThese ps c → image_count (lay_all ps c).tables.pages ≡ length ps + image_count c.tables.pages
laid-count [] c can = omega arith
laid-count (p ∷ ps) c can =
    let later = laid-count ps (lay p (link_all c.tables.top p.page c)) (others_can p ps c can) in let one = one_more p ps c can in omega (arith, later, one)

-- ---- the start
below-swap : (level : ℕ) (xs ys : List ℕ) → tables_below level (xs ++ ys) ≡ tables_below level (ys ++ xs)
unfolding tables_below
below-swap zero xs ys = refl
below-swap (suc l) xs ys =
    let f = piece (suc l) in
    let one : different (map f (xs ++ ys)) ≡ different (map f (ys ++ xs)) =
    ap different (map-append f xs ys) ∙ (different-swap (map f xs) (map f ys) ∙ sym (ap different (map-append f ys xs))) in
    let on = below-swap l xs ys in
    omega (arith, one, on)

root_alone : (top l n : ℕ) → l < top → frame_of (table_frame top 0 0 ∷ []) l n ≡ None
root_alone top l n less = let other : (top == l) ≡ false = grind (arith, nat_tests, less) in rw other refl

root_there : (top : ℕ) → is_some (frame_of (table_frame top 0 0 ∷ []) top 0) ≡ true
root_there top = let same : (top == top) ≡ true = grind (arith, nat_tests) in rw same refl

-- the stack's pages
abbrev stack_from : ℕ → ℕ → List OpenPage
stack_from from zero = []
stack_from from (suc more) = open_page from (record { 0 = 6 }) ∷ stack_from (suc from) more

stack_ascends : (from n : ℕ) → 0x100000 ≤ from → 0x1000F0 ≤ from → from + n ≤ 0x100100 → Ascend from (stack_from from n)
stack_ascends from zero l m k = tt
stack_ascends from (suc more) l m k = (omega arith, grind (arith, nat_tests, l, m, k), refl, stack_ascends (suc from) more (omega arith) (omega arith) (omega arith))

abbrev the_stack : List OpenPage
the_stack = all_pages []

numbers_length : (ps : List OpenPage) → length (map number ps) ≡ length ps
numbers_length [] = refl
numbers_length (p ∷ ps) = ap suc (numbers_length ps)

count_is : (levels : ℕ) (image : Image) → needed_frames levels image ≡ length (stack_pages ++ pages image) + (1 + tables_below (levels - 1) (stack_pages ++ pages image))
unfolding needed_frames
count_is levels image = refl

pub numbers : (image : Image) → map number (all_pages (image_pages image)) ≡ pages image ++ stack_pages
numbers image = map-append number (image_pages image) the_stack ∙ ap (λ (xs : List ℕ). xs ++ stack_pages) (image_numbers image)

pub start_can : (image : Image) (config : Config) → Ranges config → ((page : ℕ) → page < 16 → bits_at image page ≡ None) → needed_frames config.levels image ≤ config.frames → CanLayThese (all_pages (image_pages image)) (rooted config)
start_can image config ok low fits = record {
  low = 0;
  pages = image_ascends image low the_stack (from_lower 0x100000 0x1000F0 the_stack (omega arith) (stack_ascends 0x1000F0 16 (omega arith) (omega arith) (omega arith)));
  unmapped = λ q l. refl;
  root = root_there (config.levels - 1);
  levels = let l = ok.levels in omega (arith, l);
  enough = (let a = count_is config.levels image in
      let f = one_fewer (replicate config.frames true) 0 in
      let g = all_free config.frames in
      let s = below-swap (config.levels - 1) stack_pages (pages image) in
      let t = ap (tables_below (config.levels - 1)) (numbers image) in
      let k = all_lacking (table_frame (config.levels - 1) 0 0 ∷ []) (config.levels - 1) (map number (all_pages (image_pages image))) (λ l n less. root_alone (config.levels - 1) l n less) in
      let u = length-append stack_pages (pages image) in
      let v = length-append (pages image) stack_pages in
      let x = numbers_length (all_pages (image_pages image)) in
      let y = ap (λ (xs : List ℕ). length xs) (numbers image) in
      omega (arith, a, f, g, s, t, k, u, v, x, y, fits));
}

-- so many frames have the image and the stack
pub start-images : (image : Image) (config : Config) → Ranges config → ((page : ℕ) → page < 16 → bits_at image page ≡ None) → needed_frames config.levels image ≤ config.frames
    → length (image_frames (lay_all (all_pages (image_pages image)) (rooted config)).tables) ≡ length (pages image) + stack_size
unfolding image_count
start-images image config ok low fits =
    let t = (lay_all (all_pages (image_pages image)) (rooted config)).tables in
    let mapped = length-mapped frame_of_page (filter (λ (m : Mapped). is_image_or_stack m.number) t.pages) in
    let count = laid-count (all_pages (image_pages image)) (rooted config) (start_can image config ok low fits) in
    let x = numbers_length (all_pages (image_pages image)) in
    let y = ap (λ (xs : List ℕ). length xs) (numbers image) in
    let v = length-append (pages image) stack_pages in
    let s : length stack_pages ≡ 16 = refl in
    omega (arith, mapped, count, x, y, v, s)
