-- The pages of an image and of the stack can be laid one after another where the frames are enough.
use Rattle.std.proofs.Common.{ℕ, zero, suc, ◌+◌, ◌-◌, ◌/◌, ◌^◌, ◌≡◌, ◌<◌, ◌≤◌, ◌==◌, Bool, true, false, cond, Option, Some, None, is_some, List, [], ◌∷◌, ◌++◌, length, map, position, replicate, slice_set, arith, refl, ap, sym, ◌∙◌, length-append}
use Rattle.std.specs.Prelude.{IsTrue}
use Rattle.std.proofs.lemmas.Bool.Decides.{nat_tests}
use Rattle.std.proofs.lemmas.List.{map-append}
use Rattle.std.proofs.lemmas.List.Sums.{sum_by-cons}
use Rattle.osc_word.specs.declared.settings.Config.{Config}
use Rattle.osc_word.specs.AddressMap.{is_image_or_stack}
use Rattle.osc_sv39.specs.declared.entries.Mapping.{Mapping}
use Rattle.osc_sv39.specs.ReadBack.{is_leaf}
use Rattle.osc_sv39.specs.Walk.{piece}
use Rattle.osc_sv39.proofs.EntriesBack.{leaves_read_back}
use Rattle.osc_slot.specs.Heap.{free_count}
use Rattle.osc_image.specs.Frames.{different, stack_pages, tables_below}
use Rattle.osc_paging.specs.KeptTables.{mapping_at, frame_of, root_of, need}
use Rattle.osc_paging.specs.TableChanges.{Changed, link_all, leaf_put, table_frame}
use Rattle.osc_paging.specs.TableLaws.{MapsPage}
use Rattle.osc_paging.proofs.TableLists.{mapping_at-with_page}
use Rattle.osc_paging.proofs.Needed.{Grown, link_all-grown, link_all-pages}
use Rattle.osc_paging.proofs.TableLawProofs.{mapping_takes_need, piece-top}
use Rattle.osc_space.specs.LeafFlags.{leaf_of_page}
use Rattle.osc_parts.proofs.MallocParts.{high_enough, some_root}
use Rattle.osc_calls.specs.Open.{OpenPage, open_page, all_pages, laid, lay, rooted}
use Rattle.osc_open.specs.Laying.{AreImagePages, frames_for, number_of_page}
use Rattle.osc_settled.specs.StartLaws.{CanLay, AllCanLay}
use Rattle.osc_settled.proofs.Different.{different-swap}
use Rattle.osc_settled.proofs.Lacking.{lacking, lacking_less, need_least, all_lacking}
use Rattle.osc_settled.proofs.Images.{number, Ascend, from_lower}
use Rattle.osc_settled.proofs.Laying.{Ranges, low_page}

-- ---- free frames
one_fewer : (free : List Bool) (g : ℕ) → free_count free ≤ suc (free_count (slice_set free g false))
one_fewer [] g = omega arith
one_fewer (true ∷ free) zero = let a = sum_by-cons (λ x. cond x 1 0) true free in let b = sum_by-cons (λ x. cond x 1 0) false free in omega (arith, a, b)
one_fewer (false ∷ free) zero = omega arith
one_fewer (b ∷ free) (suc g) = let a = sum_by-cons (λ x. cond x 1 0) b free in let d = sum_by-cons (λ x. cond x 1 0) b (slice_set free g false) in let l = one_fewer free g in omega (arith, a, d, l)

all_free : (n : ℕ) → free_count (replicate n true) ≡ n
all_free zero = refl
all_free (suc n) = let a = sum_by-cons (λ x. cond x 1 0) true (replicate n true) in let l = all_free n in omega (arith, a, l)

-- ---- the page itself
record LaidIn (p : OpenPage) (d e : Changed) : Type 0 where
  tables : e.tables.tables ≡ d.tables.tables
  top : e.tables.top ≡ d.tables.top
  free : free_count d.free ≤ suc (free_count e.free)
  pages : (q : ℕ) → suc p.page ≤ q → mapping_at e.tables.pages q ≡ mapping_at d.tables.pages q

put : (p : OpenPage) (g : ℕ) (m : Mapping) (t : Option ℕ) (d : Changed) → LaidIn p d (leaf_put p.page m t (record d { free = slice_set d.free g false }))
put p g m None d = record { tables = refl; top = refl; free = one_fewer d.free g; pages = λ q l. refl }
put p g m (Some t) d = record {
  tables = refl;
  top = refl;
  free = one_fewer d.free g;
  pages = λ q l. mapping_at-with_page d.tables.pages p.page q m ∙ (let other : (p.page == q) ≡ false = grind (arith, nat_tests, l) in ap (λ b. cond b (Some m) (mapping_at d.tables.pages q)) other);
}

lays_in : (p : OpenPage) (o : Option ℕ) (d : Changed) → LaidIn p d (laid p o d)
lays_in p None d = record { tables = refl; top = refl; free = omega arith; pages = λ q l. refl }
lays_in p (Some g) d = put p g (record { frame = g; bits = leaf_of_page p.bits }) (frame_of d.tables.tables 0 (p.page / 512)) d

-- its tables
record LinkedIn (n : ℕ) (c d : Changed) : Type 0 where
  root : root_of d.tables ≡ root_of c.tables
  top : d.tables.top ≡ c.tables.top
  taken : free_count d.free + need c.tables n 1 ≡ free_count c.free

links_in : (n : ℕ) (m : Mapping) (t : Option ℕ) (c d : Changed) → MapsPage n m c (leaf_put n m t d) → LinkedIn n c d
links_in n m None c d a = record { root = a.root; top = a.top; taken = a.taken }
links_in n m (Some t) c d a = record { root = a.root; top = a.top; taken = a.taken }

-- ---- pages that can be laid one after another
record CanLayThese (ps : List OpenPage) (c : Changed) : Type 0 where
  low : ℕ
  pages : Ascend low ps
  unmapped : (q : ℕ) → low ≤ q → mapping_at c.tables.pages q ≡ None
  root : is_some (root_of c.tables) ≡ true
  levels : 2 ≤ c.tables.top
  enough : length ps + lacking c.tables.tables c.tables.top (map number ps) ≤ free_count c.free

module _ (p : OpenPage) (ps : List OpenPage) (c : Changed) (can : CanLayThese (p ∷ ps) c) where
  abbrev n : ℕ
  n = p.page

  abbrev top : ℕ
  top = c.tables.top

  abbrev linked_all : Changed
  linked_all = link_all top n c

  small : n < 512 ^ suc top
  small = let a = high_enough top can.levels in let b = low_page n can.pages.1 in omega (arith, a, b)

  least : need c.tables n 1 + 1 ≤ free_count c.free
  least = let a = need_least top n (map number ps) c.tables.tables in let e = can.enough in omega (arith, a, e)

  can_lay_first : CanLay p c
  can_lay_first = record {
    within = can.pages.1;
    new = can.unmapped n can.pages.0;
    reads = λ frame l. leaves_read_back frame (leaf_of_page p.bits) (omega (arith, l)) (omega arith) can.pages.2;
    room = let a = least in omega (arith, a);
  }

  others_can : CanLayThese ps (lay p linked_all)
  others_can = record {
    low = suc n;
    pages = can.pages.3;
    unmapped = λ q l. its.pages q l ∙ ap (λ ms. mapping_at ms q) (link_all-pages top n c) ∙ can.unmapped q (let a = can.pages.0 in omega (arith, a, l));
    root = ap (λ ts. is_some (frame_of ts (lay p linked_all).tables.top 0)) its.tables ∙ ap (λ k. is_some (frame_of linked_all.tables.tables k 0)) its.top ∙ ap (λ (o : Option ℕ). is_some o) linked.root ∙ can.root;
    levels = let a = can.levels in let b = linked.top in let d = its.top in omega (arith, a, b, d);
    enough = (let a = lacks in let b = can.enough in let d = linked.taken in let e = its.free in
        let same : lacking (lay p linked_all).tables.tables (lay p linked_all).tables.top (map number ps) ≡ lacking linked_all.tables.tables top (map number ps) =
        ap (λ ts. lacking ts (lay p linked_all).tables.top (map number ps)) its.tables ∙ ap (λ k. lacking linked_all.tables.tables k (map number ps)) (its.top ∙ linked.top) in
        omega (arith, a, b, d, e, same));
  }
    where
      the_root : (r : ℕ) × (root_of c.tables ≡ Some r)
      the_root = some_root (root_of c.tables) can.root

      enough_now : need c.tables n 1 ≤ free_count c.free
      enough_now = let a = least in omega (arith, a)

      m : Mapping
      m = record { frame = 0; bits = leaf_of_page p.bits }

      linked : LinkedIn n c linked_all
      linked = links_in n m (frame_of linked_all.tables.tables 0 (n / 512)) c linked_all (mapping_takes_need n the_root.0 m c the_root.1 small enough_now)

      its : LaidIn p linked_all (lay p linked_all)
      its = lays_in p (position (λ b. b) linked_all.free) linked_all

      grown : Grown top n c.tables.tables linked_all.tables.tables
      grown = link_all-grown top n c the_root.0 (ap (frame_of c.tables.tables top) (piece-top (suc top) n small) ∙ the_root.1) enough_now

      lacks : lacking c.tables.tables top (n ∷ map number ps) ≡ need c.tables n 1 + lacking linked_all.tables.tables top (map number ps)
      lacks = lacking_less top top n (map number ps) c.tables.tables linked_all.tables.tables (omega arith) grown

all_can_lay : (ps : List OpenPage) (c : Changed) → CanLayThese ps c → AllCanLay ps c
all_can_lay [] c can = tt
all_can_lay (p ∷ ps) c can = (can_lay_first p ps c can, all_can_lay ps (lay p (link_all c.tables.top p.page c)) (others_can p ps c can))

-- ---- the start
below-swap : (level : ℕ) (xs ys : List ℕ) → tables_below level (xs ++ ys) ≡ tables_below level (ys ++ xs)
unfolding tables_below
below-swap zero xs ys = refl
below-swap (suc l) xs ys =
    let f = piece (suc l) in
    let one : different (map f (xs ++ ys)) ≡ different (map f (ys ++ xs)) =
    ap different (map-append f xs ys) ∙ (different-swap (map f xs) (map f ys) ∙ sym (ap different (map-append f ys xs))) in
    let on = below-swap l xs ys in
    omega (arith, one, on)

root_alone : (top l n : ℕ) → l < top → frame_of (table_frame top 0 0 ∷ []) l n ≡ None
root_alone top l n less = let other : (top == l) ≡ false = grind (arith, nat_tests, less) in rw other refl

root_there : (top : ℕ) → is_some (frame_of (table_frame top 0 0 ∷ []) top 0) ≡ true
root_there top = let same : (top == top) ≡ true = grind (arith, nat_tests) in rw same refl

-- the stack's pages
abbrev stack_from : ℕ → ℕ → List OpenPage
stack_from from zero = []
stack_from from (suc more) = open_page from (record { 0 = 6 }) ∷ stack_from (suc from) more

stack_ascends : (from n : ℕ) → 0x100000 ≤ from → 0x1000F0 ≤ from → from + n ≤ 0x100100 → Ascend from (stack_from from n)
stack_ascends from zero l m k = tt
stack_ascends from (suc more) l m k = (omega arith, grind (arith, nat_tests, l, m, k), refl, stack_ascends (suc from) more (omega arith) (omega arith) (omega arith))

abbrev the_stack : List OpenPage
the_stack = all_pages []

numbers_length : (ps : List OpenPage) → length (map number ps) ≡ length ps
numbers_length [] = refl
numbers_length (p ∷ ps) = ap suc (numbers_length ps)

pages_ascend : (low : ℕ) (ps : List OpenPage) → 16 ≤ low → low ≤ 0x100000 → AreImagePages low ps → Ascend low (ps ++ the_stack)
pages_ascend low [] some l are = from_lower low 0x1000F0 the_stack (omega arith) (stack_ascends 0x1000F0 16 (omega arith) (omega arith) (omega arith))
pages_ascend low (p ∷ ps) some l are =
    let above = are.0 in
    let below = are.1 in
    (above, grind (arith, nat_tests, above, below, some), are.2, pages_ascend (suc p.page) ps (omega arith) (omega (arith, below)) are.3)

start_can : (ps : List OpenPage) (config : Config) → Ranges config → AreImagePages 16 ps → frames_for config.levels ps ≤ config.frames → CanLayThese (all_pages ps) (rooted config)
unfolding frames_for
start_can ps config ok are fits = record {
  low = 0;
  pages = from_lower 0 16 (all_pages ps) (omega arith) (pages_ascend 16 ps (omega arith) (omega arith) are);
  unmapped = λ q l. refl;
  root = root_there (config.levels - 1);
  levels = let l = ok.levels in omega (arith, l);
  enough = (let f = one_fewer (replicate config.frames true) 0 in
      let g = all_free config.frames in
      let s = below-swap (config.levels - 1) stack_pages (map number_of_page ps) in
      let t = ap (tables_below (config.levels - 1)) numbers in
      let k = all_lacking (table_frame (config.levels - 1) 0 0 ∷ []) (config.levels - 1) (map number (all_pages ps)) (λ l n less. root_alone (config.levels - 1) l n less) in
      let u = length-append stack_pages (map number_of_page ps) in
      let v = length-append (map number_of_page ps) stack_pages in
      let x = numbers_length (all_pages ps) in
      let y = ap (λ (xs : List ℕ). length xs) numbers in
      omega (arith, f, g, s, t, k, u, v, x, y, fits));
}
  where
    numbers : map number (all_pages ps) ≡ map number_of_page ps ++ stack_pages
    numbers = map-append number ps the_stack

pub pages_can : (ps : List OpenPage) (config : Config) → Ranges config → AreImagePages 16 ps → frames_for config.levels ps ≤ config.frames → AllCanLay (all_pages ps) (rooted config)
pages_can ps config ok are fits = all_can_lay (all_pages ps) (rooted config) (start_can ps config ok are fits)
