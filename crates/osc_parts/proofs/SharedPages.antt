-- Free frames that become pages of a region, and how often each is held.
use Rattle.std.proofs.Common.{ℕ, zero, suc, ◌+◌, ◌-◌, ◌/◌, ◌^◌, ◌≡◌, ◌<◌, ◌≤◌, ◌==◌, nat_lt, nat_le, ◌&&◌, Bool, true, false, cond, Option, Some, None, List, [], ◌∷◌, length, map, filter, take, slice_get, slice_set, arith, refl, ap, sym, ◌∙◌, subst}
use Rattle.std.specs.Prelude.{slice_index, slice_index_or}
use Rattle.std.specs.List.{range_with_len}
use Rattle.std.proofs.lemmas.Bool.Decides.{nat_tests}
use Rattle.std.proofs.lemmas.List.Sums.{sum_by-cons}
use Rattle.osc_word.specs.AddressMap.{is_image_or_stack, is_shared}
use Rattle.osc_sv39.specs.declared.entries.Mapping.{Mapping}
use Rattle.osc_sv39.specs.Walk.{piece}
use Rattle.osc_slot.specs.Heap.{free_count}
use Rattle.osc_slot.proofs.Backing.{length-set, free_count-take}
use Rattle.osc_paging.specs.declared.Mapped.{Mapped}
use Rattle.osc_paging.specs.declared.TableFrame.{TableFrame}
use Rattle.osc_paging.specs.KeptTables.{frame_of, mapping_at, root_of, levels_of, need, need_below, missing}
use Rattle.osc_paging.specs.TableChanges.{Changed, link_all, leaf_put, map_page, map_pages, with_page}
use Rattle.osc_paging.specs.TableLaws.{free_frames}
use Rattle.osc_paging.proofs.Needed.{piece_mono, need_one, link_all-pages}
use Rattle.osc_paging.proofs.TableLawProofs.{mapping_takes_need, need_splits}
use Rattle.osc_space.specs.Space.{Space}
use Rattle.osc_space.specs.Fork.{frame_of_page, free_numbers, set_free}
use Rattle.osc_space.specs.Share.{Regions, holders, hold, shared_pages, shared_frames}
use Rattle.osc_parts.specs.Frames.{one_at, among, vacant, frames_held, Trades}
use Rattle.osc_parts.proofs.Counts.{vacant_take, page_more}
use Rattle.osc_parts.proofs.Trading.{over, held_is, vacant_there, link_all-trades}

-- ---- lists of free frames
among_range : (test : ℕ → Bool) (count first f : ℕ) → among f (filter test (range_with_len first count)) ≡ cond (test f && (nat_le first f && nat_lt f (first + count))) 1 0
among_range test zero first f = grind (arith, nat_tests)
among_range test (suc count) first f = go (test first) refl (first == f) refl (among_range test count (first + 1) f)
  where
    go : (b : Bool) → test first ≡ b → (c : Bool) → (first == f) ≡ c → among f (filter test (range_with_len (first + 1) count)) ≡ cond (test f && (nat_le (first + 1) f && nat_lt f (first + 1 + count))) 1 0
        → among f (cond b (first ∷ filter test (range_with_len (first + 1) count)) (filter test (range_with_len (first + 1) count))) ≡ cond (test f && (nat_le first f && nat_lt f (first + suc count))) 1 0
    go true e true g later = let same : first ≡ f = grind (arith, nat_tests, g) in let t : test f ≡ true = sym (ap test same) ∙ e in grind (arith, nat_tests, same, t, g, later)
    go true e false g later = grind (arith, nat_tests, later, g)
    go false e true g later = let same : first ≡ f = grind (arith, nat_tests, g) in let t : test f ≡ false = sym (ap test same) ∙ e in grind (arith, nat_tests, later, t)
    go false e false g later = grind (arith, nat_tests, later, g)

pub among_take : (n f : ℕ) (xs : List ℕ) → among f (take n xs) ≤ among f xs
among_take zero f xs = omega arith
among_take (suc n) f [] = omega arith
among_take (suc n) f (x ∷ xs) = let l = among_take n f xs in omega (arith, l)

is_free : (free : List Bool) (f : ℕ) → cond (slice_index_or free f false && nat_lt f (length free)) 1 0 ≡ vacant free f
is_free [] f = grind (arith, nat_tests)
is_free (true ∷ free) zero = grind (arith, nat_tests)
is_free (false ∷ free) zero = grind (arith, nat_tests)
is_free (x ∷ free) (suc f) = let e = is_free free f in grind (arith, nat_tests, e)

pub among_free : (free : List Bool) (f : ℕ) → among f (free_numbers free) ≡ vacant free f
among_free free f = among_range (λ g. slice_index_or free g false) (length free) 0 f ∙ (let e = is_free free f in grind (arith, nat_tests, e))

numbers_from : (test : ℕ → Bool) (first : ℕ) (free : List Bool) → ((i : ℕ) → i < length free → test (first + i) ≡ slice_index_or free i false) → length (filter test (range_with_len first (length free))) ≡ free_count free
numbers_from test first [] h = refl
numbers_from test first (b ∷ free) h = go (test first) (here b (h 0 (omega arith))) (numbers_from test (first + 1) free (λ i l. (let e : first + 1 + i ≡ first + suc i = omega arith in ap test e ∙ h (suc i) (omega (arith, l)))))
  where
    here : (c : Bool) → test (first + 0) ≡ slice_index_or (c ∷ free) 0 false → test first ≡ c
    here c e = let z : first + 0 ≡ first = omega arith in sym (ap test z) ∙ e

    go : (c : Bool) → test first ≡ b → length (filter test (range_with_len (first + 1) (length free))) ≡ free_count free → length (filter test (range_with_len first (suc (length free)))) ≡ free_count (b ∷ free)
    go c e later = let s = sum_by-cons (λ (x : Bool). cond x 1 0) b free in pick b e s
      where
        pick : (x : Bool) → test first ≡ x → free_count (b ∷ free) ≡ cond b 1 0 + free_count free → length (filter test (range_with_len first (suc (length free)))) ≡ free_count (b ∷ free)
        pick x f s = grind (arith, nat_tests, e, s, later)

pub numbers_count : (free : List Bool) → length (free_numbers free) ≡ free_count free
numbers_count free = numbers_from (λ f. slice_index_or free f false) 0 free (λ i l. (let e : 0 + i ≡ i = omega arith in ap (λ x. slice_index_or free x false) e))

pub length_take : (n : ℕ) (xs : List ℕ) → n ≤ length xs → length (take n xs) ≡ n
length_take zero xs l = refl
length_take (suc n) [] l = absurd (omega arith)
length_take (suc n) (x ∷ xs) l = ap suc (length_take n xs (omega (arith, l)))

-- ---- frames that are taken
pub record Taken (xs : List ℕ) (free after : List Bool) : Type 0 where
  pub count : length after ≡ length free
  pub each : (f : ℕ) → among f xs + vacant after f ≡ vacant free f
  pub fewer : free_count after + length xs ≡ free_count free

pub taken : (xs : List ℕ) (free : List Bool) → ((f : ℕ) → among f xs ≤ vacant free f) → Taken xs free (set_free false xs free)
taken [] free h = record { count = refl; each = λ f. omega arith; fewer = omega arith }
taken (x ∷ xs) free h =
    let is : slice_get free x ≡ Some true = vacant_there free x (let a = h x in grind (arith, nat_tests, a)) in
    let rest = taken xs (slice_set free x false) (λ f. (let a = h f in let v = vacant_take free x f is in omega (arith, a, v))) in
    record {
      count = rest.count ∙ length-set free x false;
      each = λ f. (let a = rest.each f in let v = vacant_take free x f is in omega (arith, a, v));
      fewer = (let a = rest.fewer in let b = free_count-take free x is in omega (arith, a, b));
    }

-- ---- holders
pub index_set : (xs : List ℕ) (i j y : ℕ) → slice_index (slice_set xs i y) j ≡ cond ((j == i) && nat_lt i (length xs)) y (slice_index xs j)
index_set [] i j y = grind (arith, nat_tests)
index_set (x ∷ xs) zero zero y = grind (arith, nat_tests)
index_set (x ∷ xs) zero (suc j) y = grind (arith, nat_tests)
index_set (x ∷ xs) (suc i) zero y = grind (arith, nat_tests)
index_set (x ∷ xs) (suc i) (suc j) y = let e = index_set xs i j y in grind (arith, nat_tests, e)

pub length_set : (xs : List ℕ) (i y : ℕ) → length (slice_set xs i y) ≡ length xs
length_set [] i y = refl
length_set (x ∷ xs) zero y = refl
length_set (x ∷ xs) (suc i) y = ap suc (length_set xs i y)

pub hold_length : (xs : List ℕ) (regions : Regions) → length (hold xs regions) ≡ length regions
hold_length [] regions = refl
hold_length (x ∷ xs) regions = hold_length xs (slice_set regions x (holders regions x + 1)) ∙ length_set regions x (holders regions x + 1)

pub hold_each : (xs : List ℕ) (regions : Regions) (f : ℕ) → ((g : ℕ) → 0 < among g xs → g < length regions) → holders (hold xs regions) f ≡ holders regions f + among f xs
hold_each [] regions f h = omega arith
hold_each (x ∷ xs) regions f h =
    let here = index_set regions x f (holders regions x + 1) in
    let size = length_set regions x (holders regions x + 1) in
    let within : x < length regions = h x (grind (arith, nat_tests)) in
    let later = hold_each xs (slice_set regions x (holders regions x + 1)) f (λ g l. (let a = h g (omega (arith, l)) in omega (arith, a, size))) in
    go (x == f) refl here within later
  where
    go : (b : Bool) → (x == f) ≡ b → slice_index (slice_set regions x (holders regions x + 1)) f ≡ cond ((f == x) && nat_lt x (length regions)) (holders regions x + 1) (slice_index regions f) → x < length regions
        → holders (hold xs (slice_set regions x (holders regions x + 1))) f ≡ holders (slice_set regions x (holders regions x + 1)) f + among f xs
        → holders (hold xs (slice_set regions x (holders regions x + 1))) f ≡ holders regions f + (cond b 1 0 + among f xs)
    go true e here within later =
        let same : x ≡ f = grind (arith, nat_tests, e) in
        let hs : holders regions x ≡ holders regions f = ap (holders regions) same in
        let now : holders (slice_set regions x (holders regions x + 1)) f ≡ holders regions x + 1 = grind (arith, nat_tests, here, within, same) in
        omega (arith, later, now, hs)
    go false e here within later =
        let other : (f == x) ≡ false = grind (arith, nat_tests, e) in
        let now : holders (slice_set regions x (holders regions x + 1)) f ≡ holders regions f = grind (arith, nat_tests, here, other) in
        omega (arith, later, now)

-- ---- pages of a region that are mapped
page_in : (n : ℕ) (m : Mapping) (f : ℕ) (ms : List Mapped) → is_shared n ≡ true → among f (map frame_of_page (filter (λ (x : Mapped). is_shared x.number) (with_page n m ms))) ≡ one_at m.frame f + among f (map frame_of_page (filter (λ (x : Mapped). is_shared x.number) ms))
page_in n m f [] e = ap (λ b. among f (map frame_of_page (cond b ((record { number = n; mapping = m }) ∷ []) []))) e
page_in n m f (x ∷ ms) e = go (nat_lt x.number n) (page_in n m f ms e)
  where
    sub : (c : Bool) → among f (map frame_of_page (filter (λ (y : Mapped). is_shared y.number) (with_page n m ms))) ≡ one_at m.frame f + among f (map frame_of_page (filter (λ (y : Mapped). is_shared y.number) ms))
        → among f (map frame_of_page (cond c (x ∷ filter (λ (y : Mapped). is_shared y.number) (with_page n m ms)) (filter (λ (y : Mapped). is_shared y.number) (with_page n m ms)))) ≡ one_at m.frame f + among f (map frame_of_page (cond c (x ∷ filter (λ (y : Mapped). is_shared y.number) ms) (filter (λ (y : Mapped). is_shared y.number) ms)))
    sub true later = omega (arith, later)
    sub false later = later

    go : (b : Bool) → among f (map frame_of_page (filter (λ (y : Mapped). is_shared y.number) (with_page n m ms))) ≡ one_at m.frame f + among f (map frame_of_page (filter (λ (y : Mapped). is_shared y.number) ms))
        → among f (map frame_of_page (filter (λ (y : Mapped). is_shared y.number) (cond b (x ∷ with_page n m ms) ((record { number = n; mapping = m }) ∷ x ∷ ms)))) ≡ one_at m.frame f + among f (map frame_of_page (filter (λ (y : Mapped). is_shared y.number) (x ∷ ms)))
    go true later = sub (is_shared x.number) later
    go false later = ap (λ c. among f (map frame_of_page (cond c ((record { number = n; mapping = m }) ∷ filter (λ (y : Mapped). is_shared y.number) (x ∷ ms)) (filter (λ (y : Mapped). is_shared y.number) (x ∷ ms))))) e

page_count : (n : ℕ) (m : Mapping) (ms : List Mapped) → is_shared n ≡ true → length (filter (λ (x : Mapped). is_shared x.number) (with_page n m ms)) ≡ suc (length (filter (λ (x : Mapped). is_shared x.number) ms))
page_count n m [] e = ap (λ b. length {A = Mapped} (cond b ((record { number = n; mapping = m }) ∷ []) [])) e
page_count n m (x ∷ ms) e = go (nat_lt x.number n) (page_count n m ms e)
  where
    sub : (c : Bool) → length (filter (λ (y : Mapped). is_shared y.number) (with_page n m ms)) ≡ suc (length (filter (λ (y : Mapped). is_shared y.number) ms))
        → length (cond c (x ∷ filter (λ (y : Mapped). is_shared y.number) (with_page n m ms)) (filter (λ (y : Mapped). is_shared y.number) (with_page n m ms))) ≡ suc (length (cond c (x ∷ filter (λ (y : Mapped). is_shared y.number) ms) (filter (λ (y : Mapped). is_shared y.number) ms)))
    sub true later = ap suc later
    sub false later = later

    go : (b : Bool) → length (filter (λ (y : Mapped). is_shared y.number) (with_page n m ms)) ≡ suc (length (filter (λ (y : Mapped). is_shared y.number) ms))
        → length (filter (λ (y : Mapped). is_shared y.number) (cond b (x ∷ with_page n m ms) ((record { number = n; mapping = m }) ∷ x ∷ ms))) ≡ suc (length (filter (λ (y : Mapped). is_shared y.number) (x ∷ ms)))
    go true later = sub (is_shared x.number) later
    go false later = ap (λ c. length (cond c ((record { number = n; mapping = m }) ∷ filter (λ (y : Mapped). is_shared y.number) (x ∷ ms)) (filter (λ (y : Mapped). is_shared y.number) (x ∷ ms)))) e

-- what so many pages of a region make
pub record Shares (s : Space) (ms : List Mapping) (c d : Changed) : Type 0 where
  pub count : length d.free ≡ length c.free
  pub each : (f : ℕ) → among f (frames_held (over s d.tables)) + vacant d.free f ≡ among f (frames_held (over s c.tables)) + vacant c.free f
  pub more : (f : ℕ) → among f (shared_frames d.tables) ≡ among f (shared_frames c.tables) + among f (map (λ (m : Mapping). m.frame) ms)
  pub pages : length (shared_pages d.tables) ≡ length (shared_pages c.tables) + length ms

need_low : (l number more : ℕ) (ts : List TableFrame) → need_below ts l number 1 ≤ need_below ts l number (suc more)
unfolding need_below missing
need_low zero number more ts = omega arith
need_low (suc l) number more ts =
    let a = piece_mono (suc l) number (number + more) (omega arith) in
    let on = need_low l number more ts in
    let one = need_one ts l number in
    let e1 : piece (suc l) (number + more) - piece (suc l) number + 1 ≡ suc (piece (suc l) (number + more) - piece (suc l) number) = omega arith in
    rw (one, e1) (omega arith)

map_page-shares : (s : Space) (n root : ℕ) (m : Mapping) (c : Changed) → is_shared n ≡ true → mapping_at c.tables.pages n ≡ None → root_of c.tables ≡ Some root → n < 512 ^ levels_of c.tables → need c.tables n 1 ≤ free_frames c.free
    → Shares s (m ∷ []) c (map_page n m c)
map_page-shares s n root m c e none r l k = go (frame_of d.tables.tables 0 (n / 512)) refl
  where
    d : Changed
    d = link_all c.tables.top n c

    links : Trades (over s c.tables) c.free (over s (link_all c.tables.top n c).tables) (link_all c.tables.top n c).free
    links = link_all-trades s c.tables.top n c

    now : mapping_at (map_page n m c).tables.pages n ≡ Some m
    now = (mapping_takes_need n root m c r l k).pages n ∙ (let t : (n == n) ≡ true = grind (arith, nat_tests) in ap (λ b. cond b (Some m) (mapping_at c.tables.pages n)) t)

    go : (x : Option ℕ) → frame_of (link_all c.tables.top n c).tables.tables 0 (n / 512) ≡ x → Shares s (m ∷ []) c (map_page n m c)
    go None f =
        absurd (let same : (map_page n m c).tables.pages ≡ c.tables.pages = ap (λ x. (leaf_put n m x (link_all c.tables.top n c)).tables.pages) f ∙ link_all-pages c.tables.top n c in
        let z : None ≡ Some m = sym none ∙ sym (ap (λ ps. mapping_at ps n) same) ∙ now in let y : ⊥ = grind (arith, z) in y)
    go (Some t) f = subst (λ x. Shares s (m ∷ []) c (leaf_put n m x (link_all c.tables.top n c))) (sym f) (record {
      count = links.count;
      each = λ g. (let a = held_is g (over s (link_all c.tables.top n c).tables) in
          let b = held_is g (over s (leaf_put n m (Some t) (link_all c.tables.top n c)).tables) in
          let i = ap (λ fs. among g (map frame_of_page fs)) (page_more is_image_or_stack n m (link_all c.tables.top n c).tables.pages (grind (arith, nat_tests, e))) in
          let u = links.each g in
          omega (arith, a, b, i, u));
      more = λ g. page_in n m g (link_all c.tables.top n c).tables.pages e ∙ (let q = ap (λ (ps : List Mapped). among g (map frame_of_page ps)) links.shared in omega (arith, q));
      pages = page_count n m (link_all c.tables.top n c).tables.pages e ∙ (let q = ap (λ (ps : List Mapped). length ps) links.shared in omega (arith, q));
    })

pub map_pages-shares : (s : Space) (root : ℕ) (ms : List Mapping) (n : ℕ) (c : Changed) → 0x200000 ≤ n → n + length ms ≤ 0x1000000 → ((q : ℕ) → n ≤ q → q < n + length ms → mapping_at c.tables.pages q ≡ None)
    → root_of c.tables ≡ Some root → n + length ms ≤ 512 ^ levels_of c.tables → need c.tables n (length ms) ≤ free_frames c.free → Shares s ms c (map_pages n ms c)
map_pages-shares s root [] n c low high none r l k = record { count = refl; each = λ f. refl; more = λ f. omega arith; pages = omega arith }
map_pages-shares s root (m ∷ ms) n c low high none r l k =
    let d = map_page n m c in
    let first : need c.tables n 1 ≤ free_frames c.free = (let a = need_low c.tables.top n (length ms) c.tables.tables in omega (arith, a, k)) in
    let in_shared : is_shared n ≡ true = grind (arith, nat_tests, low, high) in
    let one = map_page-shares s n root m c in_shared (none n (omega arith) (omega arith)) r (omega (arith, l)) first in
    let is = mapping_takes_need n root m c r (omega (arith, l)) first in
    let split = need_splits n root (length ms) m c r (omega (arith, l)) first in
    let took = is.taken in
    let rest = map_pages-shares s root ms (n + 1) d (omega (arith, low)) (omega (arith, high))
    (λ q a b. is.pages q ∙ (let o : (n == q) ≡ false = grind (arith, nat_tests, a) in ap (λ t. cond t (Some m) (mapping_at c.tables.pages q)) o ∙ none q (omega (arith, a)) (omega (arith, b))))
    (is.root ∙ r) (ap_levels is.top) (omega (arith, split, took, k)) in
    record {
      count = rest.count ∙ one.count;
      each = λ f. rest.each f ∙ one.each f;
      more = λ f. (let a = rest.more f in let b = one.more f in omega (arith, a, b));
      pages = (let a = rest.pages in let b = one.pages in omega (arith, a, b));
    }
  where
    ap_levels : (map_page n m c).tables.top ≡ c.tables.top → n + 1 + length ms ≤ 512 ^ levels_of (map_page n m c).tables
    ap_levels e = subst (λ t. n + 1 + length ms ≤ 512 ^ suc t) (sym e) (omega (arith, l))
