-- A mapping takes the frames that are needed, and no more.
use Rattle.std.proofs.Common.{ℕ, zero, suc, ◌≡◌, ◌≢◌, ◌<◌, ◌≤◌, ◌==◌, ◌&&◌, ◌/◌, ◌-◌, Bool, true, false, cond, List, [], ◌∷◌, Option, Some, None, arith, refl, ap, ◌∙◌, ◌+◌, ◌⊎◌, inl, inr, subst, sym, ⊎_elim, length, set, position}
use Rattle.std.proofs.lemmas.Bool.Decides.{nat_tests}
use Rattle.std.proofs.lemmas.List.Sums.{sum_by-cons}
use Rattle.osc_sv39.specs.declared.entries.Mapping.{Mapping}
use Rattle.osc_sv39.specs.Walk.{piece}
use Rattle.osc_paging.specs.declared.TableFrame.{TableFrame}
use Rattle.osc_paging.specs.KeptTables.{root_of, levels_of, frame_of, mapping_at, lack, missing, need, need_below, pieces_over}
use Rattle.osc_paging.specs.TableChanges.{Changed, with_table, linked, link, link_all, leaf_put, map_page, map_pages}
use Rattle.osc_paging.specs.TableLaws.{free_frames, MapsPage, MapsPages, mapped_among}
use Rattle.osc_paging.proofs.TableLists.{mapping_at-with_page, frame_of-with_table}
use Rattle.osc_paging.proofs.Kept.{link-top}

free_frames-cons : (b : Bool) (free : List Bool) → free_frames (b ∷ free) ≡ cond b 1 0 + free_frames free
free_frames-cons b free = sum_by-cons (λ x. cond x 1 0) b free

-- a free frame is found while some are free, and one fewer is free then
position_takes : (free : List Bool) → 0 < free_frames free → (f : ℕ) × (position (λ b. b) free ≡ Some f) × (free_frames (set free f false) + 1 ≡ free_frames free)
position_takes [] l = absurd (omega arith)
position_takes (true ∷ free) l = (0, grind (arith, nat_tests), omega (arith, free_frames-cons true free, free_frames-cons false free))
position_takes (false ∷ free) l =
    let h = position_takes free (omega (arith, free_frames-cons false free)) in
    (suc h.0, grind (arith, nat_tests, h.1), omega (arith, h.2, free_frames-cons false free, free_frames-cons false (set free h.0 false)))

-- a table that is not below this level changes no need there
same_need : (t : TableFrame) (ts : List TableFrame) (l first count : ℕ) → l ≤ t.piece.level → need_below (with_table t ts) l first count ≡ need_below ts l first count
unfolding need_below missing
same_need t ts zero first count s = refl
same_need t ts (suc l) first count s =
    let other = same_need t ts l first count (omega arith) in
    let here = go (piece (suc l) first) (pieces_over (suc l) first count) in
    rw (other, here) refl
  where
    go : (from count : ℕ) → missing (with_table t ts) l from count ≡ missing ts l from count
    go from zero = refl
    go from (suc count) = grind (arith, nat_tests, go (from + 1) count, frame_of-with_table ts t l from)

-- after the link its table is there, the others stay, and the frames that it lacked are taken
pub record Linked (c d : Changed) (lack_of : ℕ) : Type 0 where
  pub count : free_frames d.free + lack_of ≡ free_frames c.free
  pub stays : (k m f : ℕ) → frame_of c.tables.tables k m ≡ Some f → frame_of d.tables.tables k m ≡ Some f

record LinkedOne (c d : Changed) (l n : ℕ) : Type 0 where
  linked : Linked c d (lack (frame_of c.tables.tables l n))
  there : frame_of d.tables.tables l n ≢ None
  same : (first count : ℕ) → need_below d.tables.tables l first count ≡ need_below c.tables.tables l first count

link-takes : (c : Changed) (l n parent : ℕ) → frame_of c.tables.tables (suc l) (n / 512) ≡ Some parent → lack (frame_of c.tables.tables l n) ≤ free_frames c.free → LinkedOne c (link l n c) l n
link-takes c l n parent e s = go (frame_of c.tables.tables l n) refl s
  where
    new : frame_of c.tables.tables l n ≡ None → (f : ℕ) × (position (λ b. b) c.free ≡ Some f) × (free_frames (set c.free f false) + 1 ≡ free_frames c.free) → LinkedOne c (linked l n None (frame_of c.tables.tables (suc l) (n / 512)) (position (λ b. b) c.free) c) l n
    new a h = rw (e, h.1) (record {
      linked = record { count = rw a h.2; stays = λ k m f d. grind (arith, nat_tests, a, d, frame_of-with_table) };
      there = grind (arith, nat_tests, a, frame_of-with_table);
      same = λ first count. same_need _ c.tables.tables l first count (omega arith);
    })

    go : (x : Option ℕ) → frame_of c.tables.tables l n ≡ x → lack x ≤ free_frames c.free → LinkedOne c (linked l n x (frame_of c.tables.tables (suc l) (n / 512)) (position (λ b. b) c.free) c) l n
    go (Some f) a m = record {
      linked = record { count = rw a (omega arith); stays = λ k m f d. d };
      there = λ d. cc;
      same = λ first count. refl;
    }
    go None a m = new a (position_takes c.free m)

-- a value that is there
some_of : {A : Type 0} (x : Option A) → x ≢ None → (y : A) × (x ≡ Some y)
some_of None h = absurd (h refl)
some_of (Some y) h = (y, refl)

pub need_one : (ts : List TableFrame) (l number : ℕ) → need_below ts (suc l) number 1 ≡ lack (frame_of ts l (piece (suc l) number)) + need_below ts l number 1
unfolding need_below missing
need_one ts l number =
    let here : number + 0 ≡ number = omega arith in
    let z : piece (suc l) number - piece (suc l) number + 1 ≡ 1 = omega arith in
    rw (here, z) (omega arith)

-- over one page
pub link_all-takes : (l number : ℕ) (c : Changed) (root : ℕ) → frame_of c.tables.tables l (piece (suc l) number) ≡ Some root → need_below c.tables.tables l number 1 ≤ free_frames c.free → Linked c (link_all l number c) (need_below c.tables.tables l number 1) × (frame_of (link_all l number c).tables.tables 0 (number / 512) ≢ None)
unfolding link_all need_below
link_all-takes zero number c root e s = (record { count = omega arith; stays = λ k m f d. d }, λ d. cc)
link_all-takes (suc l) number c root e s =
    let n = piece (suc l) number in
    let step = need_one c.tables.tables l number in
    let one : LinkedOne c (link l n c) l n = link-takes c l n root e (omega arith) in
    let there = some_of _ one.there in
    let count = one.linked.count in
    let same : need_below (link l n c).tables.tables l number 1 ≡ need_below c.tables.tables l number 1 = one.same number 1 in
    let on = link_all-takes l number (link l n c) there.0 there.1 (omega arith) in
    let count_on = on.0.count in
    (record { count = omega arith; stays = λ k m f d. on.0.stays k m f (one.linked.stays k m f d) }, on.1)

link-pages : (c : Changed) (l n : ℕ) (a b p : Option ℕ) → (linked l n a b p c).tables.pages ≡ c.tables.pages
link-pages c l n (Some f) b p = refl
link-pages c l n None None p = refl
link-pages c l n None (Some b) None = refl
link-pages c l n None (Some b) (Some p) = refl

pub link_all-pages : (l number : ℕ) (c : Changed) → (link_all l number c).tables.pages ≡ c.tables.pages
unfolding link_all
link_all-pages zero number c = refl
link_all-pages (suc l) number c = link_all-pages l number (link l (piece (suc l) number) c) ∙ link-pages c l (piece (suc l) number) _ _ _

-- ---- many pages
piece_step : (l n : ℕ) → (piece l (n + 1) ≡ piece l n) ⊎ (piece l (n + 1) ≡ piece l n + 1)
piece_step zero n = inr refl
piece_step (suc l) n = grind (arith, piece_step l n)

pub piece_mono : (l p q : ℕ) → p ≤ q → piece l p ≤ piece l q
piece_mono zero p q s = s
piece_mono (suc l) p q s = let h = piece_mono l p q s in omega arith

missing_same : (ts us : List TableFrame) (l from count : ℕ) → ((n : ℕ) → from ≤ n → frame_of us l n ≡ frame_of ts l n) → missing us l from count ≡ missing ts l from count
unfolding missing
missing_same ts us l from zero h = refl
missing_same ts us l from (suc count) h = let e = h from (omega arith) in let on = missing_same ts us l (from + 1) count (λ n s. h n (omega arith)) in rw (e, on) refl

-- us are ts with all tables over the page
pub record Grown (top number : ℕ) (ts us : List TableFrame) : Type 0 where
  pub there : (l : ℕ) → l < top → frame_of us l (piece (suc l) number) ≢ None
  pub same : (l n : ℕ) → l < top → n ≢ piece (suc l) number → frame_of us l n ≡ frame_of ts l n

lack_none : (x : Option ℕ) → x ≢ None → lack x ≡ 0
lack_none None h = absurd (h refl)
lack_none (Some f) h = refl

missing_split : (top number : ℕ) (ts us : List TableFrame) (l a b c : ℕ) → l < top → Grown top number ts us → a ≡ piece (suc l) number → (c ≡ a) ⊎ (c ≡ a + 1) → a ≤ b → c ≤ b → missing ts l a (b - a + 1) ≡ lack (frame_of ts l a) + missing us l c (b - c + 1)
unfolding missing
missing_split top number ts us l a b c s g e (inl d) m k =
    let e1 : b - a + 1 ≡ suc (b - a) = omega arith in
    let e2 : lack (frame_of us l a) ≡ 0 = lack_none _ (rw e (g.there l s)) in
    let e3 = missing_same ts us l (a + 1) (b - a) (λ n q. g.same l n s (omega arith)) in
    rw (d, e1) (omega arith)
missing_split top number ts us l a b c s g e (inr d) m k =
    let e1 : b - a + 1 ≡ suc (b - a) = omega arith in
    let e2 : b - (a + 1) + 1 ≡ b - a = omega arith in
    let e3 = missing_same ts us l (a + 1) (b - a) (λ n q. g.same l n s (omega arith)) in
    rw (d, e1, e2) (omega arith)

need_split : (top l number more : ℕ) (ts us : List TableFrame) → l ≤ top → Grown top number ts us → need_below ts l number (suc (suc more)) ≡ need_below ts l number 1 + need_below us l (number + 1) (suc more)
unfolding need_below
need_split top zero number more ts us s g = refl
need_split top (suc l) number more ts us s g =
    let last : number + suc more ≡ number + 1 + more = omega arith in
    let a = piece_mono (suc l) number (number + 1 + more) (omega arith) in
    let b = piece_mono (suc l) (number + 1) (number + 1 + more) (omega arith) in
    let e = missing_split top number ts us l (piece (suc l) number) (piece (suc l) (number + 1 + more)) (piece (suc l) (number + 1)) (omega arith) g refl (piece_step (suc l) number) a b in
    let on = need_split top l number more ts us (omega arith) g in
    let one = need_one ts l number in
    rw (last, on, e, one) (omega arith)

link-other : (c : Changed) (l n k m : ℕ) (a b p : Option ℕ) → ((l == k) && (n == m)) ≡ false → frame_of (linked l n a b p c).tables.tables k m ≡ frame_of c.tables.tables k m
link-other c l n k m (Some f) b p h = refl
link-other c l n k m None None p h = refl
link-other c l n k m None (Some b) None h = refl
link-other c l n k m None (Some b) (Some p) h = grind (arith, nat_tests, h, frame_of-with_table)

link_all-above : (l number : ℕ) (c : Changed) (k m : ℕ) → l ≤ k → frame_of (link_all l number c).tables.tables k m ≡ frame_of c.tables.tables k m
unfolding link_all
link_all-above zero number c k m s = refl
link_all-above (suc l) number c k m s = link_all-above l number (link l (piece (suc l) number) c) k m (omega arith) ∙ link-other c l (piece (suc l) number) k m _ _ _ (grind (arith, nat_tests))

pub link_all-grown : (l number : ℕ) (c : Changed) (root : ℕ) → frame_of c.tables.tables l (piece (suc l) number) ≡ Some root → need_below c.tables.tables l number 1 ≤ free_frames c.free → Grown l number c.tables.tables (link_all l number c).tables.tables
unfolding link_all
link_all-grown zero number c root e s = record { there = λ k l. absurd (omega arith); same = λ k n l. absurd (omega arith) }
link_all-grown (suc l) number c root e s =
    let n = piece (suc l) number in
    let step = need_one c.tables.tables l number in
    let one : LinkedOne c (link l n c) l n = link-takes c l n root e (omega arith) in
    let there = some_of _ one.there in
    let count = one.linked.count in
    let same : need_below (link l n c).tables.tables l number 1 ≡ need_below c.tables.tables l number 1 = one.same number 1 in
    let low : need_below (link l n c).tables.tables l number 1 ≤ free_frames (link l n c).free = omega arith in
    let on = link_all-grown l number (link l n c) there.0 there.1 low in
    let stays = link_all-takes l number (link l n c) there.0 there.1 low in
    record {
      there = λ k s2. ⊎_elim (λ (q : k < l). on.there k q) (λ (q : k ≡ l). subst (λ j. frame_of (link_all l number (link l n c)).tables.tables j (piece (suc j) number) ≢ None) (sym q) (λ d. (let h = stays.0.stays l n there.0 there.1 in cc))) (below k s2);
      same = λ k m s2 h. ⊎_elim (λ (q : k < l). on.same k m q h ∙ link-other c l n k m _ _ _ (grind (arith, nat_tests))) (λ (q : k ≡ l). link_all-above l number (link l n c) k m (omega arith) ∙ link-other c l n k m _ _ _ (apart k m q h)) (below k s2);
    }
  where
    below : (k : ℕ) → k < suc l → (k < l) ⊎ (k ≡ l)
    below k s = grind arith

    apart : (k m : ℕ) → k ≡ l → m ≢ piece (suc k) number → ((l == k) && (piece (suc l) number == m)) ≡ false
    apart k m q h = grind (arith, nat_tests, h, ap (λ j. piece (suc j) number) q)

pub link_all-top : (l number : ℕ) (c : Changed) → (link_all l number c).tables.top ≡ c.tables.top
unfolding link_all
link_all-top zero number c = refl
link_all-top (suc l) number c = link_all-top l number (link l (piece (suc l) number) c) ∙ link-top l (piece (suc l) number) c

put-top : (number : ℕ) (m : Mapping) (x : Option ℕ) (c : Changed) → (leaf_put number m x c).tables.top ≡ c.tables.top
put-top number m None c = refl
put-top number m (Some t) c = refl

-- the number of levels stays
pub map_page-top : (number : ℕ) (m : Mapping) (c : Changed) → (map_page number m c).tables.top ≡ c.tables.top
map_page-top number m c = put-top number m _ (link_all c.tables.top number c) ∙ link_all-top c.tables.top number c

pub put-tables : (number : ℕ) (m : Mapping) (x : Option ℕ) (c : Changed) → ((leaf_put number m x c).tables.tables ≡ c.tables.tables) × ((leaf_put number m x c).free ≡ c.free)
put-tables number m None c = (refl, refl)
put-tables number m (Some t) c = (refl, refl)

-- a mapping takes what it needs, and the page is mapped as asked
pub maps : (number root : ℕ) (m : Mapping) (c : Changed) → frame_of c.tables.tables c.tables.top (piece (suc c.tables.top) number) ≡ Some root → need c.tables number 1 ≤ free_frames c.free → MapsPage number m c (map_page number m c)
maps number root m c e s =
    let top = c.tables.top in
    let k = link_all-takes top number c root e s in
    let t = some_of _ k.1 in
    record {
      root = rw map_page-top (ap (λ ts. frame_of ts top 0) (put-tables number m (frame_of (link_all top number c).tables.tables 0 (number / 512)) (link_all top number c)).0 ∙ link_all-above top number c top 0 (omega arith));
      top = map_page-top number m c;
      taken = rw t.1 k.0.count;
      pages = λ q. rw t.1 (mapping_at-with_page _ number q m ∙ ap (λ ms. cond (number == q) (Some m) (mapping_at ms q)) (link_all-pages top number c));
    }

piece_top : (l p q : ℕ) → p ≤ q → piece l q ≡ 0 → piece l p ≡ 0
piece_top l p q s e = let h = piece_mono l p q s in omega arith

need_low : (l number more : ℕ) (ts : List TableFrame) → need_below ts l number 1 ≤ need_below ts l number (suc more)
unfolding need_below missing
need_low zero number more ts = omega arith
need_low (suc l) number more ts =
    let a = piece_mono (suc l) number (number + more) (omega arith) in
    let on = need_low l number more ts in
    let one = need_one ts l number in
    let e1 : piece (suc l) (number + more) - piece (suc l) number + 1 ≡ suc (piece (suc l) (number + more) - piece (suc l) number) = omega arith in
    rw (one, e1) (omega arith)

-- what the first page of many needs, and the others then
pub needs_apart : (number root more : ℕ) (m : Mapping) (c : Changed) → root_of c.tables ≡ Some root → piece (levels_of c.tables) (number + more) ≡ 0 → need c.tables number 1 ≤ free_frames c.free → need c.tables number (suc (suc more)) ≡ need c.tables number 1 + need (map_page number m c).tables (number + 1) (suc more)
needs_apart number root more m c e z low =
    let top = c.tables.top in
    let r : piece (suc top) number ≡ 0 = piece_top (suc top) number (number + more) (omega arith) z in
    let e2 : frame_of c.tables.tables top (piece (suc top) number) ≡ Some root = rw r e in
    let d = link_all top number c in
    let f : (map_page number m c).tables.tables ≡ d.tables.tables = (put-tables number m _ d).0 in
    let g : Grown top number c.tables.tables (map_page number m c).tables.tables = subst (Grown top number c.tables.tables) (sym f) (link_all-grown top number c root e2 low) in
    let same = map_page-top number m c in
    rw same (need_split top top number more c.tables.tables (map_page number m c).tables.tables (omega arith) g)

need_first : (number more : ℕ) (c : Changed) → need c.tables number (suc more) ≤ free_frames c.free → need c.tables number 1 ≤ free_frames c.free
need_first number more c s = let h = need_low c.tables.top number more c.tables.tables in omega arith

-- ascending pages take what they need together, one after another, and each is mapped as asked
pub record MapsAll (number : ℕ) (ms : List Mapping) (c d : Changed) : Type 0 where
  pub pages : MapsPages number ms c d
  pub taken : free_frames d.free + need c.tables number (length ms) ≡ free_frames c.free

among_one : (number q : ℕ) (m : Mapping) (was : Option Mapping) → cond (number == q) (Some m) was ≡ mapped_among number (m ∷ []) q was
among_one number q m was = ⊎_elim
    (λ (d : number ≡ q). (let z : q - number ≡ 0 = omega arith in rw z (grind (arith, nat_tests, d))))
    (λ (d : number ≢ q). grind (arith, nat_tests, d))
    (either number q)
  where
    either : (a b : ℕ) → (a ≡ b) ⊎ (a ≢ b)
    either a b = grind arith

among_more : (number q : ℕ) (m : Mapping) (ms : List Mapping) (was : Option Mapping) → mapped_among (number + 1) ms q (cond (number == q) (Some m) was) ≡ mapped_among number (m ∷ ms) q was
among_more number q m ms was = ⊎_elim
    (λ (d : q ≤ number). (let z : q - number ≡ 0 = omega arith in rw z (grind (arith, nat_tests, d))))
    (λ (d : number < q). (let z : q - number ≡ suc (q - (number + 1)) = omega arith in rw z (grind (arith, nat_tests, d))))
    (either number q)
  where
    either : (a b : ℕ) → (b ≤ a) ⊎ (a < b)
    either a b = grind arith

pub maps_all : (number root : ℕ) (m : Mapping) (ms : List Mapping) (c : Changed) → root_of c.tables ≡ Some root → piece (levels_of c.tables) (number + length ms) ≡ 0 → need c.tables number (suc (length ms)) ≤ free_frames c.free → MapsAll number (m ∷ ms) c (map_pages number (m ∷ ms) c)
maps_all number root m [] c e z s =
    let top = c.tables.top in
    let r : piece (suc top) number ≡ 0 = piece_top (suc top) number (number + 0) (omega arith) z in
    let one = maps number root m c (rw r e) s in
    record {
      pages = record { root = one.root; top = one.top; pages = λ q. one.pages q ∙ among_one number q m (mapping_at c.tables.pages q) };
      taken = one.taken;
    }
maps_all number root m (x ∷ ms) c e z s =
    let top = c.tables.top in
    let r : piece (suc top) number ≡ 0 = piece_top (suc top) number (number + suc (length ms)) (omega arith) z in
    let low = need_first number (suc (length ms)) c s in
    let one = maps number root m c (rw r e) low in
    let z1 : piece (suc top) (number + length ms) ≡ 0 = piece_top (suc top) (number + length ms) (number + suc (length ms)) (omega arith) z in
    let apart = needs_apart number root (length ms) m c e z1 low in
    let took = one.taken in
    let still : root_of (map_page number m c).tables ≡ Some root = one.root ∙ e in
    let z2 : piece (levels_of (map_page number m c).tables) (number + 1 + length ms) ≡ 0 = rw one.top (let q : number + 1 + length ms ≡ number + suc (length ms) = omega arith in rw q z) in
    let on = maps_all (number + 1) root x ms (map_page number m c) still z2 (omega arith) in
    let on_taken = on.taken in
    record {
      pages = record {
        root = on.pages.root ∙ one.root;
        top = on.pages.top ∙ one.top;
        pages = λ q. on.pages.pages q ∙ ap (mapped_among (number + 1) (x ∷ ms) q) (one.pages q) ∙ among_more number q m (x ∷ ms) (mapping_at c.tables.pages q);
      };
      taken = omega arith;
    }
