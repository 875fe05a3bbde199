-- Each change keeps what the lists of tables always are.
use Rattle.std.proofs.Common.{ℕ, zero, suc, ◌≡◌, ◌≢◌, ◌<◌, ◌≤◌, ◌+◌, ◌*◌, ◌^◌, ◌==◌, ltb, Bool, true, false, cond, List, [], ◌∷◌, ◌++◌, Option, Some, None, arith, refl, ap, sym, ◌∙◌, subst, add-one, drop-cons, drop, get_or, length, length-append, set, slice_get}
use Rattle.std.specs.Prelude.{map, slice_index}
use Rattle.std.proofs.lemmas.Bool.Decides.{nat_tests}
use Rattle.std.proofs.lemmas.List.{length-set}
use Rattle.std.proofs.lemmas.List.Sums.{sum_by-cons, count_by-le-length}
use Rattle.osc_frames.specs.Free.{IsTaken, free_count, least_free}
use Rattle.osc_sv39.specs.Walk.{is_canonical, number_of}
use Rattle.osc_sv39.specs.declared.entries.Mapping.{Mapping}
use Rattle.osc_paging.specs.declared.Piece.{Piece}
use Rattle.osc_paging.specs.declared.TableFrame.{TableFrame}
use Rattle.osc_paging.specs.declared.Mapped.{Mapped}
use Rattle.osc_paging.specs.KeptTables.{KeptTables, levels_of, mapping_at, mapping_of, frame_of, piece_of, is_piece}
use Rattle.osc_paging.specs.TableChanges.{with_table, without_table, with_page, without_page, frames_given, is_before, table_frame, renamed_page, renamed_table}
use Rattle.osc_paging.proofs.WordLists.{slice_get-set}
use Rattle.osc_paging.proofs.TableLists.{piece_of-with_table, piece_of-without_none, piece_of-push}
use Rattle.osc_paging.proofs.Kept.{length-frames_given}
use Rattle.osc_paging.proofs.TableLawProofs.{positive}
use Rattle.osc_paging.proofs.Copied.{renamed_none}
use Rattle.osc_tables.specs.Calls.{AllTaken, HasTaken, IsFresh}
use Rattle.osc_tables.specs.Inside.{AscendFrom, PagesBelow, IsTop, ComesBefore, InOrder, LieWithin, Differ, IsKept, kept}
use Rattle.osc_tables.proofs.TablePlaces.{order-with_table, order-without_table}

-- ---- pages
ascend_more : (low lower : ℕ) (ms : List Mapped) → AscendFrom low ms → lower ≤ low → AscendFrom lower ms
ascend_more low lower [] a s = tt
ascend_more low lower (m ∷ ms) a s = (omega (arith, a.0), a.1)

pub ascend-with_page : (low n : ℕ) (m : Mapping) (ms : List Mapped) → AscendFrom low ms → low ≤ n → mapping_at ms n ≡ None → AscendFrom low (with_page n m ms)
ascend-with_page low n m [] a s e = (s, tt)
ascend-with_page low n m (x ∷ ms) a s e = go (ltb x.number n) refl (x.number == n) refl (ascend-with_page (suc x.number) n m ms a.1)
  where
    go : (b : Bool) → ltb x.number n ≡ b → (d : Bool) → (x.number == n) ≡ d → (suc x.number ≤ n → mapping_at ms n ≡ None → AscendFrom (suc x.number) (with_page n m ms)) → AscendFrom low (with_page n m (x ∷ ms))
    go b f true g on = absurd (let h = rw g at e in cc)
    go true f false g on = rw f (a.0, on (grind (arith, nat_tests, f)) (rw g at e))
    go false f false g on = let above : n < x.number = grind (arith, nat_tests, f, g) in rw f (s, (above, a.1))

below-with_page : (high n : ℕ) (m : Mapping) (ms : List Mapped) → PagesBelow high ms → n < high → PagesBelow high (with_page n m ms)
below-with_page high n m [] a s = (s, tt)
below-with_page high n m (x ∷ ms) a s = go (ltb x.number n) (below-with_page high n m ms a.1 s)
  where
    go : (b : Bool) → PagesBelow high (with_page n m ms) → PagesBelow high (cond b (x ∷ with_page n m ms) ((record { number = n; mapping = m }) ∷ x ∷ ms))
    go true on = (a.0, on)
    go false on = (s, (a.0, a.1))

pub ascend-without_page : (low n : ℕ) (ms : List Mapped) → AscendFrom low ms → AscendFrom low (without_page n ms)
ascend-without_page low n [] a = tt
ascend-without_page low n (x ∷ ms) a = go (x.number == n) (ascend-without_page (suc x.number) n ms a.1)
  where
    go : (b : Bool) → AscendFrom (suc x.number) (without_page n ms) → AscendFrom low (cond b (without_page n ms) (x ∷ without_page n ms))
    go true on = ascend_more (suc x.number) low (without_page n ms) on (omega (arith, a.0))
    go false on = (a.0, on)

below-without_page : (high n : ℕ) (ms : List Mapped) → PagesBelow high ms → PagesBelow high (without_page n ms)
below-without_page high n [] a = tt
below-without_page high n (x ∷ ms) a = go (x.number == n) (below-without_page high n ms a.1)
  where
    go : (b : Bool) → PagesBelow high (without_page n ms) → PagesBelow high (cond b (without_page n ms) (x ∷ without_page n ms))
    go true on = on
    go false on = (a.0, on)

pub length-with_page : (n : ℕ) (m : Mapping) (ms : List Mapped) → length (with_page n m ms) ≡ length ms + 1
length-with_page n m [] = refl
length-with_page n m (x ∷ ms) = grind (arith, nat_tests, length-with_page n m ms)

pub length-without_page : (n : ℕ) (ms : List Mapped) → length (without_page n ms) ≤ length ms
length-without_page n [] = omega arith
length-without_page n (x ∷ ms) = grind (arith, nat_tests, length-without_page n ms)

-- ---- a table more
pub length-with_table : (t : TableFrame) (ts : List TableFrame) → length (with_table t ts) ≡ length ts + 1
length-with_table t [] = refl
length-with_table t (x ∷ ts) = go (is_before x.piece t.piece) (length-with_table t ts)
  where
    go : (b : Bool) → length (with_table t ts) ≡ length ts + 1 → length (cond b (x ∷ with_table t ts) (t ∷ x ∷ ts)) ≡ suc (length ts) + 1
    go true on = omega arith
    go false on = omega arith

pub lie-with_table : (levels : ℕ) (t : TableFrame) (ts : List TableFrame) → LieWithin levels ts → t.piece.level < levels → t.piece.number * 512 ^ suc t.piece.level < 512 ^ levels → LieWithin levels (with_table t ts)
lie-with_table levels t [] w s r = (s, r, tt)
lie-with_table levels t (x ∷ ts) w s r = go (is_before x.piece t.piece) (lie-with_table levels t ts w.2 s r)
  where
    go : (b : Bool) → LieWithin levels (with_table t ts) → LieWithin levels (cond b (x ∷ with_table t ts) (t ∷ x ∷ ts))
    go true on = (w.0, w.1, on)
    go false on = (s, r, (w.0, w.1, w.2))

pub differ-with_table : (t : TableFrame) (ts : List TableFrame) → Differ ts → piece_of ts t.frame ≡ None → Differ (with_table t ts)
differ-with_table t [] d e = (refl, tt)
differ-with_table t (x ∷ ts) d e = go (is_before x.piece t.piece) (x.frame == t.frame) refl (differ-with_table t ts d.1)
  where
    other : (x.frame == t.frame) ≡ false → (t.frame == x.frame) ≡ false
    other f = grind (arith, nat_tests, f)

    go : (b c : Bool) → (x.frame == t.frame) ≡ c → (piece_of ts t.frame ≡ None → Differ (with_table t ts)) → Differ (cond b (x ∷ with_table t ts) (t ∷ x ∷ ts))
    go b true f on = absurd (let h = rw f at e in cc)
    go true false f on =
        let none : piece_of ts t.frame ≡ None = rw f at e in
        (rw (piece_of-with_table ts t x.frame none, other f) d.0, on none)
    go false false f on = (e, (d.0, d.1))

-- ---- a table less
pub lie-without_table : (levels l n : ℕ) (ts : List TableFrame) → LieWithin levels ts → LieWithin levels (without_table l n ts)
lie-without_table levels l n [] w = tt
lie-without_table levels l n (t ∷ ts) w = go (is_piece t.piece l n) (lie-without_table levels l n ts w.2)
  where
    go : (b : Bool) → LieWithin levels (without_table l n ts) → LieWithin levels (cond b (without_table l n ts) (t ∷ without_table l n ts))
    go true on = on
    go false on = (w.0, w.1, on)

pub differ-without_table : (l n : ℕ) (ts : List TableFrame) → Differ ts → Differ (without_table l n ts)
differ-without_table l n [] d = tt
differ-without_table l n (t ∷ ts) d = go (is_piece t.piece l n) (differ-without_table l n ts d.1)
  where
    go : (b : Bool) → Differ (without_table l n ts) → Differ (cond b (without_table l n ts) (t ∷ without_table l n ts))
    go true on = on
    go false on = (piece_of-without_none ts l n t.frame d.0, on)

length-without_le : (l n : ℕ) (ts : List TableFrame) → length (without_table l n ts) ≤ length ts
length-without_le l n [] = omega arith
length-without_le l n (t ∷ ts) = go (is_piece t.piece l n) (length-without_le l n ts)
  where
    go : (b : Bool) → length (without_table l n ts) ≤ length ts → length (cond b (without_table l n ts) (t ∷ without_table l n ts)) ≤ suc (length ts)
    go true on = omega arith
    go false on = omega arith

pub length-without_table : (l n f : ℕ) (ts : List TableFrame) → frame_of ts l n ≡ Some f → length (without_table l n ts) + 1 ≤ length ts
length-without_table l n f [] e = cc
length-without_table l n f (t ∷ ts) e = go (is_piece t.piece l n) refl (length-without_table l n f ts)
  where
    go : (b : Bool) → is_piece t.piece l n ≡ b → (frame_of ts l n ≡ Some f → length (without_table l n ts) + 1 ≤ length ts) → length (cond b (without_table l n ts) (t ∷ without_table l n ts)) + 1 ≤ suc (length ts)
    go true g on = omega (arith, length-without_le l n ts)
    go false g on = omega (arith, on (rw g at e))

pub lies_at : (levels l n f : ℕ) (ts : List TableFrame) → LieWithin levels ts → frame_of ts l n ≡ Some f → (l < levels) × (n * 512 ^ suc l < 512 ^ levels)
lies_at levels l n f [] w e = cc
lies_at levels l n f (t ∷ ts) w e = go (is_piece t.piece l n) refl (lies_at levels l n f ts w.2)
  where
    same : is_piece t.piece l n ≡ true → (t.piece.level ≡ l) × (t.piece.number ≡ n)
    same g = grind (arith, nat_tests, g)

    go : (b : Bool) → is_piece t.piece l n ≡ b → (frame_of ts l n ≡ Some f → (l < levels) × (n * 512 ^ suc l < 512 ^ levels)) → (l < levels) × (n * 512 ^ suc l < 512 ^ levels)
    go true g on = let s = same g in (rw s.0 at w.0, rw (s.0, s.1) at w.1)
    go false g on = on (rw g at e)

found_frame : (l n f : ℕ) (ts : List TableFrame) → frame_of ts l n ≡ Some f → piece_of ts f ≢ None
found_frame l n f [] e = cc
found_frame l n f (t ∷ ts) e = go (is_piece t.piece l n) refl (t.frame == f) refl (found_frame l n f ts)
  where
    go : (b : Bool) → is_piece t.piece l n ≡ b → (c : Bool) → (t.frame == f) ≡ c → (frame_of ts l n ≡ Some f → piece_of ts f ≢ None) → piece_of (t ∷ ts) f ≢ None
    go b g true h on = λ d. (let k = rw h at d in cc)
    go true g false h on = absurd (let k = rw g at e in grind (arith, nat_tests, h, k))
    go false g false h on = λ d. on (rw g at e) (rw h at d)

-- the frame of the table that goes is no table any more
pub frame_gone : (l n f : ℕ) (ts : List TableFrame) → Differ ts → frame_of ts l n ≡ Some f → piece_of (without_table l n ts) f ≡ None
frame_gone l n f [] d e = cc
frame_gone l n f (t ∷ ts) d e = go (is_piece t.piece l n) refl (frame_gone l n f ts d.1)
  where
    go : (b : Bool) → is_piece t.piece l n ≡ b → (frame_of ts l n ≡ Some f → piece_of (without_table l n ts) f ≡ None) → piece_of (cond b (without_table l n ts) (t ∷ without_table l n ts)) f ≡ None
    go true g on =
        let here : Some t.frame ≡ Some f = rw g at e in
        let same : t.frame ≡ f = cc in
        piece_of-without_none ts l n f (subst (λ x. piece_of ts x ≡ None) same d.0)
    go false g on =
        let later : frame_of ts l n ≡ Some f = rw g at e in
        let other : (t.frame == f) ≡ false = different (t.frame == f) refl later in
        rw other (on later)
      where
        different : (b : Bool) → (t.frame == f) ≡ b → frame_of ts l n ≡ Some f → b ≡ false
        different false h later = refl
        different true h later = absurd (found_frame l n f ts later (let same : t.frame ≡ f = grind (arith, nat_tests, h) in subst (λ x. piece_of ts x ≡ None) same d.0))

-- ---- frames that are taken
free_count-cons : (b : Bool) (free : List Bool) → free_count (b ∷ free) ≡ cond b 1 0 + free_count free
free_count-cons b free = sum_by-cons (λ x. cond x 1 0) b free

free_count-given : (free : List Bool) (f : ℕ) → IsTaken free f → free_count (set free f true) ≡ free_count free + 1
free_count-given [] f e = cc
free_count-given (b ∷ free) zero e =
    let d : b ≡ false = cc in
    rw d (omega (arith, free_count-cons true free, free_count-cons false free))
free_count-given (b ∷ free) (suc f) e = omega (arith, free_count-given free f e, free_count-cons b free, free_count-cons b (set free f true))

-- the other tables are still taken when one is given back
pub still_taken : (t : TableFrame) (ts : List TableFrame) (free : List Bool) → AllTaken (t ∷ ts) free → piece_of ts t.frame ≡ None → AllTaken ts (set free t.frame true)
still_taken t ts free all none f p e =
    let other : (t.frame == f) ≡ false = different (t.frame == f) refl in
    let was : IsTaken free f = all f p (rw other e) in
    let apart : (f == t.frame) ≡ false = grind (arith, nat_tests, other) in
    rw (slice_get-set free t.frame f true, apart) was
  where
    different : (b : Bool) → (t.frame == f) ≡ b → b ≡ false
    different false h = refl
    different true h = absurd (let same : t.frame ≡ f = grind (arith, nat_tests, h) in let d = rw same at none in cc)

pub first_taken : (t : TableFrame) (ts : List TableFrame) (free : List Bool) → AllTaken (t ∷ ts) free → IsTaken free t.frame
first_taken t ts free all = let same : (t.frame == t.frame) ≡ true = grind (arith, nat_tests) in all t.frame t.piece (rw same refl)

given_count : (ts : List TableFrame) (free : List Bool) → Differ ts → AllTaken ts free → free_count (frames_given ts free) ≡ free_count free + length ts
given_count [] free d all = omega arith
given_count (t ∷ ts) free d all =
    let on = given_count ts (set free t.frame true) d.1 (still_taken t ts free all d.0) in
    let one = free_count-given free t.frame (first_taken t ts free all) in
    omega arith

-- frames that are no tables stay as they are
given_other : (ts : List TableFrame) (free : List Bool) (f : ℕ) → piece_of ts f ≡ None → slice_get (frames_given ts free) f ≡ slice_get free f
given_other [] free f h = refl
given_other (t ∷ ts) free f h = grind (arith, nat_tests, h, given_other ts (set free t.frame true) f, slice_get-set free t.frame f true)

-- tables and leaves aside are at most as many as the frames that are not free
pub fewer_than_frames : (top : ℕ) (pages : List Mapped) (tables aside : List TableFrame) (room count : ℕ) (free : List Bool) → IsKept top pages tables aside room count → AllTaken tables free → AllTaken aside free → length tables + length aside + free_count free ≤ length free
fewer_than_frames top pages tables aside room count free k all out =
    let one = given_count tables free k.tables_differ all in
    let two = given_count aside (frames_given tables free) k.aside_differ (λ f p e. rw (given_other tables free f (k.apart f p e)) (out f p e)) in
    let most = count_by-le-length (λ x. x) (frames_given aside (frames_given tables free)) in
    let long = length-frames_given aside (frames_given tables free) ∙ length-frames_given tables free in
    omega arith

position_taken : (free : List Bool) (f : ℕ) → least_free free ≡ Some f → (slice_get free f ≡ Some true) × (0 < free_count free)
position_taken [] f e = cc
position_taken (true ∷ free) f e =
    let d : f ≡ 0 = grind (arith, nat_tests, e) in
    (rw d refl, omega (arith, free_count-cons true free))
position_taken (false ∷ free) zero e = absurd (let h = rest (least_free free) e in h)
  where
    rest : (x : Option ℕ) → least_free (false ∷ free) ≡ Some 0 → ⊥
    rest x e = grind (arith, nat_tests, e)
position_taken (false ∷ free) (suc f) e =
    let d : least_free free ≡ Some f = grind (arith, nat_tests, e) in
    let on = position_taken free f d in
    (on.0, omega (arith, on.1, free_count-cons false free))

-- a free frame is no table
free_is_none : (ts : List TableFrame) (free : List Bool) (f : ℕ) → AllTaken ts free → slice_get free f ≡ Some true → piece_of ts f ≡ None
free_is_none ts free f all e = go (piece_of ts f) (λ p. all f p)
  where
    go : (x : Option Piece) → ((p : Piece) → x ≡ Some p → slice_get free f ≡ Some false) → x ≡ None
    go None h = refl
    go (Some p) h = let d = h p refl in cc

pub least_is_fresh : (top : ℕ) (pages : List Mapped) (tables aside : List TableFrame) (room count frame : ℕ) (free : List Bool) → IsKept top pages tables aside room count → HasTaken (kept top pages tables aside room count) free → least_free free ≡ Some frame → IsFresh (kept top pages tables aside room count) frame
least_is_fresh top pages tables aside room count frame free k h e =
    let p = position_taken free frame e in
    let fewer = fewer_than_frames top pages tables aside room count free k h.tables h.aside in
    let some = p.1 in
    record {
      no_table = free_is_none tables free frame h.tables p.0;
      not_aside = free_is_none aside free frame h.aside p.0;
      fits = omega (arith, h.count);
    }

pub kept-with_table : (top : ℕ) (pages : List Mapped) (tables aside : List TableFrame) (room count : ℕ) (t : TableFrame) → IsKept top pages tables aside room count → IsFresh (kept top pages tables aside room count) t.frame → t.piece.level < suc top → t.piece.number * 512 ^ suc t.piece.level < 512 ^ suc top → frame_of tables t.piece.level t.piece.number ≡ None → IsKept top pages (with_table t tables) aside room count
kept-with_table top pages tables aside room count t k f s r none = record {
  range = k.range;
  pages_fit = k.pages_fit;
  tables_fit = let long = length-with_table t tables in omega (arith, f.fits);
  ascend = k.ascend;
  pages_lie = k.pages_lie;
  tables_lie = lie-with_table (suc top) t tables k.tables_lie s r;
  tables_order = order-with_table t tables k.tables_order none;
  aside_lie = k.aside_lie;
  tables_differ = differ-with_table t tables k.tables_differ f.no_table;
  aside_differ = k.aside_differ;
  apart = λ g p e. grind (arith, nat_tests, piece_of-with_table tables t g f.no_table, k.apart g p e, e, f.not_aside);
}

pub taken-with_table : (top : ℕ) (pages : List Mapped) (tables aside : List TableFrame) (room count : ℕ) (t : TableFrame) (free : List Bool) → HasTaken (kept top pages tables aside room count) free → IsFresh (kept top pages tables aside room count) t.frame → least_free free ≡ Some t.frame → HasTaken (kept top pages (with_table t tables) aside room count) (set free t.frame false)
taken-with_table top pages tables aside room count t free h f e =
    let p = (position_taken free t.frame e).0 in
    record {
      count = length-set free t.frame false ∙ h.count;
      tables = λ g q d. grind (arith, nat_tests, piece_of-with_table tables t g f.no_table, h.tables g q, d, slice_get-set free t.frame g false, p);
      aside = λ g q d. grind (arith, nat_tests, h.aside g q, d, slice_get-set free t.frame g false, p);
    }

-- ---- pages that are mapped and unmapped
pub unmapped_at : (t : KeptTables) (page : ℕ) → is_canonical (levels_of t) page ≡ true → mapping_of t page ≡ None → mapping_at t.pages (number_of (levels_of t) page) ≡ None
unmapped_at t page e h = rw e at h

pub kept-with_page : (top : ℕ) (pages : List Mapped) (tables aside : List TableFrame) (room count n : ℕ) (m : Mapping) → IsKept top pages tables aside room count → length pages < room → n < 512 ^ suc top → mapping_at pages n ≡ None → IsKept top (with_page n m pages) tables aside room count
kept-with_page top pages tables aside room count n m k fits small none = record {
  range = k.range;
  pages_fit = let long = length-with_page n m pages in omega arith;
  tables_fit = k.tables_fit;
  ascend = ascend-with_page 0 n m pages k.ascend (omega arith) none;
  pages_lie = below-with_page (512 ^ suc top) n m pages k.pages_lie small;
  tables_lie = k.tables_lie;
  tables_order = k.tables_order;
  aside_lie = k.aside_lie;
  tables_differ = k.tables_differ;
  aside_differ = k.aside_differ;
  apart = k.apart;
}

pub kept-without_page : (top : ℕ) (pages : List Mapped) (tables aside : List TableFrame) (room count n : ℕ) → IsKept top pages tables aside room count → IsKept top (without_page n pages) tables aside room count
kept-without_page top pages tables aside room count n k = record {
  range = k.range;
  pages_fit = let short = length-without_page n pages in let was = k.pages_fit in omega arith;
  tables_fit = k.tables_fit;
  ascend = ascend-without_page 0 n pages k.ascend;
  pages_lie = below-without_page (512 ^ suc top) n pages k.pages_lie;
  tables_lie = k.tables_lie;
  tables_order = k.tables_order;
  aside_lie = k.aside_lie;
  tables_differ = k.tables_differ;
  aside_differ = k.aside_differ;
  apart = k.apart;
}

pub same_taken : (t u : KeptTables) (free : List Bool) → HasTaken t free → t.count ≡ u.count → t.tables ≡ u.tables → t.aside ≡ u.aside → HasTaken u free
same_taken t u free h e f g = record { count = h.count ∙ e; tables = rw f at h.tables; aside = rw g at h.aside }

-- ---- a leaf that is set aside
pub kept-set_aside : (top : ℕ) (pages : List Mapped) (tables aside : List TableFrame) (room count n f : ℕ) → IsKept top pages tables aside room count → frame_of tables 0 n ≡ Some f → IsKept top pages (without_table 0 n tables) (aside ++ table_frame 0 n f ∷ []) room count
kept-set_aside top pages tables aside room count n f k e = record {
  range = k.range;
  pages_fit = k.pages_fit;
  tables_fit =
      let fewer = length-without_table 0 n f tables e in
      let was = k.tables_fit in
      let long = length-append aside (table_frame 0 n f ∷ []) in
      omega arith;
  ascend = k.ascend;
  pages_lie = k.pages_lie;
  tables_lie = lie-without_table (suc top) 0 n tables k.tables_lie;
  tables_order = order-without_table 0 n tables k.tables_order;
  aside_lie = let w = lies_at (suc top) 0 n f tables k.tables_lie e in lie_push (table_frame 0 n f) aside k.aside_lie w.0 w.1;
  tables_differ = differ-without_table 0 n tables k.tables_differ;
  aside_differ = differ_push (table_frame 0 n f) aside k.aside_differ (absent (piece_of aside f) refl);
  apart = λ g p d. apart g p (piece_of aside g) refl d;
}
  where
    absent : (x : Option Piece) → piece_of aside f ≡ x → x ≡ None
    absent None d = refl
    absent (Some p) d = absurd (found_frame 0 n f tables e (k.apart f p d))

    lie_push : (t : TableFrame) (ts : List TableFrame) → LieWithin (suc top) ts → t.piece.level < suc top → t.piece.number * 512 ^ suc t.piece.level < 512 ^ suc top → LieWithin (suc top) (ts ++ t ∷ [])
    lie_push t [] w s r = (s, r, tt)
    lie_push t (x ∷ ts) w s r = (w.0, w.1, lie_push t ts w.2 s r)

    differ_push : (t : TableFrame) (ts : List TableFrame) → Differ ts → piece_of ts t.frame ≡ None → Differ (ts ++ t ∷ [])
    differ_push t [] d e = (refl, tt)
    differ_push t (x ∷ ts) d e = pick (x.frame == t.frame) refl e (differ_push t ts d.1)
      where
        pick : (b : Bool) → (x.frame == t.frame) ≡ b → cond b (Some x.piece) (piece_of ts t.frame) ≡ None → (piece_of ts t.frame ≡ None → Differ (ts ++ t ∷ [])) → Differ (x ∷ (ts ++ t ∷ []))
        pick true h e on = cc
        pick false h e on =
            let other : (t.frame == x.frame) ≡ false = grind (arith, nat_tests, h) in
            (rw (piece_of-push ts t x.frame, d.0, other) refl, on e)

    apart : (g : ℕ) (p : Piece) (x : Option Piece) → piece_of aside g ≡ x → piece_of (aside ++ table_frame 0 n f ∷ []) g ≡ Some p → piece_of (without_table 0 n tables) g ≡ None
    apart g p (Some q) d h = piece_of-without_none tables 0 n g (k.apart g q d)
    apart g p None d h = same (f == g) refl (rw (piece_of-push aside (table_frame 0 n f) g, d) at h)
      where
        same : (b : Bool) → (f == g) ≡ b → cond b (Some (record { level = 0; number = n })) None ≡ Some p → piece_of (without_table 0 n tables) g ≡ None
        same false b h = cc
        same true b h = let e2 : f ≡ g = grind (arith, nat_tests, b) in subst (λ y. piece_of (without_table 0 n tables) y ≡ None) e2 (frame_gone 0 n f tables k.tables_differ e)

-- ---- frames that are given back
pub kept-no_aside : (top : ℕ) (pages : List Mapped) (tables aside : List TableFrame) (room count : ℕ) → IsKept top pages tables aside room count → IsKept top pages tables [] room count
kept-no_aside top pages tables aside room count k = record {
  range = k.range;
  pages_fit = k.pages_fit;
  tables_fit = let was = k.tables_fit in omega arith;
  ascend = k.ascend;
  pages_lie = k.pages_lie;
  tables_lie = k.tables_lie;
  tables_order = k.tables_order;
  aside_lie = tt;
  tables_differ = k.tables_differ;
  aside_differ = tt;
  apart = λ f p e. cc;
}

pub taken-no_aside : (top : ℕ) (pages : List Mapped) (tables aside : List TableFrame) (room count : ℕ) (free : List Bool) → IsKept top pages tables aside room count → HasTaken (kept top pages tables aside room count) free → HasTaken (kept top pages tables [] room count) (frames_given aside free)
taken-no_aside top pages tables aside room count free k h = record {
  count = length-frames_given aside free ∙ h.count;
  tables = λ f p e. rw (given_other aside free f (none f p e (piece_of aside f) refl)) (h.tables f p e);
  aside = λ f p e. cc;
}
  where
    none : (f : ℕ) (p : Piece) → piece_of tables f ≡ Some p → (x : Option Piece) → piece_of aside f ≡ x → x ≡ None
    none f p e None d = refl
    none f p e (Some q) d = let h = k.apart f q d in cc

pub kept-nothing : (top room count : ℕ) → IsTop top → IsKept top [] [] [] room count
kept-nothing top room count range = record {
  range = range;
  pages_fit = omega arith;
  tables_fit = omega arith;
  ascend = tt;
  pages_lie = tt;
  tables_lie = tt;
  tables_order = tt;
  aside_lie = tt;
  tables_differ = tt;
  aside_differ = tt;
  apart = λ f p e. cc;
}

pub kept-root : (top room count root : ℕ) → IsTop top → root < count → IsKept top [] (table_frame top 0 root ∷ []) [] room count
kept-root top room count root range s = record {
  range = range;
  pages_fit = omega arith;
  tables_fit = omega arith;
  ascend = tt;
  pages_lie = tt;
  tables_lie = (omega arith, let h = positive (suc top) in omega arith, tt);
  tables_order = (tt, tt);
  aside_lie = tt;
  tables_differ = (refl, tt);
  aside_differ = tt;
  apart = λ f p e. cc;
}

abbrev pub no_table : TableFrame
no_table = record { piece = record { level = 0; number = 0 }; frame = 0 }

-- one of the tables from a place on gives its frame back
pub record GivesOne (ts : List TableFrame) (i : ℕ) (free : List Bool) (t : TableFrame) : Type 0 where
  pub first : IsTaken free t.frame
  pub left : frames_given (drop (i + 1) ts) (set free t.frame true) ≡ frames_given (drop i ts) free
  pub differ : Differ (drop (i + 1) ts)
  pub taken : AllTaken (drop (i + 1) ts) (set free t.frame true)

pub gives_one : (ts : List TableFrame) (i : ℕ) (free : List Bool) (d : TableFrame) → i < length ts → Differ (drop i ts) → AllTaken (drop i ts) free → GivesOne ts i free (get_or ts i d)
gives_one ts i free d s differ taken =
    let cons : drop i ts ≡ get_or ts i d ∷ drop (suc i) ts = drop-cons ts i d s in
    let apart = rw cons at differ in
    let all = rw cons at taken in
    record {
      first = first_taken (get_or ts i d) (drop (suc i) ts) free all;
      left = rw (add-one, cons) refl;
      differ = rw add-one apart.1;
      taken = rw add-one (still_taken (get_or ts i d) (drop (suc i) ts) free all apart.0);
    }

-- ---- a copy under new names
renamed_differ : (names : List ℕ) (ts : List TableFrame) → Differ ts → ((f g : ℕ) → piece_of ts f ≢ None → piece_of ts g ≢ None → slice_index names f ≡ slice_index names g → f ≡ g) → Differ (map (renamed_table names) ts)
renamed_differ names [] d h = tt
renamed_differ names (t ∷ ts) d h = (
  renamed_none names ts (slice_index names t.frame) (λ g some same. alone g some (h g t.frame (later g some (t.frame == g)) there same)),
  renamed_differ names ts d.1 (λ f g a b. h f g (later f a (t.frame == f)) (later g b (t.frame == g))),
)
  where
    there : piece_of (t ∷ ts) t.frame ≢ None
    there = let same : (t.frame == t.frame) ≡ true = grind (arith, nat_tests) in rw same (λ e. cc)

    later : (g : ℕ) → piece_of ts g ≢ None → (b : Bool) → cond b (Some t.piece) (piece_of ts g) ≢ None
    later g d true = λ e. cc
    later g d false = d

    alone : (g : ℕ) → piece_of ts g ≢ None → g ≡ t.frame → ⊥
    alone g some same = some (subst (λ x. piece_of ts x ≡ None) (sym same) d.0)

renamed_lie : (top : ℕ) (names : List ℕ) (ts : List TableFrame) → LieWithin (suc top) ts → LieWithin (suc top) (map (renamed_table names) ts)
renamed_lie top names [] w = tt
renamed_lie top names (t ∷ ts) w = (w.0, w.1, renamed_lie top names ts w.2)

renamed_before : (names : List ℕ) (p : Piece) (ts : List TableFrame) → ComesBefore p ts → ComesBefore p (map (renamed_table names) ts)
renamed_before names p [] a = tt
renamed_before names p (t ∷ ts) a = (a.0, renamed_before names p ts a.1)

renamed_order : (names : List ℕ) (ts : List TableFrame) → InOrder ts → InOrder (map (renamed_table names) ts)
renamed_order names [] o = tt
renamed_order names (t ∷ ts) o = (renamed_before names t.piece ts o.0, renamed_order names ts o.1)

renamed_ascend : (names : List ℕ) (low : ℕ) (ms : List Mapped) → AscendFrom low ms → AscendFrom low (map (renamed_page names) ms)
renamed_ascend names low [] a = tt
renamed_ascend names low (m ∷ ms) a = (a.0, renamed_ascend names (suc m.number) ms a.1)

renamed_below : (names : List ℕ) (high : ℕ) (ms : List Mapped) → PagesBelow high ms → PagesBelow high (map (renamed_page names) ms)
renamed_below names high [] a = tt
renamed_below names high (m ∷ ms) a = (a.0, renamed_below names high ms a.1)

length-renamed : {X : Type 0} (f : X → X) (xs : List X) → length (map f xs) ≡ length xs
length-renamed f [] = refl
length-renamed f (x ∷ xs) = ap suc (length-renamed f xs)

pub kept-renamed : (top : ℕ) (pages : List Mapped) (tables aside : List TableFrame) (room count : ℕ) (names : List ℕ) → IsKept top pages tables aside room count → ((f g : ℕ) → piece_of tables f ≢ None → piece_of tables g ≢ None → slice_index names f ≡ slice_index names g → f ≡ g) → IsKept top (map (renamed_page names) pages) (map (renamed_table names) tables) [] room count
kept-renamed top pages tables aside room count names k h = record {
  range = k.range;
  pages_fit = let long = length-renamed (renamed_page names) pages in let was = k.pages_fit in omega arith;
  tables_fit = let long = length-renamed (renamed_table names) tables in let was = k.tables_fit in omega arith;
  ascend = renamed_ascend names 0 pages k.ascend;
  pages_lie = renamed_below names (512 ^ suc top) pages k.pages_lie;
  tables_lie = renamed_lie top names tables k.tables_lie;
  tables_order = renamed_order names tables k.tables_order;
  aside_lie = tt;
  tables_differ = renamed_differ names tables k.tables_differ h;
  aside_differ = tt;
  apart = λ f p e. cc;
}

-- ---- what is taken after a leaf was set aside, and after a page was unmapped
taken_any : (ts : List TableFrame) (free : List Bool) (f : ℕ) → AllTaken ts free → piece_of ts f ≢ None → IsTaken free f
taken_any ts free f all h = go (piece_of ts f) (all f) h
  where
    go : (x : Option Piece) → ((p : Piece) → x ≡ Some p → IsTaken free f) → x ≢ None → IsTaken free f
    go None a h = absurd (h refl)
    go (Some p) a h = a p refl

pub taken-set_aside : (t : KeptTables) (free : List Bool) (n f : ℕ) → HasTaken t free → frame_of t.tables 0 n ≡ Some f → HasTaken (record t { tables = without_table 0 n t.tables; aside = t.aside ++ table_frame 0 n f ∷ [] }) free
taken-set_aside t free n f h e = record {
  count = h.count;
  tables = λ g p d. taken_any t.tables free g h.tables (λ none. (let gone = piece_of-without_none t.tables 0 n g none in cc));
  aside = λ g p d. aside g p (piece_of t.aside g) refl d;
}
  where
    aside : (g : ℕ) (p : Piece) (x : Option Piece) → piece_of t.aside g ≡ x → piece_of (t.aside ++ table_frame 0 n f ∷ []) g ≡ Some p → IsTaken free g
    aside g p (Some q) d k = h.aside g q d
    aside g p None d k = same (f == g) refl (rw (piece_of-push t.aside (table_frame 0 n f) g, d) at k)
      where
        same : (b : Bool) → (f == g) ≡ b → cond b (Some (record { level = 0; number = n })) None ≡ Some p → IsTaken free g
        same false b k = cc
        same true b k = let e2 : f ≡ g = grind (arith, nat_tests, b) in subst (λ y. IsTaken free y) e2 (taken_any t.tables free f h.tables (found_frame 0 n f t.tables e))

pub taken-pages : (t : KeptTables) (free : List Bool) (pages : List Mapped) → HasTaken t free → HasTaken (record t { pages = pages }) free
taken-pages t free pages h = record { count = h.count; tables = h.tables; aside = h.aside }
