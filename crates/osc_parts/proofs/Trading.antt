-- What each change of a process's memory does to its frames: it takes free ones and gives its own.
use Rattle.std.proofs.Common.{ℕ, zero, suc, ◌+◌, ◌/◌, ◌≡◌, ◌<◌, ◌≤◌, Bool, true, false, Option, Some, None, List, [], ◌∷◌, ◌++◌, length, map, position, slice_get, arith, refl, ap, ◌∙◌}
use Rattle.std.specs.List.{range_with_len}
use Rattle.std.proofs.lemmas.Bool.Decides.{nat_tests}
use Rattle.std.proofs.lemmas.List.{map-append}
use Rattle.osc_word.specs.AddressMap.{is_image_or_stack, is_shared, first_shadow_page}
use Rattle.osc_sv39.specs.declared.entries.Mapping.{Mapping}
use Rattle.osc_sv39.specs.Walk.{piece}
use Rattle.osc_slot.specs.declared.HeapPage.{HeapPage}
use Rattle.osc_slot.specs.Heap.{Backing, back_by, back}
use Rattle.osc_slot.proofs.Backing.{length-set}
use Rattle.osc_paging.specs.declared.TableFrame.{TableFrame}
use Rattle.osc_paging.specs.declared.Mapped.{Mapped}
use Rattle.osc_paging.specs.KeptTables.{KeptTables, frame_of}
use Rattle.osc_paging.specs.TableChanges.{Changed, linked, link, link_all, leaf_put, map_page, map_pages, leaf_cleared, unmap_page, unlinked, reclaim, table_frame, with_page, without_page}
use Rattle.osc_paging.specs.Agree.{Apart}
use Rattle.osc_paging.proofs.Kept.{position_passes}
use Rattle.osc_paging.proofs.TableLists.{apart-without_table}
use Rattle.osc_space.specs.Space.{Space}
use Rattle.osc_space.specs.Fork.{table_frame_of, heap_frame_of, frame_of_page, image_frames, frames_owned}
use Rattle.osc_space.specs.Share.{shared_pages, shared_frames}
use Rattle.osc_space.specs.Free.{unmap_all, reclaim_all}
use Rattle.osc_space.specs.Agree.{AreApart, AllTaken, frames_of}
use Rattle.osc_parts.specs.Frames.{among, one_where, vacant, frames_held, frames_mapped, FramesFit, Trades}
use Rattle.osc_parts.proofs.Counts.{among-append, apart_once, once_apart, taken_at, all_taken, vacant_take, table_more, table_less, block_page_more, page_more, page_less}

-- ---- the parts of a process that hold frames
abbrev pub held_in : ℕ → List TableFrame → List HeapPage → List ℕ → List TableFrame → ℕ
held_in f tables pages image aside =
    among f (map table_frame_of tables) + among f (map heap_frame_of pages) + among f image + among f (map table_frame_of aside)

pub owned_is : (f : ℕ) (s : Space) → among f (frames_owned s) ≡ among f (map table_frame_of s.tables.tables) + among f (map heap_frame_of s.heap.pages) + among f (image_frames s.tables)
owned_is f s =
    let a : among f (frames_owned s) ≡ among f (map table_frame_of s.tables.tables ++ map heap_frame_of s.heap.pages) + among f (image_frames s.tables) =
    among-append f (map table_frame_of s.tables.tables ++ map heap_frame_of s.heap.pages) (image_frames s.tables) in
    let b = among-append f (map table_frame_of s.tables.tables) (map heap_frame_of s.heap.pages) in
    omega (arith, a, b)

pub held_is : (f : ℕ) (s : Space) → among f (frames_held s) ≡ held_in f s.tables.tables s.heap.pages (image_frames s.tables) s.tables.aside
held_is f s =
    let a : among f (frames_held s) ≡ among f (frames_owned s) + among f (map table_frame_of s.tables.aside) = among-append f (frames_owned s) (map table_frame_of s.tables.aside) in
    let b = owned_is f s in
    omega (arith, a, b)

-- ---- one after another
pub trades_none : (s : Space) (free : List Bool) → Trades s free s free
trades_none s free = record { count = refl; each = λ f. refl; shared = refl }

pub trades_both : (s t u : Space) (free between after : List Bool) → Trades s free t between → Trades t between u after → Trades s free u after
trades_both s t u free between after a b = record {
  count = b.count ∙ a.count;
  each = λ f. b.each f ∙ a.each f;
  shared = b.shared ∙ a.shared;
}

-- a memory with the tables of a change
abbrev pub over : Space → KeptTables → Space
over s t = record s { tables = t }

abbrev pub TradesIn : Space → Changed → Changed → Type 0
TradesIn s c d = Trades (over s c.tables) c.free (over s d.tables) d.free

-- ---- tables
linked-trades : (s : Space) (l n : ℕ) (a b p : Option ℕ) (c : Changed) → position (λ b. b) c.free ≡ p → TradesIn s c (linked l n a b p c)
linked-trades s l n (Some g) b p c e = trades_none (over s c.tables) c.free
linked-trades s l n None None p c e = trades_none (over s c.tables) c.free
linked-trades s l n None (Some parent) None c e = trades_none (over s c.tables) c.free
linked-trades s l n None (Some parent) (Some g) c e = record {
  count = length-set c.free g false;
  each = λ f. (let a = held_is f (over s c.tables) in
      let b = held_is f (over s (linked l n None (Some parent) (Some g) c).tables) in
      let m = table_more f (table_frame l n g) c.tables.tables in
      let v = vacant_take c.free g f (position_passes c.free g e) in
      omega (arith, a, b, m, v));
  shared = refl;
}

link-trades : (s : Space) (l n : ℕ) (c : Changed) → TradesIn s c (link l n c)
link-trades s l n c = linked-trades s l n (frame_of c.tables.tables l n) (frame_of c.tables.tables (suc l) (n / 512)) (position (λ b. b) c.free) c refl

pub link_all-trades : (s : Space) (l n : ℕ) (c : Changed) → TradesIn s c (link_all l n c)
unfolding link_all
link_all-trades s zero n c = trades_none (over s c.tables) c.free
link_all-trades s (suc l) n c =
    trades_both (over s c.tables) (over s (link l (piece (suc l) n) c).tables) (over s (link_all l n (link l (piece (suc l) n) c)).tables)
    c.free (link l (piece (suc l) n) c).free (link_all l n (link l (piece (suc l) n) c)).free
    (link-trades s l (piece (suc l) n) c) (link_all-trades s l n (link l (piece (suc l) n) c))

-- the pages of other ranges stay
pub record SamePages (t u : KeptTables) : Type 0 where
  pub image : image_frames u ≡ image_frames t
  pub shared : shared_pages u ≡ shared_pages t

pub page_put : (n : ℕ) (m : Mapping) (t : KeptTables) → first_shadow_page ≤ n → SamePages t (record t { pages = with_page n m t.pages })
page_put n m t l = record {
  image = ap (map frame_of_page) (page_more is_image_or_stack n m t.pages (grind (arith, nat_tests, l)));
  shared = page_more is_shared n m t.pages (grind (arith, nat_tests, l));
}

pub page_taken : (n : ℕ) (t : KeptTables) → first_shadow_page ≤ n → SamePages t (record t { pages = without_page n t.pages })
page_taken n t l = record {
  image = ap (map frame_of_page) (page_less is_image_or_stack n t.pages (grind (arith, nat_tests, l)));
  shared = page_less is_shared n t.pages (grind (arith, nat_tests, l));
}

-- where tables and leaves aside stay
pub same_trades : (s : Space) (t u : KeptTables) (free : List Bool) → SamePages t u → u.tables ≡ t.tables → u.aside ≡ t.aside → Trades (over s t) free (over s u) free
same_trades s t u free p e g = record {
  count = refl;
  each = λ f. (let a = held_is f (over s t) in
      let b = held_is f (over s u) in
      let x = ap (λ fs. among f fs) p.image in
      let y = ap (λ ts. among f (map table_frame_of ts)) e in
      let z = ap (λ ts. among f (map table_frame_of ts)) g in
      omega (arith, a, b, x, y, z));
  shared = p.shared;
}

put-trades : (s : Space) (n : ℕ) (m : Mapping) (x : Option ℕ) (c : Changed) → first_shadow_page ≤ n → TradesIn s c (leaf_put n m x c)
put-trades s n m None c l = trades_none (over s c.tables) c.free
put-trades s n m (Some t) c l = same_trades s c.tables (record (c.tables) { pages = with_page n m c.tables.pages }) c.free (page_put n m c.tables l) refl refl

pub map_page-trades : (s : Space) (n : ℕ) (m : Mapping) (c : Changed) → first_shadow_page ≤ n → TradesIn s c (map_page n m c)
map_page-trades s n m c l =
    let d = link_all c.tables.top n c in
    trades_both (over s c.tables) (over s d.tables) (over s (map_page n m c).tables) c.free d.free (map_page n m c).free
    (link_all-trades s c.tables.top n c) (put-trades s n m (frame_of d.tables.tables 0 (n / 512)) d l)

pub map_pages-trades : (s : Space) (ms : List Mapping) (n : ℕ) (c : Changed) → first_shadow_page ≤ n → TradesIn s c (map_pages n ms c)
map_pages-trades s [] n c l = trades_none (over s c.tables) c.free
map_pages-trades s (m ∷ ms) n c l =
    let d = map_page n m c in
    trades_both (over s c.tables) (over s d.tables) (over s (map_pages (n + 1) ms d).tables) c.free d.free (map_pages (n + 1) ms d).free
    (map_page-trades s n m c l) (map_pages-trades s ms (n + 1) d (omega (arith, l)))

-- ---- unmapping
cleared-trades : (s : Space) (n : ℕ) (x : Option ℕ) (c : Changed) → TradesIn s c (leaf_cleared n x c)
cleared-trades s n None c = trades_none (over s c.tables) c.free
cleared-trades s n (Some t) c = trades_none (over s c.tables) c.free

pub unmap_page-trades : (s : Space) (n : ℕ) (c : Changed) → first_shadow_page ≤ n → TradesIn s c (unmap_page n c)
unmap_page-trades s n c l =
    let d : Changed = record c { tables = record (c.tables) { pages = without_page n c.tables.pages } } in
    trades_both (over s c.tables) (over s d.tables) (over s (unmap_page n c).tables) c.free d.free (unmap_page n c).free
    (same_trades s c.tables d.tables c.free (page_taken n c.tables l) refl refl)
    (cleared-trades s n (frame_of c.tables.tables 0 (n / 512)) d)

pub unmap_all-trades : (s : Space) (count first : ℕ) (c : Changed) → first_shadow_page ≤ first → TradesIn s c (unmap_all (range_with_len first count) c)
unmap_all-trades s zero first c l = trades_none (over s c.tables) c.free
unmap_all-trades s (suc count) first c l =
    let d = unmap_page first c in
    let e = unmap_all (range_with_len (first + 1) count) d in
    trades_both (over s c.tables) (over s d.tables) (over s e.tables) c.free d.free e.free
    (unmap_page-trades s first c l) (unmap_all-trades s count (first + 1) d (omega (arith, l)))

-- ---- leaf tables that are given up
unlinked-trades : (s : Space) (leaf : ℕ) (x y : Option ℕ) (c : Changed) → Apart c.tables.tables → frame_of c.tables.tables 0 leaf ≡ x → TradesIn s c (unlinked leaf x y c)
unlinked-trades s leaf None y c a e = trades_none (over s c.tables) c.free
unlinked-trades s leaf (Some g) None c a e = trades_none (over s c.tables) c.free
unlinked-trades s leaf (Some g) (Some p) c a e = record {
  count = refl;
  each = λ f. (let q = held_is f (over s c.tables) in
      let r = held_is f (over s (unlinked leaf (Some g) (Some p) c).tables) in
      let m = table_less f 0 leaf g c.tables.tables a e in
      let v = ap (λ fs. among f fs) (map-append table_frame_of c.tables.aside (table_frame 0 leaf g ∷ [])) in
      let w = among-append f (map table_frame_of c.tables.aside) (g ∷ []) in
      omega (arith, q, r, m, v, w));
  shared = refl;
}

unlinked-apart : (leaf : ℕ) (x y : Option ℕ) (c : Changed) → Apart c.tables.tables → Apart (unlinked leaf x y c).tables.tables
unlinked-apart leaf None y c a = a
unlinked-apart leaf (Some g) None c a = a
unlinked-apart leaf (Some g) (Some p) c a = apart-without_table c.tables.tables 0 leaf a

pub reclaim-trades : (s : Space) (leaf : ℕ) (c : Changed) → Apart c.tables.tables → TradesIn s c (reclaim leaf c) × Apart (reclaim leaf c).tables.tables
reclaim-trades s leaf c a =
    (unlinked-trades s leaf (frame_of c.tables.tables 0 leaf) (frame_of c.tables.tables 1 (leaf / 512)) c a refl, unlinked-apart leaf (frame_of c.tables.tables 0 leaf) (frame_of c.tables.tables 1 (leaf / 512)) c a)

pub reclaim_all-trades : (s : Space) (leaves : List ℕ) (c : Changed) → Apart c.tables.tables → TradesIn s c (reclaim_all leaves c)
reclaim_all-trades s [] c a = trades_none (over s c.tables) c.free
reclaim_all-trades s (leaf ∷ leaves) c a =
    let x = frame_of c.tables.tables 0 leaf in
    let y = frame_of c.tables.tables 1 (leaf / 512) in
    let d = reclaim leaf c in
    trades_both (over s c.tables) (over s d.tables) (over s (reclaim_all leaves d).tables) c.free d.free (reclaim_all leaves d).free
    (unlinked-trades s leaf x y c a refl) (reclaim_all-trades s leaves d (unlinked-apart leaf x y c a))

-- ---- pages of blocks
abbrev pub with_pages : Space → List HeapPage → Space
with_pages s pages = record s { heap = record (s.heap) { pages = pages } }

abbrev pub TradesBlocks : Space → Backing → Backing → Type 0
TradesBlocks s b c = Trades (with_pages s b.pages) b.free (with_pages s c.pages) c.free

back_by-trades : (s : Space) (page : ℕ) (x : Option ℕ) (b : Backing) → position (λ (f : Bool). f) b.free ≡ x → TradesBlocks s b (back_by page x b)
back_by-trades s page None b e = trades_none (with_pages s b.pages) b.free
back_by-trades s page (Some g) b e = record {
  count = length-set b.free g false;
  each = λ f. (let p = held_is f (with_pages s b.pages) in
      let q = held_is f (with_pages s (back_by page (Some g) b).pages) in
      let m = block_page_more f (record { page = page; frame = g }) b.pages in
      let v = vacant_take b.free g f (position_passes b.free g e) in
      omega (arith, p, q, m, v));
  shared = refl;
}

pub back-trades : (s : Space) (count page : ℕ) (b : Backing) → TradesBlocks s b (back count page b)
unfolding back
back-trades s zero page b = trades_none (with_pages s b.pages) b.free
back-trades s (suc count) page b =
    let c = back_by page (position (λ (f : Bool). f) b.free) b in
    trades_both (with_pages s b.pages) (with_pages s c.pages) (with_pages s (back count (page + 1) c).pages) b.free c.free (back count (page + 1) c).free
    (back_by-trades s page (position (λ (f : Bool). f) b.free) b refl) (back-trades s count (page + 1) c)

-- ---- what a change that trades leaves: its frames are apart and taken
pub vacant_once : (free : List Bool) (f : ℕ) → vacant free f ≤ 1
vacant_once free f = go (slice_get free f)
  where
    go : (x : Option Bool) → one_where x ≤ 1
    go (Some true) = omega arith
    go (Some false) = omega arith
    go None = omega arith

pub there : (free after : List Bool) (f : ℕ) (b : Bool) → slice_get free f ≡ Some b → length after ≡ length free → vacant after f ≡ 0 → slice_get after f ≡ Some false
there [] after f b e l v = absurd (let z : ⊥ = grind (arith, e) in z)
there (x ∷ free) [] f b e l v = absurd (omega arith)
there (x ∷ free) (true ∷ after) zero b e l v = absurd (let z : ⊥ = omega (arith, v) in z)
there (x ∷ free) (false ∷ after) zero b e l v = refl
there (x ∷ free) (y ∷ after) (suc f) b e l v = there free after f b e (omega (arith, l)) v

pub vacant_there : (free : List Bool) (f : ℕ) → 0 < vacant free f → slice_get free f ≡ Some true
vacant_there free f l = go (slice_get free f) l
  where
    go : (x : Option Bool) → 0 < one_where x → x ≡ Some true
    go (Some true) m = refl
    go (Some false) m = absurd (omega arith)
    go None m = absurd (omega arith)

no_more : (x : ℕ) (free : List Bool) (f : ℕ) → (0 < x → slice_get free f ≡ Some false) → x ≤ 1 → x + vacant free f ≤ 1
no_more zero free f t l = let v = vacant_once free f in omega (arith, v)
no_more (suc x) free f t l = let v : vacant free f ≡ 0 = ap one_where (t (omega arith)) in omega (arith, v, l)

-- a frame is held once, or free, or neither
pub held_once : (s : Space) (free : List Bool) (f : ℕ) → FramesFit s free → among f (frames_held s) + among f (shared_frames s.tables) + vacant free f ≤ 1
held_once s free f k =
    let a : among f (frames_mapped s) ≡ among f (frames_held s) + among f (shared_frames s.tables) = among-append f (frames_held s) (shared_frames s.tables) in
    let b = no_more (among f (frames_mapped s)) free f (λ l. taken_at free f (frames_mapped s) k.taken l) (apart_once f (frames_mapped s) k.apart) in
    omega (arith, a, b)

pub held_taken : (s : Space) (free : List Bool) (f : ℕ) → FramesFit s free → 0 < among f (frames_held s) + among f (shared_frames s.tables) → slice_get free f ≡ Some false
held_taken s free f k l =
    let a : among f (frames_mapped s) ≡ among f (frames_held s) + among f (shared_frames s.tables) = among-append f (frames_held s) (shared_frames s.tables) in
    taken_at free f (frames_mapped s) k.taken (omega (arith, a, l))

pub fits : (s : Space) (free : List Bool) → ((f : ℕ) → among f (frames_held s) + among f (shared_frames s.tables) ≤ 1) → ((f : ℕ) → 0 < among f (frames_held s) + among f (shared_frames s.tables) → slice_get free f ≡ Some false) → FramesFit s free
fits s free once taken = record {
  apart = once_apart (frames_mapped s) (λ f. (let a = sum f in let b = once f in omega (arith, a, b)));
  taken = all_taken free (frames_mapped s) (λ f l. taken f (let a = sum f in omega (arith, a, l)));
}
  where
    sum : (f : ℕ) → among f (frames_mapped s) ≡ among f (frames_held s) + among f (shared_frames s.tables)
    sum f = among-append f (frames_held s) (shared_frames s.tables)

pub shared_same : (s t : Space) (f : ℕ) → shared_pages t.tables ≡ shared_pages s.tables → among f (shared_frames t.tables) ≡ among f (shared_frames s.tables)
shared_same s t f e = ap (λ (ms : List Mapped). among f (map frame_of_page ms)) e

pub fit_after : (s t : Space) (free after : List Bool) → FramesFit s free → Trades s free t after → FramesFit t after
fit_after s t free after k d = fits t after
    (λ f. (let a = held_once s free f k in let b = d.each f in let c = shared_same s t f d.shared in omega (arith, a, b, c)))
    (λ f l. taken f l (among f (frames_held s) + among f (shared_frames s.tables)) refl)
  where
    taken : (f : ℕ) → 0 < among f (frames_held t) + among f (shared_frames t.tables) → (x : ℕ) → among f (frames_held s) + among f (shared_frames s.tables) ≡ x → slice_get after f ≡ Some false
    taken f l zero g =
        let b = d.each f in let c = shared_same s t f d.shared in let once = vacant_once free f in
        there free after f true (vacant_there free f (omega (arith, b, c, g, l))) d.count (omega (arith, b, c, g, l, once))
    taken f l (suc x) g =
        let a = held_once s free f k in let b = d.each f in let c = shared_same s t f d.shared in
        there free after f false (held_taken s free f k (omega (arith, g))) d.count (omega (arith, a, b, c, g, l))

-- between two calls
none_aside : (f : ℕ) (s : Space) → s.tables.aside ≡ [] → among f (frames_held s) ≡ among f (frames_owned s)
none_aside f s e = let a = held_is f s in let b = owned_is f s in let c = ap (λ ts. among f (map table_frame_of ts)) e in omega (arith, a, b, c)

all_of : (f : ℕ) (s : Space) → s.tables.aside ≡ [] → among f (frames_of s) ≡ among f (frames_held s) + among f (shared_frames s.tables)
all_of f s e =
    let a : among f (frames_of s) ≡ among f (frames_owned s) + among f (shared_frames s.tables) = among-append f (frames_owned s) (shared_frames s.tables) in
    let b = none_aside f s e in omega (arith, a, b)

pub fits_quiet : (s : Space) (free : List Bool) → s.tables.aside ≡ [] → AreApart (frames_of s) → AllTaken free (frames_of s) → FramesFit s free
fits_quiet s free e a t = fits s free
    (λ f. (let x = all_of f s e in let y = apart_once f (frames_of s) a in omega (arith, x, y)))
    (λ f l. taken_at free f (frames_of s) t (let x = all_of f s e in omega (arith, x, l)))

pub quiet_apart : (s : Space) (free : List Bool) → s.tables.aside ≡ [] → FramesFit s free → AreApart (frames_of s)
quiet_apart s free e k = once_apart (frames_of s) (λ f. (let x = all_of f s e in let y = held_once s free f k in omega (arith, x, y)))

pub quiet_taken : (s : Space) (free : List Bool) → s.tables.aside ≡ [] → FramesFit s free → AllTaken free (frames_of s)
quiet_taken s free e k = all_taken free (frames_of s) (λ f l. held_taken s free f k (let x = all_of f s e in omega (arith, x, l)))
