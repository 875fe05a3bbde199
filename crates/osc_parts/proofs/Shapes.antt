-- What changes of tables leave of the tables themselves.
use Rattle.std.proofs.Common.{ℕ, zero, suc, ◌+◌, ◌/◌, ◌≡◌, ◌==◌, nat_lt, nat_le, ◌&&◌, Bool, true, false, cond, Option, Some, None, is_some, List, [], ◌∷◌, position, slice_get, arith, refl, ap, ◌∙◌}
use Rattle.std.specs.List.{range_with_len}
use Rattle.std.proofs.lemmas.Bool.Decides.{nat_tests}
use Rattle.osc_sv39.specs.declared.entries.Mapping.{Mapping}
use Rattle.osc_sv39.specs.Walk.{piece}
use Rattle.osc_slot.proofs.Backing.{get-set}
use Rattle.osc_paging.specs.KeptTables.{KeptTables, frame_of, mapping_at}
use Rattle.osc_paging.specs.TableChanges.{Changed, linked, link, link_all, leaf_put, map_page, map_pages, leaf_cleared, unmap_page, unlinked, reclaim, table_frame, without_page}
use Rattle.osc_paging.specs.Agree.{AgreesAfter, ReadsAsLeaf}
use Rattle.osc_paging.proofs.TableLists.{frame_of-with_table, frame_of-without_table, mapping_at-without_page}
use Rattle.osc_paging.proofs.TableLawProofs.{mapping_keeps, unmapping_keeps}
use Rattle.osc_space.specs.Free.{unmap_all, reclaim_all}

pub record SameShape (t u : KeptTables) : Type 0 where
  pub count : u.count ≡ t.count
  pub room : u.room ≡ t.room
  pub top : u.top ≡ t.top

pub same_shape : (t : KeptTables) → SameShape t t
same_shape t = record { count = refl; room = refl; top = refl }

pub then : (t u v : KeptTables) → SameShape t u → SameShape u v → SameShape t v
then t u v a b = record { count = b.count ∙ a.count; room = b.room ∙ a.room; top = b.top ∙ a.top }

-- a mapping only adds tables
pub record Adds (t u : KeptTables) : Type 0 where
  pub shape : SameShape t u
  pub aside : u.aside ≡ t.aside
  pub linked : (l n : ℕ) → is_some (frame_of t.tables l n) ≡ true → is_some (frame_of u.tables l n) ≡ true

adds_none : (t : KeptTables) → Adds t t
adds_none t = record { shape = same_shape t; aside = refl; linked = λ l n e. e }

adds_both : (t u v : KeptTables) → Adds t u → Adds u v → Adds t v
adds_both t u v a b = record { shape = then t u v a.shape b.shape; aside = b.aside ∙ a.aside; linked = λ l n e. b.linked l n (a.linked l n e) }

still : (b : Bool) (g : ℕ) (x : Option ℕ) → is_some x ≡ true → is_some (cond b (Some g) x) ≡ true
still true g x e = refl
still false g x e = e

linked-adds : (l n : ℕ) (a b p : Option ℕ) (c : Changed) → Adds c.tables (linked l n a b p c).tables
linked-adds l n (Some g) b p c = adds_none c.tables
linked-adds l n None None p c = adds_none c.tables
linked-adds l n None (Some parent) None c = adds_none c.tables
linked-adds l n None (Some parent) (Some g) c = record {
  shape = record { count = refl; room = refl; top = refl };
  aside = refl;
  linked = λ k m e. ap is_some (frame_of-with_table c.tables.tables (table_frame l n g) k m) ∙ still ((l == k) && (n == m)) g (frame_of c.tables.tables k m) e;
}

link_all-adds : (l n : ℕ) (c : Changed) → Adds c.tables (link_all l n c).tables
unfolding link_all
link_all-adds zero n c = adds_none c.tables
link_all-adds (suc l) n c =
    let m = piece (suc l) n in
    adds_both c.tables (link l m c).tables (link_all l n (link l m c)).tables
    (linked-adds l m (frame_of c.tables.tables l m) (frame_of c.tables.tables (suc l) (m / 512)) (position (λ b. b) c.free) c) (link_all-adds l n (link l m c))

put-adds : (n : ℕ) (m : Mapping) (x : Option ℕ) (c : Changed) → Adds c.tables (leaf_put n m x c).tables
put-adds n m None c = adds_none c.tables
put-adds n m (Some t) c = record { shape = record { count = refl; room = refl; top = refl }; aside = refl; linked = λ k q e. e }

pub map_pages-adds : (ms : List Mapping) (n : ℕ) (c : Changed) → Adds c.tables (map_pages n ms c).tables
map_pages-adds [] n c = adds_none c.tables
map_pages-adds (m ∷ ms) n c =
    let d = link_all c.tables.top n c in
    let e = map_page n m c in
    adds_both c.tables e.tables (map_pages (n + 1) ms e).tables
    (adds_both c.tables d.tables e.tables (link_all-adds c.tables.top n c) (put-adds n m (frame_of d.tables.tables 0 (n / 512)) d))
    (map_pages-adds ms (n + 1) e)

-- and only takes frames
linked-taken : (l n : ℕ) (a b p : Option ℕ) (c : Changed) (f : ℕ) → slice_get c.free f ≡ Some false → slice_get (linked l n a b p c).free f ≡ Some false
linked-taken l n (Some g) b p c f e = e
linked-taken l n None None p c f e = e
linked-taken l n None (Some parent) None c f e = e
linked-taken l n None (Some parent) (Some g) c f e = let at = get-set c.free g f false in grind (arith, nat_tests, at, e)

link_all-taken : (l n : ℕ) (c : Changed) (f : ℕ) → slice_get c.free f ≡ Some false → slice_get (link_all l n c).free f ≡ Some false
unfolding link_all
link_all-taken zero n c f e = e
link_all-taken (suc l) n c f e =
    let m = piece (suc l) n in
    link_all-taken l n (link l m c) f (linked-taken l m (frame_of c.tables.tables l m) (frame_of c.tables.tables (suc l) (m / 512)) (position (λ b. b) c.free) c f e)

put-taken : (n : ℕ) (m : Mapping) (x : Option ℕ) (c : Changed) (f : ℕ) → slice_get c.free f ≡ Some false → slice_get (leaf_put n m x c).free f ≡ Some false
put-taken n m None c f e = e
put-taken n m (Some t) c f e = e

pub map_pages-taken : (ms : List Mapping) (n : ℕ) (c : Changed) (f : ℕ) → slice_get c.free f ≡ Some false → slice_get (map_pages n ms c).free f ≡ Some false
map_pages-taken [] n c f e = e
map_pages-taken (m ∷ ms) n c f e =
    let d = link_all c.tables.top n c in
    map_pages-taken ms (n + 1) (map_page n m c) f (put-taken n m (frame_of d.tables.tables 0 (n / 512)) d f (link_all-taken c.tables.top n c f e))

-- the words agree after all of them
abbrev pub AllRead : List Mapping → Type 0
AllRead [] = Unit {0}
AllRead (m ∷ ms) = ReadsAsLeaf m × AllRead ms

pub map_pages-agrees : (entries : ℕ → ℕ → ℕ) (words : List ℕ) (ms : List Mapping) (n : ℕ) (c : Changed) → AllRead ms → AgreesAfter entries words c → AgreesAfter entries words (map_pages n ms c)
map_pages-agrees entries words [] n c r g = g
map_pages-agrees entries words (m ∷ ms) n c r g = map_pages-agrees entries words ms (n + 1) (map_page n m c) r.1 (mapping_keeps entries words c n m r.0 g)

-- ---- pages less
pub record Unmaps (t u : KeptTables) : Type 0 where
  pub shape : SameShape t u
  pub tables : u.tables ≡ t.tables
  pub aside : u.aside ≡ t.aside

pub unmap_page-shape : (n : ℕ) (c : Changed) → Unmaps c.tables (unmap_page n c).tables
unmap_page-shape n c = go (frame_of c.tables.tables 0 (n / 512))
  where
    go : (x : Option ℕ) → Unmaps c.tables (leaf_cleared n x (record c { tables = record (c.tables) { pages = without_page n c.tables.pages } })).tables
    go None = record { shape = record { count = refl; room = refl; top = refl }; tables = refl; aside = refl }
    go (Some t) = record { shape = record { count = refl; room = refl; top = refl }; tables = refl; aside = refl }

pub unmap_page-free : (n : ℕ) (c : Changed) → (unmap_page n c).free ≡ c.free
unmap_page-free n c = go (frame_of c.tables.tables 0 (n / 512))
  where
    go : (x : Option ℕ) → (leaf_cleared n x (record c { tables = record (c.tables) { pages = without_page n c.tables.pages } })).free ≡ c.free
    go None = refl
    go (Some t) = refl

pub unmap_all-shape : (count first : ℕ) (c : Changed) → Unmaps c.tables (unmap_all (range_with_len first count) c).tables
unmap_all-shape zero first c = record { shape = same_shape c.tables; tables = refl; aside = refl }
unmap_all-shape (suc count) first c =
    let a = unmap_page-shape first c in
    let b = unmap_all-shape count (first + 1) (unmap_page first c) in
    record { shape = then c.tables (unmap_page first c).tables (unmap_all (range_with_len (first + 1) count) (unmap_page first c)).tables a.shape b.shape; tables = b.tables ∙ a.tables; aside = b.aside ∙ a.aside }

pub unmap_all-free : (count first : ℕ) (c : Changed) → (unmap_all (range_with_len first count) c).free ≡ c.free
unmap_all-free zero first c = refl
unmap_all-free (suc count) first c = unmap_all-free count (first + 1) (unmap_page first c) ∙ unmap_page-free first c

pub unmap_page-pages : (n : ℕ) (c : Changed) (q : ℕ) → mapping_at (unmap_page n c).tables.pages q ≡ cond (n == q) None (mapping_at c.tables.pages q)
unmap_page-pages n c q = go (frame_of c.tables.tables 0 (n / 512))
  where
    go : (table : Option ℕ) → mapping_at (leaf_cleared n table (record c { tables = record (c.tables) { pages = without_page n c.tables.pages } })).tables.pages q ≡ cond (n == q) None (mapping_at c.tables.pages q)
    go None = mapping_at-without_page c.tables.pages n q
    go (Some table) = mapping_at-without_page c.tables.pages n q

pub unmap_all-pages : (count first : ℕ) (c : Changed) (q : ℕ) → mapping_at (unmap_all (range_with_len first count) c).tables.pages q ≡ cond (nat_le first q && nat_lt q (first + count)) None (mapping_at c.tables.pages q)
unmap_all-pages zero first c q = grind (arith, nat_tests)
unmap_all-pages (suc count) first c q = let a = unmap_all-pages count (first + 1) (unmap_page first c) q in let b = unmap_page-pages first c q in grind (arith, nat_tests, a, b)

pub unmap_all-agrees : (entries : ℕ → ℕ → ℕ) (words : List ℕ) (count first : ℕ) (c : Changed) → AgreesAfter entries words c → AgreesAfter entries words (unmap_all (range_with_len first count) c)
unmap_all-agrees entries words zero first c g = g
unmap_all-agrees entries words (suc count) first c g = unmap_all-agrees entries words count (first + 1) (unmap_page first c) (unmapping_keeps entries words c first g)

-- ---- leaf tables less
pub record Reclaims (c d : Changed) : Type 0 where
  pub shape : SameShape c.tables d.tables
  pub pages : d.tables.pages ≡ c.tables.pages
  pub free : d.free ≡ c.free
  pub above : (l n : ℕ) → frame_of d.tables.tables (suc l) n ≡ frame_of c.tables.tables (suc l) n

pub unlinked-reclaims : (leaf : ℕ) (x y : Option ℕ) (c : Changed) → Reclaims c (unlinked leaf x y c)
unlinked-reclaims leaf None y c = record { shape = same_shape c.tables; pages = refl; free = refl; above = λ l n. refl }
unlinked-reclaims leaf (Some g) None c = record { shape = same_shape c.tables; pages = refl; free = refl; above = λ l n. refl }
unlinked-reclaims leaf (Some g) (Some p) c = record { shape = record { count = refl; room = refl; top = refl }; pages = refl; free = refl; above = λ l n. (let e = frame_of-without_table c.tables.tables 0 leaf (suc l) n in grind (arith, nat_tests, e)) }

pub reclaim_all-shape : (leaves : List ℕ) (c : Changed) → Reclaims c (reclaim_all leaves c)
reclaim_all-shape [] c = record { shape = same_shape c.tables; pages = refl; free = refl; above = λ l n. refl }
reclaim_all-shape (leaf ∷ leaves) c =
    let a = unlinked-reclaims leaf (frame_of c.tables.tables 0 leaf) (frame_of c.tables.tables 1 (leaf / 512)) c in
    let d = reclaim leaf c in
    let b = reclaim_all-shape leaves d in
    record {
      shape = then c.tables d.tables (reclaim_all leaves d).tables a.shape b.shape;
      pages = b.pages ∙ a.pages;
      free = b.free ∙ a.free;
      above = λ l n. b.above l n ∙ a.above l n;
    }
