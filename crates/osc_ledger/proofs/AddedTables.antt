-- Tables that are added over pages, and leaf tables that a flush gives up.
use Rattle.std.proofs.Common.{ℕ, zero, suc, ◌+◌, ◌/◌, ◌≡◌, ◌≢◌, ◌<◌, ◌≤◌, ◌==◌, ◌&&◌, ◌||◌, Bool, true, false, cond, Option, Some, None, is_some, List, [], ◌∷◌, length, position, arith, refl, sym, ap, subst, ◌∙◌}
use Rattle.std.specs.List.{list_any, range_with_len}
use Rattle.std.proofs.lemmas.Bool.Decides.{nat_tests}
use Rattle.osc_sv39.specs.declared.entries.Mapping.{Mapping}
use Rattle.osc_sv39.specs.Walk.{piece}
use Rattle.osc_paging.specs.KeptTables.{KeptTables, frame_of, mapping_at}
use Rattle.osc_paging.specs.TableChanges.{Changed, linked, link, link_all, map_page, map_pages}
use Rattle.osc_paging.specs.Agree.{Agrees}
use Rattle.osc_paging.proofs.TableLists.{frame_of-with_table}
use Rattle.osc_paging.proofs.Needed.{put-tables, map_page-top}
use Rattle.osc_paging.proofs.TableLawProofs.{tables_stand_above}
use Rattle.osc_ledger.specs.Tables.{has_piece}

abbrev pub there : KeptTables → ℕ → ℕ → Bool
there t level number = is_some (frame_of t.tables level number)

-- each table stays, and a new one is over one of these pages
pub record Adds (pages : List ℕ) (t u : KeptTables) : Type 0 where
  pub top : u.top ≡ t.top
  pub stays : (level number : ℕ) → there t level number ≡ true → there u level number ≡ true
  pub only : (level number : ℕ) → there u level number ≡ true → (there t level number || has_piece level number pages) ≡ true
  pub above : (level number : ℕ) → t.top ≤ level → there u level number ≡ there t level number

-- ---- links
with-stays : (a : Bool) (f : ℕ) (x : Option ℕ) → is_some x ≡ true → is_some (cond a (Some f) x) ≡ true
with-stays true f x e = refl
with-stays false f x e = e

with-only : (a : Bool) (f : ℕ) (x : Option ℕ) → is_some (cond a (Some f) x) ≡ true → (is_some x || a) ≡ true
with-only true f None e = refl
with-only true f (Some y) e = refl
with-only false f None e = e
with-only false f (Some y) e = refl

-- a link adds no table but its own
record LinkAdds (l n : ℕ) (c d : Changed) : Type 0 where
  stays : (k m : ℕ) → there c.tables k m ≡ true → there d.tables k m ≡ true
  only : (k m : ℕ) → there d.tables k m ≡ true → (there c.tables k m || ((l == k) && (n == m))) ≡ true

or-left : (a b : Bool) → a ≡ true → (a || b) ≡ true
or-left true b e = refl
or-left false b e = absurd (let z : ⊥ = grind (arith, e) in z)

link-adds : (l n : ℕ) (c : Changed) (a b p : Option ℕ) → LinkAdds l n c (linked l n a b p c)
link-adds l n c (Some f) b p = record { stays = λ k m e. e; only = λ k m e. or-left _ _ e }
link-adds l n c None None p = record { stays = λ k m e. e; only = λ k m e. or-left _ _ e }
link-adds l n c None (Some b) None = record { stays = λ k m e. e; only = λ k m e. or-left _ _ e }
link-adds l n c None (Some b) (Some p) = record {
  stays = λ k m e. ap (λ (o : Option ℕ). is_some o) (frame_of-with_table c.tables.tables _ k m) ∙ with-stays ((l == k) && (n == m)) p (frame_of c.tables.tables k m) e;
  only = λ k m e. with-only ((l == k) && (n == m)) p (frame_of c.tables.tables k m) (sym (ap (λ (o : Option ℕ). is_some o) (frame_of-with_table c.tables.tables _ k m)) ∙ e);
}

-- from the top down
record AllAdd (l page : ℕ) (c d : Changed) : Type 0 where
  stays : (k m : ℕ) → there c.tables k m ≡ true → there d.tables k m ≡ true
  only : (k m : ℕ) → there d.tables k m ≡ true → (there c.tables k m || ((piece (suc k) page == m) || false)) ≡ true
  above : (k m : ℕ) → l ≤ k → there d.tables k m ≡ there c.tables k m

all-add : (l page : ℕ) (c : Changed) → AllAdd l page c (link_all l page c)
unfolding link_all
all-add zero page c = record { stays = λ k m e. e; only = λ k m e. or-left _ _ e; above = λ k m e. refl }
all-add (suc l) page c =
    let n = piece (suc l) page in
    let d = link l n c in
    let one = link-adds l n c (frame_of c.tables.tables l n) (frame_of c.tables.tables (suc l) (n / 512)) (position (λ b. b) c.free) in
    let on = all-add l page d in record {
      stays = λ k m e. on.stays k m (one.stays k m e);
      only = λ k m e. both k m (there c.tables k m) (there d.tables k m) (on.only k m e) (one.only k m);
      above = λ k m e. on.above k m (omega (arith, e)) ∙ same k m e (there c.tables k m) (there d.tables k m) (one.stays k m) (one.only k m);
    }
  where
    here : (k m : ℕ) → ((l == k) && (piece (suc l) page == m)) ≡ true → ((piece (suc k) page == m) || false) ≡ true
    here k m e = go (l == k) refl e
      where
        go : (b : Bool) → (l == k) ≡ b → (b && (piece (suc l) page == m)) ≡ true → ((piece (suc k) page == m) || false) ≡ true
        go true f g = subst (λ j. ((piece (suc j) page == m) || false) ≡ true) (let z : l ≡ k = grind (arith, nat_tests, f) in z) (or-left (piece (suc l) page == m) false g)
        go false f g = absurd (let z : ⊥ = grind (arith, g) in z)

    both : (k m : ℕ) (x y : Bool) → (y || ((piece (suc k) page == m) || false)) ≡ true → (y ≡ true → (x || ((l == k) && (piece (suc l) page == m))) ≡ true) → (x || ((piece (suc k) page == m) || false)) ≡ true
    both k m true y e f = refl
    both k m false true e f = here k m (f refl)
    both k m false false e f = e

    same : (k m : ℕ) → suc l ≤ k → (x y : Bool) → (x ≡ true → y ≡ true) → (y ≡ true → (x || ((l == k) && (piece (suc l) page == m))) ≡ true) → y ≡ x
    same k m s true y f g = f refl
    same k m s false false f g = refl
    same k m s false true f g =
        let apart : (l == k) ≡ false = grind (arith, nat_tests, s) in
        let e : false ≡ true = sym (ap (λ b. b && (piece (suc l) page == m)) apart) ∙ g refl in absurd (let z : ⊥ = grind (arith, e) in z)

pub page-adds : (page : ℕ) (m : Mapping) (c : Changed) → Adds (page ∷ []) c.tables (map_page page m c).tables
page-adds page m c =
    let over = link_all c.tables.top page c in
    let a = all-add c.tables.top page c in
    let same = (put-tables page m (frame_of over.tables.tables 0 (page / 512)) over).0 in record {
      top = map_page-top page m c;
      stays = λ k n e. ap (λ ts. is_some (frame_of ts k n)) same ∙ a.stays k n e;
      only = λ k n e. a.only k n (sym (ap (λ ts. is_some (frame_of ts k n)) same) ∙ e);
      above = λ k n l. ap (λ ts. is_some (frame_of ts k n)) same ∙ a.above k n l;
    }

pub pages-add : (first : ℕ) (ms : List Mapping) (c : Changed) → Adds (range_with_len first (length ms)) c.tables (map_pages first ms c).tables
pages-add first [] c = record { top = refl; stays = λ k n e. e; only = λ k n e. or-left _ _ e; above = λ k n l. refl }
pages-add first (m ∷ ms) c =
    let d = map_page first m c in
    let one = page-adds first m c in
    let on = pages-add (first + 1) ms d in record {
      top = on.top ∙ one.top;
      stays = λ k n e. on.stays k n (one.stays k n e);
      only = λ k n e. join (there c.tables k n) (there d.tables k n) (piece (suc k) first == n) (has_piece k n (range_with_len (first + 1) (length ms))) (on.only k n e) (one.only k n);
      above = λ k n l. on.above k n (subst (λ t. t ≤ k) (sym one.top) l) ∙ one.above k n l;
    }
  where
    join : (x y a b : Bool) → (y || b) ≡ true → (y ≡ true → (x || (a || false)) ≡ true) → (x || (a || b)) ≡ true
    join true y a b e f = refl
    join false y true b e f = refl
    join false true false b e f = absurd (let g = f refl in let z : ⊥ = grind (arith, g) in z)
    join false false false b e f = e

-- ---- a mapped page has all tables over it
pub over-mapped : (t : KeptTables) (free : List Bool) (words : List ℕ) (page level : ℕ) → Agrees t free words → mapping_at t.pages page ≢ None → level ≤ t.top
    → there t level (piece (suc level) page) ≡ true
over-mapped t free words page zero a m l = some (frame_of t.tables 0 (page / 512)) ((tables_stand_above t free words a).pages page m)
  where
    some : (o : Option ℕ) → o ≢ None → is_some o ≡ true
    some None h = absurd (h refl)
    some (Some x) h = refl
over-mapped t free words page (suc level) a m l =
    let n = piece (suc level) page in
    let below = over-mapped t free words page level a m (omega (arith, l)) in
    some (frame_of t.tables (suc level) (n / 512)) ((tables_stand_above t free words a).tables level n (omega (arith, l)) (λ e. none (frame_of t.tables level n) e below))
  where
    some : (o : Option ℕ) → o ≢ None → is_some o ≡ true
    some None h = absurd (h refl)
    some (Some x) h = refl

    none : (o : Option ℕ) → o ≡ None → is_some o ≡ true → ⊥
    none o e f = let g : false ≡ true = sym (ap (λ (x : Option ℕ). is_some x) e) ∙ f in (let z : ⊥ = grind (arith, g) in z)

-- ---- pages of a range
pub any-range : (test : ℕ → Bool) (a m n : ℕ) → list_any test (range_with_len a (m + n)) ≡ (list_any test (range_with_len a m) || list_any test (range_with_len (a + m) n))
any-range test a zero n =
    let e : 0 + n ≡ n = omega arith in let f : a ≡ a + 0 = omega arith in
    ap (λ x. list_any test (range_with_len a x)) e ∙ ap (λ x. list_any test (range_with_len x n)) f
any-range test a (suc m) n =
    let e : suc m + n ≡ suc (m + n) = omega arith in let f : a + 1 + m ≡ a + suc m = omega arith in
    ap (λ x. list_any test (range_with_len a x)) e
    ∙ ap (λ b. test a || b) (any-range test (a + 1) m n)
    ∙ assoc (test a) (list_any test (range_with_len (a + 1) m)) (list_any test (range_with_len (a + 1 + m) n))
    ∙ ap (λ x. (test a || list_any test (range_with_len (a + 1) m)) || list_any test (range_with_len x n)) f
  where
    assoc : (x y z : Bool) → (x || (y || z)) ≡ ((x || y) || z)
    assoc true y z = refl
    assoc false y z = refl

-- what holds at one of these pages
pub record InRange (test : ℕ → Bool) (first count : ℕ) : Type 0 where
  pub page : ℕ
  pub low : first ≤ page
  pub high : page < first + count
  pub passes : test page ≡ true

pub in-range : (test : ℕ → Bool) (first count : ℕ) → list_any test (range_with_len first count) ≡ true → InRange test first count
in-range test first zero e = absurd (let z : ⊥ = grind (arith, e) in z)
in-range test first (suc count) e = go (test first) refl e (in-range test (first + 1) count)
  where
    go : (b : Bool) → test first ≡ b → (b || list_any test (range_with_len (first + 1) count)) ≡ true → (list_any test (range_with_len (first + 1) count) ≡ true → InRange test (first + 1) count) → InRange test first (suc count)
    go true f g later = record { page = first; low = omega arith; high = omega arith; passes = f }
    go false f g later = (let r = later g in let l = r.low in let h = r.high in record { page = r.page; low = omega (arith, l); high = omega (arith, h); passes = r.passes })

-- each table over pages that are mapped is there
pub all-over : (t : KeptTables) (free : List Bool) (words : List ℕ) (first count level number : ℕ) → Agrees t free words → ((page : ℕ) → first ≤ page → page < first + count → mapping_at t.pages page ≢ None)
    → level ≤ t.top → has_piece level number (range_with_len first count) ≡ true → there t level number ≡ true
all-over t free words first count level number a mapped l e =
    let r = in-range (λ page. piece (suc level) page == number) first count e in
    let passes = r.passes in
    subst (λ n. there t level n ≡ true) (let z : piece (suc level) r.page ≡ number = grind (arith, nat_tests, passes) in z) (over-mapped t free words r.page level a (mapped r.page r.low r.high) l)
