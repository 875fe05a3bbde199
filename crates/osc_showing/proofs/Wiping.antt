-- Pages that are unmapped and leaf tables that are given up: each old entry that goes is to become 0.
use Rattle.std.proofs.Common.{ℕ, zero, suc, ◌+◌, ◌*◌, ◌/◌, ◌%◌, ◌≡◌, ◌≢◌, ◌<◌, ◌==◌, ◌&&◌, ◌⊎◌, inl, inr, ⊎_elim, cond, Bool, true, false, Option, Some, None, List, [], ◌∷◌, ◌++◌, slice_get, arith, refl, sym, ap, subst, ◌∙◌}
use Rattle.std.specs.List.{list_any}
use Rattle.std.proofs.lemmas.Bool.Decides.{nat_tests}
use Rattle.osc_sv39.specs.Entries.{word_of}
use Rattle.osc_paging.specs.declared.Piece.{Piece}
use Rattle.osc_paging.specs.declared.TableFrame.{TableFrame}
use Rattle.osc_paging.specs.KeptTables.{KeptTables, piece_of, frame_of, mapping_at, page_entry, link_entry, word_in, kept_word}
use Rattle.osc_paging.specs.TableChanges.{Changed, put_job, without_page, without_table, table_frame, leaf_cleared, unmap_page, unlinked, reclaim}
use Rattle.osc_paging.specs.Agree.{Apart}
use Rattle.osc_paging.specs.CopyLaws.{IsTable}
use Rattle.osc_paging.specs.OtherLaws.{IsAnyTable}
use Rattle.osc_paging.proofs.TableLists.{mapping_at-without_page, frame_of-without_table, apart-found, apart-placed, piece_of-without_same, piece_of-without_none, apart-without_table, piece_of-left, piece_of-push, or_else}
use Rattle.osc_space.specs.Free.{unmap_all, reclaim_all}
use Rattle.osc_showing.specs.Showing.{is_wiped, Tidy, Turned}
use Rattle.osc_showing.specs.ShowLaws.{IsEmpty}
use Rattle.osc_showing.proofs.Folds.{AllZeros, zeros-append, zeros-closed, zeros-wiped, zeros-fit, wiped-more, some-is}

-- while pages and leaf tables go, each job clears a word
pub record Wiping (old : KeptTables) (c : Changed) : Type 0 where
  pub tidy : Tidy c.tables c.free
  pub zeros : AllZeros c.free c.jobs
  pub olds : (f : ℕ) (p : Piece) → piece_of old.tables f ≡ Some p → (piece_of c.tables.tables f ≡ Some p) ⊎ ((p.level ≡ 0) × (piece_of c.tables.aside f ≡ Some p))
  pub news : (f : ℕ) → IsAnyTable c.tables f → IsTable old f
  pub kept : (f i : ℕ) → IsTable old f → i < 512
      → (kept_word c.tables f i ≡ kept_word old f i) ⊎ ((kept_word old f i ≡ 0) ⊎ (is_wiped c.jobs f i ≡ true))

-- the word of one place goes, and all others stay
abbrev pub Goes : KeptTables → KeptTables → ℕ → ℕ → Type 0
Goes t u frame index = (f i : ℕ) → i < 512 → (kept_word u f i ≡ kept_word t f i) ⊎ ((f ≡ frame) × (i ≡ index))

kept-then : (old : KeptTables) (c : Changed) (u : KeptTables) (frame index : ℕ) → Wiping old c → Goes c.tables u frame index
    → (f i : ℕ) → IsTable old f → i < 512
    → (kept_word u f i ≡ kept_word old f i) ⊎ ((kept_word old f i ≡ 0) ⊎ (is_wiped (c.jobs ++ put_job frame index 0 ∷ []) f i ≡ true))
kept-then old c u frame index w g f i h l = ⊎_elim
    (λ (same : kept_word u f i ≡ kept_word c.tables f i). ⊎_elim
    (λ (e : kept_word c.tables f i ≡ kept_word old f i). inl (same ∙ e))
    (λ (r : (kept_word old f i ≡ 0) ⊎ (is_wiped c.jobs f i ≡ true)). inr (⊎_elim (λ (z : kept_word old f i ≡ 0). inl z) (λ (z : is_wiped c.jobs f i ≡ true). inr (wiped-more c.jobs _ f i z)) r))
    (w.kept f i h l))
    (λ (at : (f ≡ frame) × (i ≡ index)). inr (inr (zeros-wiped c.free c.jobs (put_job frame index 0 ∷ []) f i w.zeros (here at))))
    (g f i l)
  where
    here : (f ≡ frame) × (i ≡ index) → is_wiped (put_job frame index 0 ∷ []) f i ≡ true
    here at = let a = at.0 in let b = at.1 in grind (arith, nat_tests, a, b)

-- ---- a page is unmapped
abbrev less : ℕ → KeptTables → KeptTables
less n t = record t { pages = without_page n t.pages }

page-goes : (t : KeptTables) (n table : ℕ) → Apart t.tables → frame_of t.tables 0 (n / 512) ≡ Some table → Goes t (less n t) table (n % 512)
page-goes t n table apart there f i l = go (piece_of t.tables f) refl
  where
    at : (lv m : ℕ) → piece_of t.tables f ≡ Some (record { level = lv; number = m })
        → (word_in (less n t) (Some (record { level = lv; number = m })) i ≡ word_in t (Some (record { level = lv; number = m })) i) ⊎ ((f ≡ table) × (i ≡ n % 512))
    at (suc lv) m e = inl refl
    at zero m e = test (n == m * 512 + i) refl
      where
        test : (b : Bool) → (n == m * 512 + i) ≡ b
            → (word_in (less n t) (Some (record { level = 0; number = m })) i ≡ word_in t (Some (record { level = 0; number = m })) i) ⊎ ((f ≡ table) × (i ≡ n % 512))
        test false d = inl (ap (λ o. word_of (page_entry o)) (mapping_at-without_page t.pages n (m * 512 + i) ∙ ap (λ b. cond b None (mapping_at t.pages (m * 512 + i))) d))
        test true d =
            let same : n ≡ m * 512 + i = grind (arith, nat_tests, d) in
            let number : n / 512 ≡ m = omega (arith, same, l) in
            let index : i ≡ n % 512 = omega (arith, same, l) in
            let back = apart-placed t.tables f 0 m apart e in
            let here : frame_of t.tables 0 (n / 512) ≡ Some f = ap (frame_of t.tables 0) number ∙ back in
            inr ((let q : Some f ≡ Some table = sym here ∙ there in grind (arith, q)), index)

    go : (o : Option Piece) → piece_of t.tables f ≡ o → (word_in (less n t) o i ≡ word_in t o i) ⊎ ((f ≡ table) × (i ≡ n % 512))
    go None e = inl refl
    go (Some p) e = at p.level p.number e

-- where it has no leaf table, no word changes
page-none : (t : KeptTables) (n f i : ℕ) → Apart t.tables → i < 512 → frame_of t.tables 0 (n / 512) ≡ None → kept_word (less n t) f i ≡ kept_word t f i
page-none t n f i apart l none = go (piece_of t.tables f) refl
  where
    at : (lv m : ℕ) → piece_of t.tables f ≡ Some (record { level = lv; number = m })
        → word_in (less n t) (Some (record { level = lv; number = m })) i ≡ word_in t (Some (record { level = lv; number = m })) i
    at (suc lv) m e = refl
    at zero m e = test (n == m * 512 + i) refl
      where
        test : (b : Bool) → (n == m * 512 + i) ≡ b → word_in (less n t) (Some (record { level = 0; number = m })) i ≡ word_in t (Some (record { level = 0; number = m })) i
        test false d = ap (λ o. word_of (page_entry o)) (mapping_at-without_page t.pages n (m * 512 + i) ∙ ap (λ b. cond b None (mapping_at t.pages (m * 512 + i))) d)
        test true d =
            let same : n ≡ m * 512 + i = grind (arith, nat_tests, d) in
            let number : n / 512 ≡ m = omega (arith, same, l) in
            let here : frame_of t.tables 0 (n / 512) ≡ Some f = ap (frame_of t.tables 0) number ∙ apart-placed t.tables f 0 m apart e in
            absurd (let q : None ≡ Some f = sym none ∙ here in let b : ⊥ = grind (arith, q) in b)

    go : (o : Option Piece) → piece_of t.tables f ≡ o → word_in (less n t) o i ≡ word_in t o i
    go None e = refl
    go (Some p) e = at p.level p.number e

less-tidy : (t : KeptTables) (free : List Bool) (n : ℕ) → Tidy t free → Tidy (less n t) free
less-tidy t free n k = record {
  small = k.small;
  apart = k.apart;
  taken = k.taken;
  spare = k.spare;
  leaves = λ q m e. k.leaves q m (let h : cond (n == q) None (mapping_at t.pages q) ≡ Some m = sym (mapping_at-without_page t.pages n q) ∙ e in grind (arith, nat_tests, h));
}

pub unmap-wipes : (old : KeptTables) (n : ℕ) (c : Changed) → Wiping old c → Wiping old (unmap_page n c)
unmap-wipes old n c w = go (frame_of c.tables.tables 0 (n / 512)) refl
  where
    go : (x : Option ℕ) → frame_of c.tables.tables 0 (n / 512) ≡ x → Wiping old (leaf_cleared n x (record c { tables = less n c.tables }))
    go None e = record {
      tidy = less-tidy c.tables c.free n w.tidy;
      zeros = w.zeros;
      olds = w.olds;
      news = w.news;
      kept = λ f i h l. subst (λ z. (z ≡ kept_word old f i) ⊎ ((kept_word old f i ≡ 0) ⊎ (is_wiped c.jobs f i ≡ true))) (sym (page-none c.tables n f i w.tidy.apart l e)) (w.kept f i h l);
    }
    go (Some table) e = record {
      tidy = less-tidy c.tables c.free n w.tidy;
      zeros = zeros-append c.free c.jobs (put_job table (n % 512) 0 ∷ []) w.zeros (w.tidy.taken table _ (apart-found c.tables.tables 0 (n / 512) table w.tidy.apart e), omega arith, refl, tt);
      olds = w.olds;
      news = w.news;
      kept = kept-then old c (less n c.tables) table (n % 512) w (page-goes c.tables n table w.tidy.apart e);
    }

pub unmap_all-wipes : (old : KeptTables) (pages : List ℕ) (c : Changed) → Wiping old c → Wiping old (unmap_all pages c)
unmap_all-wipes old [] c w = w
unmap_all-wipes old (page ∷ pages) c w = unmap_all-wipes old pages (unmap_page page c) (unmap-wipes old page c w)

-- ---- a leaf table is given up
pub same-piece : (ts : List TableFrame) (l n f : ℕ) → piece_of ts f ≢ Some (record { level = l; number = n }) → piece_of (without_table l n ts) f ≡ piece_of ts f
same-piece [] l n f h = refl
same-piece (t ∷ ts) l n f h = grind (arith, nat_tests, h, same-piece ts l n f)

abbrev given : ℕ → ℕ → KeptTables → KeptTables
given leaf frame t = record t { tables = without_table 0 leaf t.tables; aside = t.aside ++ table_frame 0 leaf frame ∷ [] }

leaf-goes : (t : KeptTables) (leaf frame parent : ℕ) → Apart t.tables → IsEmpty t leaf → frame_of t.tables 1 (leaf / 512) ≡ Some parent → Goes t (given leaf frame t) parent (leaf % 512)
leaf-goes t leaf frame parent apart empty over f i l = go (piece_of t.tables f) refl
  where
    stays : (p : Piece) → piece_of t.tables f ≡ Some p → ((p.level == 0) && (p.number == leaf)) ≡ false → piece_of (without_table 0 leaf t.tables) f ≡ Some p
    stays p e d = same-piece t.tables 0 leaf f (λ q. let z : Some p ≡ Some (record { level = 0; number = leaf }) = sym e ∙ q in let b : ⊥ = grind (arith, nat_tests, z, d) in b) ∙ e

    leaf_at : (m : ℕ) → piece_of t.tables f ≡ Some (record { level = 0; number = m }) → (b : Bool) → (m == leaf) ≡ b
        → kept_word (given leaf frame t) f i ≡ word_in t (Some (record { level = 0; number = m })) i
    leaf_at m e false d = ap (λ o. word_in (given leaf frame t) o i) (stays (record { level = 0; number = m }) e (grind (arith, nat_tests, d)))
    leaf_at m e true d =
        let same : m ≡ leaf = grind (arith, nat_tests, d) in
        let here : piece_of t.tables f ≡ Some (record { level = 0; number = leaf }) = subst (λ z. piece_of t.tables f ≡ Some (record { level = 0; number = z })) same e in
        ap (λ o. word_in (given leaf frame t) o i) (piece_of-without_same t.tables 0 leaf f apart here)
        ∙ sym (ap (λ o. word_of (page_entry o)) (subst (λ z. mapping_at t.pages (z * 512 + i) ≡ None) (sym same) (empty i l)))

    link_at : (lv m : ℕ) → piece_of t.tables f ≡ Some (record { level = suc lv; number = m }) → (b : Bool) → ((0 == lv) && (leaf == m * 512 + i)) ≡ b
        → (kept_word (given leaf frame t) f i ≡ word_in t (Some (record { level = suc lv; number = m })) i) ⊎ ((f ≡ parent) × (i ≡ leaf % 512))
    link_at lv m e false d = inl (ap (λ o. word_in (given leaf frame t) o i) (stays (record { level = suc lv; number = m }) e (grind (arith, nat_tests)))
        ∙ ap (λ o. word_of (link_entry o)) (frame_of-without_table t.tables 0 leaf lv (m * 512 + i) ∙ ap (λ b. cond b None (frame_of t.tables lv (m * 512 + i))) d))
    link_at lv m e true d =
        let level : lv ≡ 0 = grind (arith, nat_tests, d) in
        let same : leaf ≡ m * 512 + i = grind (arith, nat_tests, d) in
        let number : leaf / 512 ≡ m = omega (arith, same, l) in
        let index : i ≡ leaf % 512 = omega (arith, same, l) in
        let back : frame_of t.tables (suc lv) m ≡ Some f = apart-placed t.tables f (suc lv) m apart e in
        let here : frame_of t.tables 1 (leaf / 512) ≡ Some f = ap (frame_of t.tables 1) number ∙ subst (λ z. frame_of t.tables (suc z) m ≡ Some f) level back in
        inr ((let q : Some f ≡ Some parent = sym here ∙ over in grind (arith, q)), index)

    at : (lv m : ℕ) → piece_of t.tables f ≡ Some (record { level = lv; number = m })
        → (kept_word (given leaf frame t) f i ≡ word_in t (Some (record { level = lv; number = m })) i) ⊎ ((f ≡ parent) × (i ≡ leaf % 512))
    at zero m e = inl (leaf_at m e (m == leaf) refl)
    at (suc lv) m e = link_at lv m e ((0 == lv) && (leaf == m * 512 + i)) refl

    go : (o : Option Piece) → piece_of t.tables f ≡ o → (kept_word (given leaf frame t) f i ≡ word_in t o i) ⊎ ((f ≡ parent) × (i ≡ leaf % 512))
    go None e = inl (ap (λ o. word_in (given leaf frame t) o i) (piece_of-without_none t.tables 0 leaf f e))
    go (Some p) e = at p.level p.number e

or-some : (x y : Option Piece) (p : Piece) → x ≡ Some p → or_else x y ≡ Some p
or-some None y p e = absurd (let b : ⊥ = grind (arith, e) in b)
or-some (Some q) y p e = e

pub reclaim-wipes : (old : KeptTables) (leaf : ℕ) (c : Changed) → IsEmpty c.tables leaf → Wiping old c → Wiping old (reclaim leaf c)
reclaim-wipes old leaf c empty w = go (frame_of c.tables.tables 0 leaf) (frame_of c.tables.tables 1 (leaf / 512)) refl refl
  where
    t : KeptTables
    t = c.tables

    go : (x y : Option ℕ) → frame_of t.tables 0 leaf ≡ x → frame_of t.tables 1 (leaf / 512) ≡ y → Wiping old (unlinked leaf x y c)
    go None y e d = w
    go (Some frame) None e d = w
    go (Some frame) (Some parent) e d = record {
      tidy = record {
        small = w.tidy.small;
        apart = apart-without_table t.tables 0 leaf w.tidy.apart;
        taken = λ f p q. w.tidy.taken f p (piece_of-left t.tables 0 leaf f p.level p.number w.tidy.apart q).0;
        spare = λ f p q. spare f p (piece_of t.aside f) refl q;
        leaves = w.tidy.leaves;
      };
      zeros = zeros-append c.free c.jobs (put_job parent (leaf % 512) 0 ∷ []) w.zeros
          (w.tidy.taken parent _ (apart-found t.tables 1 (leaf / 512) parent w.tidy.apart d), omega arith, refl, tt);
      olds = λ f p q. ⊎_elim
          (λ (here : piece_of t.tables f ≡ Some p). left f p here ((p.level == 0) && (p.number == leaf)) refl)
          (λ (a : (p.level ≡ 0) × (piece_of t.aside f ≡ Some p)). inr (a.0, piece_of-push t.aside (table_frame 0 leaf frame) f ∙ or-some (piece_of t.aside f) _ p a.1))
          (w.olds f p q);
      news = λ f h. ⊎_elim
          (λ (a : IsTable (given leaf frame t) f). w.news f (inl (λ n. a (piece_of-without_none t.tables 0 leaf f n))))
          (λ (a : piece_of (given leaf frame t).aside f ≢ None). aside f a (piece_of t.aside f) refl)
          h;
      kept = kept-then old c (given leaf frame t) parent (leaf % 512) w (leaf-goes t leaf frame parent w.tidy.apart empty d);
    }
      where
        place : piece_of t.tables frame ≡ Some (record { level = 0; number = leaf })
        place = apart-found t.tables 0 leaf frame w.tidy.apart e

        pushed : (f : ℕ) (o : Option Piece) → piece_of t.aside f ≡ o → piece_of (given leaf frame t).aside f ≡ or_else o (cond (frame == f) (Some (record { level = 0; number = leaf })) None)
        pushed f o q = piece_of-push t.aside (table_frame 0 leaf frame) f ∙ ap (λ z. or_else z (cond (frame == f) (Some (record { level = 0; number = leaf })) None)) q

        spare : (f : ℕ) (p : Piece) (o : Option Piece) → piece_of t.aside f ≡ o → piece_of (given leaf frame t).aside f ≡ Some p
            → (piece_of (without_table 0 leaf t.tables) f ≡ None) × (slice_get c.free f ≡ Some false)
        spare f p (Some z) q r = (piece_of-without_none t.tables 0 leaf f (w.tidy.spare f z q).0, (w.tidy.spare f z q).1)
        spare f p None q r =
            let here : cond (frame == f) (Some (record { level = 0; number = leaf })) None ≡ Some p = sym (pushed f None q) ∙ r in
            let same : frame ≡ f = grind (arith, nat_tests, here) in (
              subst (λ z. piece_of (without_table 0 leaf t.tables) z ≡ None) same (piece_of-without_same t.tables 0 leaf frame w.tidy.apart place),
              subst (λ z. slice_get c.free z ≡ Some false) same (w.tidy.taken frame _ place),
            )

        aside : (f : ℕ) → piece_of (given leaf frame t).aside f ≢ None → (o : Option Piece) → piece_of t.aside f ≡ o → IsTable old f
        aside f a (Some z) q = w.news f (inr (some-is q))
        aside f a None q = test (frame == f) refl
          where
            test : (b : Bool) → (frame == f) ≡ b → IsTable old f
            test true r = let same : frame ≡ f = grind (arith, nat_tests, r) in w.news f (inl (subst (IsTable t) same (some-is place)))
            test false r = absurd (a (pushed f None q ∙ ap (λ b. cond b (Some (record { level = 0; number = leaf })) None) r))

        left : (f : ℕ) (p : Piece) → piece_of t.tables f ≡ Some p → (b : Bool) → ((p.level == 0) && (p.number == leaf)) ≡ b
            → (piece_of (without_table 0 leaf t.tables) f ≡ Some p) ⊎ ((p.level ≡ 0) × (piece_of (given leaf frame t).aside f ≡ Some p))
        left f p here false r = inl (same-piece t.tables 0 leaf f (λ z. let q : Some p ≡ Some (record { level = 0; number = leaf }) = sym here ∙ z in let b : ⊥ = grind (arith, nat_tests, q, r) in b) ∙ here)
        left f p here true r =
            let level : p.level ≡ 0 = grind (arith, nat_tests, r) in
            let number : p.number ≡ leaf = grind (arith, nat_tests, r) in
            let is : record { level = 0; number = leaf } ≡ p = rw (sym level, sym number) refl in
            let back : frame_of t.tables 0 leaf ≡ Some f = apart-placed t.tables f 0 leaf w.tidy.apart (here ∙ ap Some (sym is)) in
            let same : frame ≡ f = (let q : Some frame ≡ Some f = sym e ∙ back in grind (arith, q)) in
            inr (level, at f p is same (piece_of t.aside f) refl)
          where
            at : (f : ℕ) (p : Piece) → record { level = 0; number = leaf } ≡ p → frame ≡ f → (o : Option Piece) → piece_of t.aside f ≡ o → piece_of (given leaf frame t).aside f ≡ Some p
            at f p is same None q = pushed f None q ∙ (let d : (frame == f) ≡ true = grind (arith, nat_tests, same) in ap (λ b. cond b (Some (record { level = 0; number = leaf })) None) d ∙ ap Some is)
            at f p is same (Some z) q = absurd (let n = (w.tidy.spare f z q).0 in let m : piece_of t.tables f ≡ Some (record { level = 0; number = leaf }) = subst (λ z. piece_of t.tables z ≡ Some (record { level = 0; number = leaf })) same place in let b : ⊥ = grind (arith, n, m) in b)

pub reclaim_all-wipes : (old : KeptTables) (leaves : List ℕ) (c : Changed) → ((leaf : ℕ) → list_any (λ x. x == leaf) leaves ≡ true → IsEmpty c.tables leaf) → Wiping old c → Wiping old (reclaim_all leaves c)
reclaim_all-wipes old [] c empty w = w
reclaim_all-wipes old (leaf ∷ leaves) c empty w =
    reclaim_all-wipes old leaves (reclaim leaf c)
    (λ x e i l. ap (λ ps. mapping_at ps (x * 512 + i)) (pages (frame_of c.tables.tables 0 leaf) (frame_of c.tables.tables 1 (leaf / 512))) ∙ empty x (grind (arith, nat_tests, e)) i l)
    (reclaim-wipes old leaf c (empty leaf (grind (arith, nat_tests))) w)
  where
    pages : (x y : Option ℕ) → (unlinked leaf x y c).tables.pages ≡ c.tables.pages
    pages None y = refl
    pages (Some f) None = refl
    pages (Some f) (Some p) = refl

-- ---- the tables after that
pub wiped-turns : (old : KeptTables) (c : Changed) → Wiping old c → Turned old c.tables c.free c.jobs
wiped-turns old c w = record {
  tidy = w.tidy;
  olds = w.olds;
  news = λ f h. inr (w.news f h);
  made = λ f h. zeros-closed c.free c.jobs f w.zeros;
  kept = w.kept;
  jobs = zeros-fit c.tables c.free c.jobs w.zeros;
}

pub rest-wipes : (t : KeptTables) (free : List Bool) → Tidy t free → t.aside ≡ [] → Wiping t (record { tables = t; free = free; jobs = [] })
rest-wipes t free k none = record {
  tidy = k;
  zeros = tt;
  olds = λ f p e. inl e;
  news = λ f h. ⊎_elim (λ (a : IsTable t f). a) (λ (a : piece_of t.aside f ≢ None). absurd (a (ap (λ ts. piece_of ts f) none))) h;
  kept = λ f i h l. inl refl;
}
