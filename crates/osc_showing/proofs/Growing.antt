-- Tables that are linked, pages that are mapped, and jobs in frames that are no tables.
use Rattle.std.proofs.Common.{ℕ, zero, suc, ◌+◌, ◌*◌, ◌/◌, ◌%◌, ◌≡◌, ◌≢◌, ◌<◌, ◌≤◌, ◌==◌, ◌&&◌, ◌||◌, ◌⊎◌, inl, inr, ⊎_elim, cond, Bool, true, false, Option, Some, None, List, [], ◌∷◌, ◌++◌, set, length, slice_get, position, map, arith, refl, sym, ap, subst, ◌∙◌}
use Rattle.std.specs.List.{list_any, range_with_len}
use Rattle.std.proofs.lemmas.Bool.Decides.{nat_tests}
use Rattle.std.proofs.lemmas.List.{length-set}
use Rattle.osc_word.specs.declared.job_list.Job.{Job}
use Rattle.osc_word.specs.declared.job_list.Job.TheVariants.{ClearBox}
use Rattle.osc_sv39.specs.declared.entries.Mapping.{Mapping}
use Rattle.osc_sv39.specs.declared.entries.PteEntry.TheVariants.{Table, Leaf}
use Rattle.osc_sv39.specs.Entries.{entry_of, word_of}
use Rattle.osc_sv39.specs.Walk.{piece}
use Rattle.osc_paging.specs.declared.Piece.{Piece}
use Rattle.osc_paging.specs.KeptTables.{KeptTables, piece_of, frame_of, mapping_at, page_entry, link_entry, word_in, kept_word}
use Rattle.osc_paging.specs.TableChanges.{Changed, put_job, zero_job, with_page, with_table, table_frame, linked, link, link_all, leaf_put, put_leaf, map_page, map_pages}
use Rattle.osc_paging.specs.Agree.{ReadsAsLeaf}
use Rattle.osc_paging.specs.CopyLaws.{IsNoTable, IsTable, KeepsTaken}
use Rattle.osc_paging.specs.OtherLaws.{IsAnyTable}
use Rattle.osc_paging.proofs.WordLists.{slice_get-set}
use Rattle.osc_paging.proofs.TableLists.{mapping_at-with_page, frame_of-with_table, piece_of-with_table, apart-with_table, apart-found}
use Rattle.osc_paging.proofs.Kept.{position_passes}
use Rattle.osc_paging.proofs.Needed.{link_all-pages}
use Rattle.osc_space.specs.Free.{clear_jobs}
use Rattle.osc_parts.specs.Jobs.{AllWriteWhere}
use Rattle.osc_showing.specs.Showing.{is_closed, is_wiped, clears, AllDue, JobsFit, Tidy, Turned, IsPlain, AllRead}
use Rattle.osc_showing.proofs.Folds.{Grows, fit-grows, closed-append, wiped-more, due-more, some-is, plain-fit, plain-closed}

-- ---- a turn that goes on
pub record More (t : KeptTables) (free : List Bool) (u : KeptTables) (after : List Bool) (more : List Job) : Type 0 where
  pub grows : Grows t free u after more
  pub tidy : Tidy u after
  pub pieces : (f : ℕ) (p : Piece) → piece_of t.tables f ≡ Some p → piece_of u.tables f ≡ Some p
  pub spare : (f : ℕ) (p : Piece) → piece_of t.aside f ≡ Some p → piece_of u.aside f ≡ Some p
  pub new : (f : ℕ) → IsAnyTable u f → IsAnyTable t f ⊎ (is_closed more f ≡ true)
  pub fit : JobsFit u after more

either-true : (a b : Bool) → a ≡ true → (a || b) ≡ true
either-true a b e = grind (arith, e)

later-true : (a b : Bool) → b ≡ true → (a || b) ≡ true
later-true true b e = refl
later-true false b e = e

both-false : (a b : Bool) → a ≡ false → b ≡ false → (a || b) ≡ false
both-false a b e f = grind (arith, e, f)

some-piece : (o : Option Piece) → o ≢ None → (p : Piece) × (o ≡ Some p)
some-piece None h = absurd (h refl)
some-piece (Some p) h = (p, refl)

pub turns-on : (old t u : KeptTables) (free after : List Bool) (js more : List Job) → Turned old t free js → More t free u after more → Turned old u after (js ++ more)
turns-on old t u free after js more k m = record {
  tidy = m.tidy;
  olds = λ f p e. ⊎_elim
      (λ (a : piece_of t.tables f ≡ Some p). inl (m.pieces f p a))
      (λ (a : (p.level ≡ 0) × (piece_of t.aside f ≡ Some p)). inr (a.0, m.spare f p a.1))
      (k.olds f p e);
  news = λ f h. ⊎_elim
      (λ (a : IsAnyTable t f). ⊎_elim (λ (c : is_closed js f ≡ true). inl (closed-append js more f ∙ either-true (is_closed js f) (is_closed more f) c)) (λ (o : IsTable old f). inr o) (k.news f a))
      (λ (c : is_closed more f ≡ true). inl (closed-append js more f ∙ later-true (is_closed js f) (is_closed more f) c))
      (m.new f h);
  made = λ f h. closed-append js more f ∙ both-false (is_closed js f) (is_closed more f) (k.made f h) (m.grows.closed f (any f h));
  kept = λ f i h l. ⊎_elim
      (λ (e : kept_word t f i ≡ kept_word old f i). ⊎_elim
      (λ (same : kept_word u f i ≡ kept_word t f i). inl (same ∙ e))
      (λ (z : kept_word t f i ≡ 0). inr (inl (sym e ∙ z)))
      (m.grows.words f i l))
      (λ (r : (kept_word old f i ≡ 0) ⊎ (is_wiped js f i ≡ true)). inr (⊎_elim (λ (z : kept_word old f i ≡ 0). inl z) (λ (w : is_wiped js f i ≡ true). inr (wiped-more js more f i w)) r))
      (k.kept f i h l);
  jobs = fit-grows t u free after more js k.tidy m.grows m.fit k.jobs;
}
  where
    any : (f : ℕ) → IsTable old f → IsAnyTable t f
    any f h =
        let p = some-piece (piece_of old.tables f) h in
        ⊎_elim (λ (a : piece_of t.tables f ≡ Some p.0). inl (some-is a)) (λ (a : (p.0.level ≡ 0) × (piece_of t.aside f ≡ Some p.0)). inr (some-is a.1)) (k.olds f p.0 p.1)

-- ---- frames that are taken, and jobs elsewhere
pub tidy-taken : (t : KeptTables) (free after : List Bool) → Tidy t free → KeepsTaken free after → Tidy t after
tidy-taken t free after k m = record {
  small = (let a = m.size in let b = k.small in omega (arith, a, b));
  apart = k.apart;
  taken = λ f p e. m.taken f (k.taken f p e);
  spare = λ f p e. ((k.spare f p e).0, m.taken f (k.spare f p e).1);
  leaves = k.leaves;
}

pub plain-turns : (old t : KeptTables) (free after : List Bool) (js more : List Job) → KeepsTaken free after → AllWriteWhere (IsPlain t after) more → Turned old t free js → Turned old t after (js ++ more)
plain-turns old t free after js more m w k = turns-on old t t free after js more k (record {
  grows = record {
    taken = m.taken;
    none = λ f h e. h;
    words = λ f i l. inl refl;
    aside = λ f e. e;
    closed = λ f h. plain-closed t after more f w h;
  };
  tidy = tidy-taken t free after k.tidy m;
  pieces = λ f p e. e;
  spare = λ f p e. e;
  new = λ f h. inl h;
  fit = plain-fit t after more w;
})

clears-where : (own : ℕ → Type 0) (first count : ℕ) → AllWriteWhere own (map (λ hart. ClearBox hart) (range_with_len first count))
clears-where own first zero = tt
clears-where own first (suc count) = (tt, clears-where own (first + 1) count)

pub clear-turns : (old t : KeptTables) (free : List Bool) (js : List Job) (harts : ℕ) → Turned old t free js → Turned old t free (js ++ clear_jobs harts)
clear-turns old t free js harts k = plain-turns old t free free js (clear_jobs harts) (record { size = refl; taken = λ f e. e }) (clears-where (IsPlain t free) 0 harts) k

-- and then each cache is to be cleared
has-clear : (first count hart : ℕ) → first ≤ hart → hart < first + count → list_any (clears hart) (map (λ hart. ClearBox hart) (range_with_len first count)) ≡ true
has-clear first zero hart l h = absurd (omega (arith, l, h))
has-clear first (suc count) hart l h = go (first == hart) refl (λ later. has-clear (first + 1) count hart later (omega (arith, h)))
  where
    go : (b : Bool) → (first == hart) ≡ b → (first + 1 ≤ hart → list_any (clears hart) (map (λ hart. ClearBox hart) (range_with_len (first + 1) count)) ≡ true)
        → ((first == hart) || list_any (clears hart) (map (λ hart. ClearBox hart) (range_with_len (first + 1) count))) ≡ true
    go true e on = either-true (first == hart) _ e
    go false e on = later-true (first == hart) _ (on (grind (arith, nat_tests, e, l)))

pub clears-due : (harts : ℕ) (js : List Job) → AllDue harts (js ++ clear_jobs harts)
clears-due harts [] = λ hart l. has-clear 0 harts hart (omega arith) (omega (arith, l))
clears-due harts (job ∷ js) = λ hart l. later-true (clears hart job) _ (clears-due harts js hart l)

-- ---- a table is linked
record Linking (c : Changed) (l n parent frame : ℕ) : Type 0 where
  tidy : Tidy c.tables c.free
  absent : frame_of c.tables.tables l n ≡ None
  over : frame_of c.tables.tables (suc l) (n / 512) ≡ Some parent
  least : slice_get c.free frame ≡ Some true

abbrev with_new : ℕ → ℕ → ℕ → KeptTables → KeptTables
with_new l n frame t = record t { tables = with_table (table_frame l n frame) t.tables }

taken-not : (free : List Bool) (f : ℕ) → slice_get free f ≡ Some true → slice_get free f ≡ Some false → ⊥
taken-not free f a b = let e : Some true ≡ Some false = sym a ∙ b in grind (arith, e)

fresh : (c : Changed) (l n parent frame : ℕ) → Linking c l n parent frame → piece_of c.tables.tables frame ≡ None
fresh c l n parent frame k = go (piece_of c.tables.tables frame) refl
  where
    go : (o : Option Piece) → piece_of c.tables.tables frame ≡ o → o ≡ None
    go None e = refl
    go (Some p) e = absurd (taken-not c.free frame k.least (k.tidy.taken frame p e))

fresh-aside : (c : Changed) (l n parent frame : ℕ) → Linking c l n parent frame → piece_of c.tables.aside frame ≡ None
fresh-aside c l n parent frame k = go (piece_of c.tables.aside frame) refl
  where
    go : (o : Option Piece) → piece_of c.tables.aside frame ≡ o → o ≡ None
    go None e = refl
    go (Some p) e = absurd (taken-not c.free frame k.least (k.tidy.spare frame p e).1)

still-taken : (free : List Bool) (frame f : ℕ) → slice_get free f ≡ Some false → slice_get (set free frame false) f ≡ Some false
still-taken free frame f e = grind (arith, nat_tests, e, slice_get-set free frame f false)

now-taken : (free : List Bool) (frame : ℕ) → slice_get free frame ≡ Some true → slice_get (set free frame false) frame ≡ Some false
now-taken free frame e = grind (arith, nat_tests, e, slice_get-set free frame frame false)

link-more : (c : Changed) (l n parent frame : ℕ) → Linking c l n parent frame
    → More c.tables c.free (with_new l n frame c.tables) (set c.free frame false) (zero_job frame ∷ put_job parent (n % 512) (word_of (Table frame)) ∷ [])
link-more c l n parent frame k = record {
  grows = record {
    taken = λ f e. still-taken c.free frame f e;
    none = none;
    words = words;
    aside = λ f e. e;
    closed = λ f h. both-false (frame == f) false (other f h) refl;
  };
  tidy = record {
    small = (let a = k.tidy.small in let b = length-set c.free frame false in omega (arith, a, b));
    apart = apart-with_table t.tables (table_frame l n frame) k.tidy.apart k.absent none_there;
    taken = λ f p e. test-taken f p e (frame == f) refl;
    spare = λ f p e. (piece f ∙ ap (λ b. cond b (Some (record { level = l; number = n })) (piece_of t.tables f)) (other f (inr (some-is e))) ∙ (k.tidy.spare f p e).0, still-taken c.free frame f (k.tidy.spare f p e).1);
    leaves = k.tidy.leaves;
  };
  pieces = λ f p e. piece f ∙ ap (λ b. cond b (Some (record { level = l; number = n })) (piece_of t.tables f)) (other f (inl (some-is e))) ∙ e;
  spare = λ f p e. e;
  new = λ f h. newly f h (frame == f) refl;
  fit = (
    (now-taken c.free frame k.least, omega arith, inr (record { from = refl; all = refl; linked = fresh-aside c l n parent frame k })),
    ((still-taken c.free frame parent (k.tidy.taken parent _ parent_at), omega arith, inr (record { kept = inr put; opens = λ to e. refl })), tt),
  );
}
  where
    t : KeptTables
    t = c.tables

    none_there : piece_of t.tables frame ≡ None
    none_there = fresh c l n parent frame k

    piece : (f : ℕ) → piece_of (with_table (table_frame l n frame) t.tables) f ≡ cond (frame == f) (Some (record { level = l; number = n })) (piece_of t.tables f)
    piece f = piece_of-with_table t.tables (table_frame l n frame) f none_there

    parent_at : piece_of t.tables parent ≡ Some (record { level = suc l; number = n / 512 })
    parent_at = apart-found t.tables (suc l) (n / 512) parent k.tidy.apart k.over

    -- a table that there was is another frame
    other : (f : ℕ) → IsAnyTable t f → (frame == f) ≡ false
    other f h = go (frame == f) refl
      where
        go : (b : Bool) → (frame == f) ≡ b → b ≡ false
        go false e = refl
        go true e =
            let same : frame ≡ f = grind (arith, nat_tests, e) in
            absurd (⊎_elim (λ (a : IsTable t f). a (subst (λ z. piece_of t.tables z ≡ None) same none_there))
            (λ (a : piece_of t.aside f ≢ None). a (subst (λ z. piece_of t.aside z ≡ None) same (fresh-aside c l n parent frame k))) h)

    none : (f : ℕ) → IsNoTable t f → slice_get c.free f ≡ Some false → IsNoTable (with_new l n frame t) f
    none f h e = (go (frame == f) refl, h.1)
      where
        go : (b : Bool) → (frame == f) ≡ b → piece_of (with_table (table_frame l n frame) t.tables) f ≡ None
        go false d = piece f ∙ ap (λ b. cond b (Some (record { level = l; number = n })) (piece_of t.tables f)) d ∙ h.0
        go true d = absurd (let same : frame ≡ f = grind (arith, nat_tests, d) in taken-not c.free f (subst (λ z. slice_get c.free z ≡ Some true) same k.least) e)

    link_word : (lv m i : ℕ) (b : Bool) → ((l == lv) && (n == m * 512 + i)) ≡ b
        → (word_in (with_new l n frame t) (Some (record { level = suc lv; number = m })) i ≡ word_in t (Some (record { level = suc lv; number = m })) i)
        ⊎ (word_in t (Some (record { level = suc lv; number = m })) i ≡ 0)
    link_word lv m i false d = inl (ap (λ o. word_of (link_entry o)) (frame_of-with_table t.tables (table_frame l n frame) lv (m * 512 + i) ∙ ap (λ b. cond b (Some frame) (frame_of t.tables lv (m * 512 + i))) d))
    link_word lv m i true d =
        let level : l ≡ lv = grind (arith, nat_tests, d) in
        let number : n ≡ m * 512 + i = grind (arith, nat_tests, d) in
        inr (ap (λ o. word_of (link_entry o)) (subst (λ z. frame_of t.tables z (m * 512 + i) ≡ None) level (subst (λ z. frame_of t.tables l z ≡ None) number k.absent)))

    at_piece : (lv m i : ℕ) → (word_in (with_new l n frame t) (Some (record { level = lv; number = m })) i ≡ word_in t (Some (record { level = lv; number = m })) i)
        ⊎ (word_in t (Some (record { level = lv; number = m })) i ≡ 0)
    at_piece zero m i = inl refl
    at_piece (suc lv) m i = link_word lv m i ((l == lv) && (n == m * 512 + i)) refl

    words : (f i : ℕ) → i < 512 → (kept_word (with_new l n frame t) f i ≡ kept_word t f i) ⊎ (kept_word t f i ≡ 0)
    words f i s = go (piece_of t.tables f) refl
      where
        go : (o : Option Piece) → piece_of t.tables f ≡ o → (kept_word (with_new l n frame t) f i ≡ word_in t o i) ⊎ (word_in t o i ≡ 0)
        go None e = inr refl
        go (Some p) e =
            let same : piece_of (with_table (table_frame l n frame) t.tables) f ≡ Some p = piece f ∙ ap (λ b. cond b (Some (record { level = l; number = n })) (piece_of t.tables f)) (other f (inl (some-is e))) ∙ e in
            subst (λ o. (word_in (with_new l n frame t) o i ≡ word_in t (Some p) i) ⊎ (word_in t (Some p) i ≡ 0)) (sym same) (at_piece p.level p.number i)

    test-taken : (f : ℕ) (p : Piece) → piece_of (with_table (table_frame l n frame) t.tables) f ≡ Some p → (b : Bool) → (frame == f) ≡ b → slice_get (set c.free frame false) f ≡ Some false
    test-taken f p e true d = let same : frame ≡ f = grind (arith, nat_tests, d) in subst (λ z. slice_get (set c.free frame false) z ≡ Some false) same (now-taken c.free frame k.least)
    test-taken f p e false d = still-taken c.free frame f (k.tidy.taken f p (sym (piece f ∙ ap (λ b. cond b (Some (record { level = l; number = n })) (piece_of t.tables f)) d) ∙ e))

    newly : (f : ℕ) → IsAnyTable (with_new l n frame t) f → (b : Bool) → (frame == f) ≡ b → IsAnyTable t f ⊎ (is_closed (zero_job frame ∷ put_job parent (n % 512) (word_of (Table frame)) ∷ []) f ≡ true)
    newly f h true d = inr (either-true (frame == f) _ d)
    newly f h false d = inl (⊎_elim
        (λ (a : IsTable (with_new l n frame t) f). inl (λ z. a (piece f ∙ ap (λ b. cond b (Some (record { level = l; number = n })) (piece_of t.tables f)) d ∙ z)))
        (λ (a : piece_of t.aside f ≢ None). inr a) h)

    put : word_of (Table frame) ≡ kept_word (with_new l n frame t) parent (n % 512)
    put =
        let at : piece_of (with_table (table_frame l n frame) t.tables) parent ≡ Some (record { level = suc l; number = n / 512 }) =
        piece parent ∙ ap (λ b. cond b (Some (record { level = l; number = n })) (piece_of t.tables parent)) (other parent (inl (some-is parent_at))) ∙ parent_at in
        let number : n / 512 * 512 + n % 512 ≡ n = omega arith in
        let here : frame_of (with_table (table_frame l n frame) t.tables) l n ≡ Some frame = frame_of-with_table t.tables (table_frame l n frame) l n ∙ (let d : ((l == l) && (n == n)) ≡ true = grind (arith, nat_tests) in ap (λ b. cond b (Some frame) (frame_of t.tables l n)) d) in
        sym (ap (λ o. word_in (with_new l n frame t) o (n % 512)) at ∙ ap (λ z. word_of (link_entry (frame_of (with_table (table_frame l n frame) t.tables) l z))) number ∙ ap (λ o. word_of (link_entry o)) here)

pub link-turns : (old : KeptTables) (l n : ℕ) (c : Changed) → Turned old c.tables c.free c.jobs → Turned old (link l n c).tables (link l n c).free (link l n c).jobs
link-turns old l n c k = go (frame_of c.tables.tables l n) (frame_of c.tables.tables (suc l) (n / 512)) (position (λ b. b) c.free) refl refl refl
  where
    go : (x y z : Option ℕ) → frame_of c.tables.tables l n ≡ x → frame_of c.tables.tables (suc l) (n / 512) ≡ y → position (λ b. b) c.free ≡ z
        → Turned old (linked l n x y z c).tables (linked l n x y z c).free (linked l n x y z c).jobs
    go (Some f) y z e d g = k
    go None None z e d g = k
    go None (Some parent) None e d g = k
    go None (Some parent) (Some frame) e d g =
        turns-on old c.tables (with_new l n frame c.tables) c.free (set c.free frame false) c.jobs _ k
        (link-more c l n parent frame (record { tidy = k.tidy; absent = e; over = d; least = position_passes c.free frame g }))

pub link_all-turns : (old : KeptTables) (l n : ℕ) (c : Changed) → Turned old c.tables c.free c.jobs → Turned old (link_all l n c).tables (link_all l n c).free (link_all l n c).jobs
unfolding link_all
link_all-turns old zero n c k = k
link_all-turns old (suc l) n c k = link_all-turns old l n (link l (piece (suc l) n) c) (link-turns old l (piece (suc l) n) c k)

-- ---- a page is mapped that was not
abbrev with_leaf : ℕ → Mapping → KeptTables → KeptTables
with_leaf n m t = record t { pages = with_page n m t.pages }

leaf-word : (m : Mapping) → ReadsAsLeaf m → (to : ℕ) → entry_of (word_of (Leaf m.frame m.bits)) ≡ Table to → ⊥
leaf-word m r to e = let h : Leaf m.frame m.bits ≡ Table to = sym r ∙ e in grind (arith, h)

leaf-more : (c : Changed) (n table : ℕ) (m : Mapping) → Tidy c.tables c.free → ReadsAsLeaf m → mapping_at c.tables.pages n ≡ None → frame_of c.tables.tables 0 (n / 512) ≡ Some table
    → More c.tables c.free (with_leaf n m c.tables) c.free (put_job table (n % 512) (word_of (Leaf m.frame m.bits)) ∷ [])
leaf-more c n table m k reads none there = record {
  grows = record {
    taken = λ f e. e;
    none = λ f h e. h;
    words = words;
    aside = λ f e. e;
    closed = λ f h. refl;
  };
  tidy = record { small = k.small; apart = k.apart; taken = k.taken; spare = k.spare; leaves = leaves };
  pieces = λ f p e. e;
  spare = λ f p e. e;
  new = λ f h. inl h;
  fit = ((k.taken table _ place, omega arith, inr (record { kept = inr put; opens = λ to e. absurd (leaf-word m reads to e) })), tt);
}
  where
    t : KeptTables
    t = c.tables

    place : piece_of t.tables table ≡ Some (record { level = 0; number = n / 512 })
    place = apart-found t.tables 0 (n / 512) table k.apart there

    leaves : (q : ℕ) (x : Mapping) → mapping_at (with_page n m t.pages) q ≡ Some x → ReadsAsLeaf x
    leaves q x e = go (n == q) refl
      where
        go : (b : Bool) → (n == q) ≡ b → ReadsAsLeaf x
        go true d = (let h : Some m ≡ Some x = sym (mapping_at-with_page t.pages n q m ∙ ap (λ b. cond b (Some m) (mapping_at t.pages q)) d) ∙ e in let same : m ≡ x = grind (arith, h) in subst ReadsAsLeaf same reads)
        go false d = k.leaves q x (sym (mapping_at-with_page t.pages n q m ∙ ap (λ b. cond b (Some m) (mapping_at t.pages q)) d) ∙ e)

    page_word : (q i : ℕ) (b : Bool) → (n == q * 512 + i) ≡ b
        → (word_in (with_leaf n m t) (Some (record { level = 0; number = q })) i ≡ word_in t (Some (record { level = 0; number = q })) i) ⊎ (word_in t (Some (record { level = 0; number = q })) i ≡ 0)
    page_word q i false d = inl (ap (λ o. word_of (page_entry o)) (mapping_at-with_page t.pages n (q * 512 + i) m ∙ ap (λ b. cond b (Some m) (mapping_at t.pages (q * 512 + i))) d))
    page_word q i true d = (let same : n ≡ q * 512 + i = grind (arith, nat_tests, d) in inr (ap (λ o. word_of (page_entry o)) (subst (λ z. mapping_at t.pages z ≡ None) same none)))

    at_piece : (lv q i : ℕ) → (word_in (with_leaf n m t) (Some (record { level = lv; number = q })) i ≡ word_in t (Some (record { level = lv; number = q })) i)
        ⊎ (word_in t (Some (record { level = lv; number = q })) i ≡ 0)
    at_piece zero q i = page_word q i (n == q * 512 + i) refl
    at_piece (suc lv) q i = inl refl

    words : (f i : ℕ) → i < 512 → (kept_word (with_leaf n m t) f i ≡ kept_word t f i) ⊎ (kept_word t f i ≡ 0)
    words f i s = go (piece_of t.tables f)
      where
        go : (o : Option Piece) → (word_in (with_leaf n m t) o i ≡ word_in t o i) ⊎ (word_in t o i ≡ 0)
        go None = inr refl
        go (Some p) = at_piece p.level p.number i

    put : word_of (Leaf m.frame m.bits) ≡ kept_word (with_leaf n m t) table (n % 512)
    put =
        let number : n / 512 * 512 + n % 512 ≡ n = omega arith in
        let here : mapping_at (with_page n m t.pages) n ≡ Some m = mapping_at-with_page t.pages n n m ∙ (let d : (n == n) ≡ true = grind (arith, nat_tests) in ap (λ b. cond b (Some m) (mapping_at t.pages n)) d) in
        sym (ap (λ o. word_in (with_leaf n m t) o (n % 512)) place ∙ ap (λ z. word_of (page_entry (mapping_at (with_page n m t.pages) z))) number ∙ ap (λ o. word_of (page_entry o)) here)

pub put-turns : (old : KeptTables) (n : ℕ) (m : Mapping) (c : Changed) → ReadsAsLeaf m → mapping_at c.tables.pages n ≡ None → Turned old c.tables c.free c.jobs
    → Turned old (put_leaf n m c).tables (put_leaf n m c).free (put_leaf n m c).jobs
put-turns old n m c reads none k = go (frame_of c.tables.tables 0 (n / 512)) refl
  where
    go : (x : Option ℕ) → frame_of c.tables.tables 0 (n / 512) ≡ x → Turned old (leaf_put n m x c).tables (leaf_put n m x c).free (leaf_put n m x c).jobs
    go None e = k
    go (Some table) e = turns-on old c.tables (with_leaf n m c.tables) c.free c.free c.jobs _ k (leaf-more c n table m k.tidy reads none e)

put-pages : (n q : ℕ) (m : Mapping) (x : Option ℕ) (c : Changed) → (n == q) ≡ false → mapping_at (leaf_put n m x c).tables.pages q ≡ mapping_at c.tables.pages q
put-pages n q m None c d = refl
put-pages n q m (Some table) c d = mapping_at-with_page c.tables.pages n q m ∙ ap (λ b. cond b (Some m) (mapping_at c.tables.pages q)) d

-- other pages stay
pub map-other : (n q : ℕ) (m : Mapping) (c : Changed) → (n == q) ≡ false → mapping_at (map_page n m c).tables.pages q ≡ mapping_at c.tables.pages q
map-other n q m c d =
    put-pages n q m (frame_of (link_all c.tables.top n c).tables.tables 0 (n / 512)) (link_all c.tables.top n c) d
    ∙ ap (λ ps. mapping_at ps q) (link_all-pages c.tables.top n c)

pub maps-other : (ms : List Mapping) (n q : ℕ) (c : Changed) → (q < n) ⊎ (n + length ms ≤ q) → mapping_at (map_pages n ms c).tables.pages q ≡ mapping_at c.tables.pages q
maps-other [] n q c h = refl
maps-other (m ∷ ms) n q c h =
    maps-other ms (n + 1) q (map_page n m c) (⊎_elim (λ (l : q < n). inl (omega (arith, l))) (λ (l : n + suc (length ms) ≤ q). inr (omega (arith, l))) h)
    ∙ map-other n q m c (apart h)
  where
    apart : (q < n) ⊎ (n + suc (length ms) ≤ q) → (n == q) ≡ false
    apart h = ⊎_elim (λ (l : q < n). grind (arith, nat_tests, l)) (λ (l : n + suc (length ms) ≤ q). grind (arith, nat_tests, l)) h

pub maps-turns : (old : KeptTables) (ms : List Mapping) (n : ℕ) (c : Changed) → AllRead ms → ((q : ℕ) → n ≤ q → (mapping_at c.tables.pages q ≡ None) ⊎ (n + length ms ≤ q)) → Turned old c.tables c.free c.jobs
    → Turned old (map_pages n ms c).tables (map_pages n ms c).free (map_pages n ms c).jobs
maps-turns old [] n c reads none k = k
maps-turns old (m ∷ ms) n c reads none k =
    maps-turns old ms (n + 1) (map_page n m c) reads.1
    (λ q l. ⊎_elim
    (λ (e : mapping_at c.tables.pages q ≡ None). inl (map-other n q m c (grind (arith, nat_tests, l)) ∙ e))
    (λ (h : n + suc (length ms) ≤ q). inr (omega (arith, h)))
    (none q (omega (arith, l))))
    (put-turns old n m (link_all c.tables.top n c) reads.0
    (ap (λ ps. mapping_at ps n) (link_all-pages c.tables.top n c) ∙ ⊎_elim (λ (e : mapping_at c.tables.pages n ≡ None). e) (λ (h : n + suc (length ms) ≤ n). absurd (omega (arith, h))) (none n (omega arith)))
    (link_all-turns old c.tables.top n c k))

-- ---- the caches that are due stay so
due-link : (hart l n : ℕ) (c : Changed) → list_any (clears hart) c.jobs ≡ true → list_any (clears hart) (link l n c).jobs ≡ true
due-link hart l n c e = go (frame_of c.tables.tables l n) (frame_of c.tables.tables (suc l) (n / 512)) (position (λ b. b) c.free)
  where
    go : (x y z : Option ℕ) → list_any (clears hart) (linked l n x y z c).jobs ≡ true
    go (Some f) y z = e
    go None None z = e
    go None (Some parent) None = e
    go None (Some parent) (Some frame) = due-more hart c.jobs _ e

due-link_all : (hart l n : ℕ) (c : Changed) → list_any (clears hart) c.jobs ≡ true → list_any (clears hart) (link_all l n c).jobs ≡ true
unfolding link_all
due-link_all hart zero n c e = e
due-link_all hart (suc l) n c e = due-link_all hart l n (link l (piece (suc l) n) c) (due-link hart l (piece (suc l) n) c e)

due-put : (hart n : ℕ) (m : Mapping) (x : Option ℕ) (c : Changed) → list_any (clears hart) c.jobs ≡ true → list_any (clears hart) (leaf_put n m x c).jobs ≡ true
due-put hart n m None c e = e
due-put hart n m (Some table) c e = due-more hart c.jobs _ e

pub due-maps : (ms : List Mapping) (n : ℕ) (c : Changed) (hart : ℕ) → list_any (clears hart) c.jobs ≡ true → list_any (clears hart) (map_pages n ms c).jobs ≡ true
due-maps [] n c hart e = e
due-maps (m ∷ ms) n c hart e =
    let d = link_all c.tables.top n c in
    due-maps ms (n + 1) (map_page n m c) hart (due-put hart n m (frame_of d.tables.tables 0 (n / 512)) d (due-link_all hart c.tables.top n c e))
